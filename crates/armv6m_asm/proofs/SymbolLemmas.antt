-- Lemmas on what tokens mean among operands.
use Rattle.std.proofs.Common.{◌≡◌, ◌≢◌, ◌<◌, ◌∙◌, sym, ap, refl, ℕ, ◌==◌, if◌then◌else◌, Bool, true, false, List, codes, Option, Some, None, eqb-true}
use Rattle.armv6m_forms.specs.Text.{register_text, special_text, IsSpecial}
use Rattle.armv6m_asm.specs.Token.{Token, word, mark}
use Rattle.armv6m_asm.specs.Statement.{register, special_register, number, comma, hash, exclamation, open_bracket, close_bracket, exactly}
use Rattle.armv6m_asm.specs.Reading.{is_text, number_in, register_of, special_of, word_symbol, mark_symbol, symbol_of}
use Rattle.armv6m_asm.specs.declared.symbol.Symbol.{Symbol}
use Rattle.armv6m_asm.specs.declared.symbol.Symbol.TheVariants.{Register, Special, Number, Interrupts, Comma, Hash, Exclamation, OpenBracket, CloseBracket}
use Rattle.armv6m_asm.specs.declared.symbol.Symbol.TheVariants.{OpenBrace, CloseBrace, Other}
use Rattle.armv6m_asm.proofs.WordLemmas.{same_text, register_of-is, register_of-text, number_in-register, special_of-is, special_of-text, number_in-special}
use Rattle.armv6m_asm.proofs.WordLemmas.{register_of-special, number_in-i, register_of-i, special_of-i, number_in-number, number_in-is}

-- ---- words

number_symbol : (n r s : Option ℕ) (i : Bool) (value : ℕ) → word_symbol n r s i ≡ Number value → n ≡ Some value
number_symbol (Some m) r s i value is = let same : m ≡ value = cc in ap Some same
number_symbol None None None true value is = absurd (cc)
number_symbol None r s i value is = absurd (cc)

register_symbol : (n r s : Option ℕ) (i : Bool) (value : ℕ) → word_symbol n r s i ≡ Register value → r ≡ Some value
register_symbol (Some m) r s i value is = absurd (cc)
register_symbol None (Some m) s i value is = let same : m ≡ value = cc in ap Some same
register_symbol None None (Some m) i value is = absurd (cc)
register_symbol None None None true value is = absurd (cc)
register_symbol None None None false value is = absurd (cc)

special_symbol : (n r s : Option ℕ) (i : Bool) (value : ℕ) → word_symbol n r s i ≡ Special value → s ≡ Some value
special_symbol (Some m) r s i value is = absurd (cc)
special_symbol None (Some m) s i value is = absurd (cc)
special_symbol None None (Some m) i value is = let same : m ≡ value = cc in ap Some same
special_symbol None None None true value is = absurd (cc)
special_symbol None None None false value is = absurd (cc)

interrupts_symbol : (n r s : Option ℕ) (i : Bool) → word_symbol n r s i ≡ Interrupts → i ≡ true
interrupts_symbol None None None true is = refl
interrupts_symbol n r s i is = absurd (cc)

-- the byte of each mark that operands have
byte_of : Symbol → Option ℕ
byte_of (Register number) = None
byte_of (Special number) = None
byte_of Comma = Some 44
byte_of Hash = Some 35
byte_of Exclamation = Some 33
byte_of OpenBracket = Some 91
byte_of CloseBracket = Some 93
byte_of OpenBrace = Some 123
byte_of CloseBrace = Some 125
byte_of x = None

word_is_no_mark : (n r s : Option ℕ) (i : Bool) → byte_of (word_symbol n r s i) ≡ None
unfolding byte_of
word_is_no_mark None None None true = refl
word_is_no_mark n r s i = refl

-- ---- marks

either : (v : Bool) (P : Symbol → Type 0) (a b : Symbol) → (v ≡ true → P a) → P b → P (if v then a else b)
either true P a b yes_ no_ = yes_ refl
either false P a b yes_ no_ = no_

-- a property holds of a byte's symbol if it holds of each mark's and of the rest
each_mark : (byte : ℕ) (P : Symbol → Type 0) → (byte ≡ 44 → P Comma) → (byte ≡ 35 → P Hash) → (byte ≡ 33 → P Exclamation)
    → (byte ≡ 91 → P OpenBracket) → (byte ≡ 93 → P CloseBracket) → (byte ≡ 123 → P OpenBrace) → (byte ≡ 125 → P CloseBrace) → P Other
    → P (mark_symbol byte)
each_mark byte P a b c d e f g o =
    either (byte == 44) P Comma _ (λ h. a (eqb-true byte 44 h))
    (either (byte == 35) P Hash _ (λ h. b (eqb-true byte 35 h))
    (either (byte == 33) P Exclamation _ (λ h. c (eqb-true byte 33 h))
    (either (byte == 91) P OpenBracket _ (λ h. d (eqb-true byte 91 h))
    (either (byte == 93) P CloseBracket _ (λ h. e (eqb-true byte 93 h))
    (either (byte == 123) P OpenBrace _ (λ h. f (eqb-true byte 123 h))
    (either (byte == 125) P CloseBrace Other (λ h. g (eqb-true byte 125 h)) o))))))

mark_is : (byte other : ℕ) → byte_of (mark_symbol byte) ≡ Some other → byte ≡ other
unfolding byte_of
mark_is byte other is =
    each_mark byte (λ s. byte_of s ≡ Some other → byte ≡ other) (λ h e. cc) (λ h e. cc) (λ h e. cc) (λ h e. cc) (λ h e. cc) (λ h e. cc) (λ h e. cc)
    (λ e. absurd (cc)) is

mark_is_no_register : (byte r : ℕ) → mark_symbol byte ≡ Register r → ⊥
mark_is_no_register byte r is = each_mark byte (λ s. s ≡ Register r → ⊥) (λ h e. cc) (λ h e. cc) (λ h e. cc) (λ h e. cc) (λ h e. cc) (λ h e. cc) (λ h e. cc)
    (λ e. cc) is

mark_is_no_special : (byte r : ℕ) → mark_symbol byte ≡ Special r → ⊥
mark_is_no_special byte r is = each_mark byte (λ s. s ≡ Special r → ⊥) (λ h e. cc) (λ h e. cc) (λ h e. cc) (λ h e. cc) (λ h e. cc) (λ h e. cc) (λ h e. cc)
    (λ e. cc) is

mark_is_no_number : (byte r : ℕ) → mark_symbol byte ≡ Number r → ⊥
mark_is_no_number byte r is = each_mark byte (λ s. s ≡ Number r → ⊥) (λ h e. cc) (λ h e. cc) (λ h e. cc) (λ h e. cc) (λ h e. cc) (λ h e. cc) (λ h e. cc)
    (λ e. cc) is

mark_is_no_interrupts : (byte : ℕ) → mark_symbol byte ≡ Interrupts → ⊥
mark_is_no_interrupts byte is = each_mark byte (λ s. s ≡ Interrupts → ⊥) (λ h e. cc) (λ h e. cc) (λ h e. cc) (λ h e. cc) (λ h e. cc) (λ h e. cc) (λ h e. cc)
    (λ e. cc) is

-- ---- tokens

-- the tokens of a kind are exactly those that have this symbol
pub record Stands (Kind : Token → Type 0) (symbol : Symbol) : Type 0 where
  pub is : (token : Token) → Kind token → symbol_of token ≡ symbol
  pub only : (token : Token) → symbol_of token ≡ symbol → Kind token

register_only : (r : ℕ) (token : Token) → symbol_of token ≡ Register r → register r token
unfolding symbol_of
register_only r (word bytes) is =
    let it = register_of-is bytes r (register_symbol (number_in bytes) (register_of bytes) (special_of bytes) (is_text (codes "i") bytes) r is) in
    (ap word (sym it.0), it.1)
register_only r (mark byte) is = absurd (mark_is_no_register byte r is)

register_is : (r : ℕ) (token : Token) → register r token → symbol_of token ≡ Register r
unfolding symbol_of
register_is r token is = rw (is.0, number_in-register r is.1, register_of-text r is.1) refl

pub Stands-register : (r : ℕ) → Stands (register r) (Register r)
Stands-register r = record { is = register_is r; only = register_only r }

special_only : (s : ℕ) (token : Token) → symbol_of token ≡ Special s → special_register s token
unfolding symbol_of
special_only s (word bytes) is =
    let it = special_of-is bytes s (special_symbol (number_in bytes) (register_of bytes) (special_of bytes) (is_text (codes "i") bytes) s is) in
    (ap word (sym it.0), it.1)
special_only s (mark byte) is = absurd (mark_is_no_special byte s is)

special_is : (s : ℕ) (token : Token) → special_register s token → symbol_of token ≡ Special s
unfolding symbol_of
special_is s token is = rw (is.0, number_in-special s is.1, register_of-special s is.1, special_of-text s is.1) refl

pub Stands-special : (s : ℕ) → Stands (special_register s) (Special s)
Stands-special s = record { is = special_is s; only = special_only s }

number_only : (v : ℕ) (token : Token) → symbol_of token ≡ Number v → number v token
unfolding symbol_of
number_only v (word bytes) is = number_in-is bytes v (number_symbol (number_in bytes) (register_of bytes) (special_of bytes) (is_text (codes "i") bytes) v is)
number_only v (mark byte) is = absurd (mark_is_no_number byte v is)

number_is : (v : ℕ) (token : Token) → number v token → symbol_of token ≡ Number v
unfolding symbol_of
number_is v (word bytes) is = rw (number_in-number bytes v is) refl
number_is v (mark byte) is = absurd is

pub Stands-number : (v : ℕ) → Stands (number v) (Number v)
Stands-number v = record { is = number_is v; only = number_only v }

interrupts_only : (token : Token) → symbol_of token ≡ Interrupts → exactly (codes "i") token
unfolding symbol_of
interrupts_only (word bytes) is =
    ap word (sym (same_text (codes "i") bytes (interrupts_symbol (number_in bytes) (register_of bytes) (special_of bytes) (is_text (codes "i") bytes) is)))
interrupts_only (mark byte) is = absurd (mark_is_no_interrupts byte is)

interrupts_is : (token : Token) → exactly (codes "i") token → symbol_of token ≡ Interrupts
unfolding symbol_of
interrupts_is token is = rw (is, number_in-i, register_of-i, special_of-i) refl

pub Stands-interrupts : Stands (exactly (codes "i")) Interrupts
Stands-interrupts = record { is = interrupts_is; only = interrupts_only }

mark_only : (symbol : Symbol) (byte : ℕ) → byte_of symbol ≡ Some byte → (token : Token) → symbol_of token ≡ symbol → token ≡ mark byte
unfolding symbol_of
mark_only symbol byte has (word bytes) is =
    let none = word_is_no_mark (number_in bytes) (register_of bytes) (special_of bytes) (is_text (codes "i") bytes) in
    let same = ap byte_of is in
    absurd (cc)
mark_only symbol byte has (mark other) is = ap mark (mark_is other byte (ap byte_of is ∙ has))

mark_stands : (symbol : Symbol) (byte : ℕ) → byte_of symbol ≡ Some byte → symbol_of (mark byte) ≡ symbol → Stands (λ token. token ≡ mark byte) symbol
mark_stands symbol byte has it = record { is = λ token is. ap symbol_of is ∙ it; only = mark_only symbol byte has }

pub Stands-comma : Stands comma Comma
unfolding byte_of symbol_of
Stands-comma = mark_stands Comma 44 refl refl

pub Stands-hash : Stands hash Hash
unfolding byte_of symbol_of
Stands-hash = mark_stands Hash 35 refl refl

pub Stands-exclamation : Stands exclamation Exclamation
unfolding byte_of symbol_of
Stands-exclamation = mark_stands Exclamation 33 refl refl

pub Stands-open_bracket : Stands open_bracket OpenBracket
unfolding byte_of symbol_of
Stands-open_bracket = mark_stands OpenBracket 91 refl refl

pub Stands-close_bracket : Stands close_bracket CloseBracket
unfolding byte_of symbol_of
Stands-close_bracket = mark_stands CloseBracket 93 refl refl

pub Stands-open_brace : Stands (λ token. token ≡ mark 123) OpenBrace
unfolding byte_of symbol_of
Stands-open_brace = mark_stands OpenBrace 123 refl refl

pub Stands-close_brace : Stands (λ token. token ≡ mark 125) CloseBrace
unfolding byte_of symbol_of
Stands-close_brace = mark_stands CloseBrace 125 refl refl

-- ---- words by what their readers say

pub symbol_of_number : (bytes : List ℕ) (value : ℕ) → number_in bytes ≡ Some value → symbol_of (word bytes) ≡ Number value
unfolding symbol_of
symbol_of_number bytes value n = rw n refl

pub symbol_of_register : (bytes : List ℕ) (r : ℕ) → register_text r ≡ bytes → r < 16 → symbol_of (word bytes) ≡ Register r
symbol_of_register bytes r is below = register_is r (word bytes) (ap word (sym is), below)

pub symbol_of_special : (bytes : List ℕ) (s : ℕ) → special_text s ≡ bytes → IsSpecial s → symbol_of (word bytes) ≡ Special s
symbol_of_special bytes s is known = special_is s (word bytes) (ap word (sym is), known)

pub symbol_of_other : (bytes : List ℕ) → number_in bytes ≡ None → register_of bytes ≡ None → special_of bytes ≡ None → bytes ≢ codes "i"
    → symbol_of (word bytes) ≡ Other
unfolding symbol_of
symbol_of_other bytes n r s other = rw (n, r, s, differs (is_text (codes "i") bytes) bytes refl other) refl where
  differs : (v : Bool) (bytes : List ℕ) → is_text (codes "i") bytes ≡ v → bytes ≢ codes "i" → is_text (codes "i") bytes ≡ false
  differs true bytes is other = absurd (other (sym (same_text (codes "i") bytes is)))
  differs false bytes is other = is

pub symbol_of_interrupts : (bytes : List ℕ) → bytes ≡ codes "i" → symbol_of (word bytes) ≡ Interrupts
symbol_of_interrupts bytes is = interrupts_is (word bytes) (ap word is)
