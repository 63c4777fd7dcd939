-- The operands that a line's tokens spell are those that the function of Reading gives.
use Rattle.std.proofs.Common.{◌≡◌, ◌∙◌, sym, ap, refl, ℕ, List, [], ◌∷◌, ◌++◌, map, Option, Some, None, MatchOption}
use Rattle.armv6m_forms.specs.declared.form.Operands.{Operands}
use Rattle.armv6m_forms.specs.declared.form.Operands.TheVariants as operands
use Rattle.armv6m_asm.specs.declared.symbol.Symbol.{Symbol}
use Rattle.armv6m_asm.specs.declared.symbol.Symbol.TheVariants.{OpenBrace}
use Rattle.armv6m_asm.specs.Token.{Token, mark, tokens_of}
use Rattle.armv6m_asm.specs.Statement.{Begin, Are, AreNone, AreList, Spell}
use Rattle.armv6m_asm.specs.Reading.{list_of, operands_of, symbol_of, symbols_of}
use Rattle.armv6m_asm.proofs.SymbolLemmas.{Stands, Stands-register, Stands-special, Stands-number, Stands-interrupts, Stands-comma, Stands-hash}
use Rattle.armv6m_asm.proofs.SymbolLemmas.{Stands-exclamation, Stands-open_bracket, Stands-close_bracket, Stands-open_brace}
use Rattle.armv6m_asm.proofs.SpelledLemmas.{Spelled, operands_of-spelled, operands_of-is}
use Rattle.armv6m_asm.proofs.ListLemmas.{list_of-list, list_of-is}

-- kinds of tokens, with the symbol that each one means
data Fit : List (Token → Type 0) → List Symbol → Type 1 where
  done : Fit [] []
  then_one : {Kind : Token → Type 0} {symbol : Symbol} {kinds : List (Token → Type 0)} {symbols : List Symbol}
      → Stands Kind symbol → Fit kinds symbols → Fit (Kind ∷ kinds) (symbol ∷ symbols)

begin_is : {kinds : List (Token → Type 0)} {symbols : List Symbol} (Rest : List Token → Type 0) (tokens : List Token) → Fit kinds symbols
    → Begin kinds Rest tokens → (rest : List Token) × (Rest rest × (map symbol_of tokens ≡ symbols ++ map symbol_of rest))
begin_is Rest tokens done is = (tokens, (is, refl))
begin_is Rest [] (then_one stands fit) is = absurd is
begin_is {symbols = symbol ∷ symbols} Rest (token ∷ tokens) (then_one stands fit) is =
    let later = begin_is Rest tokens fit is.1 in
    (later.0, (later.1.0, ap (λ (s : Symbol). s ∷ map symbol_of tokens) (stands.is token is.0) ∙ ap (λ (r : List Symbol). symbol ∷ r) later.1.1))

is_begin : {kinds : List (Token → Type 0)} {symbols : List Symbol} (Rest : List Token → Type 0) (tokens : List Token) (behind : List Symbol) → Fit kinds symbols
    → map symbol_of tokens ≡ symbols ++ behind → ((rest : List Token) → map symbol_of rest ≡ behind → Rest rest) → Begin kinds Rest tokens
is_begin Rest tokens behind done is then_rest = then_rest tokens is
is_begin Rest [] behind (then_one stands fit) is then_rest = absurd (cc)
is_begin {symbols = symbol ∷ symbols} Rest (token ∷ tokens) behind (then_one stands fit) is then_rest = (
  stands.only token (let same : symbol_of token ≡ symbol = cc in same),
  is_begin Rest tokens behind fit (let same : map symbol_of tokens ≡ symbols ++ behind = cc in same) then_rest,
)

none_left : (tokens : List Token) → map symbol_of tokens ≡ [] → tokens ≡ []
none_left [] is = refl
none_left (token ∷ rest) is = absurd (cc)

append_none : (symbols : List Symbol) → symbols ++ [] ≡ symbols
append_none [] = refl
append_none (symbol ∷ symbols) = ap (λ (r : List Symbol). symbol ∷ r) (append_none symbols)

are_is : {kinds : List (Token → Type 0)} {symbols : List Symbol} (tokens : List Token) → Fit kinds symbols → Are kinds tokens → map symbol_of tokens ≡ symbols
are_is {symbols = symbols} tokens fit is =
    let (rest, (nothing, all)) = begin_is AreNone tokens fit is in
    all ∙ ap (λ (r : List Token). symbols ++ map symbol_of r) nothing ∙ append_none symbols

is_are : {kinds : List (Token → Type 0)} {symbols : List Symbol} (tokens : List Token) → Fit kinds symbols → map symbol_of tokens ≡ symbols → Are kinds tokens
is_are {symbols = symbols} tokens fit is = is_begin AreNone tokens [] fit (is ∙ sym (append_none symbols)) none_left

-- the symbols of a list of registers that comes after other tokens
list_is : {kinds : List (Token → Type 0)} {symbols : List Symbol} (list : ℕ) (tokens : List Token) → Fit kinds symbols
    → Begin kinds (AreList list) tokens → (rest : List Symbol) × ((map symbol_of tokens ≡ symbols ++ OpenBrace ∷ rest) × (list_of 0 rest ≡ Some list))
list_is {symbols = symbols} list tokens fit is =
    let (rest, (listed, all)) = begin_is (AreList list) tokens fit is in
    let (behind, (brace, made)) = list_of-list list rest listed in (
      map symbol_of behind,
      (
        all ∙ ap (λ (r : List Symbol). symbols ++ r)
            (ap (map symbol_of) brace ∙ ap (λ (s : Symbol). s ∷ map symbol_of behind) (Stands-open_brace.is (mark 123) refl)),
        made,
      ),
    )

listed_tokens : (list : ℕ) (tokens : List Token) (rest : List Symbol) → list_of 0 rest ≡ Some list → map symbol_of tokens ≡ OpenBrace ∷ rest →
    AreList list tokens
listed_tokens list [] rest listed is = absurd (cc)
listed_tokens list (brace ∷ tokens) rest listed is =
    let same : map symbol_of tokens ≡ rest = cc in
    list_of-is list brace tokens (Stands-open_brace.only brace (let first : symbol_of brace ≡ OpenBrace = cc in first)) (ap (list_of 0) same ∙ listed)

is_list : {kinds : List (Token → Type 0)} {symbols : List Symbol} (list : ℕ) (tokens : List Token) (rest : List Symbol) → Fit kinds symbols
    → map symbol_of tokens ≡ symbols ++ OpenBrace ∷ rest → list_of 0 rest ≡ Some list → Begin kinds (AreList list) tokens
is_list list tokens rest fit is listed = is_begin (AreList list) tokens (OpenBrace ∷ rest) fit is (λ behind. listed_tokens list behind rest listed)

spelled_is : (o : Operands) (tokens : List Token) → Spell o tokens → Spelled o (map symbol_of tokens)
unfolding Spelled
spelled_is operands.None tokens is = are_is tokens done is
spelled_is (operands.One m) tokens is = are_is tokens (then_one (Stands-register m) done) is
spelled_is (operands.Two d m) tokens is = are_is tokens (then_one (Stands-register d) (then_one Stands-comma (then_one (Stands-register m) done))) is
spelled_is (operands.Three d n m) tokens is = are_is tokens (then_one (Stands-register d)
    (then_one Stands-comma (then_one (Stands-register n) (then_one Stands-comma (then_one (Stands-register m) done))))) is
spelled_is (operands.Immediate v) tokens is = are_is tokens (then_one Stands-hash (then_one (Stands-number v) done)) is
spelled_is (operands.OneImmediate d v) tokens is = are_is tokens
    (then_one (Stands-register d) (then_one Stands-comma (then_one Stands-hash (then_one (Stands-number v) done)))) is
spelled_is (operands.TwoImmediate d n v) tokens is = are_is tokens
    (then_one (Stands-register d) (then_one Stands-comma (then_one (Stands-register n)
    (then_one Stands-comma (then_one Stands-hash (then_one (Stands-number v) done)))))) is
spelled_is (operands.ByRegister t n m) tokens is = are_is tokens
    (then_one (Stands-register t) (then_one Stands-comma (then_one Stands-open_bracket
    (then_one (Stands-register n) (then_one Stands-comma (then_one (Stands-register m) (then_one Stands-close_bracket done))))))) is
spelled_is (operands.ByOffset t n v) tokens is = are_is tokens
    (then_one (Stands-register t) (then_one Stands-comma (then_one Stands-open_bracket
    (then_one (Stands-register n) (then_one Stands-comma (then_one Stands-hash (then_one (Stands-number v) (then_one Stands-close_bracket done)))))))) is
spelled_is (operands.List list) tokens is = let it = list_is list tokens done is in record { rest = it.0; symbols_are = it.1.0; listed = it.1.1 }
spelled_is (operands.BaseList n list) tokens is = let it = list_is list tokens (then_one (Stands-register n) (then_one Stands-comma done)) is in
    record { rest = it.0; symbols_are = it.1.0; listed = it.1.1 }
spelled_is (operands.UpdatedList n list) tokens is = let it =
    list_is list tokens (then_one (Stands-register n) (then_one Stands-exclamation (then_one Stands-comma done))) is in
    record { rest = it.0; symbols_are = it.1.0; listed = it.1.1 }
spelled_is operands.Interrupts tokens is = are_is tokens (then_one Stands-interrupts done) is
spelled_is (operands.FromSpecial d s) tokens is = are_is tokens (then_one (Stands-register d) (then_one Stands-comma (then_one (Stands-special s) done))) is
spelled_is (operands.ToSpecial s n) tokens is = are_is tokens (then_one (Stands-special s) (then_one Stands-comma (then_one (Stands-register n) done))) is

is_spelled : (o : Operands) (tokens : List Token) → Spelled o (map symbol_of tokens) → Spell o tokens
unfolding Spelled
is_spelled operands.None tokens is = is_are tokens done is
is_spelled (operands.One m) tokens is = is_are tokens (then_one (Stands-register m) done) is
is_spelled (operands.Two d m) tokens is = is_are tokens (then_one (Stands-register d) (then_one Stands-comma (then_one (Stands-register m) done))) is
is_spelled (operands.Three d n m) tokens is = is_are tokens (then_one (Stands-register d)
    (then_one Stands-comma (then_one (Stands-register n) (then_one Stands-comma (then_one (Stands-register m) done))))) is
is_spelled (operands.Immediate v) tokens is = is_are tokens (then_one Stands-hash (then_one (Stands-number v) done)) is
is_spelled (operands.OneImmediate d v) tokens is = is_are tokens
    (then_one (Stands-register d) (then_one Stands-comma (then_one Stands-hash (then_one (Stands-number v) done)))) is
is_spelled (operands.TwoImmediate d n v) tokens is = is_are tokens
    (then_one (Stands-register d) (then_one Stands-comma (then_one (Stands-register n)
    (then_one Stands-comma (then_one Stands-hash (then_one (Stands-number v) done)))))) is
is_spelled (operands.ByRegister t n m) tokens is = is_are tokens
    (then_one (Stands-register t) (then_one Stands-comma (then_one Stands-open_bracket
    (then_one (Stands-register n) (then_one Stands-comma (then_one (Stands-register m) (then_one Stands-close_bracket done))))))) is
is_spelled (operands.ByOffset t n v) tokens is = is_are tokens
    (then_one (Stands-register t) (then_one Stands-comma (then_one Stands-open_bracket
    (then_one (Stands-register n) (then_one Stands-comma (then_one Stands-hash (then_one (Stands-number v) (then_one Stands-close_bracket done)))))))) is
is_spelled (operands.List list) tokens is = is_list list tokens is.rest done is.symbols_are is.listed
is_spelled (operands.BaseList n list) tokens is = is_list list tokens is.rest (then_one (Stands-register n) (then_one Stands-comma done)) is.symbols_are
    is.listed
is_spelled (operands.UpdatedList n list) tokens is = is_list list tokens is.rest
    (then_one (Stands-register n) (then_one Stands-exclamation (then_one Stands-comma done))) is.symbols_are is.listed
is_spelled operands.Interrupts tokens is = is_are tokens (then_one Stands-interrupts done) is
is_spelled (operands.FromSpecial d s) tokens is = is_are tokens (then_one (Stands-register d) (then_one Stands-comma (then_one (Stands-special s) done))) is
is_spelled (operands.ToSpecial s n) tokens is = is_are tokens (then_one (Stands-special s) (then_one Stands-comma (then_one (Stands-register n) done))) is

pub operands_of-spell : (o : Operands) (tokens : List Token) → Spell o tokens → operands_of (map symbol_of tokens) ≡ Some o
operands_of-spell o tokens is = operands_of-spelled o (map symbol_of tokens) (spelled_is o tokens is)

pub spell-operands_of : (o : Operands) (tokens : List Token) → operands_of (map symbol_of tokens) ≡ Some o → Spell o tokens
spell-operands_of o tokens is = is_spelled o tokens (operands_of-is o (map symbol_of tokens) is)

-- tokens spell one list of operands at most
pub one_spelling : (a b : Operands) (tokens : List Token) → Spell a tokens → Spell b tokens → a ≡ b
one_spelling a b tokens one two = let x = operands_of-spell a tokens one in let y = operands_of-spell b tokens two in cc

-- the function of Reading answers as Statement says
pub operands_exact : (line : List ℕ) (found : Option Operands) → found ≡ operands_of (symbols_of line)
    → MatchOption found ((o : Operands) → Spell o (tokens_of line) → ⊥) (λ o. Spell o (tokens_of line))
unfolding symbols_of
operands_exact line None is = λ o spelled. let e = operands_of-spell o (tokens_of line) spelled in cc
operands_exact line (Some o) is = spell-operands_of o (tokens_of line) (sym is)
