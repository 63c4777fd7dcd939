-- Lemmas on lists of registers.
use Rattle.std.proofs.Common.{◌≡◌, ◌≢◌, ◌<◌, ◌+◌, ◌*◌, ◌/◌, ◌%◌, ◌^◌, ◌==◌, ◌∙◌, ℕ, zero, suc, max, Bool, true, false, if◌then◌else◌, List, [], ◌∷◌, ◌++◌}
use Rattle.std.proofs.Common.{length, map, Option, Some, None, option_and_then, ap, sym, subst, refl, arith, nat_eq, eq-eqb, ne_eqb, bit_or, All, sum_by, fold}
use Rattle.std.proofs.Common.{zero-mul}
use Rattle.std.specs.List.{AllByRecursion, IsDistinct, flat_map}
use Rattle.std.specs.Int.{bit_at}
use Rattle.std.proofs.lemmas.Nat.{or_disjoint}
use Rattle.std.proofs.lemmas.Nat.Bits.{bit_at-lt, bit_at_or, and_pow, bit_at-pow_same, bit_at-pow_other, bit_at-zero}
use Rattle.armv6m_alu.specs.Bits.{is_bit_set}
use Rattle.armv6m_forms.specs.Text.{register_text}
use Rattle.armv6m_asm.specs.declared.symbol.Symbol.{Symbol}
use Rattle.armv6m_asm.specs.declared.symbol.Symbol.TheVariants.{Register, Comma}
use Rattle.armv6m_asm.specs.declared.symbol.Symbol.TheVariants.{CloseBrace}
use Rattle.armv6m_asm.specs.Token.{Token, word, mark}
use Rattle.armv6m_asm.specs.Statement.{register, list_tokens, AreList}
use Rattle.armv6m_asm.specs.Reading.{register_in, with_one_more, is_comma, ends_list, list_of, symbol_of}
use Rattle.armv6m_asm.proofs.SymbolLemmas.{Stands-register, Stands-comma, Stands-close_brace}
use Rattle.armv6m_asm.proofs.WordLemmas.{each_register}

Fits_more : ℕ → ℕ → Type 0
Fits_more list r = list < 65536 → list / 2 ^ r % 2 ≡ 0 → list + 1 * 2 ^ r % 65536 < 65536

-- a list of registers fits sixteen bits after one register more
pub fits_more : (list r : ℕ) → r < 16 → list < 65536 → list / 2 ^ r % 2 ≡ 0 → list + 1 * 2 ^ r % 65536 < 65536
unfolding Fits_more
fits_more list = each_register (Fits_more list) (
  (λ fits bit. omega arith),
  (
    (λ fits bit. omega arith),
    (
      (λ fits bit. omega arith),
      (
        (λ fits bit. omega arith),
        (
          (λ fits bit. omega arith),
          (
            (λ fits bit. omega arith),
            (
              (λ fits bit. omega arith),
              (
                (λ fits bit. omega arith),
                (
                  (λ fits bit. omega arith),
                  (
                    (λ fits bit. omega arith),
                    (
                      (λ fits bit. omega arith),
                      (
                        (λ fits bit. omega arith),
                        (
                          (λ fits bit. omega arith),
                          ((λ fits bit. omega arith), ((λ fits bit. omega arith), ((λ fits bit. omega arith), tt))),
                        ),
                      ),
                    ),
                  ),
                ),
              ),
            ),
          ),
        ),
      ),
    ),
  ),
)

-- the function reads a register and a comma as one register more
pub list_of-more : (list more : ℕ) (symbols : List Symbol) (register next : Symbol) (behind rest : List Symbol) → symbols ≡ register ∷ behind →
    behind ≡ next ∷ rest
    → next ≡ Comma → with_one_more list (register_in register) ≡ Some more → list_of list symbols ≡ list_of more rest
unfolding list_of
list_of-more list more symbols register next behind rest first second comma is = rw (first, second, comma, is) refl

-- ---- bits

-- a bit that isn't set is 0 as a number
pub clear : (list r : ℕ) → is_bit_set list r ≡ false → bit_at list r ≡ 0
clear list r h =
    let small = bit_at-lt list r in
    let other : bit_at list r ≢ 1 = λ one. let e = eq-eqb (bit_at list r) 1 one in cc in
    omega arith

clear_too : (list r : ℕ) → bit_at list r ≡ 0 → is_bit_set list r ≡ false
clear_too list r h = ne_eqb (bit_at list r) 1 (λ one. absurd (omega arith))

-- adding a power of two sets its bit, if the bit wasn't set
more_is_or : (list r : ℕ) → is_bit_set list r ≡ false → bit_or list (2 ^ r) ≡ list + 2 ^ r
more_is_or list r h = or_disjoint list (2 ^ r) (and_pow list r ∙ ap (λ b. b * 2 ^ r) (clear list r h) ∙ zero-mul (2 ^ r))

bit_of_more : (list r k : ℕ) → is_bit_set list r ≡ false → bit_at (list + 2 ^ r) k ≡ max (bit_at list k) (bit_at (2 ^ r) k)
bit_of_more list r k h = ap (λ n. bit_at n k) (sym (more_is_or list r h)) ∙ bit_at_or list (2 ^ r) k

clear_more : (list r k : ℕ) → is_bit_set list r ≡ false → is_bit_set list k ≡ false → k ≢ r → is_bit_set (list + 2 ^ r) k ≡ false
clear_more list r k h here other =
    clear_too (list + 2 ^ r) k (omega (arith, bit_of_more list r k h, clear list k here, bit_at-pow_other r k other))

clear_before : (list r k : ℕ) → is_bit_set list r ≡ false → is_bit_set (list + 2 ^ r) k ≡ false → is_bit_set list k ≡ false
clear_before list r k h after = clear_too list k (omega (arith, bit_of_more list r k h, clear (list + 2 ^ r) k after))

others_clear : (list r k : ℕ) → is_bit_set list r ≡ false → is_bit_set (list + 2 ^ r) k ≡ false → (r == k) ≡ false
others_clear list r k h after = ne_eqb r k (λ same.
    absurd (omega (arith, bit_of_more list r k h, clear (list + 2 ^ r) k after, bit_at-pow_same r, ap (λ n. bit_at (2 ^ r) n) same)))

-- ---- registers

abbrev Below : List ℕ → Type 0
Below registers = AllByRecursion (λ r. r < 16) registers

abbrev Clear : ℕ → List ℕ → Type 0
Clear list registers = AllByRecursion (λ r. is_bit_set list r ≡ false) registers

abbrev with_all : ℕ → List ℕ → ℕ
with_all list registers = fold (λ sum r. sum + 2 ^ r) list registers

-- the tokens after an opening brace
abbrev behind_brace : ℕ → List ℕ → List Token
behind_brace r registers = word (register_text r) ∷ (flat_map (λ n. mark 44 ∷ word (register_text n) ∷ []) registers ++ mark 125 ∷ [])

below_from : (registers : List ℕ) → All (λ r. r < 16) registers → Below registers
below_from [] all = tt
below_from (r ∷ registers) all = (all 0 0 (omega arith), below_from registers (λ k d less. all (suc k) d (omega arith)))

below_all : (registers : List ℕ) → Below registers → All (λ r. r < 16) registers
below_all [] below k d less = absurd (omega arith)
below_all (r ∷ registers) below zero d less = below.0
below_all (r ∷ registers) below (suc k) d less = below_all registers below.1 k d (omega arith)

-- registers that aren't in a list aren't in it after another one is added
clear_all : (list r : ℕ) (registers : List ℕ) → is_bit_set list r ≡ false → Clear list registers → AllByRecursion (λ k. (r == k) ≡ false) registers
    → Clear (list + 2 ^ r) registers
clear_all list r [] h all others = tt
clear_all list r (k ∷ registers) h all others =
    (clear_more list r k h all.0 (λ same. let e = eq-eqb r k (sym same) in let f = others.0 in cc), clear_all list r registers h all.1 others.1)

clear_all_before : (list r : ℕ) (registers : List ℕ) → is_bit_set list r ≡ false → Clear (list + 2 ^ r) registers → Clear list registers
clear_all_before list r [] h all = tt
clear_all_before list r (k ∷ registers) h all = (clear_before list r k h all.0, clear_all_before list r registers h all.1)

others_all : (list r : ℕ) (registers : List ℕ) → is_bit_set list r ≡ false → Clear (list + 2 ^ r) registers → AllByRecursion (λ k. (r == k) ≡ false) registers
others_all list r [] h all = tt
others_all list r (k ∷ registers) h all = (others_clear list r k h all.0, others_all list r registers h all.1)

-- ---- from the definition to the function

-- a register is new to a list in which its bit isn't set
with_new : (list r : ℕ) (token : Token) → register r token → is_bit_set list r ≡ false
    → with_one_more list (register_in (symbol_of token)) ≡ Some (list + 2 ^ r)
with_new list r token is new = rw ((Stands-register r).is token is, new) refl

last_register : (list r : ℕ) (token : Token) (close : Token) → register r token → is_bit_set list r ≡ false → close ≡ mark 125
    → list_of list (symbol_of token ∷ symbol_of close ∷ []) ≡ Some (list + 2 ^ r)
unfolding list_of
last_register list r token close is new end = rw (Stands-close_brace.is close end, with_new list r token is new) refl

list_of-registers : (registers : List ℕ) (r list : ℕ) → Below (r ∷ registers) → IsDistinct nat_eq (r ∷ registers) → Clear list (r ∷ registers)
    → list_of list (map symbol_of (behind_brace r registers)) ≡ Some (with_all list (r ∷ registers))
unfolding IsDistinct
list_of-registers [] r list below once new =
    last_register list r (word (register_text r)) (mark 125) (refl, below.0) new.0 refl
list_of-registers (next ∷ registers) r list below once new =
    list_of-more list (list + 2 ^ r) _ (symbol_of (word (register_text r))) (symbol_of (mark 44)) _ (map symbol_of (behind_brace next registers)) refl refl
    (Stands-comma.is (mark 44) refl) (with_new list r (word (register_text r)) (refl, below.0) new.0)
    ∙ list_of-registers registers next (list + 2 ^ r) below.1 once.1 (clear_all list r (next ∷ registers) new.0 new.1 once.0)

zero_clear : (registers : List ℕ) → Clear 0 registers
zero_clear [] = tt
zero_clear (r ∷ registers) = (clear_too 0 r (bit_at-zero r), zero_clear registers)

-- the function reads the tokens after an opening brace as their list
pub list_of-list : (list : ℕ) (tokens : List Token) → AreList list tokens
    → (rest : List Token) × ((tokens ≡ mark 123 ∷ rest) × (list_of 0 (map symbol_of rest) ≡ Some list))
list_of-list list tokens is = at is.registers is.some is.each is.once is.list_is is.tokens_are where
  at : (registers : List ℕ) → 0 < length registers → All (λ r. r < 16) registers → IsDistinct nat_eq registers → list ≡ sum_by (λ r. 2 ^ r) registers
      → tokens ≡ mark 123 ∷ (list_tokens registers ++ mark 125 ∷ [])
      → (rest : List Token) × ((tokens ≡ mark 123 ∷ rest) × (list_of 0 (map symbol_of rest) ≡ Some list))
  at [] some each once sum tokens_are = absurd (omega arith)
  at (r ∷ registers) some each once sum tokens_are = (
    behind_brace r registers,
    (
      tokens_are,
      list_of-registers registers r 0 (below_from (r ∷ registers) each) once (zero_clear (r ∷ registers)) ∙
          ap Some (sym sum),
    ),
  )

-- ---- from the function to the definition

register_in_is : (symbol : Symbol) (r : ℕ) → register_in symbol ≡ Some r → symbol ≡ Register r
register_in_is (Register x) r is = let same : x ≡ r = cc in ap Register same
register_in_is symbol r is = absurd (cc)

is_comma_is : (symbol : Symbol) → is_comma symbol ≡ true → symbol ≡ Comma
is_comma_is Comma is = refl
is_comma_is symbol is = absurd (cc)

ends_list_is : (symbol : Symbol) (rest : List Symbol) → ends_list (symbol ∷ rest) ≡ true → (symbol ≡ CloseBrace) × (rest ≡ [])
ends_list_is CloseBrace [] is = (refl, refl)
ends_list_is symbol rest is = absurd (cc)

-- what is known of the registers of the tokens after an opening brace
pub record HasRegisters (before list : ℕ) (tokens : List Token) : Type 0 where
  pub first : ℕ
  pub others : List ℕ
  pub tokens_are : tokens ≡ behind_brace first others
  pub below : Below (first ∷ others)
  pub once : IsDistinct nat_eq (first ∷ others)
  pub new : Clear before (first ∷ others)
  pub list_is : list ≡ with_all before (first ∷ others)

-- what a register that is added says of the list
pub record IsNew (before more : ℕ) (token : Token) : Type 0 where
  pub number : ℕ
  pub is : register number token
  pub new : is_bit_set before number ≡ false
  pub more_is : more ≡ before + 2 ^ number

with_bit : (v : Bool) (sum more : ℕ) → (if v then None else Some sum) ≡ Some more → (v ≡ false) × (more ≡ sum)
with_bit true sum more is = absurd (cc)
with_bit false sum more is = (refl, (let same : more ≡ sum = cc in same))

new_from : (before more : ℕ) (token : Token) (found : Option ℕ) → register_in (symbol_of token) ≡ found → with_one_more before found ≡ Some more →
    IsNew before more token
new_from before more token None there is = absurd (cc)
new_from before more token (Some r) there is =
    let it = with_bit (is_bit_set before r) (before + 2 ^ r) more is in
    record { number = r; is = (Stands-register r).only token (register_in_is (symbol_of token) r there); new = it.0; more_is = it.1 }

one_more : (before more list : ℕ) (token comma : Token) (rest : List Token) → IsNew before more token → comma ≡ mark 44
    → HasRegisters more list rest → HasRegisters before list (token ∷ comma ∷ rest)
unfolding IsDistinct
one_more before more list token comma rest is then_comma has =
    let later : Clear (before + 2 ^ is.number) (has.first ∷ has.others) = subst (λ n. Clear n (has.first ∷ has.others)) is.more_is has.new in
    record {
      first = is.number;
      others = has.first ∷ has.others;
      tokens_are = let a = is.is.0 in let b = then_comma in let c = has.tokens_are in rw (a, b, c) refl;
      below = (is.is.1, has.below);
      once = (others_all before is.number (has.first ∷ has.others) is.new later, has.once);
      new = (is.new, clear_all_before before is.number (has.first ∷ has.others) is.new later);
      list_is = has.list_is ∙ ap (λ n. with_all n (has.first ∷ has.others)) is.more_is;
    }

last_one : (before list : ℕ) (token close : Token) (rest : List Token) → IsNew before list token → close ≡ mark 125 → rest ≡ []
    → HasRegisters before list (token ∷ close ∷ rest)
unfolding IsDistinct
last_one before list token close rest is end nothing = record {
  first = is.number;
  others = [];
  tokens_are = let a = is.is.0 in rw (a, end, nothing) refl;
  below = (is.is.1, tt);
  once = (tt, tt);
  new = (is.new, tt);
  list_is = is.more_is;
}

no_tokens : (tokens : List Token) → map symbol_of tokens ≡ [] → tokens ≡ []
no_tokens [] is = refl
no_tokens (token ∷ rest) is = absurd (cc)

-- the tokens of a list, by the token after the first register
split : (comma close : Bool) (before list : ℕ) (token next : Token) (rest : List Token) → is_comma (symbol_of next) ≡ comma →
    ends_list (symbol_of next ∷ map symbol_of rest) ≡ close
    → ((more : ℕ) → list_of more (map symbol_of rest) ≡ Some list → HasRegisters more list rest)
    → (if comma then option_and_then (λ more. list_of more (map symbol_of rest)) (with_one_more before (register_in (symbol_of token)))
    else if close then with_one_more before (register_in (symbol_of token)) else None) ≡ Some list
    → HasRegisters before list (token ∷ next ∷ rest)
split true close before list token next rest is_c is_e later is = at (with_one_more before (register_in (symbol_of token))) refl is where
  at : (made : Option ℕ) → with_one_more before (register_in (symbol_of token)) ≡ made →
      option_and_then (λ more. list_of more (map symbol_of rest)) made ≡ Some list
      → HasRegisters before list (token ∷ next ∷ rest)
  at None made is = absurd (cc)
  at (Some more) made is =
      one_more before more list token next rest (new_from before more token (register_in (symbol_of token)) refl made)
      (Stands-comma.only next (is_comma_is (symbol_of next) is_c)) (later more is)
split false true before list token next rest is_c is_e later is =
    let it = ends_list_is (symbol_of next) (map symbol_of rest) is_e in
    last_one before list token next rest (new_from before list token (register_in (symbol_of token)) refl is)
    (Stands-close_brace.only next it.0) (no_tokens rest it.1)
split false false before list token next rest is_c is_e later is = absurd (cc)

has_registers : (tokens : List Token) (before list : ℕ) → list_of before (map symbol_of tokens) ≡ Some list → HasRegisters before list tokens
unfolding list_of
has_registers [] before list is = absurd (cc)
has_registers (token ∷ []) before list is = absurd (cc)
has_registers (token ∷ next ∷ rest) before list is =
    split (is_comma (symbol_of next)) (ends_list (symbol_of next ∷ map symbol_of rest)) before list token next rest refl refl
    (λ more. has_registers rest more list) is

pub list_of-is : (list : ℕ) (brace : Token) (tokens : List Token) → brace ≡ mark 123 → list_of 0 (map symbol_of tokens) ≡ Some list →
    AreList list (brace ∷ tokens)
list_of-is list brace tokens begins is =
    let has = has_registers tokens 0 list is in
    record {
      registers = has.first ∷ has.others;
      some = omega arith;
      each = below_all (has.first ∷ has.others) has.below;
      once = has.once;
      list_is = has.list_is;
      tokens_are = ap (λ (token : Token). token ∷ tokens) begins ∙ ap (λ (rest : List Token). mark 123 ∷ rest) has.tokens_are;
    }
