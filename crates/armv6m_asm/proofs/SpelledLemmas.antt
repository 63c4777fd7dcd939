-- The function of Reading and the definition of Statement agree on which operands tokens spell.
use Rattle.std.proofs.Common.{◌≡◌, ◌∙◌, sym, ap, subst, refl, ℕ, List, [], ◌∷◌, ◌++◌, Option, Some, None, option_and_then, option_map}
use Rattle.armv6m_forms.specs.declared.form.Operands.{Operands}
use Rattle.armv6m_forms.specs.declared.form.Operands.TheVariants as operands
use Rattle.armv6m_asm.specs.declared.symbol.Symbol.{Symbol}
use Rattle.armv6m_asm.specs.declared.symbol.Symbol.TheVariants.{Register, Special, Number, Interrupts, Comma, Hash, Exclamation, OpenBracket, CloseBracket}
use Rattle.armv6m_asm.specs.declared.symbol.Symbol.TheVariants.{OpenBrace}
use Rattle.armv6m_asm.specs.Reading.{list_of, behind_comma, behind_open_brace, behind_close_bracket, register_first, number_first, at_end, closed, to_special}
use Rattle.armv6m_asm.specs.Reading.{indexed, in_brackets, immediate, third, after_two, second, updated, after_one, operands_of}

-- the symbols of the registers of a list and of its closing brace
pub record EndsList (list : ℕ) (start symbols : List Symbol) : Type 0 where
  pub rest : List Symbol
  pub symbols_are : symbols ≡ start ++ rest
  pub listed : list_of 0 rest ≡ Some list

-- the symbols of operands
unfoldable pub Spelled : Operands → List Symbol → Type 0
Spelled operands.None symbols = symbols ≡ []
Spelled (operands.One m) symbols = symbols ≡ Register m ∷ []
Spelled (operands.Two d m) symbols = symbols ≡ Register d ∷ Comma ∷ Register m ∷ []
Spelled (operands.Three d n m) symbols = symbols ≡ Register d ∷ Comma ∷ Register n ∷ Comma ∷ Register m ∷ []
Spelled (operands.Immediate value) symbols = symbols ≡ Hash ∷ Number value ∷ []
Spelled (operands.OneImmediate d value) symbols = symbols ≡ Register d ∷ Comma ∷ Hash ∷ Number value ∷ []
Spelled (operands.TwoImmediate d n value) symbols = symbols ≡ Register d ∷ Comma ∷ Register n ∷ Comma ∷ Hash ∷ Number value ∷ []
Spelled (operands.ByRegister t n m) symbols = symbols ≡ Register t ∷ Comma ∷ OpenBracket ∷ Register n ∷ Comma ∷ Register m ∷ CloseBracket ∷ []
Spelled (operands.ByOffset t n offset) symbols = symbols ≡ Register t ∷ Comma ∷ OpenBracket ∷ Register n ∷ Comma ∷ Hash ∷ Number offset ∷ CloseBracket ∷ []
Spelled (operands.List list) symbols = EndsList list (OpenBrace ∷ []) symbols
Spelled (operands.BaseList n list) symbols = EndsList list (Register n ∷ Comma ∷ OpenBrace ∷ []) symbols
Spelled (operands.UpdatedList n list) symbols = EndsList list (Register n ∷ Exclamation ∷ Comma ∷ OpenBrace ∷ []) symbols
Spelled operands.Interrupts symbols = symbols ≡ Interrupts ∷ []
Spelled (operands.FromSpecial d special) symbols = symbols ≡ Register d ∷ Comma ∷ Special special ∷ []
Spelled (operands.ToSpecial special n) symbols = symbols ≡ Special special ∷ Comma ∷ Register n ∷ []

-- ---- from the definition to the function

pub operands_of-spelled : (o : Operands) (symbols : List Symbol) → Spelled o symbols → operands_of symbols ≡ Some o
unfolding Spelled operands_of
operands_of-spelled (operands.List list) symbols is = rw (is.symbols_are, is.listed) refl
operands_of-spelled (operands.BaseList n list) symbols is = rw (is.symbols_are, is.listed) refl
operands_of-spelled (operands.UpdatedList n list) symbols is = rw (is.symbols_are, is.listed) refl
operands_of-spelled o symbols is = rw is refl

-- ---- from the function to the definition

and_then_is : {T U : Type 0} (f : T → Option U) (x : Option T) (u : U) → option_and_then f x ≡ Some u → (t : T) × ((x ≡ Some t) × (f t ≡ Some u))
and_then_is f None u is = absurd (cc)
and_then_is f (Some t) u is = (t, (refl, is))

map_is : {T U : Type 0} (f : T → U) (x : Option T) (u : U) → option_map f x ≡ Some u → (t : T) × ((x ≡ Some t) × (f t ≡ u))
map_is f None u is = absurd (cc)
map_is f (Some t) u is = (t, (refl, (let same : f t ≡ u = cc in same)))

behind_comma_is : (symbols more : List Symbol) → behind_comma symbols ≡ Some more → symbols ≡ Comma ∷ more
behind_comma_is (Comma ∷ rest) more is = let same : rest ≡ more = cc in ap (λ (r : List Symbol). Comma ∷ r) same
behind_comma_is symbols more is = absurd (cc)

behind_open_brace_is : (symbols more : List Symbol) → behind_open_brace symbols ≡ Some more → symbols ≡ OpenBrace ∷ more
behind_open_brace_is (OpenBrace ∷ rest) more is = let same : rest ≡ more = cc in ap (λ (r : List Symbol). OpenBrace ∷ r) same
behind_open_brace_is symbols more is = absurd (cc)

behind_close_bracket_is : (symbols more : List Symbol) → behind_close_bracket symbols ≡ Some more → symbols ≡ CloseBracket ∷ more
behind_close_bracket_is (CloseBracket ∷ rest) more is = let same : rest ≡ more = cc in ap (λ (r : List Symbol). CloseBracket ∷ r) same
behind_close_bracket_is symbols more is = absurd (cc)

register_first_is : (symbols : List Symbol) (n : ℕ) (more : List Symbol) → register_first symbols ≡ Some (n, more) → symbols ≡ Register n ∷ more
register_first_is (Register x ∷ rest) n more is = let pair : ◌≡◌ {A = ℕ × List Symbol} (x, rest) (n, more) = cc in
    ap (λ (p : ℕ × List Symbol). Register p.0 ∷ p.1) pair
register_first_is symbols n more is = absurd (cc)

number_first_is : (symbols : List Symbol) (n : ℕ) (more : List Symbol) → number_first symbols ≡ Some (n, more) → symbols ≡ Number n ∷ more
number_first_is (Number x ∷ rest) n more is = let pair : ◌≡◌ {A = ℕ × List Symbol} (x, rest) (n, more) = cc in
    ap (λ (p : ℕ × List Symbol). Number p.0 ∷ p.1) pair
number_first_is symbols n more is = absurd (cc)

at_end_is : (made o : Operands) (symbols : List Symbol) → at_end made symbols ≡ Some o → (symbols ≡ []) × (made ≡ o)
at_end_is made o [] is = (refl, (let same : made ≡ o = cc in same))
at_end_is made o (symbol ∷ rest) is = absurd (cc)

closed_is : (made o : Operands) (symbols : List Symbol) → closed made symbols ≡ Some o → (symbols ≡ CloseBracket ∷ []) × (made ≡ o)
closed_is made o symbols is =
    let (rest, (behind, end)) = and_then_is (at_end made) (behind_close_bracket symbols) o is in
    let it = at_end_is made o rest end in
    (behind_close_bracket_is symbols rest behind ∙ ap (λ (r : List Symbol). CloseBracket ∷ r) it.0, it.1)

immediate_is : (made : ℕ → Operands) (o : Operands) (symbols : List Symbol) → immediate made symbols ≡ Some o
    → (value : ℕ) × ((symbols ≡ Number value ∷ []) × (made value ≡ o))
immediate_is made o symbols is =
    let (first, (begins, end)) = and_then_is (λ (value : ℕ × List Symbol). at_end (made value.0) value.1) (number_first symbols) o is in
    let it = at_end_is (made first.0) o first.1 end in
    (first.0, (number_first_is symbols first.0 first.1 begins ∙ ap (λ (r : List Symbol). Number first.0 ∷ r) it.0, it.1))

-- operands that are equal have the same symbols
replaced : (made o : Operands) (symbols : List Symbol) → made ≡ o → Spelled made symbols → Spelled o symbols
replaced made o symbols same is = subst (λ (x : Operands). Spelled x symbols) same is

to_special_is : (special : ℕ) (o : Operands) (symbols : List Symbol) → to_special special symbols ≡ Some o → Spelled o (Special special ∷ symbols)
unfolding Spelled
to_special_is special o symbols is =
    let (rest, (comma, after)) = and_then_is (λ (rest : List Symbol). option_and_then (λ (n : ℕ × List Symbol). at_end (operands.ToSpecial special n.0) n.1)
    (register_first rest)) (behind_comma symbols) o is in
    let (n, (first, end)) = and_then_is (λ (n : ℕ × List Symbol). at_end (operands.ToSpecial special n.0) n.1) (register_first rest) o after in
    let it = at_end_is (operands.ToSpecial special n.0) o n.1 end in
    let begins = behind_comma_is symbols rest comma in
    let register = register_first_is rest n.0 n.1 first in
    let nothing = it.0 in
    replaced (operands.ToSpecial special n.0) o (Special special ∷ symbols) it.1
    (ap (λ (r : List Symbol). Special special ∷ r) (begins ∙
    ap (λ (r : List Symbol). Comma ∷ r) (register ∙ ap (λ (r : List Symbol). Register n.0 ∷ r) nothing)))

indexed_is : (t n : ℕ) (o : Operands) (symbols : List Symbol) → indexed t n symbols ≡ Some o →
    Spelled o (Register t ∷ Comma ∷ OpenBracket ∷ Register n ∷ Comma ∷ symbols)
unfolding Spelled
indexed_is t n o (Register x ∷ rest) is = let it = closed_is (operands.ByRegister t n x) o rest is in
    let end = it.0 in replaced (operands.ByRegister t n x) o _ it.1 (rw end refl)
indexed_is t n o (Hash ∷ rest) is =
    let (value, (first, end)) = and_then_is (λ (offset : ℕ × List Symbol). closed (operands.ByOffset t n offset.0) offset.1) (number_first rest) o is in
    let it = closed_is (operands.ByOffset t n value.0) o value.1 end in
    let begins = number_first_is rest value.0 value.1 first in
    let bracket = it.0 in
    replaced (operands.ByOffset t n value.0) o _ it.1 (ap (λ (r : List Symbol). Register t ∷ Comma ∷ OpenBracket ∷ Register n ∷ Comma ∷ Hash ∷ r)
    (begins ∙ ap (λ (r : List Symbol). Number value.0 ∷ r) bracket))
indexed_is t n o symbols is = absurd (cc)

in_brackets_is : (t : ℕ) (o : Operands) (symbols : List Symbol) → in_brackets t symbols ≡ Some o → Spelled o (Register t ∷ Comma ∷ OpenBracket ∷ symbols)
in_brackets_is t o symbols is =
    let (n, (first, after)) = and_then_is (λ (n : ℕ × List Symbol). option_and_then (indexed t n.0) (behind_comma n.1)) (register_first symbols) o is in
    let (rest, (comma, end)) = and_then_is (indexed t n.0) (behind_comma n.1) o after in
    let begins = register_first_is symbols n.0 n.1 first in
    let then_comma = behind_comma_is n.1 rest comma in
    subst (λ (s : List Symbol). Spelled o (Register t ∷ Comma ∷ OpenBracket ∷ s)) (sym (begins ∙ ap (λ (r : List Symbol). Register n.0 ∷ r) then_comma))
    (indexed_is t n.0 o rest end)

third_is : (d n : ℕ) (o : Operands) (symbols : List Symbol) → third d n symbols ≡ Some o → Spelled o (Register d ∷ Comma ∷ Register n ∷ Comma ∷ symbols)
unfolding Spelled
third_is d n o (Register x ∷ rest) is = let it = at_end_is (operands.Three d n x) o rest is in
    let end = it.0 in replaced (operands.Three d n x) o _ it.1 (rw end refl)
third_is d n o (Hash ∷ rest) is = let (value, (end, same)) = immediate_is (operands.TwoImmediate d n) o rest is in
    replaced (operands.TwoImmediate d n value) o _ same (ap (λ (r : List Symbol). Register d ∷ Comma ∷ Register n ∷ Comma ∷ Hash ∷ r) end)
third_is d n o symbols is = absurd (cc)

after_two_is : (d n : ℕ) (o : Operands) (symbols : List Symbol) → after_two d n symbols ≡ Some o → Spelled o (Register d ∷ Comma ∷ Register n ∷ symbols)
unfolding Spelled
after_two_is d n o [] is = replaced (operands.Two d n) o _ (let same : operands.Two d n ≡ o = cc in same) refl
after_two_is d n o (symbol ∷ rest) is =
    let (more, (comma, end)) = and_then_is (third d n) (behind_comma (symbol ∷ rest)) o is in
    let begins = behind_comma_is (symbol ∷ rest) more comma in
    subst (λ (s : List Symbol). Spelled o (Register d ∷ Comma ∷ Register n ∷ s)) (sym begins) (third_is d n o more end)

second_is : (d : ℕ) (o : Operands) (symbols : List Symbol) → second d symbols ≡ Some o → Spelled o (Register d ∷ Comma ∷ symbols)
unfolding Spelled
second_is d o (Register x ∷ rest) is = after_two_is d x o rest is
second_is d o (Special x ∷ rest) is = let it = at_end_is (operands.FromSpecial d x) o rest is in
    let end = it.0 in replaced (operands.FromSpecial d x) o _ it.1 (rw end refl)
second_is d o (Hash ∷ rest) is = let (value, (end, same)) = immediate_is (operands.OneImmediate d) o rest is in
    replaced (operands.OneImmediate d value) o _ same (ap (λ (r : List Symbol). Register d ∷ Comma ∷ Hash ∷ r) end)
second_is d o (OpenBracket ∷ rest) is = in_brackets_is d o rest is
second_is d o (OpenBrace ∷ rest) is = let (list, (listed, same)) = map_is (operands.BaseList d) (list_of 0 rest) o is in
    replaced (operands.BaseList d list) o _ same (record { rest = rest; symbols_are = refl; listed = listed })
second_is d o symbols is = absurd (cc)

updated_is : (n : ℕ) (o : Operands) (symbols : List Symbol) → updated n symbols ≡ Some o → Spelled o (Register n ∷ Exclamation ∷ symbols)
unfolding Spelled
updated_is n o symbols is =
    let (rest, (comma, after)) = and_then_is (λ (rest : List Symbol). option_map (operands.UpdatedList n)
    (option_and_then (list_of 0) (behind_open_brace rest))) (behind_comma symbols) o is in
    let (list, (made, same)) = map_is (operands.UpdatedList n) (option_and_then (list_of 0) (behind_open_brace rest)) o after in
    let (more, (brace, listed)) = and_then_is (list_of 0) (behind_open_brace rest) list made in
    let begins = behind_comma_is symbols rest comma in
    let then_brace = behind_open_brace_is rest more brace in
    replaced (operands.UpdatedList n list) o _ same (record {
      rest = more;
      symbols_are =
          ap (λ (r : List Symbol). Register n ∷ Exclamation ∷ r) (begins ∙ ap (λ (r : List Symbol). Comma ∷ r) then_brace);
      listed = listed;
    })

after_one_is : (d : ℕ) (o : Operands) (symbols : List Symbol) → after_one d symbols ≡ Some o → Spelled o (Register d ∷ symbols)
unfolding Spelled
after_one_is d o [] is = replaced (operands.One d) o _ (let same : operands.One d ≡ o = cc in same) refl
after_one_is d o (Comma ∷ rest) is = second_is d o rest is
after_one_is d o (Exclamation ∷ rest) is = updated_is d o rest is
after_one_is d o symbols is = absurd (cc)

pub operands_of-is : (o : Operands) (symbols : List Symbol) → operands_of symbols ≡ Some o → Spelled o symbols
unfolding Spelled operands_of
operands_of-is o [] is = replaced operands.None o _ (let same : operands.None ≡ o = cc in same) refl
operands_of-is o (Register x ∷ rest) is = after_one_is x o rest is
operands_of-is o (Special x ∷ rest) is = to_special_is x o rest is
operands_of-is o (Interrupts ∷ rest) is = let it = at_end_is operands.Interrupts o rest is in
    let end = it.0 in replaced operands.Interrupts o _ it.1 (rw end refl)
operands_of-is o (Hash ∷ rest) is = let (value, (end, same)) = immediate_is operands.Immediate o rest is in
    replaced (operands.Immediate value) o _ same (ap (λ (r : List Symbol). Hash ∷ r) end)
operands_of-is o (OpenBrace ∷ rest) is = let (list, (listed, same)) = map_is operands.List (list_of 0 rest) o is in
    replaced (operands.List list) o _ same (record { rest = rest; symbols_are = refl; listed = listed })
operands_of-is o symbols is = absurd (cc)
