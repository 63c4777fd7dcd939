-- Laws of the texts of operands.
use Rattle.std.proofs.Common.{◌≡◌, ◌≢◌, ◌≤◌, ◌+◌, ◌-◌, ℕ, zero, suc, Bool, true, false, List, [], ◌∷◌, ◌++◌, length, codes, decimal, refl, rules, arith, ap}
use Rattle.std.proofs.Common.{◌∙◌, add-zero, append_assoc, append-nil, length-append, if◌then◌else◌}
use Rattle.std.proofs.lemmas.Grind.{common_steps}
use Rattle.std.proofs.lemmas.List.Elements.{filter-append}
use Rattle.std.specs.List.{filter, range_with_len, join_by}
use Rattle.armv6m_alu.specs.Bits.{is_bit_set}
use Rattle.armv6m_forms.specs.Room.{IsShort}
use Rattle.armv6m_forms.specs.Text.{text_of, register_text, comma_text, listed_below, list_text, operands_text, form_text}
use Rattle.armv6m_forms.specs.declared.mnemonic.Mnemonic.{Mnemonic}
use Rattle.armv6m_forms.specs.declared.form.Operands.{Operands}
use Rattle.armv6m_forms.specs.declared.form.Operands.TheVariants.{None}
use Rattle.armv6m_forms.specs.declared.form.Form.TheVariants.{Plain}

-- the text of a number that no register has
pub numbered_register : (register : ℕ) → 16 ≤ register → register_text register ≡ codes "R" ++ decimal register
unfolding register_text
numbered_register register past = grind arith

-- ---- lists

abbrev pub is_none : List ℕ → Bool
is_none [] = true
is_none (register ∷ rest) = false

-- the names of the registers in a list below a number
abbrev pub names_below : ℕ → ℕ → List ℕ
names_below end list = join_by register_text comma_text (listed_below end list)

range_more : (a n : ℕ) → range_with_len a (suc n) ≡ range_with_len a n ++ (a + n) ∷ []
range_more a zero = rw add-zero refl
range_more a (suc n) = let same : a + 1 + n ≡ a + suc n = omega arith in rw (← same) (ap (λ xs. a ∷ xs) (range_more (a + 1) n))

one_or_none : (there : Bool) (register list : ℕ) → is_bit_set list register ≡ there
    → filter (λ register. is_bit_set list register) (register ∷ []) ≡ (if there then register ∷ [] else [])
one_or_none true register list h = rw h refl
one_or_none false register list h = rw h refl

-- the registers below a number and one register more
pub listed-more : (there : Bool) (register list : ℕ) → is_bit_set list register ≡ there
    → listed_below (register + 1) list ≡ listed_below register list ++ (if there then register ∷ [] else [])
unfolding listed_below
listed-more there register list h =
    let more : range_with_len 0 (register + 1) ≡ range_with_len 0 register ++ register ∷ [] = grind (arith, range_more 0 register) in
    rw more (filter-append (λ register. is_bit_set list register) (range_with_len 0 register) (register ∷ [])
    ∙ ap (λ xs. listed_below register list ++ xs) (one_or_none there register list h))

is_none-more : (xs : List ℕ) (x : ℕ) → is_none (xs ++ x ∷ []) ≡ false
is_none-more [] x = refl
is_none-more (y ∷ ys) x = refl

-- the names of some registers, with commas, and one name more
join-more : (xs : List ℕ) (x : ℕ)
    → join_by register_text comma_text (xs ++ x ∷ []) ≡ join_by register_text comma_text xs ++ (if is_none xs then [] else comma_text) ++ register_text x
join-more [] x = append-nil (register_text x)
join-more (y ∷ ys) x = grind (arith, common_steps)

-- the names below a number and one more, which is in the list
pub names_below-listed : (register list : ℕ) → is_bit_set list register ≡ true
    → names_below (register + 1) list ≡ names_below register list ++ (if is_none (listed_below register list) then [] else comma_text) ++ register_text register
names_below-listed register list h = rw (listed-more true register list h) (join-more (listed_below register list) register)

-- a list has no register below register 0
pub listed-first : (list : ℕ) → listed_below 0 list ≡ []
unfolding listed_below
listed-first list = refl

pub is_none-listed : (register list : ℕ) → is_bit_set list register ≡ true → is_none (listed_below (register + 1) list) ≡ false
is_none-listed register list h = rw (listed-more true register list h) (is_none-more (listed_below register list) register)

-- the registers below a number and one more, which isn't in the list
pub listed-absent : (register list : ℕ) → is_bit_set list register ≡ false → listed_below (register + 1) list ≡ listed_below register list
listed-absent register list h = listed-more false register list h ∙ append-nil (listed_below register list)

names_grow : (there : Bool) (register list : ℕ) → is_bit_set list register ≡ there
    → length (names_below register list) ≤ length (names_below (register + 1) list)
names_grow true register list h = rw (names_below-listed register list h) (grind (arith, length-append))
names_grow false register list h = rw (listed-absent register list h) (omega arith)

names_grow_by : (more register list : ℕ) → length (names_below register list) ≤ length (names_below (register + more) list)
names_grow_by zero register list = rw add-zero (omega arith)
names_grow_by (suc more) register list =
    let next : register + suc more ≡ register + more + 1 = omega arith in
    rw next (omega (arith, names_grow_by more register list, names_grow (is_bit_set list (register + more)) (register + more) list refl))

in_braces : (names : List ℕ) → length (codes "{" ++ names ++ codes "}") ≡ length names + 2
in_braces names = grind (arith, length-append)

-- the names have room wherever the whole list does
pub names_have_room : (register list : ℕ) → register ≤ 16 → IsShort list → length (names_below register list) ≤ 38
unfolding list_text
names_have_room register list within short =
    let all : register + (16 - register) ≡ 16 = omega arith in
    let grow = names_grow_by (16 - register) register list in
    let whole = rw all at grow in
    omega (arith, whole, short, in_braces (names_below 16 list))

-- a text that ends with these names is longer by one name with one register more
pub text_more : (front line after : List ℕ) (first : Bool) (register list : ℕ) → is_bit_set list register ≡ true
    → line ≡ front ++ names_below register list → first ≡ is_none (listed_below register list)
    → after ≡ line ++ (if first then [] else comma_text) ++ register_text register
    → after ≡ front ++ names_below (register + 1) list
text_more front line after first register list h before none more =
    rw (more, before, none, names_below-listed register list h)
    (search (rules, append_assoc))

-- ---- forms

pub form_text-plain : (m : Mnemonic) (operands : Operands) → operands ≢ None
    → form_text (Plain m operands) ≡ text_of m ++ codes " " ++ operands_text operands
unfolding form_text
form_text-plain m None some = absurd (some refl)
form_text-plain m operands some = refl
