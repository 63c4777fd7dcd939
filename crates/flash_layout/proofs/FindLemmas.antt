-- Looking an address up: how the search continues by one area, and where the result lies.
use Rattle.std.proofs.Common.{◌≡◌, ◌<◌, ◌≤◌, ℕ, ◌+◌, ◌-◌, ◌%◌, Bool, true, false, IsTrue, List, [], ◌∷◌, length, drop, get_or, Some, None, refl, sym, ap, subst}
use Rattle.std.proofs.Common.{◌∙◌, arith, ◌⊎◌, inl, inr, ⊎_elim}
use Rattle.std.proofs.lemmas.Bool.{and_parts}
use Rattle.std.proofs.lemmas.List.{drop_more}
use Rattle.std.proofs.lemmas.Bool.Decides.{nat_tests}
use Rattle.flash_layout.specs.declared.area.Area.{Area}
use Rattle.flash_layout.specs.declared.area.Found.{Found}
use Rattle.flash_layout.specs.Areas.{cells_in, area_fits, all_fit, holds, find, FoundInside}

-- the cells before area `i` and the cells of the other areas are all cells
abbrev pub Counted : List Area → ℕ → ℕ → Type 0
Counted areas i from = from + cells_in (drop i areas) ≡ cells_in areas

pub counted_on : (areas : List Area) (i from : ℕ) (d : Area) → i < length areas → Counted areas i from
    → Counted areas (i + 1) (from + (get_or areas i d).size)
counted_on areas i from d inside so_far =
    let cells : cells_in (drop i areas) ≡ (get_or areas i d).size + cells_in (drop (i + 1) areas) = ap cells_in (drop_more areas i d inside) in
    omega (arith, so_far, cells)

pub counted_within : (areas : List Area) (i from : ℕ) (d : Area) → i < length areas → Counted areas i from
    → from + (get_or areas i d).size ≤ cells_in areas
counted_within areas i from d inside so_far =
    let next : (from + (get_or areas i d).size) + cells_in (drop (i + 1) areas) ≡ cells_in areas = counted_on areas i from d inside so_far in
    omega (arith, next)

pub counted_all : (areas : List Area) (i from : ℕ) → drop i areas ≡ [] → Counted areas i from → from ≡ cells_in areas
counted_all areas i from nil so_far = let none : cells_in (drop i areas) ≡ 0 = ap cells_in nil in omega (arith, so_far, none)

-- what a loop over the areas has searched so far
pub record Looked (areas : List Area) (at i from : ℕ) : Type 0 where
  pub same : find (drop i areas) from at ≡ find areas 0 at
  pub rest : Counted areas i from

pub find_nil : (from at : ℕ) → find [] from at ≡ None
unfolding find
find_nil from at = refl

pub find_cons : (a : Area) (rest : List Area) (from at : ℕ) → holds a at ≡ false → find (a ∷ rest) from at ≡ find rest (from + a.size) at
unfolding find
find_cons a rest from at miss = rw miss refl

pub find_first : (a : Area) (rest : List Area) (from at : ℕ) → holds a at ≡ true
    → find (a ∷ rest) from at ≡ Some (record { area = a; place = from + (at - a.base) })
unfolding find
find_first a rest from at hit = rw hit refl

pub looked_on : (areas : List Area) (at i from : ℕ) (d : Area) → i < length areas → holds (get_or areas i d) at ≡ false
    → Looked areas at i from → Looked areas at (i + 1) (from + (get_or areas i d).size)
looked_on areas at i from d inside miss so_far =
    let more : drop i areas ≡ get_or areas i d ∷ drop (i + 1) areas = drop_more areas i d inside in
    record {
      same = sym (ap (λ (l : List Area). find l from at) more ∙ find_cons (get_or areas i d) (drop (i + 1) areas) from at miss) ∙ so_far.same;
      rest = counted_on areas i from d inside so_far.rest;
    }

pub looked_found : (areas : List Area) (at i from : ℕ) (d : Area) → i < length areas → holds (get_or areas i d) at ≡ true
    → Looked areas at i from → Some (record { area = get_or areas i d; place = from + (at - (get_or areas i d).base) }) ≡ find areas 0 at
looked_found areas at i from d inside hit so_far =
    let more : drop i areas ≡ get_or areas i d ∷ drop (i + 1) areas = drop_more areas i d inside in
    sym (find_first (get_or areas i d) (drop (i + 1) areas) from at hit) ∙ sym (ap (λ (l : List Area). find l from at) more) ∙ so_far.same

pub looked_none : (areas : List Area) (at i from : ℕ) → drop i areas ≡ [] → Looked areas at i from → None ≡ find areas 0 at
looked_none areas at i from nil so_far = sym (find_nil from at) ∙ sym (ap (λ (l : List Area). find l from at) nil) ∙ so_far.same

-- the place of the area that was found
record Inside (areas : List Area) (from at : ℕ) (f : Found) : Type 0 where
  fits : IsTrue (area_fits f.area)
  above : f.area.base ≤ at
  below : at - f.area.base < f.area.size
  place : f.place + f.area.size ≤ from + cells_in areas + (at - f.area.base)
  offset : from + (at - f.area.base) ≤ f.place

bool_cases : (b : Bool) → (b ≡ true) ⊎ (b ≡ false)
bool_cases true = inl refl
bool_cases false = inr refl

some_same : (a b : Found) → Some a ≡ Some b → a ≡ b
some_same a b same = cc

inside_first : (a : Area) (rest : List Area) (from at : ℕ) (f : Found) → IsTrue (area_fits a) → holds a at ≡ true
    → f ≡ record { area = a; place = from + (at - a.base) } → Inside (a ∷ rest) from at f
inside_first a rest from at f fit hit same =
    let above : a.base ≤ at = grind (arith, nat_tests) in
    let below : at - a.base < a.size = grind (arith, nat_tests) in
    subst (λ (g : Found). Inside (a ∷ rest) from at g) (sym same)
    (record { fits = fit; above = above; below = below; place = omega arith; offset = omega arith })

inside_on : (a : Area) (rest : List Area) (from at : ℕ) (f : Found) → Inside rest (from + a.size) at f → Inside (a ∷ rest) from at f
inside_on a rest from at f i =
    record { fits = i.fits; above = i.above; below = i.below; place = omega (arith, i.place); offset = omega (arith, i.offset) }

found_inside : (areas : List Area) (from at : ℕ) (f : Found) → IsTrue (all_fit areas) → find areas from at ≡ Some f → Inside areas from at f
found_inside [] from at f fit same = let none : None ≡ Some f = sym (find_nil from at) ∙ same in absurd (cc none)
found_inside (a ∷ rest) from at f fit same =
    let both : IsTrue (area_fits a) × IsTrue (all_fit rest) = and_parts (area_fits a) (all_fit rest) fit in
    ⊎_elim
    (λ (hit : holds a at ≡ true). inside_first a rest from at f both.0 hit (some_same _ _ (sym same ∙ find_first a rest from at hit)))
    (λ (miss : holds a at ≡ false). inside_on a rest from at f (found_inside rest (from + a.size) at f both.1 (sym (find_cons a rest from at miss) ∙ same)))
    (bool_cases (holds a at))

-- what holds of an area that fits
record Fits (a : Area) : Type 0 where
  base : a.base % 4 ≡ 0
  size : a.size % 4 ≡ 0
  unit : (a.unit ≡ 2) ⊎ (a.unit ≡ 4)

fits_by : (a : Area) → IsTrue (area_fits a) → Fits a
fits_by a fit = record { base = grind (arith, nat_tests); size = grind (arith, nat_tests); unit = grind (arith, nat_tests) }

-- an access at a multiple of its width lies in the cells
pub access_inside : (areas : List Area) (at : ℕ) (f : Found) → IsTrue (all_fit areas) → find areas 0 at ≡ Some f → FoundInside areas at f
access_inside areas at f fit same =
    let i : Inside areas 0 at f = found_inside areas 0 at f fit same in
    let four : Fits f.area = fits_by f.area i.fits in
    record {
      byte = omega (arith, i.place, i.below);
      half = λ even. omega (arith, i.place, i.below, i.above, even, four.base, four.size);
      word = λ even. omega (arith, i.place, i.below, i.above, even, four.base, four.size);
      unit = four.unit;
    }
