-- Facts about the cells of a range, such as a page: whether all are empty, and whether two contents differ there.
use Rattle.std.specs.Prelude.{◌≡◌, ℕ, ◌+◌, ◌-◌, if◌then◌else◌, Bool, false, not, ◌&&◌, ◌||◌, nat_eq, nat_le, List, zero, suc, slice_index}
use Rattle.flm_descriptor.specs.Shape.{Range}
use Rattle.page_geometry.specs.Geometry.{In}

-- some number below `n` passes the test
unfoldable pub some_below : ℕ → (ℕ → Bool) → Bool
some_below zero test = false
some_below (suc n) test = some_below n test || test n

-- how many numbers below `n` pass the test
unfoldable pub count_below : ℕ → (ℕ → Bool) → ℕ
count_below zero test = 0
count_below (suc n) test = count_below n test + (if test n then 1 else 0)

-- some place of the range passes the test
unfoldable pub some_in : Range → (ℕ → Bool) → Bool
some_in r test = some_below r.stop (λ i. nat_le r.start i && test i)

-- a cell of the range isn't the empty value (`FlashOS.h`, valEmpty)
unfoldable pub is_used : ℕ → Range → List ℕ → Bool
is_used empty r cells = some_in r (λ i. not (nat_eq (slice_index cells i) empty))

-- the two contents differ in the range
unfoldable pub differs : Range → List ℕ → List ℕ → Bool
differs r old want = some_in r (λ i. not (nat_eq (slice_index old i) (slice_index want i)))

-- each cell of the range is the empty value
abbrev pub IsEmpty : ℕ → Range → List ℕ → Type 0
IsEmpty empty r cells = (i : ℕ) → In i r → slice_index cells i ≡ empty

-- the range holds these bytes
abbrev pub Holds : Range → List ℕ → List ℕ → Type 0
Holds r bytes cells = (i : ℕ) → In i r → slice_index cells i ≡ slice_index bytes (i - r.start)
