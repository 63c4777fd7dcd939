-- The ideal device: what the functions of a flash algorithm are to do to the cells (`FlashOS.h`: EraseSector, EraseChip, ProgramPage).
use Rattle.std.specs.Prelude.{◌≡◌, ℕ, ◌+◌, ◌-◌, ◌<◌, Bool, true, false, length, List, [], ◌∷◌, map, slice_index}
use Rattle.std.specs.List.{range_with_len}
use Rattle.flm_descriptor.specs.Shape.{Range, range_at}
use Rattle.page_geometry.specs.Geometry.{In, Geometry}
use Rattle.page_geometry.specs.Cells.{IsEmpty, Holds}

-- what a flash algorithm is asked to do: erase sector `s`, erase the chip, or program page `p` with bytes
pub data Action : Type 0 where
  EraseSector : ℕ → Action
  EraseChip : Action
  ProgramPage : ℕ → List ℕ → Action

-- all places outside the range stay as they were
abbrev pub Stays : Range → List ℕ → List ℕ → Type 0
Stays r before after = (length after ≡ length before) × ((i : ℕ) → ¬ In i r → slice_index after i ≡ slice_index before i)

-- an action leads from one contents to another: erasing leaves a sector or the chip empty; programming a page that is empty leaves its
-- bytes there; all other places stay
unfoldable pub Acts : Geometry → ℕ → List ℕ → Action → List ℕ → Type 0
Acts l empty before (EraseSector s) after =
    (s < length l.sectors) × IsEmpty empty (range_at l.sectors s) after × Stays (range_at l.sectors s) before after
Acts l empty before EraseChip after =
    (length after ≡ length before) × ((i : ℕ) → i < length after → slice_index after i ≡ empty)
Acts l empty before (ProgramPage p bytes) after =
    (p < length l.pages) × (length bytes ≡ (range_at l.pages p).stop - (range_at l.pages p).start)
    × IsEmpty empty (range_at l.pages p) before × Holds (range_at l.pages p) bytes after × Stays (range_at l.pages p) before after

-- the actions that erase the sectors of a set, from sector `s` on, in rising order
unfoldable pub erasures : ℕ → List Bool → List Action
erasures s [] = []
erasures s (true ∷ rest) = EraseSector s ∷ erasures (s + 1) rest
erasures s (false ∷ rest) = erasures (s + 1) rest

-- the bytes of a range
unfoldable pub bytes_in : Range → List ℕ → List ℕ
bytes_in r cells = map (λ i. slice_index cells i) (range_with_len r.start (r.stop - r.start))

-- the actions that program the pages of a set with their bytes of `want`, from page `p` on, in rising order
unfoldable pub writes : Geometry → List ℕ → ℕ → List Bool → List Action
writes l want p [] = []
writes l want p (true ∷ rest) = ProgramPage p (bytes_in (range_at l.pages p) want) ∷ writes l want (p + 1) rest
writes l want p (false ∷ rest) = writes l want (p + 1) rest
