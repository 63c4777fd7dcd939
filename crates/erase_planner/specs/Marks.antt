-- A plan in the making: what the bytes fed so far say of each page.
use Rattle.std.specs.Prelude.{◌≡◌, ℕ, ◌<◌, ◌≤◌, Bool, false, not, ◌||◌, ◌&&◌, if◌then◌else◌, nat_eq, min, length, List, get_or}
use Rattle.erase_planner.specs.declared.marks.Mark.{Mark}
use Rattle.flm_descriptor.specs.Shape.{Range, range, range_at}
use Rattle.page_geometry.specs.Geometry.{In, Geometry}
use Rattle.page_geometry.specs.Cells.{some_below, is_used, differs}
use Rattle.erase_planner.specs.Plans.{Chosen, has_page}

-- the part of the range that lies below `n`
abbrev pub seen : Range → ℕ → Range
seen r n = range r.start (min r.stop n)

-- what the bytes so far say of a page: whether old and wanted bytes differ, whether an old byte isn't empty, whether a wanted byte isn't
-- empty
unfoldable pub mark_of : Geometry → ℕ → List ℕ → List ℕ → ℕ → Mark
mark_of l empty old want p = record {
  differs = differs (seen (range_at l.pages p) (length old)) old want;
  old_used = is_used empty (seen (range_at l.pages p) (length old)) old;
  want_used = is_used empty (seen (range_at l.pages p) (length want)) want;
}

-- the mark of a page after one more byte
abbrev pub with_byte : ℕ → ℕ → ℕ → Mark → Mark
with_byte empty x y m = record {
  differs = m.differs || not (nat_eq x y);
  old_used = m.old_used || not (nat_eq x empty);
  want_used = m.want_used || not (nat_eq y empty);
}

-- the mark of a page; after the last page a blank mark
abbrev pub mark_at : List Mark → ℕ → Mark
mark_at marks p = get_or marks p (record { differs = false; old_used = false; want_used = false })

-- these marks are those of the bytes so far
pub record AreMarks (l : Geometry) (empty : ℕ) (old want : List ℕ) (marks : List Mark) : Type 0 where
  pub long : length marks ≡ length l.pages
  pub each : (p : ℕ) → p < length l.pages → mark_at marks p ≡ mark_of l empty old want p

-- a plan, made or in the making: the plan itself, the marks and the number of bytes fed so far, and for how many sectors and pages there is
-- room
pub record PlanView : Type 0 where
  pub made : Chosen
  pub marks : List Mark
  pub count : ℕ
  pub sectors_spare : ℕ
  pub pages_spare : ℕ

-- the plan was fed these bytes
pub record Fed (l : Geometry) (empty : ℕ) (plan : PlanView) (old want : List ℕ) : Type 0 where
  pub marked : AreMarks l empty old want plan.marks
  pub old_long : length old ≡ plan.count
  pub want_long : length want ≡ plan.count

-- a plan has room for the device's sectors and pages
abbrev pub Covers : Geometry → PlanView → Type 0
Covers l plan = (length l.sectors ≤ plan.sectors_spare) × (length l.pages ≤ plan.pages_spare)

-- a plan loses no room
abbrev pub SpareStays : PlanView → PlanView → Type 0
SpareStays before after = (before.sectors_spare ≤ after.sectors_spare) × (before.pages_spare ≤ after.pages_spare)

-- `place` lies in page number `page`, which ends at `stop`
pub record IsPageAt (l : Geometry) (place page stop : ℕ) : Type 0 where
  pub number : page < length l.pages
  pub inside : In place (range_at l.pages page)
  pub end : stop ≡ (range_at l.pages page).stop

-- ---- the sets that follow from the marks

-- a page must change and isn't empty
abbrev pub needs_erasure : Mark → Bool
needs_erasure m = m.differs && m.old_used

-- a sector must be erased: one of its pages must change and isn't empty
unfoldable pub erases_by : Geometry → List Mark → ℕ → Bool
erases_by l marks s =
    some_below (length l.pages) (λ p. has_page (range_at l.sectors s) (range_at l.pages p) && needs_erasure (mark_at marks p))

-- a page lies in a sector of the set
unfoldable pub lies_in : Geometry → List Bool → ℕ → Bool
lies_in l sectors p = some_below (length l.sectors) (λ s. get_or sectors s false && has_page (range_at l.sectors s) (range_at l.pages p))

-- a page must be programmed once the sectors of the set are erased
unfoldable pub programs_by : Geometry → List Mark → List Bool → ℕ → Bool
programs_by l marks sectors p = if lies_in l sectors p then (mark_at marks p).want_used else (mark_at marks p).differs

-- a page must be programmed after the chip is erased: it isn't wanted empty
abbrev pub wanted_by : List Mark → ℕ → Bool
wanted_by marks p = (mark_at marks p).want_used
