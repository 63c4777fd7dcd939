-- Plans as lists of actions with their cost, the plan that is chosen, and what it means that no plan costs less.
use Rattle.std.specs.Prelude.{◌≡◌, ℕ, ◌+◌, ◌*◌, ◌≤◌, if◌then◌else◌, Bool, true, false, ◌&&◌, nat_le, nat_lt, length, List, [], ◌∷◌, ◌++◌, map, get_or}
use Rattle.std.specs.Prelude.{slice_index}
use Rattle.std.specs.List.{range_with_len}
use Rattle.flm_descriptor.specs.Shape.{Range, range_at}
use Rattle.board_file.specs.declared.board.Weights.{Weights}
use Rattle.page_geometry.specs.Geometry.{Geometry}
use Rattle.page_geometry.specs.Cells.{some_below, count_below, is_used, differs}
use Rattle.page_geometry.specs.Ideal.{Action, EraseSector, EraseChip, ProgramPage, Acts, erasures, writes}

-- ---- plans

-- the actions in turn lead the ideal device from one contents to another
unfoldable pub Leads : Geometry → ℕ → List ℕ → List Action → List ℕ → Type 0
Leads l empty cells [] want = cells ≡ want
Leads l empty cells (a ∷ rest) want = (mid : List ℕ) × Acts l empty cells a mid × Leads l empty mid rest want

unfoldable pub erases_chip : List Action → Bool
erases_chip [] = false
erases_chip (EraseSector s ∷ rest) = erases_chip rest
erases_chip (EraseChip ∷ rest) = true
erases_chip (ProgramPage p bytes ∷ rest) = erases_chip rest

-- a list of actions is a plan from one contents to another; it erases the chip only if the algorithm can
pub record IsPlan (l : Geometry) (empty : ℕ) (has_chip : Bool) (cells : List ℕ) (actions : List Action) (want : List ℕ) : Type 0 where
  pub leads : Leads l empty cells actions want
  pub lawful : erases_chip actions ≡ true → has_chip ≡ true

-- the cost of an action: one weight for each kind of action
unfoldable pub price : Weights → Action → ℕ
price w (EraseSector s) = w.sector
price w EraseChip = w.chip
price w (ProgramPage p bytes) = w.page

unfoldable pub cost : Weights → List Action → ℕ
cost w [] = 0
cost w (a ∷ rest) = price w a + cost w rest

-- ---- the chosen plan

-- a page lies in a sector
abbrev pub has_page : Range → Range → Bool
has_page sector page = nat_le sector.start page.start && nat_le page.stop sector.stop

-- a sector must be erased: one of its pages must change and isn't empty
unfoldable pub must_erase : Geometry → ℕ → List ℕ → List ℕ → ℕ → Bool
must_erase l empty old want s =
    some_below (length l.pages) (λ p. has_page (range_at l.sectors s) (range_at l.pages p)
    && (differs (range_at l.pages p) old want && is_used empty (range_at l.pages p) old))

-- place `i` lies in a sector that must be erased
unfoldable pub is_erased : Geometry → ℕ → List ℕ → List ℕ → ℕ → Bool
is_erased l empty old want i =
    some_below (length l.sectors) (λ s. must_erase l empty old want s
    && (nat_le (range_at l.sectors s).start i && nat_lt i (range_at l.sectors s).stop))

-- the contents after the sectors that must be erased are empty
unfoldable pub once_erased : Geometry → ℕ → List ℕ → List ℕ → List ℕ
once_erased l empty old want =
    map (λ i. if is_erased l empty old want i then empty else slice_index old i) (range_with_len 0 (length old))

-- a page must be programmed: it differs from what is wanted after those sectors are erased
unfoldable pub must_program : Geometry → ℕ → List ℕ → List ℕ → ℕ → Bool
must_program l empty old want p = differs (range_at l.pages p) (once_erased l empty old want) want

-- a page must be programmed after the chip is erased: it isn't wanted empty
unfoldable pub is_wanted : Geometry → ℕ → List ℕ → ℕ → Bool
is_wanted l empty want p = is_used empty (range_at l.pages p) want

unfoldable pub sectors_cost : Geometry → Weights → ℕ → List ℕ → List ℕ → ℕ
sectors_cost l w empty old want =
    w.sector * count_below (length l.sectors) (must_erase l empty old want)
    + w.page * count_below (length l.pages) (must_program l empty old want)

unfoldable pub chip_cost : Geometry → Weights → ℕ → List ℕ → ℕ
chip_cost l w empty want = w.chip + w.page * count_below (length l.pages) (is_wanted l empty want)

-- the chip is erased exactly if the algorithm can and that costs strictly less
unfoldable pub takes_chip : Geometry → Weights → Bool → ℕ → List ℕ → List ℕ → Bool
takes_chip l w has_chip empty old want = has_chip && nat_lt (chip_cost l w empty want) (sectors_cost l w empty old want)

-- a chosen plan: whether the chip is erased, the set of sectors to erase, the set of pages to program, and the cost. Element `k` of a set
-- says whether sector or page `k` is in it.
pub record Chosen : Type 0 where
  pub chip : Bool
  pub sectors : List Bool
  pub pages : List Bool
  pub cost : ℕ

abbrev pub made_of : Bool → List Bool → List Bool → ℕ → Chosen
made_of chip sectors pages cost = record { chip = chip; sectors = sectors; pages = pages; cost = cost }

-- no plan yet
abbrev pub nothing : Chosen
nothing = made_of false [] [] 0

-- the set of the numbers below `n` that pass the test
abbrev pub tests : ℕ → (ℕ → Bool) → List Bool
tests n test = map test (range_with_len 0 n)

unfoldable pub by_sectors : Geometry → Weights → ℕ → List ℕ → List ℕ → Chosen
by_sectors l w empty old want = record {
  chip = false;
  sectors = tests (length l.sectors) (must_erase l empty old want);
  pages = tests (length l.pages) (must_program l empty old want);
  cost = sectors_cost l w empty old want;
}

unfoldable pub by_chip : Geometry → Weights → ℕ → List ℕ → List ℕ → Chosen
by_chip l w empty old want = record {
  chip = true;
  sectors = tests (length l.sectors) (λ s. false);
  pages = tests (length l.pages) (is_wanted l empty want);
  cost = chip_cost l w empty want;
}

unfoldable pub chosen : Geometry → Weights → Bool → ℕ → List ℕ → List ℕ → Chosen
chosen l w has_chip empty old want =
    if takes_chip l w has_chip empty old want then by_chip l w empty old want else by_sectors l w empty old want

-- ---- facts about the chosen plan

-- the actions of a chosen plan: it erases, then programs pages, each in rising order
unfoldable pub actions_of : Geometry → List ℕ → Chosen → List Action
actions_of l want plan =
    (if plan.chip then EraseChip ∷ [] else erasures 0 plan.sectors) ++ writes l want 0 plan.pages

-- no plan from one contents to another costs less than this number
abbrev pub IsLeast : Geometry → Weights → ℕ → Bool → List ℕ → List ℕ → ℕ → Type 0
IsLeast l w empty has_chip cells want least =
    (actions : List Action) → IsPlan l empty has_chip cells actions want → least ≤ cost w actions

-- the plan asks for nothing
abbrev pub IsEmptyPlan : Chosen → Type 0
IsEmptyPlan plan = (plan.chip ≡ false) × ((s : ℕ) → get_or plan.sectors s false ≡ false) × ((p : ℕ) → get_or plan.pages p false ≡ false)

-- the plan is the chosen one, with its cost. Its actions lead from the old contents to the wanted ones at that cost, and no plan costs
-- less.
pub record IsLeastPlan (l : Geometry) (w : Weights) (has_chip : Bool) (empty : ℕ) (old want : List ℕ) (plan : Chosen) : Type 0 where
  pub chosen : plan ≡ chosen l w has_chip empty old want
  pub leads : IsPlan l empty has_chip old (actions_of l want plan) want
  pub priced : cost w (actions_of l want plan) ≡ plan.cost
  pub least : IsLeast l w empty has_chip old want plan.cost
