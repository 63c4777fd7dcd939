-- The script: the moves that lead a target to its goal.
use Rattle.std.specs.Prelude.{◌≤◌, ◌+◌, ◌-◌, ◌^◌, ℕ, zero, suc, Bool, true, false, if◌then◌else◌, IsTrue, is_some, List, [], ◌∷◌, ◌++◌, length, take, drop}
use Rattle.std.specs.Prelude.{get_or}
use Rattle.flm_descriptor.specs.Shape.{Range, range_at}
use Rattle.page_geometry.specs.Geometry.{Geometry, PagesFit}
use Rattle.erase_planner.specs.Plans.{Chosen}
use Rattle.algo_calls.specs.declared.call.Call.{Call}
use Rattle.algo_calls.specs.declared.call.Call.TheVariants.{Init, UnInit, EraseSector, EraseChip, ProgramPage, Verify}
use Rattle.algo_calls.specs.Setups.{Setup}
use Rattle.flash_session.specs.Moves.{Move, Reset, Load, Make}
use Rattle.flash_session.specs.declared.phase.Phase.{Phase}
use Rattle.flash_session.specs.declared.phase.Phase.TheVariants as stage

-- a plan for a region: its sectors and pages, the address of its first byte, and what to erase and program
pub record Planned : Type 0 where
  pub layout : Geometry
  pub base : ℕ
  pub plan : Chosen

-- the work on a region: its plan, and the contents to reach
pub record RegionWork : Type 0 where
  pub planned : Planned
  pub goal : List ℕ

abbrev pub planned : Geometry → ℕ → Chosen → Planned
planned layout base plan = record { layout = layout; base = base; plan = plan }

abbrev pub region_work : Geometry → ℕ → Chosen → List ℕ → RegionWork
region_work layout base plan goal = record { planned = planned layout base plan; goal = goal }

-- the moves for each number below `n`, in rising order
unfoldable pub each_below : ℕ → (ℕ → List Move) → List Move
each_below zero moves = []
each_below (suc n) moves = each_below n moves ++ moves n

-- ---- the phases

-- the number that Init and UnInit of a phase are given
abbrev pub kind_of : Phase → ℕ
kind_of stage.Erase = 1
kind_of stage.Program = 2
kind_of stage.Verify = 3

-- ---- erasing: the whole chip, or sector by sector

abbrev pub sector_moves : Setup → Planned → ℕ → List Move
sector_moves s p k =
    if get_or p.plan.sectors k false then Make s (EraseSector (p.base + (range_at p.layout.sectors k).start)) [] ∷ [] else []

unfoldable pub erase_moves : Setup → Planned → List Move
erase_moves s p = if p.plan.chip then Make s EraseChip [] ∷ [] else each_below (length p.layout.sectors) (sector_moves s p)

-- ---- programming or verifying the planned pages with the bytes wanted of them

abbrev pub page_call : Bool → ℕ → Call
page_call verifies at = if verifies then Verify at else ProgramPage at

-- the bytes of a range of cells
abbrev pub bytes_of : Range → List ℕ → List ℕ
bytes_of r cells = take (r.stop - r.start) (drop r.start cells)

abbrev pub page_at : Bool → Setup → RegionWork → ℕ → List Move
page_at verifies s t k =
    if get_or t.planned.plan.pages k false
    then Make s (page_call verifies (t.planned.base + (range_at t.planned.layout.pages k).start)) (bytes_of (range_at t.planned.layout.pages k) t.goal) ∷ []
    else []

unfoldable pub page_moves : Bool → Setup → RegionWork → List Move
page_moves verifies s t = each_below (length t.planned.layout.pages) (page_at verifies s t)

abbrev pub has_verify : Setup → Bool
has_verify s = is_some s.algorithm.entries.verify

abbrev pub verify_moves : Setup → RegionWork → List Move
verify_moves s t = if has_verify s then page_moves true s t else []

-- ---- the whole

-- the moves of a phase: reset, load, Init, the calls, UnInit; a phase without calls has no moves
unfoldable pub phase : Setup → ℕ → List ℕ → List Move → List Move
phase s kind torn [] = []
phase s kind torn (call ∷ calls) = Reset s torn ∷ Load s ∷ Make s (Init kind) [] ∷ ((call ∷ calls) ++ (Make s (UnInit kind) [] ∷ []))

-- for each phase of a region, the cells that its reset takes bytes from where it breaks an operation off
pub record Torn : Type 0 where
  pub erase : List ℕ
  pub program : List ℕ
  pub verify : List ℕ

-- the phases of a region
unfoldable pub phases : Setup → RegionWork → Torn → List Move
phases s t b =
    phase s 1 b.erase (erase_moves s t.planned) ++ (phase s 2 b.program (page_moves false s t) ++ phase s 3 b.verify (verify_moves s t))

-- what is to be done in a region, with the setup of its algorithm
pub record Leg : Type 0 where
  pub setup : Setup
  pub region_work : RegionWork

abbrev pub leg : Setup → RegionWork → Leg
leg s t = record { setup = s; region_work = t }

-- the cells for the resets of each region in order, and for the last reset
pub record Broken : Type 0 where
  pub legs : List Torn
  pub last : List ℕ

abbrev pub torn_first : List Torn → Torn
torn_first [] = record { erase = []; program = []; verify = [] }
torn_first (b ∷ rest) = b

abbrev pub torn_rest : List Torn → List Torn
torn_rest [] = []
torn_rest (b ∷ rest) = rest

-- the moves of all regions in order
unfoldable pub legs_of : List Leg → List Torn → List Move
legs_of [] torn = []
legs_of (l ∷ rest) torn = phases l.setup l.region_work (torn_first torn) ++ legs_of rest (torn_rest torn)

-- A whole script: the regions in order (a board has at least one), then a reset. The targets of all regions share the board's RAM, so the
-- last reset is made with the first region's setup.
unfoldable pub script : List Leg → Broken → List Move
script [] b = []
script (l ∷ rest) b = legs_of (l ∷ rest) b.legs ++ (Reset l.setup b.last ∷ [])

-- a plan fits this algorithm
pub record IsRegionWork (s : Setup) (p : Planned) : Type 0 where
  pub end : p.base + p.layout.size ≤ 2 ^ 32
  pub pages : PagesFit s.algorithm.device.page p.layout
  pub chip : IsTrue p.plan.chip → IsTrue (is_some s.algorithm.entries.erase_chip)
