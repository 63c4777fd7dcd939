-- The moves of a script that are left at each cursor.
use Rattle.std.specs.Prelude.{◌+◌, ◌-◌, ℕ, zero, suc, Bool, true, false, nat_eq, if◌then◌else◌, unwrap_or, Option, Some, None, List, [], ◌∷◌, ◌++◌}
use Rattle.std.specs.Prelude.{length, option_to_list}
use Rattle.algo_calls.specs.declared.call.Call.TheVariants as call
use Rattle.algo_calls.specs.Setups.{Setup}
use Rattle.flash_session.specs.Moves.{Move, Reset, Make}
use Rattle.flash_session.specs.Regions.{RegionIndex, First, Second, is_last}
use Rattle.flash_session.specs.Script.{RegionWork, Torn, Leg, Broken, torn_first, torn_rest, sector_moves, erase_moves, page_at, page_moves, has_verify}
use Rattle.flash_session.specs.Script.{verify_moves, phase, kind_of}
use Rattle.flash_session.specs.declared.phase.Phase.{Phase}
use Rattle.flash_session.specs.declared.phase.Phase.TheVariants as stage
use Rattle.flash_session.specs.declared.cursor.Cursor.{Cursor}
use Rattle.flash_session.specs.declared.cursor.Cursor.TheVariants as at

-- ---- the calls of a phase

-- the moves for `more` numbers from `k` on
unfoldable pub each_from : (ℕ → List Move) → ℕ → ℕ → List Move
each_from f k zero = []
each_from f k (suc more) = f k ++ each_from f (k + 1) more

-- the moves for each number from `k` on below `n`
abbrev pub from_on : (ℕ → List Move) → ℕ → ℕ → List Move
from_on f n k = each_from f k (n - k)

-- the erase of the chip as call number 0, and no other call
abbrev pub chip_from : Setup → ℕ → List Move
chip_from s k = if nat_eq k 0 then Make s call.EraseChip [] ∷ [] else []

-- the calls of a phase, from a sector or page number on
abbrev pub calls_from : Setup → RegionWork → Phase → ℕ → List Move
calls_from s t stage.Erase k = if t.planned.plan.chip then chip_from s k else from_on (sector_moves s t.planned) (length t.planned.layout.sectors) k
calls_from s t stage.Program k = from_on (page_at false s t) (length t.planned.layout.pages) k
calls_from s t stage.Verify k = if has_verify s then from_on (page_at true s t) (length t.planned.layout.pages) k else []

-- all calls of a phase
abbrev pub phase_calls : Setup → RegionWork → Phase → List Move
phase_calls s t stage.Erase = erase_moves s t.planned
phase_calls s t stage.Program = page_moves false s t
phase_calls s t stage.Verify = verify_moves s t

-- ---- a region

-- the cells for the reset of a phase
abbrev pub torn_of : Phase → Torn → List ℕ
torn_of stage.Erase b = b.erase
torn_of stage.Program b = b.program
torn_of stage.Verify b = b.verify

abbrev pub set_torn : Phase → List ℕ → Torn → Torn
set_torn stage.Erase torn b = record b { erase = torn }
set_torn stage.Program torn b = record b { program = torn }
set_torn stage.Verify torn b = record b { verify = torn }

-- the phases after this one, followed by the moves after the region
abbrev pub after_phase : Setup → RegionWork → Phase → Torn → List Move → List Move
after_phase s t stage.Erase b later = phase s 2 b.program (page_moves false s t) ++ (phase s 3 b.verify (verify_moves s t) ++ later)
after_phase s t stage.Program b later = phase s 3 b.verify (verify_moves s t) ++ later
after_phase s t stage.Verify b later = later

abbrev pub from_phase : Setup → RegionWork → Phase → Torn → List Move → List Move
from_phase s t p b later = phase s (kind_of p) (torn_of p b) (phase_calls s t p) ++ after_phase s t p b later

-- UnInit of a phase, the phases after it, and the moves after the region
abbrev pub closing : Setup → RegionWork → Phase → Torn → List Move → List Move
closing s t p b later = Make s (call.UnInit (kind_of p)) [] ∷ after_phase s t p b later

-- ---- the whole

-- what is to be done in the first region and, where the board has two, in the second
pub record Legs : Type 0 where
  pub first : Leg
  pub second : Option Leg

abbrev pub all_legs : Legs → List Leg
all_legs l = l.first ∷ option_to_list l.second

-- what is to be done in one of the regions
abbrev pub leg_at : Legs → RegionIndex → Leg
leg_at l First = l.first
leg_at l Second = unwrap_or l.second l.first

-- the cells for the resets of a region
abbrev pub torn_at : RegionIndex → Broken → Torn
torn_at First b = torn_first b.legs
torn_at Second b = torn_first (torn_rest b.legs)

-- replaces the cells for the reset of a phase
abbrev pub with_torn : RegionIndex → Phase → List ℕ → Broken → Broken
with_torn First p torn b = record b { legs = set_torn p torn (torn_first b.legs) ∷ torn_rest b.legs }
with_torn Second p torn b = record b { legs = torn_first b.legs ∷ (set_torn p torn (torn_first (torn_rest b.legs)) ∷ torn_rest (torn_rest b.legs)) }

abbrev pub with_last : List ℕ → Broken → Broken
with_last torn b = record b { last = torn }

abbrev pub untorn : Torn
untorn = record { erase = []; program = []; verify = [] }

-- no broken-off operation leaves anything
abbrev pub unbroken : Broken
unbroken = record { legs = untorn ∷ (untorn ∷ []); last = [] }

abbrev pub last_reset : Legs → Broken → List Move
last_reset l b = Reset l.first.setup b.last ∷ []

-- the moves of the second region, where there is one, and those after it
abbrev pub second_rest : Option Leg → Torn → List Move → List Move
second_rest None b later = later
second_rest (Some m) b later = from_phase m.setup m.region_work stage.Erase b later

-- the moves after a region
abbrev pub later_than : Legs → RegionIndex → Broken → List Move
later_than l First b = second_rest l.second (torn_at Second b) (last_reset l b)
later_than l Second b = last_reset l b

-- The moves that are left at a cursor, given the cells for the resets among them.
abbrev pub rest_of : Legs → Cursor → Broken → List Move
rest_of l (at.Begin r p) b = from_phase (leg_at l r).setup (leg_at l r).region_work p (torn_at r b) (later_than l r b)
rest_of l (at.Init r p) b =
    Make (leg_at l r).setup (call.Init (kind_of p)) []
    ∷ (phase_calls (leg_at l r).setup (leg_at l r).region_work p ++ closing (leg_at l r).setup (leg_at l r).region_work p (torn_at r b) (later_than l r b))
rest_of l (at.Calls r p k) b =
    calls_from (leg_at l r).setup (leg_at l r).region_work p k ++ closing (leg_at l r).setup (leg_at l r).region_work p (torn_at r b) (later_than l r b)
rest_of l at.Last b = last_reset l b

-- the cursor after a region, and after a phase; `has` says whether there is a second region
abbrev pub after_region : (has : Bool) → RegionIndex → Cursor
after_region has r = if is_last has r then at.Last else at.Begin Second stage.Erase

abbrev pub after : (has : Bool) → RegionIndex → Phase → Cursor
after has r stage.Erase = at.Begin r stage.Program
after has r stage.Program = at.Begin r stage.Verify
after has r stage.Verify = after_region has r
