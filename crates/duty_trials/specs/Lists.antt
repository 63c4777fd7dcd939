-- Lists of calls: Init, a call for each member of a set, and UnInit.
use Rattle.std.specs.Prelude.{◌+◌, ℕ, Bool, true, false, List, [], ◌∷◌, length, take, IsSome}
use Rattle.flm_descriptor.specs.declared.algorithm.Entries.{Entries}
use Rattle.flm_descriptor.specs.Shape.{range_at}
use Rattle.page_geometry.specs.Geometry.{Geometry}
use Rattle.page_geometry.specs.Cells.{IsEmpty}
use Rattle.page_geometry.specs.Ideal.{bytes_in}
use Rattle.page_geometry.specs.Ideal as act
use Rattle.algo_calls.specs.declared.call.Call.TheVariants as call
use Rattle.algo_calls.specs.Setups.{Setup}
use Rattle.algo_calls.specs.Frames.{asked}
use Rattle.algo_calls.specs.Duties.{Site, Duty, Acting, Quiet, Phase, Erases, ErasesChip, Programs, Verifies, part}
use Rattle.duty_trials.specs.declared.list.Work.{Work}
use Rattle.duty_trials.specs.declared.list.Work.TheVariants as work
use Rattle.duty_trials.specs.declared.list.Turn.{Turn}
use Rattle.duty_trials.specs.declared.list.Turn.TheVariants as turn

-- how many sectors or pages a work has; the whole chip counts as one
abbrev pub count_of : Geometry → Work → ℕ
count_of l work.Sectors = length l.sectors
count_of l work.Chip = 1
count_of l work.Pages = length l.pages
count_of l work.Checks = length l.pages

-- the algorithm has the function that a work needs
abbrev pub HasFunction : Entries → Work → Type 0
HasFunction e work.Sectors = Unit {0}
HasFunction e work.Chip = IsSome e.erase_chip
HasFunction e work.Pages = Unit {0}
HasFunction e work.Checks = IsSome e.verify

-- the number that Init and UnInit get as their function code
abbrev pub kind_in : Work → ℕ
kind_in work.Sectors = 1
kind_in work.Chip = 1
kind_in work.Pages = 2
kind_in work.Checks = 3

-- the phase of a work, where `held` is the contents that the device is to have after it
abbrev pub phase_of : Work → List Bool → List ℕ → Phase
phase_of work.Sectors set held = Erases set
phase_of work.Chip set held = ErasesChip
phase_of work.Pages set held = Programs set held
phase_of work.Checks set held = Verifies set

-- the duty of a work on one sector or page, where `held` is the contents that the device is to have after it
abbrev pub work_on : Setup → Geometry → Work → List ℕ → ℕ → Duty
work_on s l work.Sectors held k = Acting (act.EraseSector k)
work_on s l work.Chip held k = Acting act.EraseChip
work_on s l work.Pages held k = Acting (act.ProgramPage k (bytes_in (range_at l.pages k) held))
work_on s l work.Checks held k = Quiet (asked (call.Verify (s.algorithm.device.base + (range_at l.pages k).start)) (bytes_in (range_at l.pages k) held))

-- what a work on a sector or page may rely on: a page that is to be programmed is empty
abbrev pub MayWork : Setup → Site → List ℕ → Work → ℕ → Type 0
MayWork s site cells work.Sectors k = Unit {0}
MayWork s site cells work.Chip k = Unit {0}
MayWork s site cells work.Pages k = IsEmpty s.algorithm.device.empty (range_at site.layout.pages k) (part site cells)
MayWork s site cells work.Checks k = Unit {0}

-- the members of a set in rising order, from number k on
abbrev pub members : (ℕ → Duty) → ℕ → List Bool → List Duty
members f k [] = []
members f k (true ∷ rest) = f k ∷ members f (k + 1) rest
members f k (false ∷ rest) = members f (k + 1) rest

abbrev pub init_of : Work → Duty
init_of w = Quiet (asked (call.Init (kind_in w)) [])

abbrev pub uninit_of : Work → Duty
uninit_of w = Quiet (asked (call.UnInit (kind_in w)) [])

-- the duty of a list's call at a turn, and the duties of the calls before it
abbrev pub duty_at : Setup → Geometry → Work → List ℕ → Turn → Duty
duty_at s l w held turn.Init = init_of w
duty_at s l w held (turn.Member k) = work_on s l w held k
duty_at s l w held turn.UnInit = uninit_of w

abbrev pub before_turn : Setup → Geometry → Work → List Bool → List ℕ → Turn → List Duty
before_turn s l w set held turn.Init = []
before_turn s l w set held (turn.Member k) = init_of w ∷ members (work_on s l w held) 0 (take k set)
before_turn s l w set held turn.UnInit = init_of w ∷ members (work_on s l w held) 0 set
