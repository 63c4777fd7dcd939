-- The table of an algorithm for a region of a board, written with the subject and the states of the code.
use Rattle.std.specs.Prelude.{◌<◌, ℕ, List, length, map, get_or}
use Rattle.target_core.specs.World.{World}
use Rattle.algo_calls.specs.declared.call.Call.{Call}
use Rattle.algo_calls.specs.declared.call.Call.TheVariants as call
use Rattle.duty_trials.specs.declared.subject.Subject.{Subject}
use Rattle.duty_trials.specs.declared.list.Work.{Work}
use Rattle.duty_trials.specs.Lists.{count_of, kind_in}
use Rattle.duty_trials.specs.Subjects.{algorithm_in, board_in, site_in}
use Rattle.duty_proofs.specs.TargetMarks.{TargetMarks}
use Rattle.duty_proofs.specs.Decided.{Anything, State}
use Rattle.duty_runs.specs.declared.between.Between.{Between}
use Rattle.duty_runs.specs.Runs.{Leaves}
use Rattle.duty_table.specs.States.{state_in}
use Rattle.duty_table.specs.Filled.{EntersOne, FillsList, GoesOn, GoesQuiet, load_state}

-- a state of the code as a state of the table
abbrev pub state_for : Subject → Between → State
state_for t st = state_in (board_in t) st

-- the states of the code as states of the table
abbrev pub states_for : Subject → List Between → List State
states_for t sts = map (state_in (board_in t)) sts

-- the target of a subject after a load, as a state of the table
abbrev pub load_for : Subject → State
load_for t = load_state (board_in t) (algorithm_in t)

-- the target that a run leaves is one that some state of a list allows
abbrev pub EntersIn : Subject → List Between → TargetMarks → World → Type 0
EntersIn t sts m w = EntersOne (board_in t) (algorithm_in t) (states_for t sts) m w

-- a call returns, opens no operation, and `Then` holds of the target that it leaves
abbrev pub QuietGoes : Subject → Call → State → (TargetMarks → World → Type 0) → Type 0
QuietGoes t c st Then = GoesQuiet (board_in t) (algorithm_in t) st c Then

-- the call of a function on a sector or page does what it must, and `Then` holds of the target that it leaves
abbrev pub WorkGoes : Subject → Work → ℕ → State → (TargetMarks → World → Type 0) → Type 0
WorkGoes t w k st Then = GoesOn (board_in t) (algorithm_in t) t.region w k st Then

-- a call returns, opens no operation, and leaves the state `left`
abbrev pub QuietLeaves : Subject → Call → Between → Between → Type 0
QuietLeaves t c st left = QuietGoes t c (state_for t st) (Leaves (state_for t left))

-- the call of a function on a sector or page does what it must, and leaves the state `left`
abbrev pub WorkLeaves : Subject → Work → ℕ → Between → Between → Type 0
WorkLeaves t w k st left = WorkGoes t w k (state_for t st) (Leaves (state_for t left))

-- Init leads from the target after a load to one of the states
abbrev pub InitFills : Subject → Work → List Between → Type 0
InitFills t w sts = QuietGoes t (call.Init (kind_in w)) (load_for t) (EntersIn t sts)

-- the call of a function on the sector or page with number `k` leads from the state `st` to one of the states
abbrev pub CallFills : Subject → Work → List Between → Between → ℕ → Type 0
CallFills t w sts st k = WorkGoes t w k (state_for t st) (EntersIn t sts)

-- the calls of a function on the first `n` sectors or pages lead from the state `st` to one of the states
abbrev pub CallsFill : Subject → Work → List Between → Between → ℕ → Type 0
CallsFill t w sts st n = (k : ℕ) → k < n → CallFills t w sts st k

-- UnInit returns from the state `st`, and opens no operation
abbrev pub EndFills : Subject → Work → Between → Type 0
EndFills t w st = QuietGoes t (call.UnInit (kind_in w)) (state_for t st) Anything

-- each call of a function leads from each of the states to one of them
abbrev pub WorksFill : Subject → Work → List Between → Type 0
WorksFill t w sts = (i : ℕ) (d : Between) → i < length sts → CallsFill t w sts (get_or sts i d) (count_of (site_in t).layout w)

-- UnInit returns from each of the states, and opens no operation
abbrev pub EndsFill : Subject → Work → List Between → Type 0
EndsFill t w sts = (i : ℕ) (d : Between) → i < length sts → EndFills t w (get_or sts i d)

-- the states fill the table of a kind of list
abbrev pub ListFills : Subject → Work → List Between → Type 0
ListFills t w sts = FillsList (board_in t) (algorithm_in t) t.region w (states_for t sts)
