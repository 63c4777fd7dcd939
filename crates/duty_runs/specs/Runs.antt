-- What one run of a call decides.
use Rattle.std.specs.Prelude.{◌≡◌, ◌<◌, ℕ, true, List, length, map, slice_index, slice_index_or, None}
use Rattle.armv6m_decode.specs.declared.registers.TheConstants.{PC}
use Rattle.target_core.specs.World.{World}
use Rattle.target_core.specs.Windows.{window_of}
use Rattle.algo_calls.specs.declared.call.Call.{Call}
use Rattle.algo_calls.specs.Ends.{success_of}
use Rattle.algo_calls.specs.Setups.{Setup}
use Rattle.shadow_step.specs.declared.marks.Mark.TheVariants.{Any}
use Rattle.shadow_step.specs.Marks.{is_known, mark_at}
use Rattle.duty_proofs.specs.declared.cells.CellMark.TheVariants.{Holds}
use Rattle.duty_proofs.specs.TargetMarks.{TargetMarks, CellsAgree}
use Rattle.duty_proofs.specs.Decided.{Goes, State, over}
use Rattle.duty_runs.specs.declared.ask.Ask.{Ask}
use Rattle.duty_runs.specs.declared.ask.Task.{Task}
use Rattle.duty_runs.specs.declared.between.Between.{Between}
use Rattle.duty_runs.specs.declared.hand.Hand.{Hand}
use Rattle.duty_runs.specs.declared.step.RunMarks.{RunMarks}
use Rattle.duty_runs.specs.declared.went.Went.{Went}
use Rattle.duty_runs.specs.declared.went.Went.TheVariants as went
use Rattle.duty_runs.specs.Asks.{place_in, before_in, count_in, after_in, own_page}

-- a run leaves this state, over its own cells
pub record Leaves (left : State) (m : TargetMarks) (w : World) : Type 0 where
  pub marks : m ≡ left.marks
  pub world : over w left.world.cells ≡ left.world
  pub cells : length w.cells ≡ length left.world.cells

-- A call from a state, over these cells, makes `steps` steps and leaves a state, and so does every other run of it. The cells of the run at
-- hand are as their marks before the call say.
pub record Decides (s : Setup) (task : Task) (st : State) (c : Call) (bytes : List ℕ) (from many : ℕ) (cells : List ℕ) (steps : ℕ) (left : State) : Type 0 where
  pub goes : Goes s (place_in task from many) st c bytes from (count_in task many) (before_in task many) (after_in task) (Leaves left)
  pub over' : goes.cells ≡ cells
  pub steps' : goes.steps ≡ steps
  pub marked : CellsAgree (own_page bytes) from (before_in task many) cells cells

-- A run is at its end. R0 is the value of success; R0 and the PC are known in every run. No operation is open, the cells have the marks
-- that the task asks for, and this state is left.
pub record Returns (h : Hand) (r : RunMarks) (a : Ask) (left : Between) : Type 0 where
  pub counter : is_known (mark_at r.core PC) ≡ true
  pub value : is_known (mark_at r.core 0) ≡ true
  pub success : slice_index h.calls.machine.core.regs 0 ≡ success_of a.call (length a.bytes.now)
  pub idle : r.target.state.operation ≡ None
  pub from : r.target.from ≡ a.from
  pub all : (k : ℕ) → k < count_in a.task a.many → slice_index_or r.target.cells.items k (Holds Any) ≡ after_in a.task k
  pub ram : left.ram.items ≡ window_of h.arena 0
  pub known : left.known.items ≡ map is_known r.target.ram.items
  pub state : left.state ≡ r.target.state
  pub address : left.address ≡ r.target.address

abbrev pub IfBack : Went → (Between → ℕ → Type 0) → Type 0
IfBack (went.Back left steps) holds = holds left steps
IfBack (went.Undecided pc why) holds = Unit {0}
