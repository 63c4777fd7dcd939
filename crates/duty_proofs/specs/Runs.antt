-- What one run of a call shows, and what fits the marks between calls.
use Rattle.std.specs.Prelude.{◌≡◌, ◌≤◌, ◌+◌, ◌-◌, ℕ, true, false, List, [], length, slice_index, slice_index_or, Option, None}
use Rattle.armv6m_decode.specs.declared.registers.TheConstants.{PC}
use Rattle.armv6m_step.specs.Registers.{pc_of}
use Rattle.target_core.specs.declared.unit.AnyRegisters.{AnyRegisters}
use Rattle.target_core.specs.Units.{state_op}
use Rattle.target_core.specs.World.{World}
use Rattle.target_core.specs.Path.{Point, whole}
use Rattle.algo_calls.specs.declared.call.Call.{Call}
use Rattle.algo_calls.specs.Ends.{success_of}
use Rattle.algo_calls.specs.Setups.{Setup}
use Rattle.algo_calls.specs.Frames.{asked, fuel_of, first_point}
use Rattle.shadow_step.specs.declared.marks.Mark.TheVariants.{Known, Any}
use Rattle.shadow_step.specs.Marks.{Pages, ArePages, is_known, mark_at}
use Rattle.shadow_step.specs.Shadow.{Marks}
use Rattle.duty_proofs.specs.Lockstep.{PointAgrees, RunAgrees}
use Rattle.duty_proofs.specs.declared.cells.CellMark.{CellMark}
use Rattle.duty_proofs.specs.TargetMarks.{TargetMarks, TargetAgrees, Alike}
use Rattle.duty_proofs.specs.Starts.{all_known, started}

-- The run at hand returned with the value of success and no open operation, and by its marks so does every other run.
pub record Back (setup : Setup) (x : Point) (r : Marks TargetMarks) (wanted : ℕ) : Type 0 where
  pub counter : is_known (mark_at r.core PC) ≡ true
  pub value : is_known (mark_at r.core 0) ≡ true
  pub here : pc_of x.core ≡ setup.layout.return_at
  pub success : slice_index x.core.regs 0 ≡ wanted
  pub idle : state_op x.world.state ≡ None
  pub none : r.bus.state.operation ≡ None

abbrev pub start_marks : Setup → TargetMarks → ℕ → ℕ → List CellMark → Marks TargetMarks
start_marks s m n from cells = record { core = all_known; bus = started m (s.layout.buffer_at - s.layout.return_at) n from cells }

-- One run of a call, from a target with marks between calls, returned within its fuel after n steps. So does every other run of the call,
-- with any bytes and from every target that fits the marks. It opens operations only in the place, and the last marks hold of both.
pub record Ran (s : Setup) (place : Option (ℕ × ℕ)) (m : TargetMarks) (w : World) (c : Call) (bytes : List ℕ) (from : ℕ) (cells : List CellMark) (n : ℕ)
    (r : Marks TargetMarks) : Type 0 where
  pub alike : (p : Pages) (w' : World) → ArePages p → p.here ≡ bytes → length p.there ≡ length p.here
      → PointAgrees p (TargetAgrees p) (start_marks s m (length p.here) from cells) (first_point s w (asked c p.here)) (first_point s w' (asked c p.there))
      → RunAgrees p (TargetAgrees p) s.layout.return_at place (first_point s w (asked c p.here)) (first_point s w' (asked c p.there)) n r
  pub within : n ≤ fuel_of s c
  pub back : Back s (whole (first_point s w (asked c bytes)) n) r (success_of c (length bytes))
  pub room : s.layout.buffer_at - s.layout.return_at + length bytes ≤ length m.ram

-- an empty page, in both runs
abbrev pub no_page : Pages
no_page = record { here = []; there = [] }

-- a target fits the marks of the target at hand between calls
abbrev pub FitsMarks : TargetMarks → World → World → Type 0
FitsMarks m w x = TargetAgrees no_page m w x

-- Each target that fits the first marks also fits the second, which say no more.
pub record Weakens (m : TargetMarks) (w : World) (m' : TargetMarks) (w' : World) : Type 0 where
  pub base : m'.base ≡ m.base
  pub map : m'.map ≡ m.map
  pub many : length m'.ram ≡ length m.ram
  pub long : length w'.ram ≡ length w.ram
  pub base' : w'.ram_base ≡ w.ram_base
  pub map' : w'.map ≡ w.map
  pub ram : (k : ℕ) → (slice_index_or m'.ram k Any ≡ Known → (slice_index_or m.ram k Any ≡ Known) × (slice_index w.ram k ≡ slice_index w'.ram k))
  pub plain : (k : ℕ) → (is_known (slice_index_or m'.ram k Any) ≡ false → slice_index_or m'.ram k Any ≡ Any)
  pub state : w'.state ≡ m'.state
  pub registers : (r : AnyRegisters) → Alike m.address m.state.registers r → Alike m'.address m'.state.registers r
  pub idle : m.state.operation ≡ None
  pub idle' : m'.state.operation ≡ None
  pub cells : length w'.cells ≡ length w.cells
  pub none : (m'.from ≡ 0) × (m'.cells ≡ [])
