-- States of a board's target between calls, and what one run shows of a call from such a state.
use Rattle.std.specs.Prelude.{◌≡◌, ℕ, List, length, replicate}
use Rattle.flash_layout.specs.Areas.{cells_in}
use Rattle.flash_layout.specs.Maps.{board_map}
use Rattle.board_file.specs.Shown.{Shown as BoardShown}
use Rattle.duty_proofs.specs.Decided.{State}
use Rattle.duty_trials.specs.declared.subject.Subject.{Subject}
use Rattle.duty_trials.specs.Subjects.{board_in, setup_for}
use Rattle.duty_runs.specs.declared.ask.Ask.{Ask}
use Rattle.duty_runs.specs.declared.between.Between.{Between}
use Rattle.duty_runs.specs.Runs.{Decides}
use Rattle.duty_runs.specs.States.{state_of}

-- A state of the code as a state of the table, over cells that are all 0: the marks say nothing of the cells between calls.
abbrev pub state_in : BoardShown → Between → State
state_in b t = state_of b.ram_base (board_map b) (replicate (cells_in (board_map b).areas) 0) t

-- One run of a call from the state `st`, over some cells of the board, decides that every run of the call leaves the state `left`.
pub record RunsTo (t : Subject) (a : Ask) (st left : Between) : Type 0 where
  pub cells : List ℕ
  pub steps : ℕ
  pub long : length cells ≡ cells_in (board_map (board_in t)).areas
  pub decides : Decides (setup_for t) a.task (state_in (board_in t) st) a.call a.bytes.now a.from a.many cells steps (state_in (board_in t) left)
