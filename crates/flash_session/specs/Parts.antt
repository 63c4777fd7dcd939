-- The player that a session gives up to its caller.
use Rattle.std.specs.Prelude.{◌≡◌, ◌<◌, ◌+◌, ◌^◌, ℕ, List, replicate}
use Rattle.board_file.specs.Shown.{shown as board_of}
use Rattle.board_file.specs.Limits.{size_of}
use Rattle.job_text.specs.Said.{algorithms_shown}
use Rattle.job_text.specs.declared.job.Job.{Job}
use Rattle.target_core.specs.Units.{unit_cells}
use Rattle.target_core.specs.Windows.{window_of}
use Rattle.algo_calls.specs.Shows.{world_at}
use Rattle.flash_session.specs.declared.cursor.Cursor.TheVariants as at
use Rattle.flash_session.specs.declared.cursor.Place.TheVariants as place
use Rattle.flash_session.specs.declared.phase.Phase.TheVariants as stage
use Rattle.flash_session.specs.declared.player.Player.{Player}
use Rattle.flash_session.specs.Fit.{calls_ahead, legs_of, IsScripted}
use Rattle.flash_session.specs.Regions.{First}
use Rattle.flash_session.specs.Rest.{all_legs}
use Rattle.flash_session.specs.Sessions.{legs_for as session_legs}
use Rattle.flash_session.specs.Starts.{start_of}
use Rattle.flash_session.specs.Surveys.{Surveyed}
use Rattle.flash_session.specs.Targets.{setup_now, legs_for, size_for}

-- A player of the script that a survey of a job planned, before its first move. With a RAM of zeros its machine is the board's target after
-- a reset.
pub record IsPlayerOf (j : Job) (w : Surveyed) (p : Player) : Type 0 where
  pub place : p.place ≡ place.At (at.Begin First stage.Erase)
  pub made : p.made ≡ 0
  pub goal : p.work.goal ≡ w.goal
  pub scripted : IsScripted p
  pub size : size_of j.board.regions ≡ size_for p
  pub some : 0 < size_for p
  pub cells : unit_cells p.calls.machine.unit ≡ size_of j.board.regions
  pub ram : (setup_now p).ram_size ≡ j.board.ram_size
  pub legs : (goal : List ℕ) → all_legs (legs_for p goal) ≡ session_legs (board_of j.board) 0 (algorithms_shown j.algorithms) goal w.regions
  pub starts : (windows : List (List ℕ)) (i : ℕ) (cells : List ℕ) → window_of windows i ≡ replicate j.board.ram_size 0
      → world_at p.calls windows i cells ≡ start_of (board_of j.board) cells
  pub room : p.made + calls_ahead (legs_of p) p.place < 2 ^ 32
