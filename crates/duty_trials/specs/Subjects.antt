-- The subject of trials, as contracts name it.
use Rattle.std.specs.Prelude.{◌≡◌, ◌≤◌, ◌+◌}
use Rattle.board_file.specs.Shown.{Shown as BoardShown, shown as board_of}
use Rattle.flm_descriptor.specs.Shown.{Shown as AlgorithmShown, shown as algorithm_of}
use Rattle.algo_calls.specs.Setups.{Setup, setup_of}
use Rattle.algo_calls.specs.Duties.{Site, site_of}
use Rattle.flm_descriptor.specs.Shape.{Range}
use Rattle.duty_trials.specs.declared.subject.Subject.{Subject}
use Rattle.duty_trials.specs.declared.subject.Span.{Span}

abbrev pub board_in : Subject → BoardShown
board_in t = board_of t.board.now

abbrev pub algorithm_in : Subject → AlgorithmShown
algorithm_in t = algorithm_of t.algorithm.now

abbrev pub setup_for : Subject → Setup
setup_for t = setup_of (algorithm_in t) (board_in t)

abbrev pub site_in : Subject → Site
site_in t = site_of (board_in t) (algorithm_in t) t.region

-- a span is a range of the device: its address, and its places among all cells
pub record IsSpan (t : Subject) (r : Range) (span : Span) : Type 0 where
  pub address : span.address ≡ (algorithm_in t).device.base + r.start
  pub from : span.from ≡ (site_in t).start + r.start
  pub to : span.to ≡ (site_in t).start + r.stop
  pub order : span.from ≤ span.to
  pub within : span.to ≤ t.cells
