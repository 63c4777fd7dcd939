-- What is known of algorithms.
use Rattle.std.specs.Prelude.{◌≡◌, ℕ, Bool, List, slice_get, Some}
use Rattle.board_file.specs.Shown.{Shown as BoardShown}
use Rattle.flm_descriptor.specs.Shown.{Shown as AlgorithmShown}
use Rattle.algo_calls.specs.Duties.{Serves, AllServe}
use Rattle.duty_trials.specs.declared.list.Work.{Work}
use Rattle.duty_trials.specs.declared.list.Turn.{Turn}
use Rattle.duty_trials.specs.Ended.{BreaksAt}
use Rattle.duty_trials.specs.Fits.{IsFit}
use Rattle.duty_rounds.specs.declared.verdict.Broken.{Broken}
use Rattle.duty_rounds.specs.declared.verdict.Verdict.{Verdict}
use Rattle.duty_rounds.specs.declared.verdict.Verdict.TheVariants as verdict

abbrev pub IsBroken : Verdict → Type 0
IsBroken (verdict.Broken broken) = Unit {0}
IsBroken _ = ⊥

-- algorithm number k is one for region number k
pub record AreFit (b : BoardShown) (algorithms : List AlgorithmShown) : Type 0 where
  pub each : (k : ℕ) (a : AlgorithmShown) → slice_get algorithms k ≡ Some a → IsFit b a k

-- ---- one algorithm

-- In a list of such works a call isn't kept, for some set of sectors or pages and some contents. Up to that call the device holds what the
-- ideal device leaves.
pub record Breaks (b : BoardShown) (a : AlgorithmShown) (region : ℕ) (work : Work) (turn : Turn) : Type 0 where
  pub set : List Bool
  pub before : List ℕ
  pub ideal : List ℕ
  pub breaks : BreaksAt b a region work set before ideal turn

-- what a reported breach says of an algorithm
pub record IsBreach (b : BoardShown) (a : AlgorithmShown) (region : ℕ) (broken : Broken) : Type 0 where
  pub region_is : broken.region ≡ region
  pub breaks : Breaks b a region broken.plan.work broken.turn

-- what a verdict after trials says: a breach is real, and trials prove nothing else
abbrev pub SaysTried : BoardShown → AlgorithmShown → ℕ → Verdict → Type 0
SaysTried b a region verdict.Proved = ⊥
SaysTried b a region verdict.Tried = Unit {0}
SaysTried b a region (verdict.Broken broken) = IsBreach b a region broken

-- what a verdict says of an algorithm
abbrev pub Says : BoardShown → AlgorithmShown → ℕ → Verdict → Type 0
Says b a region verdict.Proved = Serves b a region
Says b a region verdict.Tried = Unit {0}
Says b a region (verdict.Broken broken) = IsBreach b a region broken

-- ---- several

-- the verdict of several algorithms together, from that of the ones before and that of one more
abbrev pub beside : Verdict → Verdict → Verdict
beside verdict.Proved own = own
beside verdict.Tried verdict.Proved = verdict.Tried
beside verdict.Tried own = own
beside (verdict.Broken broken) own = verdict.Broken broken

-- a breach of the algorithm of one of the regions
pub record BreaksOne (b : BoardShown) (algorithms : List AlgorithmShown) (broken : Broken) : Type 0 where
  pub algorithm : AlgorithmShown
  pub is : slice_get algorithms broken.region ≡ Some algorithm
  pub breach : IsBreach b algorithm broken.region broken

-- what a verdict says of the algorithms of a board's regions
abbrev pub IsTrueOf : BoardShown → List AlgorithmShown → Verdict → Type 0
IsTrueOf b algorithms verdict.Proved = AllServe b algorithms
IsTrueOf b algorithms verdict.Tried = Unit {0}
IsTrueOf b algorithms (verdict.Broken broken) = BreaksOne b algorithms broken
