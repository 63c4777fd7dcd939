-- `judge`: what holds at each turn of its loop.
use Rattle.std.proofs.Common.{◌≡◌, [], ◌∷◌, map}
use Rattle.board_file.specs.Shown.{shown as board_of}
use Rattle.flm_descriptor.specs.Shown.{Shown as AlgorithmShown, shown as algorithm_of}
use Rattle.serve_law.specs.Table.{IsA1On}
use Rattle.duty_rounds.specs.declared.verdict.Verdict.TheVariants as verdict
use Rattle.duty_rounds.proofs.RoundLemmas.{SoFar}
use Rattle.duty_rounds.proofs.rounds.judge.Given as goal

abbrev pub invariant-loop-region : goal.invariant-loop-region
invariant-loop-region g l = record {
  so_far : SoFar (board_of l.board) (map algorithm_of l.algorithms) l.region l.verdict;
  proved : (a : AlgorithmShown) → map algorithm_of l.algorithms ≡ a ∷ [] → IsA1On (board_of l.board) a → l.verdict ≡ verdict.Proved;
}
