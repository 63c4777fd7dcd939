-- What holds for every geometry.
use Rattle.std.proofs.Common.{◌≡◌, ℕ, ◌+◌, ◌*◌, ◌/◌, ◌%◌, ◌<◌, ◌≤◌, length, arith}
use Rattle.std.proofs.Math.Nat.{mod-add-div'}
use Rattle.flm_descriptor.specs.declared.geometry.Run.{Run}
use Rattle.flm_descriptor.specs.Shape.{cut, pages_of}
use Rattle.flm_descriptor.specs.Laws.{AreCut, IsByDivision, pages_each}
use Rattle.flm_descriptor.proofs.CutLemmas.{cut_at, length-cut, pieces_above, pieces_below}
use Rattle.flm_descriptor.proofs.RunLemmas.{run_find_page, run_page_in}

pub are_cut : (step start stop : ℕ) → 1 ≤ step → AreCut step start stop (cut step start stop)
are_cut step start stop some = record {
  count = length-cut step start stop;
  begins = λ k inside. pieces_below step start stop k some inside;
  all = λ k before. pieces_above step start stop k some before;
  at = λ k inside. cut_at step start stop k inside;
}

pub by_division : (page : ℕ) (run : Run) (q : ℕ) → 1 ≤ page → 1 ≤ run.step → q < length (pages_of page (cut run.step run.start run.stop))
    → IsByDivision page run q
by_division page run q page_some step_some inside =
    let each : ℕ = pages_each page run in
    let found = run_find_page page run.step run.start run.stop page_some step_some q inside in
    let there = run_page_in page run.step run.start run.stop page_some step_some (q / each) (q % each) found.0 found.1 in
    let whole : q / each * each + q % each ≡ q = omega (arith, mod-add-div' q each) in
    record { sector = found.0; number = found.1; is = rw whole at there.1 }
