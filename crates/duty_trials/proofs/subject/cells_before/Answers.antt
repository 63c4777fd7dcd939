-- `cells_before`: that it keeps its contract, that its loop keeps its invariant, and that its sum fits.
use Rattle.std.proofs.Common.{◌≡◌, ℕ, ap, arith, refl, subst}
use Rattle.board_file.specs.declared.region.Region.{Region}
use Rattle.flash_layout.specs.Areas.{areas_of}
use Rattle.algo_calls.specs.Duties.{cells_before}
use Rattle.duty_trials.proofs.SubjectLemmas.{before_more, region_within}
use Rattle.duty_trials.proofs.subject.cells_before.Goals as goal

pub loop-index-init : goal.loop-index-init
loop-index-init c = refl

pub overflow_add-cells : goal.overflow_add-cells
overflow_add-cells c =
    let r = c.index-regions-index.result in
    omega (arith, region_within c.args.regions.now c.loop-index.index r (omega arith), ap (λ (x : Region). x.size) c.index-regions-index.is)

pub loop-index-preserved : goal.loop-index-preserved
loop-index-preserved c =
    let r = c.index-regions-index.result in
    omega (arith, before_more c.args.regions.now c.loop-index.index r (omega arith), ap (λ (x : Region). x.size) c.index-regions-index.is)

pub returns : goal.returns
returns c =
    let all : c.loop-index.index ≡ c.args.count = omega arith in
    subst (λ (n : ℕ). c.loop-index.cells ≡ cells_before (areas_of c.args.regions.now) n) all c.loop-index.invariant
