-- `lies_in`: its contract, `LiesIn`.
use Rattle.std.proofs.Common.{IsTrue, Bool, ◌↔◌, sym, subst}
use Rattle.job_text.specs.Fits.{LiesIn}
use Rattle.job_text.proofs.FitLemmas.{lies_exactly}
use Rattle.job_text.proofs.fit.lies_in.Goals as goal

pub returns : goal.returns
returns c =
    subst (λ (b : Bool). IsTrue b ↔ LiesIn c.args.regions.now c.args.image.now) (sym c.all_covered.ensures)
    (lies_exactly c.args.regions.now c.args.image.now c.requires c.runs-count.ensures.maximal)
