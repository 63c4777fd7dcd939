-- `add_broken`: what `Subject::new` requires.
use Rattle.std.proofs.Common.{◌≡◌, ap, subst, arith, List, map, length, slice_get, Some}
use Rattle.flm_descriptor.specs.declared.algorithm.Algorithm.{Algorithm}
use Rattle.flm_descriptor.specs.Shown.{shown as algorithm_of}
use Rattle.duty_rounds.proofs.RoundLemmas.{got_map}
use Rattle.flm_check.proofs.details.add_broken.Goals as goal

pub new-requires : goal.new-requires
new-requires c =
    let checked = c.args.checked.now in
    let region = c.args.broken.now.region in
    let algorithm = c.index-algorithms-region.result in
    let value = c.as_slice-algorithms.ensures.value in
    c.requires.fit.each region (algorithm_of algorithm)
    (subst (λ (l : List Algorithm). slice_get (map algorithm_of l) region ≡ Some (algorithm_of algorithm)) value
    (got_map algorithm_of c.as_slice-algorithms.result.now region algorithm (omega (arith, ap length value, checked.algorithms.ok.0, c.requires.inside))
    c.index-algorithms-region.is))
