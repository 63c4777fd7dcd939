-- `Hand::advance`: its clause `goes`.
use Rattle.std.proofs.Common.{◌≡◌, ◌∙◌, ap, refl, arith}
use Rattle.std.proofs.lemmas.Grind.{common_steps}
use Rattle.bench_model.specs.Shown.{bench_of}
use Rattle.target_core.specs.declared.run.RunEnd.{RunEnd}
use Rattle.target_core.specs.declared.run.SliceEnd.TheVariants as slice
use Rattle.duty_runs.proofs.HandLemmas.{more_advances, return_advances}
use Rattle.duty_runs.proofs.hand.Hand.advance.Goals as goal

pub returns-in-More-clause-goes : goal.returns-in-More-clause-goes
returns-in-More-clause-goes c =
    more_advances _ _ _ _ (bench_of c.args.bench.now) (bench_of c.slice.new.bench) _ c.in-More.is (c.slice.ensures.run refl)

pub returns-in-Ended-Returned-clause-goes : goal.returns-in-Ended-Returned-clause-goes
returns-in-Ended-Returned-clause-goes c =
    let one : c.slice.new.left ≡ 1 = grind (arith, common_steps) in
    return_advances _ _ c.in-Ended-Returned.field-0-0 _ _ (bench_of c.args.bench.now) (bench_of c.slice.new.bench) _
    (c.in-Ended-Returned.is ∙ ap (λ (e : RunEnd). slice.Ended e) c.in-Ended-Returned.field-0-is) one (c.slice.ensures.run refl)
