-- `Stand::make`: its clause `gives`, that a number fits its type, and that an arm is never reached.
use Rattle.std.proofs.lemmas.Grind.{common_steps}
use Rattle.std.proofs.Common.{refl, subst, arith}
use Rattle.bench_model.specs.Shown.{bench_of}
use Rattle.target_core.specs.Targets.{SliceFrom}
use Rattle.target_core.specs.declared.run.SliceEnd.{SliceEnd}
use Rattle.algo_calls.specs.Frames.{asked}
use Rattle.algo_calls.specs.Shows.{point_at}
use Rattle.duty_trials.specs.Stands.{setup_in, state_in, world_in}
use Rattle.duty_trials.proofs.MakeLemmas.{made}
use Rattle.duty_trials.proofs.stand.Stand.make.Goals as goal

pub returns-clause-gives : goal.returns-clause-gives
returns-clause-gives c =
    made (setup_in c.args.self.now) (world_in c.args.self.now) (asked c.args.call.now c.args.bytes.now) _ _ _ _ _ c.args.self.now.bench.inner
    c.slice.new.bench.inner _ _
    (c.prepare-fuel.ensures.first c.args.self.now.bench.inner.cells.items) c.prepare-fuel.ensures.return_at c.prepare-fuel.ensures.fuel
    c.end_of.ensures
    (subst (λ (x : SliceEnd). SliceFrom c.prepare-fuel.new.self.machine.return_at
    (point_at c.prepare-fuel.new.self c.prepare-fuel.new.arena 0 c.args.self.now.bench.inner.cells.items) (state_in c.args.self.now) c.prepare-fuel.result
    c.slice.new.left
    c.prepare-fuel.result x (point_at c.slice.new.self c.slice.new.arena 0 c.slice.new.bench.inner.cells.items) (bench_of c.slice.new.bench.inner))
    c.in-Ended.is
    (c.slice.ensures.run refl))

pub overflow_cast-bytes : goal.overflow_cast-bytes
overflow_cast-bytes c = grind (arith, common_steps)

pub unreachable-requires : goal.unreachable-requires
unreachable-requires c = grind (arith, common_steps)
