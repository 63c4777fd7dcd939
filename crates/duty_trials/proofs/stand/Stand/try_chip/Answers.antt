-- `Stand::try_chip`: its clause `tries`, and what `step` requires.
use Rattle.duty_trials.specs.Stands.{setup_in, state_in, world_in}
use Rattle.duty_trials.specs.Subjects.{setup_for}
use Rattle.duty_trials.proofs.WorkLemmas.{may_chip, chip_tries}
use Rattle.duty_trials.proofs.stand.Stand.try_chip.Goals as goal

pub step-requires-clause-may : goal.step-requires-clause-may
step-requires-clause-may c = may_chip (setup_in c.args.self.now) (setup_for c.args.subject.now) c.requires.setup c.requires.function

pub returns-clause-tries : goal.returns-clause-tries
returns-clause-tries c =
    chip_tries c.args.subject.now c.whole-span.result (setup_in c.args.self.now) c.args.ideal.now c.fill.new.cells (world_in c.args.self.now)
    (world_in c.step.new.self) (state_in c.step.new.self).operation c.step.result
    c.requires.setup c.requires.cells c.requires.long c.whole-span.ensures c.fill.ensures.only c.fill.ensures.inside
    c.step.ensures.broken c.step.ensures.world c.step.ensures.cells c.step.ensures.idle c.step.ensures.bytes
