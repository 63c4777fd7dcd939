-- `Stand::try_check`: its clause `tries`, and what `step` requires.
use Rattle.std.proofs.Common.{◌-◌, take, drop, refl}
use Rattle.duty_trials.specs.Stands.{setup_in, state_in, world_in}
use Rattle.duty_trials.specs.Subjects.{setup_for}
use Rattle.duty_trials.proofs.SubjectLemmas.{taken_short}
use Rattle.duty_trials.proofs.WorkLemmas.{may_check, check_tries}
use Rattle.duty_trials.proofs.stand.Stand.try_check.Goals as goal

pub step-requires-clause-may : goal.step-requires-clause-may
step-requires-clause-may c =
    let span = c.page-span.result in
    may_check (setup_in c.args.self.now) (setup_for c.args.subject.now) span.address (take (span.to - span.from) (drop span.from c.args.ideal.now))
    c.requires.setup
    c.requires.function (taken_short c.args.subject.now c.args.number span c.args.ideal.now c.requires.number c.page-span.ensures)

pub returns-clause-tries : goal.returns-clause-tries
returns-clause-tries c =
    let span = c.page-span.result in
    check_tries c.args.subject.now c.args.number span (setup_in c.args.self.now) c.args.ideal.now (take (span.to - span.from) (drop span.from c.args.ideal.now))
    (world_in c.args.self.now) (world_in c.step.new.self) (state_in c.step.new.self).operation c.step.result
    c.requires.cells c.requires.long c.requires.number c.page-span.ensures refl
    c.step.ensures.broken c.step.ensures.world c.step.ensures.cells c.step.ensures.idle c.step.ensures.bytes
