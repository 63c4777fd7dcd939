-- `Stand::try_work`: its clause `tries`, and what the call of each work asks for.
use Rattle.std.proofs.Common.{◌<◌, subst}
use Rattle.algo_calls.specs.Duties.{part}
use Rattle.duty_trials.specs.declared.list.Work.{Work}
use Rattle.duty_trials.specs.declared.list.Work.TheVariants as work
use Rattle.duty_trials.specs.Lists.{count_of, HasFunction, MayWork}
use Rattle.duty_trials.specs.Stands.{setup_in, state_in, world_in}
use Rattle.duty_trials.specs.Subjects.{algorithm_in, setup_for, site_in}
use Rattle.duty_trials.proofs.WorkLemmas.{for_work}
use Rattle.duty_trials.proofs.stand.Stand.try_work.Goals as goal

pub try_sector-requires-clause-number : goal.try_sector-requires-clause-number
try_sector-requires-clause-number c = subst (λ (w : Work). c.args.number < count_of (site_in c.args.subject.now).layout w) c.in-Sectors.is c.requires.number

pub try_chip-requires-clause-function : goal.try_chip-requires-clause-function
try_chip-requires-clause-function c = subst (λ (w : Work). HasFunction (algorithm_in c.args.subject.now).entries w) c.in-Chip.is c.requires.function

pub try_page-requires-clause-number : goal.try_page-requires-clause-number
try_page-requires-clause-number c = subst (λ (w : Work). c.args.number < count_of (site_in c.args.subject.now).layout w) c.in-Pages.is c.requires.number

pub try_page-requires-clause-empty : goal.try_page-requires-clause-empty
try_page-requires-clause-empty c =
    subst (λ (w : Work). MayWork (setup_for c.args.subject.now) (site_in c.args.subject.now) c.args.ideal.now w c.args.number) c.in-Pages.is c.requires.may

pub try_check-requires-clause-number : goal.try_check-requires-clause-number
try_check-requires-clause-number c = subst (λ (w : Work). c.args.number < count_of (site_in c.args.subject.now).layout w) c.in-Checks.is c.requires.number

pub try_check-requires-clause-function : goal.try_check-requires-clause-function
try_check-requires-clause-function c = subst (λ (w : Work). HasFunction (algorithm_in c.args.subject.now).entries w) c.in-Checks.is c.requires.function

pub returns-in-Sectors-clause-tries : goal.returns-in-Sectors-clause-tries
returns-in-Sectors-clause-tries c =
    let site = site_in c.args.subject.now in
    for_work (setup_in c.args.self.now) (setup_for c.args.subject.now) site work.Sectors c.args.work (part site c.try_sector.new.ideal) c.args.number
    c.args.ideal.now
    c.try_sector.new.ideal (world_in c.args.self.now) (world_in c.try_sector.new.self) (state_in c.try_sector.new.self).operation c.try_sector.result
    c.in-Sectors.is
    c.try_sector.ensures.tries

pub returns-in-Chip-clause-tries : goal.returns-in-Chip-clause-tries
returns-in-Chip-clause-tries c =
    let site = site_in c.args.subject.now in
    for_work (setup_in c.args.self.now) (setup_for c.args.subject.now) site work.Chip c.args.work (part site c.try_chip.new.ideal) c.args.number
    c.args.ideal.now
    c.try_chip.new.ideal (world_in c.args.self.now) (world_in c.try_chip.new.self) (state_in c.try_chip.new.self).operation c.try_chip.result c.in-Chip.is
    c.try_chip.ensures.tries

pub returns-in-Pages-clause-tries : goal.returns-in-Pages-clause-tries
returns-in-Pages-clause-tries c =
    let site = site_in c.args.subject.now in
    for_work (setup_in c.args.self.now) (setup_for c.args.subject.now) site work.Pages c.args.work (part site c.try_page.new.ideal) c.args.number
    c.args.ideal.now
    c.try_page.new.ideal (world_in c.args.self.now) (world_in c.try_page.new.self) (state_in c.try_page.new.self).operation c.try_page.result c.in-Pages.is
    c.try_page.ensures.tries

pub returns-in-Checks-clause-tries : goal.returns-in-Checks-clause-tries
returns-in-Checks-clause-tries c =
    let site = site_in c.args.subject.now in
    for_work (setup_in c.args.self.now) (setup_for c.args.subject.now) site work.Checks c.args.work (part site c.args.ideal.now) c.args.number c.args.ideal.now
    c.args.ideal.now (world_in c.args.self.now) (world_in c.try_check.new.self) (state_in c.try_check.new.self).operation c.try_check.result c.in-Checks.is
    c.try_check.ensures.tries
