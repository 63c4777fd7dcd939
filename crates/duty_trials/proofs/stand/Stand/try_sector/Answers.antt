-- `Stand::try_sector`: its clause `tries`.
use Rattle.duty_trials.specs.Stands.{setup_in, state_in, world_in}
use Rattle.duty_trials.proofs.WorkLemmas.{sector_tries}
use Rattle.duty_trials.proofs.stand.Stand.try_sector.Goals as goal

pub returns-clause-tries : goal.returns-clause-tries
returns-clause-tries c =
    sector_tries c.args.subject.now c.args.number c.sector-span.result (setup_in c.args.self.now) c.args.ideal.now c.fill.new.cells (world_in c.args.self.now)
    (world_in c.step.new.self) (state_in c.step.new.self).operation c.step.result
    c.requires.setup c.requires.cells c.requires.long c.requires.number c.sector-span.ensures c.fill.ensures.only c.fill.ensures.inside
    c.step.ensures.broken c.step.ensures.world c.step.ensures.cells c.step.ensures.idle c.step.ensures.bytes
