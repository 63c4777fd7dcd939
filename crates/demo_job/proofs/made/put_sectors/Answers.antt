-- `put_sectors`: its clause `state`, and that its loop keeps its invariant.
use Rattle.std.proofs.Common.{◌≡◌, ℕ, sym, subst, arith}
use Rattle.demo_job.specs.Made.{after_sectors}
use Rattle.demo_job.proofs.MadeLemmas.{begin_sectors, more_sectors, more_after, not_after_sectors}
use Rattle.demo_job.proofs.made.put_sectors.Goals as goal

pub loop-sector-init : goal.loop-sector-init
loop-sector-init c = record { bytes = begin_sectors c.args.cells.now.items c.args.draws.now.state; state = sym (not_after_sectors c.args.draws.now.state) }

pub loop-sector-preserved : goal.loop-sector-preserved
loop-sector-preserved c = record {
  bytes = more_sectors c.loop-sector._sector c.args.draws.now.state c.loop-sector.draws.state c.args.cells.now.items c.loop-sector.cells.items
      c.put_sector.new.cells.items
      c.loop-sector.invariant.state c.loop-sector.invariant.bytes c.in_ok-put_sector.ensures.bytes;
  state = more_after c.loop-sector._sector c.args.draws.now.state c.loop-sector.draws.state c.put_sector.new.draws.state c.loop-sector.invariant.state
      c.in_ok-put_sector.ensures.state;
}

pub returns-clause-state : goal.returns-clause-state
returns-clause-state c =
    subst (λ (n : ℕ). c.loop-sector.draws.state ≡ after_sectors n c.args.draws.now.state) (omega arith) c.loop-sector.invariant.state
