-- `gather_sectors`: its contract, `Gathers`, and that its loop keeps its invariant.
use Rattle.std.proofs.Common.{arith, ap, ◌≡◌, ℕ}
use Rattle.std.specs.Prelude.{codes, length}
use Rattle.report_text.specs.Plan.{texts_below, member_text, set_text}
use Rattle.outside_io.proofs.GatherLemmas.{gathers_as, gathers_failed}
use Rattle.report_text.proofs.PlanLemmas.{gathers_none, gathers_next, gathers_broken}
use Rattle.report_text.proofs.plan.gather_sectors.Goals as goal

pub loop-index-init : goal.loop-index-init
loop-index-init g c = gathers_none (member_text (codes "erase") c.args.base c.args.geometry.now.sectors c.args.plan.now.made.sectors) _ _ _ _

pub loop-index-preserved : goal.loop-index-preserved
loop-index-preserved g c =
    gathers_next (member_text (codes "erase") c.args.base c.args.geometry.now.sectors c.args.plan.now.made.sectors) _ c.loop-index.invariant
    c.in_ok-gather_sector.ensures

pub returns-in_err-gather_sector : goal.returns-in_err-gather_sector
unfolding set_text
returns-in_err-gather_sector g c = gathers_failed _ c.from_residual.ensures.0
    (gathers_broken (member_text (codes "erase") c.args.base c.args.geometry.now.sectors c.args.plan.now.made.sectors) c.loop-index.index
    (length c.args.geometry.now.sectors)
    (omega arith) c.loop-index.invariant c.in_err-gather_sector.ensures)

pub returns : goal.returns
unfolding set_text
returns g c =
    gathers_as (ap (λ (n : ℕ). texts_below n (member_text (codes "erase") c.args.base c.args.geometry.now.sectors c.args.plan.now.made.sectors))
    (let e : c.loop-index.index ≡ length c.args.geometry.now.sectors = omega arith in e)) c.loop-index.invariant
