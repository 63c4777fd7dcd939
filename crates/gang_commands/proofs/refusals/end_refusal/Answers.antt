-- `end_refusal`: its contract.
use Rattle.std.proofs.Common.{ap, refl, ℕ, Some, arith}
use Rattle.std.proofs.lemmas.Grind.{common_steps}
use Rattle.report_text.specs.Refusal.{Refusal, mismatch}
use Rattle.gang_commands.proofs.refusals.end_refusal.Goals as goal

pub returns-in-Open : goal.returns-in-Open
returns-in-Open c = rw c.in-Open.is (ap (λ (r : Refusal). Some r) c.session_refusal.ensures)

pub returns-in-Done : goal.returns-in-Done
returns-in-Done c = rw c.in-Done.is refl

pub returns-in-CallFailed : goal.returns-in-CallFailed
returns-in-CallFailed c = rw c.in-CallFailed.is refl

pub returns-in-StoreFault : goal.returns-in-StoreFault
returns-in-StoreFault c = rw c.in-StoreFault.is refl

pub returns-in-DeviceFault : goal.returns-in-DeviceFault
returns-in-DeviceFault c = rw c.in-DeviceFault.is refl

pub returns-in-Mismatch : goal.returns-in-Mismatch
returns-in-Mismatch c =
    let d = c.in-Mismatch.difference in
    rw c.in-Mismatch.is (ap (λ (at : ℕ). Some (mismatch at d.want d.got)) c.address_of.ensures)

pub returns-in-Survey : goal.returns-in-Survey
returns-in-Survey c = rw c.in-Survey.is (grind (arith, common_steps))
