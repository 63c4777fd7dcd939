-- `short`: its contract, `IsReadAt`.
use Rattle.std.proofs.Common.{ℕ, ap, arith, ◌<◌, ◌^◌}
use Rattle.armv6m_forms.proofs.RowLemmas.{distance}
use Rattle.armv6m_forms.proofs.AimLemmas.{read_short, unread_short}
use Rattle.armv6m_forms.proofs.instruction_of.short.Goals as goal

pub returns-in_err-immediate : goal.returns-in_err-immediate
returns-in_err-immediate c = unread_short c.args.condition c.args.at c.args.target _ _ (ap (λ (p : ℕ). distance p c.args.target) c.pc_at.ensures)
    c.in_err-immediate.ensures c.from_residual.ensures

pub returns : goal.returns
returns c =
    let within : c.args.target < 2 ^ 32 = omega arith in
    read_short c.args.condition c.args.at c.args.target _ c.in_ok-immediate.immediate _ within (ap (λ (p : ℕ). distance p c.args.target) c.pc_at.ensures)
    c.in_ok-immediate.ensures c.fitting.ensures
