-- `address`: its contract, `IsReadAt`.
use Rattle.std.proofs.Common.{refl, arith, ◌<◌, ◌^◌}
use Rattle.armv6m_forms.proofs.AimLemmas.{read_address, unread_address}
use Rattle.armv6m_forms.proofs.instruction_of.address.Goals as goal

pub returns-in_err-immediate : goal.returns-in_err-immediate
returns-in_err-immediate c = unread_address c.args.d c.args.at c.args.target _ _ refl c.in_err-immediate.ensures c.from_residual.ensures

pub returns : goal.returns
returns c =
    let within : c.args.target < 2 ^ 32 = omega arith in
    read_address c.args.d c.args.at c.args.target _ c.in_ok-immediate.immediate _ within refl c.in_ok-immediate.ensures c.fitting.ensures
