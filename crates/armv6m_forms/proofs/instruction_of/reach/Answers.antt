-- `reach`: its contract, `HasNoInstruction`.
use Rattle.armv6m_forms.proofs.AimLemmas.{as_aimed}
use Rattle.armv6m_forms.proofs.instruction_of.reach.Goals as goal

pub returns-in-Branch : goal.returns-in-Branch
returns-in-Branch c = as_aimed c.args.at c.args.target c.args.aim _ _ c.in-Branch.is c.near.ensures

pub returns-in-BranchIf : goal.returns-in-BranchIf
returns-in-BranchIf c = as_aimed c.args.at c.args.target c.args.aim _ _ c.in-BranchIf.is c.short.ensures

pub returns-in-BranchLink : goal.returns-in-BranchLink
returns-in-BranchLink c = as_aimed c.args.at c.args.target c.args.aim _ _ c.in-BranchLink.is c.far.ensures

pub returns-in-Load : goal.returns-in-Load
returns-in-Load c = as_aimed c.args.at c.args.target c.args.aim _ _ c.in-Load.is c.load.ensures

pub returns-in-Address : goal.returns-in-Address
returns-in-Address c = as_aimed c.args.at c.args.target c.args.aim _ _ c.in-Address.is c.address.ensures
