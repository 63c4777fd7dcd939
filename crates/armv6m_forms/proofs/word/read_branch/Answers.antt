-- `read_branch`: its clauses `some` and `branch`.
use Rattle.armv6m_forms.proofs.word.read_branch.Goals as goal

pub returns-in_err-condition-clause-some : goal.returns-in_err-condition-clause-some
returns-in_err-condition-clause-some c = rw c.from_residual.ensures tt

pub returns-in_err-condition-clause-branch : goal.returns-in_err-condition-clause-branch
returns-in_err-condition-clause-branch c = rw c.from_residual.ensures tt
