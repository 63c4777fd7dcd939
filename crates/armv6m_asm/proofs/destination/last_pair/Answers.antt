-- `last_pair`: its contract, `Are`.
use Rattle.std.proofs.lemmas.Grind.{common_steps}
use Rattle.std.proofs.Common.{rules, [], ◌∷◌, ℕ, arith}
use Rattle.armv6m_asm.specs.Token.{tokens_of}
use Rattle.armv6m_asm.specs.Statement.{Are, low_register, comma, destination}
use Rattle.armv6m_asm.specs.declared.statement.Destination.{Destination}
use Rattle.armv6m_asm.proofs.StatementLemmas.{no_pair}
use Rattle.armv6m_asm.proofs.destination.last_pair.Goals as goal

pub returns-in_err-to : goal.returns-in_err-to
returns-in_err-to c =
    let none : (t : ℕ) (to : Destination) → Are (low_register t ∷ comma ∷ destination to ∷ []) (tokens_of c.args.line.now) → ⊥ =
    no_pair _ _ _ _ c.in_ok-register.ensures.1.1 c.in_ok-skip_mark.ensures c.in_err-to.ensures in
    search rules

pub returns : goal.returns
returns c = grind (arith, common_steps)
