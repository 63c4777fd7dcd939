-- `without_blanks`: its clauses `same` and `first`.
use Rattle.std.proofs.Common.{ap, ◌∙◌}
use Rattle.armv6m_asm.specs.Token.{tokens_of}
use Rattle.armv6m_asm.proofs.TokenLemmas.{tokens_of-blanks, first_behind_blanks, lent_rest}
use Rattle.armv6m_asm.proofs.token.without_blanks.Goals as goal

pub returns-clause-same : goal.returns-clause-same
returns-clause-same c =
    ap tokens_of (lent_rest c.args.line.now c.blank_len.result) ∙ rw c.blank_len.ensures.len (tokens_of-blanks c.args.line.now)

pub returns-clause-first : goal.returns-clause-first
returns-clause-first c =
    rw (lent_rest c.args.line.now c.blank_len.result, c.blank_len.ensures.len) (first_behind_blanks c.args.line.now)
