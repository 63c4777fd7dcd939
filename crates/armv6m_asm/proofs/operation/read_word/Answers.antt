-- `read_word`: its contract, `Are`.
use Rattle.std.proofs.lemmas.Grind.{common_steps}
use Rattle.std.proofs.Common.{◌≡◌, codes, rules, arith}
use Rattle.armv6m_asm.proofs.StatementLemmas.{value_exact}
use Rattle.armv6m_asm.proofs.operation.read_word.Goals as goal

pub returns-then-is_end : goal.returns-then-is_end
returns-then-is_end c =
    let is : c.args.first.now ≡ codes ".word" = search rules in
    value_exact _ _ _ _ _ is c.in_ok-bytes.ensures (c.is_end.ensures.0 c.if-is_end.true) c.read_number.ensures

pub returns-else-is_end : goal.returns-else-is_end
returns-else-is_end c = grind (arith, common_steps)

pub returns-in_err-bytes : goal.returns-in_err-bytes
returns-in_err-bytes c = grind (arith, common_steps)

pub returns-then-ne : goal.returns-then-ne
returns-then-ne c = grind (arith, common_steps)
