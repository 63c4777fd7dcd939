-- `read_address`: its contract, `IsAddress`.
use Rattle.std.proofs.Common.{◌≡◌, ◌++◌, codes, rules}
use Rattle.armv6m_asm.proofs.NumberLemmas.{address_of_digits}
use Rattle.armv6m_asm.proofs.number.read_address.Goals as goal

pub returns-in-Some : goal.returns-in-Some
returns-in-Some c =
    let is : c.args.word.now ≡ codes "0x" ++ c.in-Some.digits.now = search rules in
    address_of_digits _ _ _ is c.if-word-ne-ADDRESS_LEN.false c.read_digits.ensures
