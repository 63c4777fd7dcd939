-- `read_device`: that it keeps its contract, what `le32` requires, that no number overflows, and that each place is inside.
use Rattle.std.proofs.lemmas.Grind.{common_steps}
use Rattle.std.proofs.Common.{◌≡◌, ◌+◌, length, false, ltb, refl, arith}
use Rattle.std.proofs.lemmas.Bool.{le-ltb}
use Rattle.flm_descriptor.specs.Described.{device_of, fields_at}
use Rattle.flm_descriptor.proofs.DescribedLemmas.{name_part}
use Rattle.flm_descriptor.proofs.read.read_device.Goals as goal

pub returns-clause-device : goal.returns-clause-device
unfolding device_of fields_at
returns-clause-device c =
    let long : ltb (length c.args.bytes.now) (c.args.at + 160) ≡ false = le-ltb _ _ c.if-bytes-at.false in
    rw (
      long,
      c.in_ok-name.ensures,
      c.before_zero.ensures,
      name_part c.args.bytes.now c.args.at,
      c.le16.ensures,
      c.le16-2.ensures,
      c.le32.ensures,
      c.le32-2.ensures,
      c.le32-3.ensures,
      c.le32-4.ensures,
      c.le32-5.ensures,
      c.le32-6.ensures,
    )
    refl

pub le32-requires-4 : goal.le32-requires-4
le32-requires-4 c = grind (arith, common_steps)

pub overflow_add-result : goal.overflow_add-result
overflow_add-result c = grind (arith, common_steps)

pub le32-requires-5 : goal.le32-requires-5
le32-requires-5 c = grind (arith, common_steps)

pub overflow_add-at-10 : goal.overflow_add-at-10
overflow_add-at-10 c = grind (arith, common_steps)

pub le32-requires-3 : goal.le32-requires-3
le32-requires-3 c = grind (arith, common_steps)

pub bounds-bytes-at : goal.bounds-bytes-at
bounds-bytes-at c = grind (arith, common_steps)

pub returns-clause-long : goal.returns-clause-long
returns-clause-long c = grind (arith, common_steps)

pub le32-requires-6 : goal.le32-requires-6
le32-requires-6 c = grind (arith, common_steps)

pub overflow_add-at-7 : goal.overflow_add-at-7
overflow_add-at-7 c = grind (arith, common_steps)

pub overflow_add-at-9 : goal.overflow_add-at-9
overflow_add-at-9 c = grind (arith, common_steps)

pub overflow_add-at-8 : goal.overflow_add-at-8
overflow_add-at-8 c = grind (arith, common_steps)
