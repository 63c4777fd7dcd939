-- `add_operation`: that it keeps its contract.
use Rattle.std.proofs.Common.{refl}
use Rattle.std.specs.Int.{w32, to_le_bytes}
use Rattle.armv6m_asm.specs.Assembly.{padding}
use Rattle.armv6m_asm.proofs.code.add_operation.Goals as goal

pub returns-in_ok-add_instr-in-Plain-clause-ok : goal.returns-in_ok-add_instr-in-Plain-clause-ok
returns-in_ok-add_instr-in-Plain-clause-ok c =
    let adds = c.in_ok-add_instr-in-Plain.ensures in
    rw c.in-Plain.is (record { own = adds.own; added = adds.added; long = adds.long; bytes = adds.code })

pub returns-in_ok-add-in-Word-clause-ok : goal.returns-in_ok-add-in-Word-clause-ok
returns-in_ok-add-in-Word-clause-ok c =
    rw c.in-Word.is (record {
      own = to_le_bytes w32 c.in-Word.value;
      added = rw c.to_le_bytes.ensures at c.in_ok-add-in-Word.ensures;
      long = refl;
      bytes = refl;
    })

pub returns-in_ok-add_padding-in-Align-clause-ok : goal.returns-in_ok-add_padding-in-Align-clause-ok
returns-in_ok-add_padding-in-Align-clause-ok c =
    rw c.in-Align.is (record { own = padding c.args.place; added = c.in_ok-add_padding-in-Align.ensures; long = refl; bytes = refl })

pub add_aimed-requires : goal.add_aimed-requires
add_aimed-requires c = rw c.in-Aimed.is at c.requires.there

pub returns-in-Aimed-clause-err : goal.returns-in-Aimed-clause-err
returns-in-Aimed-clause-err c = rw c.in-Aimed.is c.add_aimed.ensures.err

pub returns-in-Aimed-clause-ok : goal.returns-in-Aimed-clause-ok
returns-in-Aimed-clause-ok c = rw c.in-Aimed.is c.add_aimed.ensures.ok
