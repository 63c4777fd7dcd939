-- `disassemble`: what `write_form` requires.
use Rattle.std.proofs.Common.{◌<◌, arith}
use Rattle.armv6m_forms.specs.Room.{low_list}
use Rattle.armv6m_forms.proofs.RoomLemmas.{form_has_room}
use Rattle.armv6m_forms.proofs.text.disassemble.Goals as goal

pub write_form-requires : goal.write_form-requires
write_form-requires c =
    let low : low_list c.args.instr.now < 256 = omega (arith, c.low_list-list.ensures) in
    rw c.form_at.ensures (form_has_room c.args.instr.now c.args.at low)
