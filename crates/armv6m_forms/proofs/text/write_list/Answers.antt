-- `write_list`: that it keeps its contract, that its loop keeps its invariant, and what `write_item` requires.
use Rattle.std.proofs.Common.{◌≡◌, rules, true, false, eq-eqb, ne_eqb, ◌∙◌, sym, arith, length-append, append_assoc}
use Rattle.armv6m_alu.specs.Bits.{is_bit_set}
use Rattle.armv6m_forms.specs.Text.{list_text}
use Rattle.armv6m_forms.proofs.WritingLemmas.{names_have_room, is_none-listed, listed-absent, listed-first, text_more}
use Rattle.armv6m_forms.proofs.text.write_list.Goals as goal
use Rattle.armv6m_forms.proofs.text.write_list.Goals.{then-list-register-eq1, else-list-register-eq1}

pub write_item-requires : goal.write_item-requires
write_item-requires c =
    let room = names_have_room c.loop-register.register c.args.list (omega arith) c.requires.short in
    grind (arith, room, length-append)

pub loop-register-init : goal.loop-register-init
loop-register-init c = rw (listed-first c.args.list) (search rules)

pub loop-register-preserved : goal.loop-register-preserved
loop-register-preserved c = elim c.if-list-register-eq1.branch [
  | then-list-register-eq1 w ↦
      let there : is_bit_set c.args.list c.loop-register.register ≡ true = eq-eqb _ _ w.if-list-register-eq1.true in
      record {
        text = w.line-is ∙ text_more c.put.new.self c.loop-register.line w.write_item.new.line c.loop-register.first c.loop-register.register c.args.list there
            c.loop-register.invariant.text c.loop-register.invariant.none_yet w.write_item.ensures.text;
        none_yet = w.first-is ∙ sym (is_none-listed c.loop-register.register c.args.list there);
      }
  | else-list-register-eq1 w ↦
      let absent : is_bit_set c.args.list c.loop-register.register ≡ false = ne_eqb _ _ w.if-list-register-eq1.false in
      rw (w.line-is, w.first-is, listed-absent c.loop-register.register c.args.list absent) c.loop-register.invariant
]

pub returns : goal.returns
unfolding list_text
returns c =
    let end : c.loop-register.register ≡ 16 = omega arith in
    rw (c.put-2.ensures, c.loop-register.invariant.text, end, c.put.ensures) (search (rules, append_assoc))
