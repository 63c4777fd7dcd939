-- `write_list`: what holds at each turn of its loop.
use Rattle.std.proofs.Common.{◌≡◌, ◌++◌}
use Rattle.std.specs.List.{join_by}
use Rattle.armv6m_forms.specs.Text.{register_text, comma_text, listed_below}
use Rattle.armv6m_forms.proofs.WritingLemmas.{is_none}
use Rattle.armv6m_forms.proofs.text.write_list.Given as goal

abbrev pub invariant-loop-register : goal.invariant-loop-register
invariant-loop-register l = record {
  text : l.line ≡ l.initial.line ++ join_by register_text comma_text (listed_below l.register l.list);
  none_yet : l.first ≡ is_none (listed_below l.register l.list);
}
