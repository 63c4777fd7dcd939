-- `keep_names`: that its loop keeps its invariant.
use Rattle.std.proofs.Common.{sym}
use Rattle.elf32.specs.Tables.{is_section}
use Rattle.elf32.proofs.NameLemmas.{kept-more, kept-other}
use Rattle.elf32.proofs.SearchLemmas.{first_below-zero}
use Rattle.elf32.proofs.names.keep_names.Goals as goal
use Rattle.elf32.proofs.names.keep_names.Goals.{in-Some+in_ok-note, in_default}

pub loop-index-init : goal.loop-index-init
loop-index-init c = λ name kind short. rw c.new-places.ensures (sym (first_below-zero (is_section c.args.bytes.now name kind)))

pub loop-index-preserved : goal.loop-index-preserved
loop-index-preserved c =
    let bytes = c.args.bytes.now in
    let i = c.loop-index.index in
    let places = c.loop-index.places in
    elim c.match-short_name.branch [
      | in-Some+in_ok-note w ↦ (λ name kind short. rw (w.places-is, w.in_ok-note.ensures.ok, w.section_at.ensures)
          (kept-more bytes i places w.in-Some.name.now w.in-Some.ensures c.loop-index.invariant name kind short))
      | in_default w ↦ (λ name kind short. rw w.places-is (kept-other bytes i places w.in_default.ensures c.loop-index.invariant name kind short))
    ]
