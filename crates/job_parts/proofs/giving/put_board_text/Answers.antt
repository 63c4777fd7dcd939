-- `put_board_text`: its contract, `PutsPart`, and what `copy` requires.
use Rattle.std.proofs.Common.{◌∙◌, ℕ, List, length, ap, refl, arith}
use Rattle.job_text.specs.declared.format.Format.{Format}
use Rattle.job_text.specs.Reading.{places_of}
use Rattle.job_text.proofs.OneTextLemmas.{has_fields}
use Rattle.job_parts.proofs.LengthLemmas.{board_stands, text_there}
use Rattle.job_parts.proofs.GiveLemmas.{part_given, read_then, store_failed_part}
use Rattle.job_parts.proofs.giving.put_board_text.Goals as goal

pub copy-requires-clause-told : goal.copy-requires-clause-told
copy-requires-clause-told g c = λ told.
    let stands = c.requires told in
    let are = c.in-Ok.ensures.ok told stands.text (has_fields stands.text _ _ stands.is) stands.whole in
    let at = board_stands stands.text _ stands.whole in
    omega (
      arith,
      at.within,
      c.front.ensures.value,
      ap (λ (f : Format). (places_of f).front) are.format,
      are.board,
      c.from.ensures,
      ap (λ (l : List ℕ). length l) (c.in-Ok.ensures.reads.file told),
    )

pub returns-in-Ok : goal.returns-in-Ok
returns-in-Ok g c = part_given _
    (λ told stands.
    let are = c.in-Ok.ensures.ok told stands.text (has_fields stands.text _ _ stands.is) stands.whole in
    text_there _ _ _ _ _ _ (c.in-Ok.ensures.reads.file told) (c.front.ensures.value ∙ ap (λ (f : Format). (places_of f).front) are.format)
    (c.from.ensures ∙ are.board) (board_stands stands.text _ stands.whole))
    (read_then c.in-Ok.ensures.reads (c.in-Ok.ensures.cause.on_ok refl) c.copy.ensures)

pub returns-in-Err : goal.returns-in-Err
returns-in-Err g c = store_failed_part (λ stands. record { text = stands.text.board; is_text = refl; holds = tt }) c.in-Err.ensures.reads
    c.in-Err.ensures.cause.later (c.in-Err.ensures.cause.on_fault refl)
