-- `copy_flm`: its contract, `PutsPart`, and what `copy` requires.
use Rattle.std.proofs.Common.{◌∙◌, ℕ, List, length, ap, sym, refl, arith, Some}
use Rattle.job_text.proofs.OneTextLemmas.{has_fields}
use Rattle.job_parts.specs.Parts.{index_of}
use Rattle.job_parts.proofs.LengthLemmas.{has_flm, flm_there, text_there}
use Rattle.job_parts.proofs.GiveLemmas.{part_given, read_then, store_failed_part}
use Rattle.job_parts.proofs.giving.copy_flm.Goals as goal

pub copy-requires-clause-told : goal.copy-requires-clause-told
copy-requires-clause-told g c = λ told.
    let stands = c.requires.stands told in
    let are = c.in-Ok.ensures.ok told stands.text (has_fields stands.text _ _ stands.is) stands.whole in
    let has = has_flm stands.text _ c.args.job.now.algorithms stands.is (index_of c.args.place) c.requires.has in
    let there = flm_there stands.text c.args.place _ _ are stands.whole has in
    omega (
      arith,
      there.stands.within,
      there.long,
      c.flm_at.ensures.value,
      c.flm_len.ensures.value,
      ap (λ (l : List ℕ). length l) (c.in-Ok.ensures.reads.file told),
    )

pub returns-in-Ok : goal.returns-in-Ok
returns-in-Ok g c = part_given _
    (λ told stands.
    let are = c.in-Ok.ensures.ok told stands.text (has_fields stands.text _ _ stands.is) stands.whole in
    let has = has_flm stands.text _ c.args.job.now.algorithms stands.is (index_of c.args.place) c.requires.has in
    let there = flm_there stands.text c.args.place _ _ are stands.whole has in
    has ∙ ap Some (sym (text_there _ _ _ _ _ _ (c.in-Ok.ensures.reads.file told) c.flm_at.ensures.value (c.flm_len.ensures.value ∙ there.long) there.stands)))
    (read_then c.in-Ok.ensures.reads (c.in-Ok.ensures.cause.on_ok refl) c.copy.ensures)

pub returns-in-Err : goal.returns-in-Err
returns-in-Err g c = store_failed_part
    (λ stands. record {
      text = _;
      is_text = has_flm stands.text _ c.args.job.now.algorithms stands.is (index_of c.args.place) c.requires.has;
      holds = tt;
    })
    c.in-Err.ensures.reads c.in-Err.ensures.cause.later (c.in-Err.ensures.cause.on_fault refl)
