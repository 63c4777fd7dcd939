-- `put_lines`: its contract, `PutsPart`.
use Rattle.std.proofs.Common.{refl}
use Rattle.job_parts.proofs.ListingLemmas.{survey_is}
use Rattle.job_parts.proofs.GiveLemmas.{part_given, puts_gives, puts_gave, read_then, store_failed_part}
use Rattle.job_parts.proofs.giving.put_lines.Goals as goal

pub returns-in-Ok-put_listing : goal.returns-in-Ok-put_listing
returns-in-Ok-put_listing g c = part_given _
    (λ told stands. survey_is stands.text _ _ _ _ (c.in-Ok.ensures.ok told stands) stands.image)
    (read_then c.in-Ok.ensures.reads (c.in-Ok.ensures.cause.on_ok refl) (puts_gives c.in-Ok-put_listing.ensures))

pub returns-in-Err-put_listing : goal.returns-in-Err-put_listing
returns-in-Err-put_listing g c = part_given _
    (λ told stands. survey_is stands.text _ _ _ _ (c.in-Ok.ensures.ok told stands) stands.image)
    (read_then c.in-Ok.ensures.reads (c.in-Ok.ensures.cause.on_ok refl) (puts_gave c.in-Err-put_listing.ensures))

pub returns-in-Err : goal.returns-in-Err
returns-in-Err g c = store_failed_part (λ stands. record { text = _; is_text = refl; holds = tt }) c.in-Err.ensures.reads
    c.in-Err.ensures.cause.later (c.in-Err.ensures.cause.on_fault refl)
