-- `put_span`: its contract, `Puts`, and that no number overflows.
use Rattle.std.proofs.Common.{◌∙◌, ap, arith}
use Rattle.octets.specs.Digit.{hex_text}
use Rattle.byte_map.specs.Image.{addresses}
use Rattle.job_text.specs.Runs.{run_of}
use Rattle.outside_io.proofs.PutTexts.{puts_as}
use Rattle.job_parts.proofs.ListingLemmas.{run_inside, span_is}
use Rattle.job_parts.proofs.listing.put_span.Goals as goal

pub overflow_sub-last : goal.overflow_sub-last
overflow_sub-last g c =
    let inside = run_inside 0 addresses c.args.image.now _ (run_of c.run-at.result.0 c.run-at.result.1.now) c.runs.ensures.maximal c.run-at.ensures in
    omega (arith, inside.0, c.from.ensures)

pub overflow_cast-last : goal.overflow_cast-last
overflow_cast-last g c =
    let inside = run_inside 0 addresses c.args.image.now _ (run_of c.run-at.result.0 c.run-at.result.1.now) c.runs.ensures.maximal c.run-at.ensures in
    omega (arith, inside.0, inside.1, c.from.ensures)

pub returns : goal.returns
returns g c = puts_as
    (span_is c.args.image.now _ (run_of c.run-first.result.0 c.run-first.result.1.now) (run_of c.run-at.result.0 c.run-at.result.1.now) _ _
    c.run-first.ensures c.run-at.ensures (omega (arith, c.runs.ensures.count)) c.hex_digits-first.ensures
    (c.hex_digits-last.ensures ∙ ap (hex_text 8) (omega (arith, c.from.ensures))))
    c.put_pieces.ensures
