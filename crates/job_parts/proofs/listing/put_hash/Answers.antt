-- `put_hash`: its contract, `Puts`.
use Rattle.std.specs.Prelude.{codes}
use Rattle.job_parts.specs.Listing.{hash_line}
use Rattle.report_text.specs.Lines.{hash_text}
use Rattle.outside_io.proofs.PutTexts.{puts_then, puts_stops, puts_failed}
use Rattle.job_parts.proofs.listing.put_hash.Goals as goal

pub returns-in_err-put_pieces : goal.returns-in_err-put_pieces
unfolding hash_line
returns-in_err-put_pieces g c = puts_failed _ c.from_residual.ensures.0
    (puts_stops (codes "\n") (puts_stops (hash_text c.args.hash.now) c.in_err-put_pieces.ensures))

pub returns-in_err-put_digits : goal.returns-in_err-put_digits
unfolding hash_line
returns-in_err-put_digits g c = puts_failed _ c.from_residual-in_err-put_digits.ensures.0
    (puts_stops (codes "\n") (puts_then _ c.in_ok-put_pieces.ensures c.in_err-put_digits.ensures))

pub returns : goal.returns
unfolding hash_line
returns g c = puts_then _ (puts_then _ c.in_ok-put_pieces.ensures c.in_ok-put_digits.ensures) c.put_pieces-2.ensures
