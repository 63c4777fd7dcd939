-- `put_listing`: its contract, `Puts`.
use Rattle.std.proofs.Common.{refl}
use Rattle.outside_io.proofs.PutTexts.{puts_as, puts_then, puts_stops, puts_failed}
use Rattle.job_parts.proofs.ListingLemmas.{listing_is}
use Rattle.job_parts.proofs.listing.put_listing.Goals as goal

pub returns-in_err-put_job : goal.returns-in_err-put_job
returns-in_err-put_job g c = puts_failed _ c.from_residual.ensures.0 (puts_as (listing_is _ _ c.args.job.now.algorithms c.args.job.now.algorithms _ _ _ refl)
    (puts_stops _ (puts_stops _ (puts_stops _ (puts_stops _ (puts_stops _ (puts_stops _ c.in_err-put_job.ensures)))))))

pub returns-in_err-put_format : goal.returns-in_err-put_format
returns-in_err-put_format g c = puts_failed _ c.from_residual-in_err-put_format.ensures.0 (puts_as
    (listing_is _ _ c.args.job.now.algorithms c.args.job.now.algorithms _ _ _ refl)
    (puts_stops _ (puts_stops _ (puts_stops _ (puts_stops _ (puts_stops _ (puts_then _ c.in_ok-put_job.ensures c.in_err-put_format.ensures)))))))

pub returns-in_err-put_board : goal.returns-in_err-put_board
returns-in_err-put_board g c = puts_failed _ c.from_residual-in_err-put_board.ensures.0 (puts_as
    (listing_is _ _ c.args.job.now.algorithms c.args.job.now.algorithms _ _ _ refl)
    (puts_stops _ (puts_stops _ (puts_stops _ (puts_stops _ (puts_then _
    (puts_then _ c.in_ok-put_job.ensures c.in_ok-put_format.ensures) c.in_err-put_board.ensures))))))

pub returns-in_err-put_algorithms : goal.returns-in_err-put_algorithms
returns-in_err-put_algorithms g c = puts_failed _ c.from_residual-in_err-put_algorithms.ensures.0 (puts_as
    (listing_is _ _ c.as_slice.result.now c.args.job.now.algorithms _ _ _ c.as_slice.ensures)
    (puts_stops _ (puts_stops _ (puts_stops _ (puts_then _ (puts_then _
    (puts_then _ c.in_ok-put_job.ensures c.in_ok-put_format.ensures) c.in_ok-put_board.ensures) c.in_err-put_algorithms.ensures)))))

pub returns-in_err-put_span : goal.returns-in_err-put_span
returns-in_err-put_span g c = puts_failed _ c.from_residual-in_err-put_span.ensures.0 (puts_as
    (listing_is _ _ c.as_slice.result.now c.args.job.now.algorithms _ _ _ c.as_slice.ensures)
    (puts_stops _ (puts_stops _ (puts_then _ (puts_then _ (puts_then _
    (puts_then _ c.in_ok-put_job.ensures c.in_ok-put_format.ensures) c.in_ok-put_board.ensures) c.in_ok-put_algorithms.ensures) c.in_err-put_span.ensures))))

pub returns-in_err-put_hash : goal.returns-in_err-put_hash
returns-in_err-put_hash g c = puts_failed _ c.from_residual-in_err-put_hash.ensures.0 (puts_as
    (listing_is _ _ c.as_slice.result.now c.args.job.now.algorithms _ _ _ c.as_slice.ensures)
    (puts_stops _ (puts_then _ (puts_then _ (puts_then _ (puts_then _
    (puts_then _ c.in_ok-put_job.ensures c.in_ok-put_format.ensures) c.in_ok-put_board.ensures) c.in_ok-put_algorithms.ensures)
    c.in_ok-put_span.ensures) c.in_err-put_hash.ensures)))

pub returns : goal.returns
returns g c = puts_as (listing_is _ _ c.as_slice.result.now c.args.job.now.algorithms _ _ _ c.as_slice.ensures) (puts_then _ (puts_then _ (puts_then _
    (puts_then _ (puts_then _ (puts_then _ c.in_ok-put_job.ensures c.in_ok-put_format.ensures) c.in_ok-put_board.ensures)
    c.in_ok-put_algorithms.ensures) c.in_ok-put_span.ensures) c.in_ok-put_hash.ensures) c.put_hash-2.ensures)
