-- `put_hashes`: its contract, `Puts`.
use Rattle.std.specs.Prelude.{codes}
use Rattle.report_text.specs.Lines.{reason_of, hash_text}
use Rattle.outside_io.proofs.PutTexts.{puts_then, puts_stops, puts_failed}
use Rattle.report_text.proofs.refusal.put_hashes.Goals as goal

pub returns-in_err-put_pieces : goal.returns-in_err-put_pieces
unfolding reason_of
returns-in_err-put_pieces g c = puts_failed _ c.from_residual.ensures.0
    (puts_stops (hash_text c.args.found.now) (puts_stops (codes " ") (puts_stops (hash_text c.args.kept.now) c.in_err-put_pieces.ensures)))

pub returns-in_err-put_hash : goal.returns-in_err-put_hash
unfolding reason_of
returns-in_err-put_hash g c = puts_failed _ c.from_residual-in_err-put_hash.ensures.0
    (puts_stops (hash_text c.args.found.now) (puts_stops (codes " ") (puts_then _ c.in_ok-put_pieces.ensures c.in_err-put_hash.ensures)))

pub returns-in_err-put_pieces-2 : goal.returns-in_err-put_pieces-2
unfolding reason_of
returns-in_err-put_pieces-2 g c = puts_failed _ c.from_residual-in_err-put_pieces-2.ensures.0
    (puts_stops (hash_text c.args.found.now) (puts_then _ (puts_then _ c.in_ok-put_pieces.ensures c.in_ok-put_hash.ensures) c.in_err-put_pieces-2.ensures))

pub returns : goal.returns
unfolding reason_of
returns g c = puts_then _ (puts_then _ (puts_then _ c.in_ok-put_pieces.ensures c.in_ok-put_hash.ensures) c.in_ok-put_pieces-2.ensures) c.put_hash-2.ensures
