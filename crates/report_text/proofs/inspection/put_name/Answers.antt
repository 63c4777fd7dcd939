-- `put_name`: its contract, `Puts`.
use Rattle.std.proofs.Common.{map}
use Rattle.std.specs.Prelude.{codes}
use Rattle.std.proofs.lemmas.List.Concat.{flat_map_single}
use Rattle.report_text.specs.Inspection.{printable, name_text}
use Rattle.outside_io.proofs.PutTexts.{puts_then, puts_stops, puts_failed, puts_as}
use Rattle.report_text.proofs.inspection.put_name.Goals as goal

pub returns-in_err-put_pieces : goal.returns-in_err-put_pieces
unfolding name_text
returns-in_err-put_pieces g c = puts_failed _ c.from_residual.ensures.0
    (puts_stops (codes "\n") (puts_stops (map printable c.args.name.now) c.in_err-put_pieces.ensures))

pub returns-in_err-put_printable : goal.returns-in_err-put_printable
unfolding name_text
returns-in_err-put_printable g c = puts_failed _ c.from_residual-in_err-put_printable.ensures.0
    (puts_stops _ (puts_then _ c.in_ok-put_pieces.ensures (puts_as (flat_map_single printable _) c.in_err-put_printable.ensures)))

pub returns : goal.returns
unfolding name_text
returns g c =
    puts_then _ (puts_then _ c.in_ok-put_pieces.ensures (puts_as (flat_map_single printable _) c.in_ok-put_printable.ensures)) c.put_pieces-2.ensures
