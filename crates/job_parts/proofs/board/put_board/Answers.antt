-- `put_board`: its contract, `Puts`.
use Rattle.std.proofs.Common.{ap}
use Rattle.std.specs.List.{flat_map}
use Rattle.job_parts.specs.Board.{quiet_line, region_text, board_text}
use Rattle.outside_io.proofs.PutTexts.{puts_as, puts_then, puts_stops, puts_failed}
use Rattle.job_parts.proofs.board.put_board.Goals as goal

pub returns-in_err-put_ram : goal.returns-in_err-put_ram
unfolding board_text
returns-in_err-put_ram g c = puts_failed _ c.from_residual.ensures.0
    (puts_stops _ (puts_stops _ (puts_stops _ (puts_stops _ (puts_stops _ c.in_err-put_ram.ensures)))))

pub returns-in_err-put_controller : goal.returns-in_err-put_controller
unfolding board_text
returns-in_err-put_controller g c = puts_failed _ c.from_residual-in_err-put_controller.ensures.0
    (puts_stops _ (puts_stops _ (puts_stops _ (puts_stops _ (puts_then _ c.in_ok-put_ram.ensures c.in_err-put_controller.ensures)))))

pub returns-in_err-put_rates : goal.returns-in_err-put_rates
unfolding board_text
returns-in_err-put_rates g c = puts_failed _ c.from_residual-in_err-put_rates.ensures.0
    (puts_stops _ (puts_stops _ (puts_stops _ (puts_then _ (puts_then _ c.in_ok-put_ram.ensures c.in_ok-put_controller.ensures) c.in_err-put_rates.ensures))))

pub returns-in_err-put_weights : goal.returns-in_err-put_weights
unfolding board_text
returns-in_err-put_weights g c = puts_failed _ c.from_residual-in_err-put_weights.ensures.0
    (puts_stops _ (puts_stops _ (puts_then _ (puts_then _ (puts_then _ c.in_ok-put_ram.ensures c.in_ok-put_controller.ensures) c.in_ok-put_rates.ensures)
    c.in_err-put_weights.ensures)))

pub returns-in_err-put_quiet : goal.returns-in_err-put_quiet
unfolding board_text
returns-in_err-put_quiet g c = puts_failed _ c.from_residual-in_err-put_quiet.ensures.0
    (puts_stops _ (puts_then _ (puts_then _ (puts_then _ (puts_then _ c.in_ok-put_ram.ensures c.in_ok-put_controller.ensures) c.in_ok-put_rates.ensures)
    c.in_ok-put_weights.ensures) (puts_as (ap (flat_map quiet_line) c.as_slice.ensures) c.in_err-put_quiet.ensures)))

pub returns : goal.returns
unfolding board_text
returns g c = puts_then _ (puts_then _ (puts_then _ (puts_then _ (puts_then _ c.in_ok-put_ram.ensures c.in_ok-put_controller.ensures)
    c.in_ok-put_rates.ensures) c.in_ok-put_weights.ensures) (puts_as (ap (flat_map quiet_line) c.as_slice.ensures) c.in_ok-put_quiet.ensures))
    (puts_as (ap (flat_map region_text) c.as_slice-2.ensures) c.put_regions.ensures)
