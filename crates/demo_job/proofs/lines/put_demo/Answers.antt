-- `put_demo`: its contract, `Puts`.
use Rattle.std.proofs.Common.{ap}
use Rattle.std.specs.Prelude.{codes}
use Rattle.demo_job.specs.Lines.{number_text, demo_text}
use Rattle.outside_io.proofs.PutTexts.{puts_then, puts_stops, puts_failed, puts_as}
use Rattle.demo_job.proofs.lines.put_demo.Goals as goal

pub returns-in_err-put_number : goal.returns-in_err-put_number
unfolding demo_text
returns-in_err-put_number g c = puts_failed _ c.from_residual.ensures.0
    (puts_stops _ (puts_stops _ (puts_stops _ (puts_stops _ (puts_stops _
    (puts_stops _ (puts_as (ap (number_text (codes "demo ")) c.from.ensures) c.in_err-put_number.ensures)))))))

pub returns-in_err-put_number-2 : goal.returns-in_err-put_number-2
unfolding demo_text
returns-in_err-put_number-2 g c = puts_failed _ c.from_residual-in_err-put_number-2.ensures.0
    (puts_stops _ (puts_stops _ (puts_stops _ (puts_stops _ (puts_stops _
    (puts_then _ (puts_as (ap (number_text (codes "demo ")) c.from.ensures) c.in_ok-put_number.ensures)
    (puts_as (ap (number_text (codes "sectors ")) c.from-2.ensures) c.in_err-put_number-2.ensures)))))))

pub returns-in_err-put_number-3 : goal.returns-in_err-put_number-3
unfolding demo_text
returns-in_err-put_number-3 g c = puts_failed _ c.from_residual-in_err-put_number-3.ensures.0
    (puts_stops _ (puts_stops _ (puts_stops _ (puts_stops _ (puts_then _
    (puts_then _ (puts_as (ap (number_text (codes "demo ")) c.from.ensures) c.in_ok-put_number.ensures)
    (puts_as (ap (number_text (codes "sectors ")) c.from-2.ensures) c.in_ok-put_number-2.ensures))
    (puts_as (ap (number_text (codes "pages ")) c.from-3.ensures) c.in_err-put_number-3.ensures))))))

pub returns-in_err-put_number-4 : goal.returns-in_err-put_number-4
unfolding demo_text
returns-in_err-put_number-4 g c = puts_failed _ c.from_residual-in_err-put_number-4.ensures.0
    (puts_stops _ (puts_stops _ (puts_stops _ (puts_then _ (puts_then _
    (puts_then _ (puts_as (ap (number_text (codes "demo ")) c.from.ensures) c.in_ok-put_number.ensures)
    (puts_as (ap (number_text (codes "sectors ")) c.from-2.ensures) c.in_ok-put_number-2.ensures))
    (puts_as (ap (number_text (codes "pages ")) c.from-3.ensures) c.in_ok-put_number-3.ensures)) c.in_err-put_number-4.ensures))))

pub returns-in_err-put_number-5 : goal.returns-in_err-put_number-5
unfolding demo_text
returns-in_err-put_number-5 g c = puts_failed _ c.from_residual-in_err-put_number-5.ensures.0
    (puts_stops _ (puts_stops _ (puts_then _ (puts_then _ (puts_then _
    (puts_then _ (puts_as (ap (number_text (codes "demo ")) c.from.ensures) c.in_ok-put_number.ensures)
    (puts_as (ap (number_text (codes "sectors ")) c.from-2.ensures) c.in_ok-put_number-2.ensures))
    (puts_as (ap (number_text (codes "pages ")) c.from-3.ensures) c.in_ok-put_number-3.ensures)) c.in_ok-put_number-4.ensures) c.in_err-put_number-5.ensures)))

pub returns-in_err-put_number-6 : goal.returns-in_err-put_number-6
unfolding demo_text
returns-in_err-put_number-6 g c = puts_failed _ c.from_residual-in_err-put_number-6.ensures.0
    (puts_stops _ (puts_then _ (puts_then _ (puts_then _ (puts_then _
    (puts_then _ (puts_as (ap (number_text (codes "demo ")) c.from.ensures) c.in_ok-put_number.ensures)
    (puts_as (ap (number_text (codes "sectors ")) c.from-2.ensures) c.in_ok-put_number-2.ensures))
    (puts_as (ap (number_text (codes "pages ")) c.from-3.ensures) c.in_ok-put_number-3.ensures)) c.in_ok-put_number-4.ensures) c.in_ok-put_number-5.ensures)
    (puts_as (ap (number_text (codes "resumed ")) c.from-4.ensures) c.in_err-put_number-6.ensures)))

pub returns : goal.returns
unfolding demo_text
returns g c = puts_then _ (puts_then _ (puts_then _ (puts_then _
    (puts_then _ (puts_then _ (puts_as (ap (number_text (codes "demo ")) c.from.ensures) c.in_ok-put_number.ensures)
    (puts_as (ap (number_text (codes "sectors ")) c.from-2.ensures) c.in_ok-put_number-2.ensures))
    (puts_as (ap (number_text (codes "pages ")) c.from-3.ensures) c.in_ok-put_number-3.ensures)) c.in_ok-put_number-4.ensures) c.in_ok-put_number-5.ensures)
    (puts_as (ap (number_text (codes "resumed ")) c.from-4.ensures) c.in_ok-put_number-6.ensures)) c.put_same.ensures
