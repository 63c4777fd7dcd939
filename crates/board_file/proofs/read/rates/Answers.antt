-- `rates`: that it keeps its contract, and that its result meets the clauses of its type.
use Rattle.board_file.proofs.Reading.{gives_fault, fails_within, then_ok, then_err}
use Rattle.std.proofs.lemmas.Result.{err_from_is_err_and}
use Rattle.std.proofs.Common.{refl}
use Rattle.toml.specs.View.{table_view}
use Rattle.board_file.specs.Text.{rates}
use Rattle.board_file.specs.Written.{rates_shown}
use Rattle.board_file.proofs.read.rates.Goals as goal

pub returns-in_err-chip : goal.returns-in_err-chip
unfolding rates
returns-in_err-chip c =
    let p = err_from_is_err_and c.from_residual-in_err-chip.result c.from_residual-in_err-chip.ensures.1 in
    gives_fault rates_shown _ (rates (table_view c.args.root.now)) _ _ p.1 p.2 (fails_within _ _ _ c.in_err-chip.ensures.said
    (λ is.
    (then_ok _ _ _ _ c.in_ok-program_ticks.ensures.said
    (then_ok _ _ _ _ c.in_ok-erase_ticks.ensures.said
    (then_ok _ _ _ _ c.in_ok-chip_ticks.ensures.said
    (then_ok _ _ _ _ c.in_ok-hz.ensures.said
    (then_ok _ _ _ _ c.in_ok-steps_per_ms.ensures.said
    (then_ok _ _ _ _ c.in_ok-sector.ensures.said
    (then_ok _ _ _ _ c.in_ok-page.ensures.said
    (then_err _ _ _ is))))))))))

pub returns-in_err-page : goal.returns-in_err-page
unfolding rates
returns-in_err-page c =
    let p = err_from_is_err_and c.from_residual-in_err-page.result c.from_residual-in_err-page.ensures.1 in
    gives_fault rates_shown _ (rates (table_view c.args.root.now)) _ _ p.1 p.2 (fails_within _ _ _ c.in_err-page.ensures.said
    (λ is.
    (then_ok _ _ _ _ c.in_ok-program_ticks.ensures.said
    (then_ok _ _ _ _ c.in_ok-erase_ticks.ensures.said
    (then_ok _ _ _ _ c.in_ok-chip_ticks.ensures.said
    (then_ok _ _ _ _ c.in_ok-hz.ensures.said
    (then_ok _ _ _ _ c.in_ok-steps_per_ms.ensures.said
    (then_ok _ _ _ _ c.in_ok-sector.ensures.said
    (then_err _ _ _ is)))))))))

pub returns : goal.returns
unfolding rates
returns c =
    then_ok _ _ _ _ c.in_ok-program_ticks.ensures.said
    (then_ok _ _ _ _ c.in_ok-erase_ticks.ensures.said
    (then_ok _ _ _ _ c.in_ok-chip_ticks.ensures.said
    (then_ok _ _ _ _ c.in_ok-hz.ensures.said
    (then_ok _ _ _ _ c.in_ok-steps_per_ms.ensures.said
    (then_ok _ _ _ _ c.in_ok-sector.ensures.said
    (then_ok _ _ _ _ c.in_ok-page.ensures.said
    (then_ok _ _ _ _ c.in_ok-chip.ensures.said
    refl)))))))

pub invariant_of-result : goal.invariant_of-result
invariant_of-result c = record {
  program_ticks_fit = c.in_ok-program_ticks.ensures.fits;
  erase_ticks_fit = c.in_ok-erase_ticks.ensures.fits;
  chip_ticks_fit = c.in_ok-chip_ticks.ensures.fits;
  hz_fits = c.in_ok-hz.ensures.fits;
  steps_per_ms_fit = c.in_ok-steps_per_ms.ensures.fits;
  sector_fits = c.in_ok-sector.ensures.fits;
  page_fits = c.in_ok-page.ensures.fits;
  chip_fits = c.in_ok-chip.ensures.fits;
}

pub returns-in_err-chip_ticks : goal.returns-in_err-chip_ticks
unfolding rates
returns-in_err-chip_ticks c =
    let p = err_from_is_err_and c.from_residual-in_err-chip_ticks.result c.from_residual-in_err-chip_ticks.ensures.1 in
    gives_fault rates_shown _ (rates (table_view c.args.root.now)) _ _ p.1 p.2 (fails_within _ _ _ c.in_err-chip_ticks.ensures.said
    (λ is.
    (then_ok _ _ _ _ c.in_ok-program_ticks.ensures.said
    (then_ok _ _ _ _ c.in_ok-erase_ticks.ensures.said
    (then_err _ _ _ is)))))

pub returns-in_err-hz : goal.returns-in_err-hz
unfolding rates
returns-in_err-hz c =
    let p = err_from_is_err_and c.from_residual-in_err-hz.result c.from_residual-in_err-hz.ensures.1 in
    gives_fault rates_shown _ (rates (table_view c.args.root.now)) _ _ p.1 p.2 (fails_within _ _ _ c.in_err-hz.ensures.said
    (λ is.
    (then_ok _ _ _ _ c.in_ok-program_ticks.ensures.said
    (then_ok _ _ _ _ c.in_ok-erase_ticks.ensures.said
    (then_ok _ _ _ _ c.in_ok-chip_ticks.ensures.said
    (then_err _ _ _ is))))))

pub returns-in_err-steps_per_ms : goal.returns-in_err-steps_per_ms
unfolding rates
returns-in_err-steps_per_ms c =
    let p = err_from_is_err_and c.from_residual-in_err-steps_per_ms.result c.from_residual-in_err-steps_per_ms.ensures.1 in
    gives_fault rates_shown _ (rates (table_view c.args.root.now)) _ _ p.1 p.2 (fails_within _ _ _ c.in_err-steps_per_ms.ensures.said
    (λ is.
    (then_ok _ _ _ _ c.in_ok-program_ticks.ensures.said
    (then_ok _ _ _ _ c.in_ok-erase_ticks.ensures.said
    (then_ok _ _ _ _ c.in_ok-chip_ticks.ensures.said
    (then_ok _ _ _ _ c.in_ok-hz.ensures.said
    (then_err _ _ _ is)))))))

pub returns-in_err-sector : goal.returns-in_err-sector
unfolding rates
returns-in_err-sector c =
    let p = err_from_is_err_and c.from_residual-in_err-sector.result c.from_residual-in_err-sector.ensures.1 in
    gives_fault rates_shown _ (rates (table_view c.args.root.now)) _ _ p.1 p.2 (fails_within _ _ _ c.in_err-sector.ensures.said
    (λ is.
    (then_ok _ _ _ _ c.in_ok-program_ticks.ensures.said
    (then_ok _ _ _ _ c.in_ok-erase_ticks.ensures.said
    (then_ok _ _ _ _ c.in_ok-chip_ticks.ensures.said
    (then_ok _ _ _ _ c.in_ok-hz.ensures.said
    (then_ok _ _ _ _ c.in_ok-steps_per_ms.ensures.said
    (then_err _ _ _ is))))))))
