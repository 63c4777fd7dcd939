-- `Driver::load`: that it keeps its contract, and what `read` requires.
use Rattle.flash_driver.proofs.RowLemmas.{busy_load, idle_range, found_fits, cell_load}
use Rattle.std.proofs.Common.{refl, sym, ◌∙◌, arith}
use Rattle.flash_driver.proofs.TouchLemmas.{touches_here, touches_look}
use Rattle.flash_driver.proofs.driver.Driver.load.Goals as goal

pub returns-then-is_running-clause-touches : goal.returns-then-is_running-clause-touches
returns-then-is_running-clause-touches g c = touches_here _ _ _ _ _ (λ x told. g.met.B.Bench.as_told c.args.bench.now x told) c.requires.agrees refl

pub returns-in-None-clause-touches : goal.returns-in-None-clause-touches
returns-in-None-clause-touches g c = touches_here _ _ _ _ _ (λ x told. g.met.B.Bench.as_told c.args.bench.now x told) c.requires.agrees refl

pub returns-in-Some-clause-touches : goal.returns-in-Some-clause-touches
returns-in-Some-clause-touches g c = touches_here _ _ _ _ _ (λ x told. g.met.B.Bench.as_told c.args.bench.now x told) c.requires.agrees refl

pub returns-in-Nowhere-clause-touches : goal.returns-in-Nowhere-clause-touches
returns-in-Nowhere-clause-touches g c = touches_here _ _ _ _ _ (λ x told. g.met.B.Bench.as_told c.args.bench.now x told) c.requires.agrees refl

pub returns-else-is_running-clause-touches : goal.returns-else-is_running-clause-touches
returns-else-is_running-clause-touches g c = touches_look _ _ _ _ _ _ (idle_range _ (sym c.is_running.ensures ∙ c.if-is_running.false)) c.requires.agrees
    c.read.ensures.bench c.read.ensures.operation c.read.ensures.cause

pub read-requires-clause-range : goal.read-requires-clause-range
read-requires-clause-range g c =
    omega (arith, found_fits _ _ _ _ c.requires.width c.requires.aligned c.in-Flash.ensures.inside, c.requires.agrees.count)

pub returns-else-is_running-clause-row : goal.returns-else-is_running-clause-row
returns-else-is_running-clause-row g c told =
    cell_load _ _ _ _ _ _ _ _ c.in-Flash.ensures.value (sym c.is_running.ensures ∙ c.if-is_running.false) (c.read.ensures.ok told)

pub returns-then-is_running-clause-row : goal.returns-then-is_running-clause-row
returns-then-is_running-clause-row g c told = busy_load _ _ _ _ _ _ _ c.in-Flash.ensures.value (sym c.is_running.ensures ∙ c.if-is_running.true)
