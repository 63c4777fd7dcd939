-- `Driver::store`: that it keeps its contract, and what `program` requires.
use Rattle.std.proofs.Common.{refl, sym, ◌∙◌, []}
use Rattle.flash_driver.proofs.TouchLemmas.{touches_here}
use Rattle.flash_driver.proofs.RowLemmas.{busy_store, found_fits, cell_store, unseen, register_store}
use Rattle.flash_driver.proofs.driver.Driver.store.Goals as goal

pub returns-then-is_running-clause-touches : goal.returns-then-is_running-clause-touches
returns-then-is_running-clause-touches g c = touches_here _ _ _ _ _ (λ x told. g.met.B.Bench.as_told c.args.bench.now x told) c.requires.agrees refl

pub returns-in-Nowhere-clause-touches : goal.returns-in-Nowhere-clause-touches
returns-in-Nowhere-clause-touches g c = touches_here _ _ _ _ _ (λ x told. g.met.B.Bench.as_told c.args.bench.now x told) c.requires.agrees refl

pub returns-else-is_running-clause-row : goal.returns-else-is_running-clause-row
returns-else-is_running-clause-row g c told =
    cell_store _ _ _ _ _ _ _ _ _ _ c.in-Flash.ensures.value (sym c.is_running.ensures ∙ c.if-is_running.false) (c.program.ensures.gives told)

pub returns-else-is_running-clause-elsewhere : goal.returns-else-is_running-clause-elsewhere
returns-else-is_running-clause-elsewhere g c none =
    let idle = sym c.is_running.ensures ∙ c.if-is_running.false in
    cell_store _ _ _ _ _ _ _ _ _ _ c.in-Flash.ensures.value idle
    (c.program.ensures.elsewhere (unseen g.R.Registers.table _ _ [] _ _ _ _ c.in-Flash.ensures.value idle none))

pub returns-in-Register-clause-row : goal.returns-in-Register-clause-row
returns-in-Register-clause-row g c told =
    register_store _ _ _ _ _ _ _ _ _ _ _ c.in-Register.ensures.value c.store-effect.ensures.row c.take.ensures.gives

pub returns-in-Register-clause-elsewhere : goal.returns-in-Register-clause-elsewhere
returns-in-Register-clause-elsewhere g c none =
    register_store _ _ _ _ _ _ _ _ _ _ _ c.in-Register.ensures.value c.store-effect.ensures.row c.take.ensures.gives

pub program-requires-clause-range : goal.program-requires-clause-range
program-requires-clause-range g c = found_fits _ _ _ _ c.requires.width c.requires.aligned c.in-Flash.ensures.inside

pub returns-then-is_running-clause-row : goal.returns-then-is_running-clause-row
returns-then-is_running-clause-row g c told = busy_store _ _ _ _ _ _ _ _ c.in-Flash.ensures.value (sym c.is_running.ensures ∙ c.if-is_running.true)

pub returns-then-is_running-clause-elsewhere : goal.returns-then-is_running-clause-elsewhere
returns-then-is_running-clause-elsewhere g c none = busy_store _ _ _ _ _ _ _ _ c.in-Flash.ensures.value (sym c.is_running.ensures ∙ c.if-is_running.true)
