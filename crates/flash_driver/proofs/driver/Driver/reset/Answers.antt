-- `Driver::reset`: that it keeps its contract.
use Rattle.std.proofs.Common.{rules, ap, sym, ◌∙◌}
use Rattle.flash_layout.specs.declared.flash_map.FlashMap as code
use Rattle.flash_layout.specs.Areas.{cells_in}
use Rattle.flash_layout.specs.Work.{range_of}
use Rattle.flash_driver.proofs.driver.Driver.reset.Goals as goal

pub returns-in-Ok-clause-drops : goal.returns-in-Ok-clause-drops
returns-in-Ok-clause-drops g c = search rules

pub returns-in-Ok-clause-ok : goal.returns-in-Ok-clause-ok
returns-in-Ok-clause-ok g c = cc

pub returns-in-Ok-clause-ok_cells : goal.returns-in-Ok-clause-ok_cells
returns-in-Ok-clause-ok_cells g c = c.in-Ok.ensures.does.ok

pub returns-in-Ok-clause-agrees : goal.returns-in-Ok-clause-agrees
returns-in-Ok-clause-agrees g c = record {
  count = c.cells_drop.ensures.does.count ∙ c.requires ∙ ap (λ (l : code.FlashMap). cells_in l.areas.items) (sym c.restart.ensures.layout);
  operation = λ told. (c.in-Ok.ensures.does.ok told).operation ∙ ap (λ s. range_of s.operation) (sym c.restart.ensures.state);
}
