-- `calls_of`: what is known of the unit and of the RAM of the machine.
use Rattle.std.proofs.Common.{ap, ◌∙◌}
use Rattle.target_core.specs.Units.{unit_cells, unit_state}
use Rattle.target_vectors.proofs.calls.trial.calls_of.Goals as goal

pub returns-clause-size : goal.returns-clause-size
returns-clause-size c = c.in_ok-calls.ensures.size ∙ c.in_ok-machine.ensures.size

pub returns-clause-cells : goal.returns-clause-cells
returns-clause-cells c = ap unit_cells c.in_ok-calls.ensures.unit ∙ c.in_ok-machine.ensures.cells

pub returns-clause-fresh : goal.returns-clause-fresh
returns-clause-fresh c = ap unit_state c.in_ok-calls.ensures.unit ∙ c.in_ok-machine.ensures.fresh
