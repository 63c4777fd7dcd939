-- `Machine::new`: its clause `map`.
use Rattle.std.proofs.Common.{◌∙◌}
use Rattle.board_file.specs.Shown.{shown}
use Rattle.target_core.proofs.UnitLemmas.{with_same}
use Rattle.target_core.proofs.machine.Machine.new.Goals as goal

pub returns-clause-map : goal.returns-clause-map
returns-clause-map c = c.in_ok-unit.ensures.map ∙ with_same (shown c.args.board.now)
