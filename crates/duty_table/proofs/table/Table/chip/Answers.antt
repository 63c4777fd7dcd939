-- `Table::chip`: its clause `goes`.
use Rattle.std.proofs.Common.{refl}
use Rattle.duty_table.proofs.RunLemmas.{ok_back, chip_leaves}
use Rattle.duty_table.proofs.table.Table.chip.Goals as goal

pub returns-clause-goes : goal.returns-clause-goes
returns-clause-goes c = ok_back c.run.result _ _ (λ left steps r.
    chip_leaves c.args.self.now.subject.now _ c.args.state.now left c.whole-span.result c.whole-span.ensures refl refl refl refl refl r) c.run.ensures.runs
