-- `Table::sector`: its clause `goes`.
use Rattle.std.proofs.Common.{refl}
use Rattle.duty_table.proofs.RunLemmas.{ok_back, sector_leaves}
use Rattle.duty_table.proofs.table.Table.sector.Goals as goal

pub returns-clause-goes : goal.returns-clause-goes
returns-clause-goes c = ok_back c.run.result _ _ (λ left steps r.
    sector_leaves c.args.self.now.subject.now _ c.args.state.now left c.args.number c.sector-span.result
    c.sector-span.ensures refl refl refl refl refl r) c.run.ensures.runs
