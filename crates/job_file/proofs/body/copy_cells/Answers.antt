-- `copy_cells`: its clauses `moments`, `hash`, `ok`, `store` and `device`.
use Rattle.std.proofs.Common.{◌++◌, ℕ, List, subst, arith, refl, ◌∙◌}
use Rattle.std.proofs.lemmas.Grind.{common_steps}
use Rattle.sha2.specs.Hashers.{Holds256}
use Rattle.bench_model.proofs.CountLemmas.{none_counted}
use Rattle.job_file.proofs.PutLemmas.{kept_by_write}
use Rattle.job_file.proofs.body.copy_cells.Goals as goal

pub returns-in_err-file_write-clause-moments : goal.returns-in_err-file_write-clause-moments
returns-in_err-file_write-clause-moments g c =
    kept_by_write (g.B.Bench.state c.args.bench.now) (g.B.Bench.state c.cells_read.new.self) (g.B.Bench.state c.file_write.new.self) c.args.to _
    c.requires.behind c.cells_read.ensures.does.file c.file_write.ensures.does.moments

pub returns-clause-moments : goal.returns-clause-moments
returns-clause-moments g c =
    kept_by_write (g.B.Bench.state c.args.bench.now) (g.B.Bench.state c.cells_read.new.self) (g.B.Bench.state c.file_write.new.self) c.args.to _
    c.requires.behind c.cells_read.ensures.does.file c.file_write.ensures.does.moments

pub returns-clause-hash : goal.returns-clause-hash
returns-clause-hash g c = λ told m holds. subst (λ (l : List ℕ). Holds256 c.update.new.self (m ++ l)) (c.in_ok-cells_read.ensures.does.ok told)
    (c.update.ensures m holds)

pub returns-clause-ok : goal.returns-clause-ok
returns-clause-ok g c = grind (arith, common_steps)

pub returns-clause-store : goal.returns-clause-store
returns-clause-store g c = none_counted _ _ (c.in_ok-file_write.ensures.does.cause.on_ok refl ∙ c.cells_read.ensures.does.file.faults)

pub returns-clause-device : goal.returns-clause-device
returns-clause-device g c = none_counted _ _ (c.file_write.ensures.does.cells.faults ∙ c.in_ok-cells_read.ensures.does.cause.on_ok refl)

pub file_write-requires : goal.file_write-requires
file_write-requires g c = grind (arith, common_steps)

pub returns-clause-cells : goal.returns-clause-cells
returns-clause-cells g c = grind (arith, common_steps)
