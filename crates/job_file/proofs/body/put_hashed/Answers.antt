-- `put_hashed`: its clauses `ok`, `moments`, `cells`, `store` and `device`, and what `file_write` requires.
use Rattle.std.proofs.Common.{◌∙◌, ◌++◌, ℕ, List, length, ap, arith, refl}
use Rattle.sha2.proofs.Facts256.{length-sha256}
use Rattle.bench_model.specs.Calls.{written}
use Rattle.job_text.specs.Parts.{front_of}
use Rattle.bench_model.proofs.CountLemmas.{none_counted}
use Rattle.job_file.proofs.PutLemmas.{hash_put, still_shut, cells_read_then, cells_read_stay}
use Rattle.job_file.proofs.BodyLemmas.{part_moments}
use Rattle.job_file.proofs.body.put_hashed.Goals as goal

pub file_write-requires : goal.file_write-requires
file_write-requires g c = λ told. omega (arith, ap (λ (l : List ℕ). length l) (c.in_ok-hash.ensures.ok told))

pub returns-clause-ok : goal.returns-clause-ok
returns-clause-ok g c = λ told.
    let hash = c.in_ok-hash.hash in
    let body = front_of c.args.parts.now ++ (g.B.Bench.state c.args.bench.now).cells in
    let is = c.in_ok-hash.ensures.hash told in
    c.in_ok-file_write.ensures.does.ok told ∙ ap (λ (l : List ℕ). written 8 hash l) (c.in_ok-hash.ensures.ok told)
    ∙ hash_put body hash is (ap (λ (l : List ℕ). length l) is ∙ length-sha256 _)

pub returns-clause-moments : goal.returns-clause-moments
returns-clause-moments g c = λ told.
    let m = g.B.Bench.state c.put_body.new.bench in
    let t = g.B.Bench.state c.file_write.new.self in
    still_shut (g.B.Bench.state c.args.bench.now) m t (c.put_body.ensures.moments told) (part_moments m t 8 _ (omega arith) c.file_write.ensures.does.moments)

pub returns-in_err-file_write-clause-moments : goal.returns-in_err-file_write-clause-moments
returns-in_err-file_write-clause-moments g c = λ told.
    let m = g.B.Bench.state c.put_body.new.bench in
    let t = g.B.Bench.state c.file_write.new.self in
    still_shut (g.B.Bench.state c.args.bench.now) m t (c.put_body.ensures.moments told) (part_moments m t 8 _ (omega arith) c.file_write.ensures.does.moments)

pub returns-clause-cells : goal.returns-clause-cells
returns-clause-cells g c = cells_read_then c.put_body.ensures.cells
    (cells_read_stay g.B.Bench.tells (g.B.Bench.state c.put_body.new.bench) (g.B.Bench.state c.file_write.new.self) c.file_write.ensures.does.cells)

pub returns-in_err-file_write-clause-cells : goal.returns-in_err-file_write-clause-cells
returns-in_err-file_write-clause-cells g c = cells_read_then c.put_body.ensures.cells
    (cells_read_stay g.B.Bench.tells (g.B.Bench.state c.put_body.new.bench) (g.B.Bench.state c.file_write.new.self) c.file_write.ensures.does.cells)

pub returns-clause-store : goal.returns-clause-store
returns-clause-store g c = none_counted _ _ (c.in_ok-file_write.ensures.does.cause.on_ok refl ∙ c.in_ok-hash.ensures.store.on_other refl)

pub returns-clause-device : goal.returns-clause-device
returns-clause-device g c = none_counted _ _ (c.file_write.ensures.does.cells.faults ∙ c.in_ok-hash.ensures.device.on_other refl)
