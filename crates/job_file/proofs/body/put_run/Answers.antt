-- `put_run`: its contract, `Appends`, and what `append` requires.
use Rattle.std.proofs.Common.{◌++◌, ℕ, List, length, subst, arith}
use Rattle.job_text.specs.Body.{field, run_text}
use Rattle.job_text.specs.Runs.{run_of}
use Rattle.job_file.specs.Stops.{Appends}
use Rattle.job_file.proofs.BodyLemmas.{well, appends_then, appends_fails, appended_end}
use Rattle.job_file.proofs.body.put_run.Goals as goal

pub append-requires-in-Ok-clause-end : goal.append-requires-in-Ok-clause-end
append-requires-in-Ok-clause-end g c =
    let s = g.B.Bench.state c.args.bench.now in
    let m = g.B.Bench.state c.append.new.bench in
    let head = field c.args.place ++ field (length c.args.bytes.now) in
    appended_end g.B.Bench.tells s m head tt c.args.at _ (subst (λ (l : List ℕ). Appends g.B.Bench.tells s m l well) c.run_head.ensures c.in-Ok.ensures)
    c.requires.end (omega arith)

pub returns-in-Ok : goal.returns-in-Ok
returns-in-Ok g c =
    let s = g.B.Bench.state c.args.bench.now in
    let m = g.B.Bench.state c.append.new.bench in
    let t = g.B.Bench.state c.append-in-Ok.new.bench in
    let head = field c.args.place ++ field (length c.args.bytes.now) in
    appends_then g.B.Bench.tells s m t head c.args.bytes.now tt c.append-in-Ok.result
    (subst (λ (l : List ℕ). Appends g.B.Bench.tells s m l well) c.run_head.ensures c.in-Ok.ensures) c.append-in-Ok.ensures

pub returns-in-Err : goal.returns-in-Err
returns-in-Err g c =
    appends_fails g.B.Bench.tells (g.B.Bench.state c.args.bench.now) (g.B.Bench.state c.append.new.bench) c.run_head.result
    (run_text (run_of c.args.place c.args.bytes.now)) c.in-Err.fault c.in-Err.ensures
