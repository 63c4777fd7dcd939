-- `put_files`: its contract, `Appends`, and what `append` requires.
use Rattle.std.proofs.Common.{ℕ, List, subst, arith}
use Rattle.std.specs.List.{concat}
use Rattle.job_text.specs.Parts.{flms_of}
use Rattle.job_file.specs.Stops.{Appends}
use Rattle.job_file.proofs.BodyLemmas.{appends_as, appends_then, appends_fails, appended_end}
use Rattle.job_file.proofs.HashLemmas.{concat_none, concat_some}
use Rattle.job_file.proofs.body.put_files.Goals as goal

pub append-requires-in-Some-clause-end : goal.append-requires-in-Some-clause-end
append-requires-in-Some-clause-end g c =
    appended_end g.B.Bench.tells (g.B.Bench.state c.args.bench.now) (g.B.Bench.state c.append.new.bench) c.args.parts.now.flm.now tt c.args.at _ c.in-Ok.ensures
    c.requires.end (omega arith)

pub returns-in-Err : goal.returns-in-Err
returns-in-Err g c =
    let p = c.args.parts.now in
    appends_fails g.B.Bench.tells (g.B.Bench.state c.args.bench.now) (g.B.Bench.state c.append.new.bench) p.flm.now (concat (flms_of p)) c.in-Err.fault
    c.in-Err.ensures

pub returns-in-None : goal.returns-in-None
returns-in-None g c =
    let p = c.args.parts.now in
    appends_as g.B.Bench.tells (g.B.Bench.state c.args.bench.now) (g.B.Bench.state c.append.new.bench) p.flm.now (concat (flms_of p)) tt tt
    (concat_none p c.in-None.is) c.in-Ok.ensures

pub returns-in-Some : goal.returns-in-Some
returns-in-Some g c =
    let p = c.args.parts.now in
    let s = c.in-Some.second in
    let a = g.B.Bench.state c.args.bench.now in
    let m = g.B.Bench.state c.append.new.bench in
    let t = g.B.Bench.state c.append-in-Some.new.bench in
    subst (λ (l : List ℕ). Appends g.B.Bench.tells a t l c.append-in-Some.result) (concat_some p s c.in-Some.is)
    (appends_then g.B.Bench.tells a m t p.flm.now s.now tt c.append-in-Some.result c.in-Ok.ensures c.append-in-Some.ensures)
