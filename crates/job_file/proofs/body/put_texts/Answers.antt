-- `put_texts`: its contract, `Appends`, and what `put_files` requires.
use Rattle.std.proofs.Common.{◌++◌, arith}
use Rattle.std.specs.List.{concat}
use Rattle.job_text.specs.Parts.{flms_of}
use Rattle.job_file.proofs.BodyLemmas.{appends_then, appends_fails, appended_end}
use Rattle.job_file.proofs.body.put_texts.Goals as goal

pub put_files-requires-clause-end : goal.put_files-requires-clause-end
put_files-requires-clause-end g c =
    appended_end g.B.Bench.tells (g.B.Bench.state c.args.bench.now) (g.B.Bench.state c.append.new.bench) c.args.parts.now.board.now tt c.args.at _
    c.in-Ok.ensures c.requires.end (omega arith)

pub returns-in-Ok : goal.returns-in-Ok
returns-in-Ok g c =
    appends_then g.B.Bench.tells (g.B.Bench.state c.args.bench.now) (g.B.Bench.state c.append.new.bench) (g.B.Bench.state c.put_files.new.bench)
    c.args.parts.now.board.now (concat (flms_of c.args.parts.now)) tt c.put_files.result c.in-Ok.ensures c.put_files.ensures

pub returns-in-Err : goal.returns-in-Err
returns-in-Err g c =
    let p = c.args.parts.now in
    appends_fails g.B.Bench.tells (g.B.Bench.state c.args.bench.now) (g.B.Bench.state c.append.new.bench) p.board.now (p.board.now ++ concat (flms_of p))
    c.in-Err.fault c.in-Err.ensures
