-- `append`: its contract, `Appends`.
use Rattle.job_file.proofs.BodyLemmas.{written_part}
use Rattle.job_file.proofs.body.append.Goals as goal

pub returns : goal.returns
returns g c =
    written_part g.B.Bench.tells (g.B.Bench.state c.args.bench.now) (g.B.Bench.state c.file_write.new.self) c.args.at c.args.bytes.now c.file_write.result
    c.requires.behind c.requires.end c.file_write.ensures.does
