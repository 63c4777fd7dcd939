-- `file_read`: its clause `does`.
use Rattle.std.proofs.Common.{arith}
use Rattle.std.proofs.lemmas.Grind.{common_steps}
use Rattle.job_parts.proofs.MendedLemmas.{mended_read, mended_unread, length_mended}
use Rattle.job_parts.proofs.mended.MendedBenchBench.file_read.Goals as goal

pub returns-in-Ok-clause-does : goal.returns-in-Ok-clause-does
returns-in-Ok-clause-does g c =
    let m = c.args.self.now in
    mended_read m.hash m.writes m.cells m.long
    (λ told. omega (arith, c.requires told, length_mended m.hash (g.B.Bench.state m.inner).file m.long)) (grind (arith, common_steps))
    c.lay_hash.ensures.length c.lay_hash.ensures.each c.in-Ok.ensures.does

pub returns-in-Err-clause-does : goal.returns-in-Err-clause-does
returns-in-Err-clause-does g c =
    let m = c.args.self.now in
    mended_unread m.hash m.writes m.cells c.in-Err.ensures.does
