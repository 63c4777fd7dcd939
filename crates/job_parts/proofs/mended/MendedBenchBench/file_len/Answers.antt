-- `file_len`: its clause `does`.
use Rattle.job_parts.proofs.MendedLemmas.{mended_measures}
use Rattle.job_parts.proofs.mended.MendedBenchBench.file_len.Goals as goal

pub returns-clause-does : goal.returns-clause-does
returns-clause-does g c =
    let m = c.args.self.now in
    mended_measures m.hash m.writes m.cells m.long c.file_len.ensures.does
