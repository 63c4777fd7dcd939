-- `file_sync`: its clause `does`.
use Rattle.job_parts.proofs.MendedLemmas.{mended_syncs}
use Rattle.job_parts.proofs.mended.MendedBenchBench.file_sync.Goals as goal

pub returns-clause-does : goal.returns-clause-does
returns-clause-does g c =
    let m = c.args.self.now in
    mended_syncs m.hash m.writes m.cells c.file_sync.ensures.does
