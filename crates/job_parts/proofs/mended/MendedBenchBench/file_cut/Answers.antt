-- `file_cut`: its clause `does`.
use Rattle.job_parts.proofs.MendedLemmas.{refused_cut}
use Rattle.job_parts.proofs.mended.MendedBenchBench.file_cut.Goals as goal

pub returns-clause-does : goal.returns-clause-does
returns-clause-does g c =
    let m = c.args.self.now in
    refused_cut (g.B.Bench.state m.inner) m.hash m.writes c.raise.new.self m.cells c.raise.ensures.later c.raise.ensures.rose c.requires
