-- `Runner::put`: its clause `both`.
use Rattle.std.proofs.Common.{ℕ, subst}
use Rattle.target_core.specs.Windows.{IsRam}
use Rattle.target_vectors.proofs.BothLemmas.{both_stay}
use Rattle.target_vectors.proofs.runs.pair.Runner.put.Goals as goal

pub returns-clause-both : goal.returns-clause-both
returns-clause-both c =
    both_stay _ _ c.args.window c.requires.place c.write_ram.ensures.others
    (subst (λ (n : ℕ). IsRam c.write_ram.new.arena c.args.window n) c.args.self.now.size c.write_ram.ensures.ram_stays) c.requires.both
