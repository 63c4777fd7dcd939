-- `Runner::go_on`: its clauses `both` and `window`.
use Rattle.std.proofs.Common.{ℕ, subst}
use Rattle.target_core.specs.Windows.{IsRam}
use Rattle.target_vectors.proofs.BothLemmas.{both_stay}
use Rattle.target_vectors.proofs.runs.pair.Runner.go_on.Goals as goal

pub returns-clause-both : goal.returns-clause-both
returns-clause-both c =
    both_stay _ _ c.args.window c.requires.place c.run_slice.ensures.others
    (subst (λ (n : ℕ). IsRam c.run_slice.new.arena c.args.window n) c.args.self.now.size c.run_slice.ensures.ram_stays) c.requires.both

pub returns-clause-window : goal.returns-clause-window
returns-clause-window c = subst (λ (n : ℕ). IsRam c.run_slice.new.arena c.args.window n) c.args.self.now.size c.run_slice.ensures.ram_stays
