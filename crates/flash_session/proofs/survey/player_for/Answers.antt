-- `player_for`: its clause `work`, and that its result meets the clauses of its type.
use Rattle.std.proofs.Common.{ℕ, List, ◌∷◌, length, sym, subst, arith}
use Rattle.std.proofs.lemmas.Grind.{common_steps}
use Rattle.flm_descriptor.specs.Shown.{Shown as AlgorithmShown, shown as algorithm_of}
use Rattle.flash_session.specs.Starts.{later_shown}
use Rattle.flash_session.specs.SurveyFacts.{HasRoom}
use Rattle.flash_session.proofs.JobLemmas.{blank_fits}
use Rattle.flash_session.proofs.survey.player_for.Goals as goal

pub invariant_of-result : goal.invariant_of-result
invariant_of-result c = record {
  ram = blank_fits c.args.job.now c.in_ok-machines.machines.0 c.in_ok-machines.machines.1 c.in_ok-arena.arena
      c.in_ok-machines.ensures c.in_ok-arena.ensures;
}

pub returns-clause-work : goal.returns-clause-work
returns-clause-work c = λ regions.
    let a = algorithm_of c.algorithms_of.result.0.now in
    let rest = later_shown c.algorithms_of.result.1 in
    record {
      regions = regions;
      machines = c.in_ok-machines.ensures;
      page = subst (λ (l : List AlgorithmShown). HasRoom l (length c.in_ok-page.page.items)) (sym c.algorithms_of.ensures)
          (subst (λ (n : ℕ). HasRoom (a ∷ rest) n) (sym c.in_ok-page.ensures) c.longest_page.ensures);
    }

pub same-arena : goal.same-arena
same-arena c = grind (arith, common_steps)
