-- `Machine::run`: that it keeps its contract.
use Rattle.target_core.specs.Windows.{IsRam}
use Rattle.std.proofs.Common.{arith, refl, subst, ap, ◌∙◌}
use Rattle.target_core.specs.Runs.{RunGives}
use Rattle.target_core.specs.Targets.{over, point_in}
use Rattle.target_core.specs.declared.machine.Machine.{Machine}
use Rattle.target_core.proofs.EndLemmas.{run_of_slice}
use Rattle.target_core.proofs.machine.Machine.run.Goals as goal

pub returns-in-Ended-clause-run : goal.returns-in-Ended-clause-run
returns-in-Ended-clause-run g c told =
    let start = g.B.Bench.state c.args.bench.now in
    let end = g.B.Bench.state c.run_slice.new.bench in
    subst (λ (m : Machine). RunGives m.return_at c.args.fuel (point_in (over m c.args.arena.now c.args.window) start.cells) start c.in-Ended.end
    (point_in (over c.run_slice.new.self c.run_slice.new.arena c.args.window) end.cells) end) c.begin.ensures
    (run_of_slice _ (point_in (over c.begin.new.self c.args.arena.now c.args.window) start.cells)
    (point_in (over c.run_slice.new.self c.run_slice.new.arena c.args.window) end.cells) start end c.args.fuel _ c.args.fuel c.in-Ended.end
    (c.in-Ended.ensures.run told))

pub returns-in-More-clause-base : goal.returns-in-More-clause-base
returns-in-More-clause-base g c = c.in-More.ensures.base ∙ ap (λ (m : Machine). m.ram_base) c.begin.ensures

pub returns-in-Ended-clause-base : goal.returns-in-Ended-clause-base
returns-in-Ended-clause-base g c = c.in-Ended.ensures.base ∙ ap (λ (m : Machine). m.ram_base) c.begin.ensures

pub returns-in-More-clause-size : goal.returns-in-More-clause-size
returns-in-More-clause-size g c = c.in-More.ensures.size ∙ ap (λ (m : Machine). m.ram_size) c.begin.ensures

pub returns-in-Ended-clause-size : goal.returns-in-Ended-clause-size
returns-in-Ended-clause-size g c = c.in-Ended.ensures.size ∙ ap (λ (m : Machine). m.ram_size) c.begin.ensures

pub returns-in-More-clause-return_at : goal.returns-in-More-clause-return_at
returns-in-More-clause-return_at g c = c.in-More.ensures.return_at ∙ ap (λ (m : Machine). m.return_at) c.begin.ensures

pub returns-in-Ended-clause-return_at : goal.returns-in-Ended-clause-return_at
returns-in-Ended-clause-return_at g c = c.in-Ended.ensures.return_at ∙ ap (λ (m : Machine). m.return_at) c.begin.ensures

pub returns-in-More-clause-ram_stays : goal.returns-in-More-clause-ram_stays
returns-in-More-clause-ram_stays g c =
    subst (λ (m : Machine). IsRam c.run_slice.new.arena c.args.window m.ram_size) c.begin.ensures c.in-More.ensures.ram_stays

pub returns-in-Ended-clause-ram_stays : goal.returns-in-Ended-clause-ram_stays
returns-in-Ended-clause-ram_stays g c =
    subst (λ (m : Machine). IsRam c.run_slice.new.arena c.args.window m.ram_size) c.begin.ensures c.in-Ended.ensures.ram_stays

pub returns-in-More-clause-run : goal.returns-in-More-clause-run
returns-in-More-clause-run g c told = let more = c.in-More.ensures.more refl in absurd (omega (arith, more.0, more.1))
