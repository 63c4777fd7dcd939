-- `Hand::step`: its clause `steps`.
use Rattle.std.proofs.Common.{◌≡◌, ◌∙◌, ℕ, Bool, if◌then◌else◌, Some, None, Ok, ap, subst}
use Rattle.bench_model.specs.Shown.{bench_of}
use Rattle.armv6m_step.specs.Access.{Load}
use Rattle.armv6m_step.specs.Numbers.{sum}
use Rattle.armv6m_step.specs.Registers.{pc_of}
use Rattle.target_core.specs.declared.machine.Machine.{Machine}
use Rattle.target_core.specs.World.{world_answer}
use Rattle.shadow_step.specs.Shadow.{Marks}
use Rattle.shadow_step.specs.Steps.{step_marks}
use Rattle.duty_proofs.specs.Views.{marks_in}
use Rattle.duty_proofs.specs.TargetMarks.{TargetMarks, target_shadow}
use Rattle.duty_runs.specs.Hands.{hand_point}
use Rattle.duty_runs.proofs.hand.Hand.step.Goals as goal

pub returns-in-Ok-clause-steps : goal.returns-in-Ok-clause-steps
returns-in-Ok-clause-steps c =
    let x = hand_point c.args.self.now (bench_of c.args.bench.now).cells in
    let half = c.in-Some-Some.half in
    let second = c.in-Some-Some.second in
    let at : c.pc-pc.result ≡ pc_of x.core = c.pc-pc.ensures ∙ ap (λ (m : Machine). pc_of m.core) c.machine.ensures in
    let between : Marks TargetMarks = record { core = c.step.new.self; bus = marks_in c.step.new.bus } in
    record {
      half = half;
      second = second;
      between = between;
      fetches = record {
        first = subst (λ (n : ℕ). (world_answer x.world (Load 2 n)).0 ≡ Ok half) at (c.in-Some-Some.ensures (bench_of c.args.bench.now).cells);
        then' = λ needs. subst (λ (n : ℕ). (world_answer x.world (Load 2 (sum n 2))).0 ≡ Ok second) at
            (c.in-Some-Some.ensures' (bench_of c.args.bench.now).cells);
      };
      marked = subst (λ (m : Machine). step_marks target_shadow c.args.marks.now.core (marks_in c.args.marks.now.target) m.core half second ≡ Some between)
          c.machine-2.ensures (c.step.ensures ∙ ap (λ (b : Bool). if b then Some between else None) c.if-not-step.false);
      within = c.opens_in.ensures c.if-not-opens_in.false;
      goes = c.in-Ok.ensures.goes;
      after = ap (λ (t : TargetMarks). let q : Marks TargetMarks = record { core = c.step.new.self; bus = t } in q) c.tick.ensures;
    }
