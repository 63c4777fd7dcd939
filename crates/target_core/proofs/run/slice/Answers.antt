-- A slice is the steps that it made.
use Rattle.target_core.proofs.LoopLemmas.{not_more}
use Rattle.bench_model.proofs.CountLemmas.{none_counted, one_counted, counted_then}
use Rattle.std.proofs.Common.{◌≡◌, ℕ, slice_index, refl, sym, arith, ◌∙◌, ap, subst}
use Rattle.std.proofs.lemmas.Bool.{false≢true}
use Rattle.bench_model.proofs.Moments.{file_stays_then}
use Rattle.armv6m_step.specs.declared.ends.StepEnd.TheVariants as step
use Rattle.armv6m_step.specs.Ends.{is_device_end as is_device_step}
use Rattle.armv6m_step.specs.declared.core_state.Core.{Core}
use Rattle.armv6m_step.specs.Registers.{pc_of, moved}
use Rattle.armv6m_step.proofs.QuickLemmas.{moved_here}
use Rattle.target_core.specs.declared.run.RunEnd.TheVariants as run
use Rattle.target_core.specs.Path.{run_end, EndsWith, EndIs, MoreLeft}
use Rattle.target_core.specs.Points.{point_of}
use Rattle.target_core.proofs.PathLemmas.{ends_returned, ends_no_fuel, more_left}
use Rattle.target_core.proofs.StepLemmas.{same_then}
use Rattle.target_core.proofs.LoopLemmas.{SoFar, started, step_runs, step_ends, tick_runs, tick_broke, tick_told, went_of, not_fuel, not_steps, so_far_runs}
use Rattle.target_core.proofs.FineLemmas.{run_end_device}
use Rattle.target_core.proofs.run.slice.Goals as goal

pub steps-init : goal.steps-init
steps-init g c =
    let here : moved c.args.core.now c.pc-pc.result ≡ c.args.core.now = ap (moved c.args.core.now) c.pc-pc.ensures ∙ moved_here c.args.core.now in
    record {
      so_far = subst (λ (x : Core). SoFar c.args.return_at c.args.fuel c.args.steps c.args.core.now c.args.line.now x c.args.line.now 0) (sym here)
          (started (λ b x told. g.met.B.Bench.as_told b x told) c.args.return_at c.args.fuel c.args.steps c.args.core.now c.args.line.now);
      reads = ap pc_of here ∙ sym c.pc-pc.ensures;
    }

pub returns-then-pc-return_at-clause-end : goal.returns-then-pc-return_at-clause-end
returns-then-pc-return_at-clause-end g c told = (
  subst (λ (x : Core). EndsWith c.args.return_at c.args.fuel (point_of c.args.core.now c.args.line.now) c.steps.made
      (run.Returned (slice_index x.regs 0)) (point_of x c.steps.line)) (sym c.go_to.ensures)
      (ends_returned c.args.return_at c.args.fuel _ c.steps.made _ (c.steps.invariant.so_far.told told).is
      (c.steps.invariant.reads ∙ c.if-pc-return_at.true)),
  λ before fine. absurd (false≢true (sym before)),
)

pub returns-then-made-fuel-clause-end : goal.returns-then-made-fuel-clause-end
returns-then-made-fuel-clause-end g c told = (
  subst (λ (x : Core). EndsWith c.args.return_at c.args.fuel (point_of c.args.core.now c.args.line.now) c.steps.made (run.NoFuel c.steps.pc)
      (point_of x c.steps.line)) (sym c.go_to-then-made-least.ensures)
      (subst (λ (n : ℕ). EndsWith c.args.return_at c.args.fuel (point_of c.args.core.now c.args.line.now) c.steps.made (run.NoFuel n)
      (point_of (moved c.steps.core c.steps.pc) c.steps.line)) c.steps.invariant.reads
      (ends_no_fuel c.args.return_at c.args.fuel _ c.steps.made _ (c.steps.invariant.so_far.told told).is
      (λ back. c.if-pc-return_at.false (sym c.steps.invariant.reads ∙ back)) c.if-made-fuel.true)),
  λ before fine. absurd (false≢true (sym before)),
)

pub returns-then-made-least-clause-end : goal.returns-then-made-least-clause-end
returns-then-made-least-clause-end g c told = (
  omega (arith, c.if-made-least.true, c.min-least.ensures, c.if-made-fuel.false),
  subst (λ (x : Core). MoreLeft c.args.return_at c.args.fuel (point_of c.args.core.now c.args.line.now) c.steps.made (point_of x c.steps.line))
      (sym c.go_to-then-made-least.ensures)
      (more_left c.args.return_at c.args.fuel _ c.steps.made _ (c.steps.invariant.so_far.told told).is
      (λ back. c.if-pc-return_at.false (sym c.steps.invariant.reads ∙ back))
      (omega (arith, c.if-made-fuel.false, c.steps.invariant.so_far.within))),
)

pub returns-then-made-least-clause-more : goal.returns-then-made-least-clause-more
returns-then-made-least-clause-more g c same =
    (omega (arith, c.if-made-least.true, c.min-least.ensures, c.if-made-fuel.false), omega (arith, c.if-made-fuel.false, c.steps.invariant.so_far.within))

pub returns-in-Some-clause-run : goal.returns-in-Some-clause-run
returns-in-Some-clause-run g c told =
    step_runs c.args.return_at c.args.fuel c.args.steps c.args.core.now c.args.line.now (moved c.steps.core c.steps.pc) c.steps.line c.steps.made
    (moved c.instruction.new.core c.instruction.new.pc) c.instruction.new.line c.instruction.result c.steps.invariant.so_far
    c.instruction.ensures.does told
    c.in-Some.end (ap (run_end c.instruction.result) c.steps.invariant.reads ∙ sym c.in-Some.ensures)

pub returns-in-Some-clause-end : goal.returns-in-Some-clause-end
returns-in-Some-clause-end g c told = (
  subst (λ (x : Core). EndIs c.args.return_at c.args.fuel c.args.steps (point_of c.args.core.now c.args.line.now) c.steps.made c.in-Some.end
      (point_of x c.instruction.new.line) (g.B.Bench.state c.instruction.new.line.bench.now)) (sym c.go_to-in-Some.ensures)
      (step_ends c.args.return_at c.args.fuel c.args.steps c.args.core.now c.args.line.now (moved c.steps.core c.steps.pc) c.steps.line c.steps.made
      (moved c.instruction.new.core c.instruction.new.pc) c.instruction.new.line c.instruction.result c.steps.invariant.so_far
      c.instruction.ensures.does told
      c.in-Some.end (λ back. c.if-pc-return_at.false (sym c.steps.invariant.reads ∙ back))
      (not_fuel c.args.fuel c.args.steps c.min-least.result c.steps.made c.min-least.ensures c.steps.invariant.so_far.within_steps c.if-made-least.false)
      (not_steps c.args.fuel c.args.steps c.min-least.result c.steps.made c.min-least.ensures c.steps.invariant.so_far.within c.if-made-least.false)
      (ap (run_end c.instruction.result) c.steps.invariant.reads ∙ sym c.in-Some.ensures)),
  λ before fine. omega (arith, c.if-made-least.false, c.min-least.ensures, c.steps.invariant.so_far.within, c.steps.invariant.so_far.within_steps),
)

pub returns-in-Some-clause-file : goal.returns-in-Some-clause-file
returns-in-Some-clause-file g c = file_stays_then c.steps.invariant.so_far.file c.instruction.ensures.does.bench.file

pub returns-in-Err-clause-run : goal.returns-in-Err-clause-run
returns-in-Err-clause-run g c told =
    tick_runs c.args.return_at c.args.fuel c.args.steps c.args.core.now c.args.line.now (moved c.steps.core c.steps.pc) c.steps.line c.steps.made
    (moved c.instruction.new.core c.instruction.new.pc) c.instruction.new.line c.instruction.result c.steps.invariant.so_far
    c.instruction.ensures.does told
    c.tick.new.line (went_of c.instruction.result _ (sym c.in_default.ensures)) (λ back. c.if-pc-return_at.false (sym c.steps.invariant.reads ∙ back))
    (not_fuel c.args.fuel c.args.steps c.min-least.result c.steps.made c.min-least.ensures c.steps.invariant.so_far.within_steps c.if-made-least.false)
    c.in-Err.ensures.bench

pub returns-in-Err-clause-end : goal.returns-in-Err-clause-end
returns-in-Err-clause-end g c told = (
  tick_broke c.args.return_at c.args.fuel c.args.steps c.args.core.now c.args.line.now (moved c.steps.core c.steps.pc) c.steps.line c.steps.made
      (moved c.instruction.new.core c.instruction.new.pc) c.instruction.new.line c.instruction.result c.steps.invariant.so_far
      c.instruction.ensures.does told
      c.tick.new.line (went_of c.instruction.result _ (sym c.in_default.ensures)) (c.in-Err.ensures.err told),
  λ before fine. absurd (false≢true (sym fine)),
)

pub returns-in-Err-clause-file : goal.returns-in-Err-clause-file
returns-in-Err-clause-file g c = file_stays_then (file_stays_then c.steps.invariant.so_far.file c.instruction.ensures.does.bench.file)
    c.in-Err.ensures.bench.file

pub steps-preserved : goal.steps-preserved
steps-preserved g c =
    let went : c.instruction.result ≡ step.Went = went_of c.instruction.result _ (sym c.in_default.ensures) in
    record {
      so_far = record {
        within = omega (arith, c.if-made-least.false, c.min-least.ensures, c.steps.invariant.so_far.within, c.steps.invariant.so_far.within_steps);
        within_steps = omega (arith, c.if-made-least.false, c.min-least.ensures, c.steps.invariant.so_far.within, c.steps.invariant.so_far.within_steps);
        told = λ told. tick_told c.args.return_at c.args.fuel c.args.steps c.args.core.now c.args.line.now (moved c.steps.core c.steps.pc) c.steps.line
            c.steps.made (moved c.instruction.new.core c.instruction.new.pc) c.instruction.new.line c.instruction.result c.steps.invariant.so_far
            c.instruction.ensures.does told
            c.tick.new.line went (λ back. c.if-pc-return_at.false (sym c.steps.invariant.reads ∙ back))
            (not_fuel c.args.fuel c.args.steps c.min-least.result c.steps.made c.min-least.ensures c.steps.invariant.so_far.within_steps
            c.if-made-least.false) (c.in-Ok.ensures.ok told) c.in-Ok.ensures.bench;
        file = file_stays_then (file_stays_then c.steps.invariant.so_far.file c.instruction.ensures.does.bench.file) c.in-Ok.ensures.bench.file;
        faults = c.in-Ok.ensures.cause.on_ok refl ∙ c.instruction.ensures.does.cause.on_other (ap is_device_step went) ∙ c.steps.invariant.so_far.faults;
        same = same_then _ _ _ (same_then _ _ _ c.steps.invariant.so_far.same c.instruction.ensures.does.same) c.in-Ok.ensures.same;
      };
      reads = c.instruction.ensures.pc;
    }

pub returns-in-Some-clause-same : goal.returns-in-Some-clause-same
returns-in-Some-clause-same g c = same_then _ _ _ c.steps.invariant.so_far.same c.instruction.ensures.does.same

pub returns-in-Err-clause-same : goal.returns-in-Err-clause-same
returns-in-Err-clause-same g c = same_then _ _ _ (same_then _ _ _ c.steps.invariant.so_far.same c.instruction.ensures.does.same) c.in-Err.ensures.same

pub returns-then-pc-return_at-clause-cause : goal.returns-then-pc-return_at-clause-cause
returns-then-pc-return_at-clause-cause g c = none_counted _ _ c.steps.invariant.so_far.faults

pub returns-then-pc-return_at-clause-run : goal.returns-then-pc-return_at-clause-run
returns-then-pc-return_at-clause-run g c told = so_far_runs _ _ _ _ _ _ _ _ c.steps.invariant.so_far told

pub returns-then-made-fuel-clause-cause : goal.returns-then-made-fuel-clause-cause
returns-then-made-fuel-clause-cause g c = none_counted _ _ c.steps.invariant.so_far.faults

pub returns-then-made-fuel-clause-run : goal.returns-then-made-fuel-clause-run
returns-then-made-fuel-clause-run g c told = so_far_runs _ _ _ _ _ _ _ _ c.steps.invariant.so_far told

pub returns-then-made-least-clause-cause : goal.returns-then-made-least-clause-cause
returns-then-made-least-clause-cause g c = none_counted _ _ c.steps.invariant.so_far.faults

pub returns-then-made-least-clause-run : goal.returns-then-made-least-clause-run
returns-then-made-least-clause-run g c told = so_far_runs _ _ _ _ _ _ _ _ c.steps.invariant.so_far told

pub returns-in-Err-clause-more : goal.returns-in-Err-clause-more
returns-in-Err-clause-more g c same = absurd (not_more _ same)

pub returns-in-Some-clause-more : goal.returns-in-Some-clause-more
returns-in-Some-clause-more g c same = absurd (not_more _ same)

pub returns-then-pc-return_at-clause-more : goal.returns-then-pc-return_at-clause-more
returns-then-pc-return_at-clause-more g c same = absurd (not_more _ same)

pub returns-in-Err-clause-cause : goal.returns-in-Err-clause-cause
returns-in-Err-clause-cause g c =
    counted_then _ _ _ _ _ (ap is_device_step (went_of c.instruction.result _ (sym c.in_default.ensures)))
    (counted_then _ _ _ _ _ refl (none_counted _ _ c.steps.invariant.so_far.faults) c.instruction.ensures.does.cause)
    (one_counted _ _ c.in-Err.ensures.cause.later (c.in-Err.ensures.cause.on_fault refl))

pub returns-in-Some-clause-cause : goal.returns-in-Some-clause-cause
returns-in-Some-clause-cause g c =
    rw (run_end_device c.instruction.result c.steps.pc c.in-Some.end (sym c.in-Some.ensures))
    (counted_then _ _ _ _ _ refl (none_counted _ _ c.steps.invariant.so_far.faults) c.instruction.ensures.does.cause)

pub returns-then-made-fuel-clause-more : goal.returns-then-made-fuel-clause-more
returns-then-made-fuel-clause-more g c same = absurd (not_more _ same)

pub returns-in-Err-clause-left : goal.returns-in-Err-clause-left
returns-in-Err-clause-left g c =
    omega (arith, c.if-made-least.false, c.min-least.ensures, c.steps.invariant.so_far.within, c.steps.invariant.so_far.within_steps)

pub returns-in-Err-clause-made : goal.returns-in-Err-clause-made
returns-in-Err-clause-made g c =
    omega (arith, c.if-made-least.false, c.min-least.ensures, c.steps.invariant.so_far.within, c.steps.invariant.so_far.within_steps)
