-- What the run at hand fetches, and one step of it.
use Rattle.std.proofs.Common.{◌≡◌, ◌≤◌, if◌then◌else◌, ◌+◌, ◌-◌, ◌*◌, ℕ, Bool, true, false, nat_eq, nat_lt, length, slice_index, Some, None}
use Rattle.std.proofs.Common.{subst}
use Rattle.std.proofs.Common.{Ok, refl, sym, ap, ◌∙◌, arith}
use Rattle.std.proofs.lemmas.Bool.Decides.{nat_tests}
use Rattle.armv6m_step.specs.Access.{Load}
use Rattle.armv6m_step.specs.Registers.{pc_of}
use Rattle.armv6m_step.specs.declared.ends.StepEnd.{StepEnd}
use Rattle.armv6m_step.specs.declared.ends.StepEnd.TheVariants as step
use Rattle.bench_model.specs.State.{BenchState}
use Rattle.target_core.specs.declared.run.RunEnd.{RunEnd}
use Rattle.target_core.specs.declared.run.RunEnd.TheVariants as run
use Rattle.target_core.specs.declared.run.SliceEnd.{SliceEnd}
use Rattle.target_core.specs.declared.run.SliceEnd.TheVariants as slice
use Rattle.target_core.specs.World.{World, world_answer}
use Rattle.target_core.specs.Path.{Point, ticked, instructed, step_end, whole, point, end_at, run_end, GoesTo}
use Rattle.target_core.specs.Targets.{SliceFrom}
use Rattle.target_core.proofs.PathLemmas.{point_even, whole_on, whole_none}
use Rattle.ram_arena.specs.Words.{word16}
use Rattle.duty_runs.specs.Steps.{Advances}

before : (a b : ℕ) → b ≤ a → nat_lt a b ≡ false
before a b le = grind (arith, nat_tests)

pub half_read : (w : World) (at half : ℕ) → w.ram_base ≤ at → at + 2 ≤ w.ram_base + length w.ram → half ≡ word16 w.ram (at - w.ram_base) →
    (world_answer w (Load 2 at)).0 ≡ Ok half
unfolding world_answer
half_read w at half from to is =
    let near : nat_lt at w.ram_base ≡ false = before at w.ram_base from in
    let far : nat_lt (w.ram_base + length w.ram) (at + 2) ≡ false = before (w.ram_base + length w.ram) (at + 2) to in
    rw (near, far) (ap Ok (sym is))

-- a step that doesn't end the run went
went_so : (e : StepEnd) (pc : ℕ) → run_end e pc ≡ None → e ≡ step.Went
went_so step.Went pc none = refl
went_so (step.Break at) pc none = cc
went_so (step.Undefined at) pc none = cc
went_so (step.BusFault at) pc none = cc
went_so (step.Unaligned at) pc none = cc
went_so (step.BadState at) pc none = cc
went_so step.Device pc none = cc

-- a step continues if no end is found
no_end : (here used : Bool) (r : RunEnd) (pc : ℕ) (e : StepEnd) → (if here then Some r else if used then Some (run.NoFuel pc) else run_end e pc) ≡ None →
    (here ≡ false) × (e ≡ step.Went)
no_end true used r pc e none = cc
no_end false true r pc e none = cc
no_end false false r pc e none = (refl, went_so e pc none)

one_step : (return_at fuel made : ℕ) (x last : Point) → made ≡ 1 → GoesTo return_at fuel x made → last ≡ point x (2 * made) → Advances return_at x last
unfolding end_at
one_step return_at fuel made x last one goes leaves =
    let y : Point = whole x 0 in
    let same : y ≡ x = whole_none x in
    let none : (nat_eq (pc_of y.core) return_at ≡ false) × (step_end y ≡ step.Went) =
    no_end (nat_eq (pc_of y.core) return_at) (nat_eq 0 fuel) (run.Returned (slice_index y.core.regs 0)) (pc_of y.core) (step_end y)
    (goes 0 (omega (arith, one))) in
    let twice : 2 * made ≡ 2 * 1 = ap (λ (n : ℕ). 2 * n) one in
    record {
      went = ap step_end (sym same) ∙ none.1;
      away = ap (λ (p : Point). nat_eq (pc_of p.core) return_at) (sym same) ∙ none.0;
      leaves = leaves ∙ ap (point x) twice ∙ point_even x 1 ∙ whole_on x 0 ∙ ap (λ (p : Point). ticked (instructed p)) same;
    }

pub more_advances : (return_at left : ℕ) (x last : Point) (start end : BenchState) (e : SliceEnd) → e ≡ slice.More →
    SliceFrom return_at x start 2 left 1 e last end
    → Advances return_at x last
more_advances return_at left x last start end slice.More is sliced =
    one_step return_at 2 (2 - left) x last sliced.ends.0 sliced.runs.goes sliced.ends.1.leaves
more_advances return_at left x last start end (slice.Ended e) is sliced = cc

pub return_advances : (return_at left r0 : ℕ) (x last : Point) (start end : BenchState) (e : SliceEnd) → e ≡ slice.Ended (run.Returned r0) → left ≡ 1
    → SliceFrom return_at x start 2 left 1 e last end → Advances return_at x last
return_advances return_at left r0 x last start end e is one sliced =
    let ended : SliceFrom return_at x start 2 left 1 (slice.Ended (run.Returned r0)) last end =
    subst (λ (s : SliceEnd). SliceFrom return_at x start 2 left 1 s last end) is sliced in
    one_step return_at 2 (2 - left) x last (omega (arith, one)) ended.runs.goes ended.ends.0.leaves
