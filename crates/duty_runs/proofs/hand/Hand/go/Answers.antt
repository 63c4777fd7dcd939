-- `Hand::go`: that its loop keeps its invariant, what `back` requires, and its clauses where it comes back.
use Rattle.std.proofs.Common.{◌≡◌, ◌≤◌, ◌<◌, ◌+◌, ◌-◌, ◌^◌, ◌∙◌, ℕ, List, length, slice_index, Option, refl, sym, ap, subst, arith}
use Rattle.std.proofs.lemmas.Grind.{common_steps}
use Rattle.armv6m_step.specs.Registers.{pc_of}
use Rattle.bench_model.specs.Shown.{bench_of}
use Rattle.flash_layout.specs.Areas.{cells_in}
use Rattle.flash_layout.specs.Maps.{FlashMap}
use Rattle.flash_layout.specs.Work.{range_of}
use Rattle.algo_loader.specs.declared.layout.Layout.{Layout}
use Rattle.target_core.specs.declared.machine.Machine.{Machine}
use Rattle.target_core.specs.Units.{UnitState, state_op}
use Rattle.algo_calls.specs.Setups.{Setup}
use Rattle.algo_calls.specs.Frames.{fuel_of}
use Rattle.duty_proofs.specs.TargetMarks.{CellsAgree}
use Rattle.duty_proofs.specs.Runs.{start_marks}
use Rattle.duty_runs.specs.declared.step.RunMarks.{RunMarks}
use Rattle.duty_runs.specs.Asks.{place_in, before_in, own_page}
use Rattle.duty_runs.specs.States.{state_marks, state_of, state_world}
use Rattle.duty_runs.specs.Hands.{hand_setup, hand_base, hand_map, hand_point, run_marks}
use Rattle.duty_runs.specs.Runs.{Decides}
use Rattle.duty_runs.specs.Steps.{Steps}
use Rattle.duty_runs.proofs.AskLemmas.{cells_agree}
use Rattle.duty_runs.proofs.GoingLemmas.{goes_further, own}
use Rattle.duty_runs.proofs.BackLemmas.{back_holds, call_begins, decides, some_holds}
use Rattle.duty_runs.proofs.hand.Hand.go.Goals as goal

pub loop-made-init : goal.loop-made-init
loop-made-init c =
    let self = c.args.self.now in
    let a = c.args.ask.now in
    let b = c.args.state.now in
    let cells = (bench_of c.args.bench.now).cells in
    let fits : CellsAgree (own_page a.bytes.now) a.from (before_in a.task a.many) cells cells =
    subst (λ (l : List ℕ). CellsAgree (own_page a.bytes.now) a.from (before_in a.task a.many) l l) c.cells.ensures
    (cells_agree a.task a.bytes.now a.from a.many c.cells.result.now (c.fits.ensures.room c.if-not-fits.false) (c.fits.ensures.fits c.if-not-fits.false)) in (
      call_begins (hand_setup self) (hand_base self) (hand_map self) cells b a (hand_point c.stand.new.self cells) (run_marks c.in-Some.marks)
          (c.stand.ensures.first cells)
          (some_holds c.in_ok-marks.field-0 c.in-Some.marks (λ (q : RunMarks). run_marks q ≡ start_marks (hand_setup self)
          (state_marks (hand_base self) (hand_map self) b) (length a.bytes.now) a.from (before_in a.task a.many)) c.in-Some.is c.in_ok-marks.ensures.marks)
          (some_holds c.in_ok-marks.field-0 c.in-Some.marks (λ (q : RunMarks). (k : ℕ) → slice_index a.bytes.now k < 2 ^ 8) c.in-Some.is
          c.in_ok-marks.ensures.bytes)
          fits
          (some_holds c.in_ok-marks.field-0 c.in-Some.marks (λ (q : RunMarks). (hand_setup self).layout.buffer_at - (hand_setup self).layout.return_at
          + length a.bytes.now ≤ length b.known.items) c.in-Some.is c.in_ok-marks.ensures.room),
      record {
        count = c.requires.cells ∙ ap (λ (m : FlashMap). cells_in m.areas) (sym c.stand.ensures.map);
        operation = λ tells. c.requires.idle ∙ sym (ap range_of (ap (λ (u : UnitState). u.operation) c.stand.ensures.state ∙ b.idle));
      },
      c.stand.ensures.return_at,
      c.stand.ensures.setup,
      c.stand.ensures.map,
    )

pub loop-made-preserved : goal.loop-made-preserved
loop-made-preserved c =
    let self = c.args.self.now in
    let a = c.args.ask.now in
    let b = c.args.state.now in
    let cells = (bench_of c.args.bench.now).cells in
    let s = hand_setup self in
    let place = place_in a.task a.from a.many in
    let x = hand_point c.loop-made.self (bench_of c.loop-made.bench).cells in
    let x' = hand_point c.step.new.self (bench_of c.step.new.bench).cells in
    let r = run_marks c.loop-made.marks in
    let r' = run_marks c.step.new.marks in
    let steps : Steps s.layout.return_at place x x' r r' =
    subst (λ (n : ℕ). Steps n place x x' r r') c.loop-made.invariant.2
    (subst (λ (p : Option (ℕ × ℕ)). Steps c.loop-made.self.calls.machine.return_at p x x' r r') c.place-place.ensures c.in-Ok.ensures.steps) in (
      goes_further s place (state_marks (hand_base self) (hand_map self) b) (state_world (hand_base self) (hand_map self) cells b) a.call a.bytes.now a.from
          (before_in a.task a.many) c.loop-made.made r r' x x' c.loop-made.invariant.0 steps,
      c.step.ensures.agrees,
      c.step.ensures.return_at ∙ c.loop-made.invariant.2,
      c.step.ensures.setup ∙ c.loop-made.invariant.3,
      c.step.ensures.map ∙ c.loop-made.invariant.4,
    )

pub back-requires : goal.back-requires
back-requires c =
    let self = c.args.self.now in
    let a = c.args.ask.now in
    let agree = own (hand_setup self) (place_in a.task a.from a.many) (state_marks (hand_base self) (hand_map self) c.args.state.now)
    (state_world (hand_base self) (hand_map self) (bench_of c.args.bench.now).cells c.args.state.now) a.call a.bytes.now a.from (before_in a.task a.many)
    c.loop-made.made (run_marks c.loop-made.marks) (hand_point c.loop-made.self (bench_of c.loop-made.bench).cells) c.loop-made.invariant.0 in
    sym agree.bus.ram.here ∙ c.loop-made.self.fits.1

pub returns-then-pc-layout-clause-decides : goal.returns-then-pc-layout-clause-decides
returns-then-pc-layout-clause-decides c =
    let self = c.args.self.now in
    let a = c.args.ask.now in
    let b = c.args.state.now in
    let s = hand_setup self in
    let here = (bench_of c.args.bench.now).cells in
    let end = (bench_of c.loop-made.bench).cells in
    let fits : CellsAgree (own_page a.bytes.now) a.from (before_in a.task a.many) here here =
    subst (λ (l : List ℕ). CellsAgree (own_page a.bytes.now) a.from (before_in a.task a.many) l l) c.cells.ensures
    (cells_agree a.task a.bytes.now a.from a.many c.cells.result.now (c.fits.ensures.room c.if-not-fits.false) (c.fits.ensures.fits c.if-not-fits.false)) in
    let room : s.layout.buffer_at - s.layout.return_at + length a.bytes.now ≤ length b.known.items =
    some_holds c.in_ok-marks.field-0 c.in-Some.marks (λ (q : RunMarks). (hand_setup self).layout.buffer_at - (hand_setup self).layout.return_at
    + length a.bytes.now ≤ length b.known.items) c.in-Some.is c.in_ok-marks.ensures.room in
    let within : c.loop-made.made ≤ fuel_of s a.call = omega (arith, c.loop-made-test.true, c.min-fuel.ensures, c.stand.ensures.fuel) in
    let at : c.pc-pc.result ≡ c.layout.result.now.return_at = grind (arith, common_steps) in
    let back : pc_of c.loop-made.self.calls.machine.core ≡ s.layout.return_at =
    sym (ap (λ (m : Machine). pc_of m.core) c.machine.ensures) ∙ sym c.pc-pc.ensures ∙ at ∙ ap (λ (l : Layout). l.return_at) c.layout.ensures
    ∙ ap (λ (t : Setup). t.layout.return_at) c.loop-made.invariant.3 in
    let stays : length end ≡ length here =
    c.loop-made.invariant.1.count ∙ ap (λ (m : FlashMap). cells_in m.areas) c.loop-made.invariant.4 ∙ sym c.requires.cells in
    back_holds c.back.result _ _ (λ left steps returns cells long.
    subst (λ (n : ℕ). Decides s a.task (state_of (hand_base self) (hand_map self) cells b) a.call a.bytes.now a.from a.many here n
    (state_of (hand_base self) (hand_map self) cells left)) (sym returns.0)
    (decides s (hand_base self) (hand_map self) a c.loop-made.made cells here end b left c.loop-made.self c.loop-made.marks c.loop-made.invariant.0 returns.1
    within back room fits long stays)) c.back.ensures

pub returns-then-pc-layout-clause-bench : goal.returns-then-pc-layout-clause-bench
returns-then-pc-layout-clause-bench c =
    let self = c.args.self.now in
    let a = c.args.ask.now in
    let agree = own (hand_setup self) (place_in a.task a.from a.many) (state_marks (hand_base self) (hand_map self) c.args.state.now)
    (state_world (hand_base self) (hand_map self) (bench_of c.args.bench.now).cells c.args.state.now) a.call a.bytes.now a.from (before_in a.task a.many)
    c.loop-made.made (run_marks c.loop-made.marks) (hand_point c.loop-made.self (bench_of c.loop-made.bench).cells) c.loop-made.invariant.0 in
    back_holds c.back.result _ _ (λ left steps returns. c.loop-made.invariant.1.operation refl ∙ ap state_op agree.bus.state ∙ ap range_of returns.1.idle)
    c.back.ensures
