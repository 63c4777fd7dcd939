-- `Stand::try_list`: its clause `broken`, that its loop keeps its invariant, and what `try_member` requires.
use Rattle.std.proofs.lemmas.Grind.{common_steps}
use Rattle.std.proofs.Common.{ℕ, [], sym, ◌∙◌, ap, arith}
use Rattle.target_core.specs.World.{World}
use Rattle.algo_calls.specs.declared.call.Call.TheVariants as call
use Rattle.algo_calls.specs.Frames.{asked}
use Rattle.duty_trials.specs.declared.list.Turn.TheVariants as turn
use Rattle.duty_trials.specs.Stands.{setup_in, state_in, world_in}
use Rattle.duty_trials.specs.Subjects.{board_in, algorithm_in}
use Rattle.duty_trials.specs.Lists.{kind_in}
use Rattle.duty_trials.specs.Ended.{BreaksAt}
use Rattle.duty_trials.proofs.LoopLemmas.{list_of, goes_first, goes_on, member_breaks, init_breaks, uninit_breaks, end_breaks, ended}
use Rattle.duty_trials.proofs.stand.Stand.try_list.Goals as goal

pub returns-in_default-clause-broken : goal.returns-in_default-clause-broken
returns-in_default-clause-broken c =
    let t = c.args.subject.now in
    let member = c.has_member.ensures c.if-not-has_member.false in
    let list = list_of t c.args.work c.args.set.now c.args.ideal.now member.0 member.1 c.requires.long c.step.ensures.bytes c.requires.set c.requires.function
    c.requires.may in
    ended turn.Init c.step.result c.at.result
    (BreaksAt (board_in t) (algorithm_in t) t.region c.args.work c.args.set.now c.args.ideal.now c.args.ideal.now) c.at.ensures (λ broken.
    init_breaks (board_in t) (algorithm_in t) t.region c.args.work c.args.set.now c.args.ideal.now (setup_in c.args.self.now) (world_in c.args.self.now) list
    c.requires.setup c.requires.stands
    (end_breaks t (setup_in c.args.self.now) (world_in c.args.self.now) (asked (call.Init c.kind-kind.result) []) (asked (call.Init (kind_in c.args.work)) [])
    c.args.ideal.now c.step.result c.step.ensures.broken (ap (λ (n : ℕ). asked (call.Init n) []) (sym c.kind-kind.ensures))
    (ap (λ (w : World). w.cells) c.requires.stands) c.requires.long broken))

pub loop-number-init : goal.loop-number-init
loop-number-init c =
    let t = c.args.subject.now in
    let kept = c.in-Kept.ensures in
    let member = c.has_member.ensures c.if-not-has_member.false in
    let list = list_of t c.args.work c.args.set.now c.args.ideal.now member.0 member.1 c.requires.long kept.bytes c.requires.set c.requires.function
    c.requires.may in (
      goes_first (board_in t) (algorithm_in t) t.region c.args.work c.args.set.now c.args.ideal.now c.kind-kind.result (setup_in c.args.self.now)
          (setup_in c.step.new.self) (world_in c.args.self.now) (world_in c.step.new.self) (state_in c.step.new.self).operation list c.kind-kind.ensures
          c.requires.setup kept.setup c.requires.stands (kept.world tt) (kept.cells tt) (kept.idle tt),
      omega (arith, kept.calls),
    )

pub returns-in_default-try_member-clause-broken : goal.returns-in_default-try_member-clause-broken
returns-in_default-try_member-clause-broken c =
    let t = c.args.subject.now in
    ended (turn.Member c.loop-number.number) c.try_member.result c.at-in_default-try_member.result
    (BreaksAt (board_in t) (algorithm_in t) t.region c.args.work c.args.set.now c.args.ideal.now c.try_member.new.ideal) c.at-in_default-try_member.ensures
    (λ broken.
    member_breaks (board_in t) (algorithm_in t) t.region c.args.work c.args.set.now c.args.ideal.now c.loop-number.number (setup_in c.loop-number.self)
    (world_in c.loop-number.self) (state_in c.loop-number.self).operation c.loop-number.ideal (world_in c.try_member.new.self)
    (state_in c.try_member.new.self).operation c.try_member.new.ideal c.try_member.result c.loop-number.invariant.0 c.try_member.ensures.tries broken)

pub loop-number-preserved : goal.loop-number-preserved
loop-number-preserved c =
    let t = c.args.subject.now in
    let kept = c.in-Kept-try_member.ensures in (
      goes_on (board_in t) (algorithm_in t) t.region c.args.work c.args.set.now c.args.ideal.now c.loop-number.number (setup_in c.loop-number.self)
          (world_in c.loop-number.self) (state_in c.loop-number.self).operation c.loop-number.ideal (world_in c.try_member.new.self)
          (state_in c.try_member.new.self).operation c.try_member.new.ideal _ c.loop-number.invariant.0 kept.tries (setup_in c.try_member.new.self) kept.setup
          tt,
      omega (arith, kept.calls, c.loop-number.invariant.1),
    )

pub returns-clause-broken : goal.returns-clause-broken
returns-clause-broken c =
    let t = c.args.subject.now in
    let goes = c.loop-number.invariant.0 in
    ended turn.UnInit c.step-last.result c.at-2.result
    (BreaksAt (board_in t) (algorithm_in t) t.region c.args.work c.args.set.now c.args.ideal.now c.loop-number.ideal) c.at-2.ensures (λ broken.
    uninit_breaks (board_in t) (algorithm_in t) t.region c.args.work c.args.set.now c.args.ideal.now c.loop-number.number (setup_in c.loop-number.self)
    (world_in c.loop-number.self) (state_in c.loop-number.self).operation c.loop-number.ideal c.step-last.ensures.bytes (omega arith) goes
    (end_breaks t (setup_in c.loop-number.self) (world_in c.loop-number.self) (asked (call.UnInit c.kind-kind.result) [])
    (asked (call.UnInit (kind_in c.args.work)) []) c.loop-number.ideal c.step-last.result c.step-last.ensures.broken
    (ap (λ (n : ℕ). asked (call.UnInit n) []) (sym c.kind-kind.ensures)) goes.cells (goes.long ∙ c.requires.long) broken))

pub try_member-requires-clause-set : goal.try_member-requires-clause-set
try_member-requires-clause-set c = grind (arith, common_steps)

pub try_member-requires-clause-number : goal.try_member-requires-clause-number
try_member-requires-clause-number c = grind (arith, common_steps)

pub try_member-requires-clause-setup : goal.try_member-requires-clause-setup
try_member-requires-clause-setup c = grind (arith, common_steps)
