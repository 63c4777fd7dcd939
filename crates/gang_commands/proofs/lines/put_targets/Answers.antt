-- `put_targets`: its contract, `PutsEnds`, and that its loop keeps its invariant.
use Rattle.std.proofs.Common.{◌<◌, ◌∙◌, sym, ap, arith, length, Option, option_map, option_copied}
use Rattle.std.proofs.lemmas.List.{length-map}
use Rattle.report_text.specs.Shown.{shown}
use Rattle.report_text.specs.declared.refusal.Refusal.{Refusal}
use Rattle.gang_run.specs.Gangs.{slot_at}
use Rattle.gang_commands.specs.Puts.{status_behind}
use Rattle.gang_commands.proofs.LineLemmas.{any_outcome, in_place, within, puts_first, puts_one, puts_all, puts_cut, puts_ended}
use Rattle.gang_commands.proofs.OutcomeLemmas.{outcome_at, outcomes, have_outcomes, reason_at}
use Rattle.gang_commands.proofs.lines.put_targets.Goals as goal

pub returns-in_err-put_target : goal.returns-in_err-put_target
returns-in_err-put_target g c =
    let inside : c.loop-target.target < length c.args.gang.now.slots.items = omega (arith, c.loop-target-test.true, c.requires.count) in (
      outcomes c.args.gang.now,
      have_outcomes c.args.gang.now (λ i less. c.requires.ended i (omega (arith, less, c.requires.count))),
      puts_ended _ (outcomes c.args.gang.now) c.from_residual.result c.from_residual.ensures.0
          (puts_cut g.O.Sink.tells (g.O.Sink.state c.args.out.now) (g.O.Sink.state c.loop-target.out) (g.O.Sink.state c.put_target.new.out)
          (outcomes c.args.gang.now) c.loop-target.target c.loop-target.status any_outcome
          (within c.args.gang.now c.loop-target.target inside) c.loop-target.invariant (option_map shown (option_copied c.as_ref.result))
          (in_place c.args.gang.now c.loop-target.target any_outcome (option_map shown (option_copied c.as_ref.result)) inside
          (ap (λ (o : Option Refusal). option_map shown o) c.as_ref.ensures.value
          ∙ reason_at (slot_at c.args.gang.now c.loop-target.target) _ (c.requires.ended c.loop-target.target c.loop-target-test.true)
          c.target_refusal-refusal.ensures))
          _ c.in_err-put_target.ensures),
    )

pub loop-target-preserved : goal.loop-target-preserved
loop-target-preserved g c =
    let inside : c.loop-target.target < length c.args.gang.now.slots.items = omega (arith, c.loop-target-test.true, c.requires.count) in
    puts_one g.O.Sink.tells (g.O.Sink.state c.args.out.now) (g.O.Sink.state c.loop-target.out) (g.O.Sink.state c.put_target.new.out)
    (outcomes c.args.gang.now) c.loop-target.target c.loop-target.status any_outcome
    (within c.args.gang.now c.loop-target.target inside) c.loop-target.invariant (option_map shown (option_copied c.as_ref.result))
    (in_place c.args.gang.now c.loop-target.target any_outcome (option_map shown (option_copied c.as_ref.result)) inside
    (ap (λ (o : Option Refusal). option_map shown o) c.as_ref.ensures.value
    ∙ reason_at (slot_at c.args.gang.now c.loop-target.target) _ (c.requires.ended c.loop-target.target c.loop-target-test.true)
    c.target_refusal-refusal.ensures))
    _ c.first_status-status.result c.in_ok-put_target.ensures
    (c.first_status-status.ensures ∙ ap (λ (o : Option Refusal). status_behind c.loop-target.status (option_map shown o))
    (c.as_ref-in-loop-target.ensures.value ∙ sym c.as_ref.ensures.value))

pub loop-target-init : goal.loop-target-init
loop-target-init g c = puts_first g.O.Sink.tells (g.O.Sink.state c.args.out.now) (outcomes c.args.gang.now)

pub returns : goal.returns
returns g c = (
  outcomes c.args.gang.now,
  have_outcomes c.args.gang.now (λ i less. c.requires.ended i (omega (arith, less, c.requires.count))),
  puts_all g.O.Sink.tells (g.O.Sink.state c.args.out.now) (g.O.Sink.state c.loop-target.out) (outcomes c.args.gang.now) c.loop-target.target
      c.loop-target.status (omega (arith, length-map c.args.gang.now.slots.items outcome_at, c.requires.count, c.loop-target-test.false))
      c.loop-target.invariant,
)
