-- `flmgang`: its clauses `answers`, `usage`, `finished`, `campaigns` and `complete`, and what `open` and `run` require.
use Rattle.std.proofs.Common.{◌≡◌, ◌∙◌, length, refl, arith, inl, inr}
use Rattle.command_files.specs.Call.{sink_call}
use Rattle.gang_commands.proofs.CallLemmas.{have_ended, unfit_answers, unfit_finished, unfit_keeps, memory_answers, memory_finished, memory_keeps}
use Rattle.gang_commands.proofs.CallLemmas.{ended_answers, ended_usage, ended_finished, ended_keeps, ended_complete}
use Rattle.gang_commands.proofs.WordLemmas.{some_benches, few_benches, not_fit, does_fit}
use Rattle.gang_commands.proofs.top.flmgang.Goals as goal

pub returns-then-not-do_fit-clause-answers : goal.returns-then-not-do_fit-clause-answers
returns-then-not-do_fit-clause-answers g c =
    unfit_answers g.B.Bench (length c.args.words.now) c.args.benches.now c.args.benches.now
    (sink_call g.O.Sink.tells (g.O.Sink.state c.args.out.now) (g.O.Sink.state c.args.out.now))
    (sink_call g.E.Sink.tells (g.E.Sink.state c.args.err.now) (g.E.Sink.state c.refuse.new.err)) c.refuse.result
    (not_fit (length c.args.words.now) (length c.args.benches.now) _ _ c.do_fit.result c.if-not-do_fit.true c.do_fit.ensures refl refl)
    (record { same = refl; prints = record { taken = refl; faults = refl }; says = c.refuse.ensures })

pub returns-then-not-do_fit-clause-usage : goal.returns-then-not-do_fit-clause-usage
returns-then-not-do_fit-clause-usage g c = (
  (λ is. not_fit (length c.args.words.now) (length c.args.benches.now) _ _ c.do_fit.result c.if-not-do_fit.true c.do_fit.ensures refl refl),
  (λ unfit. c.refuse.ensures.0),
)

pub returns-then-not-do_fit-clause-finished : goal.returns-then-not-do_fit-clause-finished
returns-then-not-do_fit-clause-finished g c =
    λ told. unfit_finished g.B.Bench (length c.args.words.now) c.args.benches.now c.args.benches.now
    (sink_call g.O.Sink.tells (g.O.Sink.state c.args.out.now) (g.O.Sink.state c.args.out.now))
    (sink_call g.E.Sink.tells (g.E.Sink.state c.args.err.now) (g.E.Sink.state c.refuse.new.err)) c.refuse.result
    (not_fit (length c.args.words.now) (length c.args.benches.now) _ _ c.do_fit.result c.if-not-do_fit.true c.do_fit.ensures refl refl)
    (record { same = refl; prints = record { taken = refl; faults = refl }; says = c.refuse.ensures })

pub returns-then-not-do_fit-clause-campaigns : goal.returns-then-not-do_fit-clause-campaigns
returns-then-not-do_fit-clause-campaigns g c =
    λ told. unfit_keeps g.B.Bench (length c.args.words.now) c.args.benches.now c.args.benches.now
    (sink_call g.O.Sink.tells (g.O.Sink.state c.args.out.now) (g.O.Sink.state c.args.out.now))
    (sink_call g.E.Sink.tells (g.E.Sink.state c.args.err.now) (g.E.Sink.state c.refuse.new.err)) c.refuse.result
    (not_fit (length c.args.words.now) (length c.args.benches.now) _ _ c.do_fit.result c.if-not-do_fit.true c.do_fit.ensures refl refl)
    (record { same = refl; prints = record { taken = refl; faults = refl }; says = c.refuse.ensures })

pub returns-then-not-do_fit-clause-complete : goal.returns-then-not-do_fit-clause-complete
returns-then-not-do_fit-clause-complete g c =
    λ told fit served none_rose quiet. absurd (not_fit (length c.args.words.now) (length c.args.benches.now) _ _ c.do_fit.result c.if-not-do_fit.true
    c.do_fit.ensures refl refl fit)

pub open-requires-clause-some : goal.open-requires-clause-some
open-requires-clause-some g c =
    some_benches (length c.args.words.now) (length c.args.benches.now)
    (does_fit (length c.args.words.now) (length c.args.benches.now) _ _ c.do_fit.result c.if-not-do_fit.false c.do_fit.ensures refl refl)

pub open-requires-clause-few : goal.open-requires-clause-few
open-requires-clause-few g c =
    few_benches (length c.args.words.now) (length c.args.benches.now)
    (does_fit (length c.args.words.now) (length c.args.benches.now) _ _ c.do_fit.result c.if-not-do_fit.false c.do_fit.ensures refl refl)

pub run-requires-clause-few : goal.run-requires-clause-few
run-requires-clause-few g c =
    omega (
      arith,
      few_benches (length c.args.words.now) (length c.args.benches.now)
          (does_fit (length c.args.words.now) (length c.args.benches.now) _ _ c.do_fit.result c.if-not-do_fit.false c.do_fit.ensures refl refl),
      c.open.ensures.benches,
    )

pub returns-in-Err-clause-answers : goal.returns-in-Err-clause-answers
returns-in-Err-clause-answers g c =
    memory_answers g.B.Bench (length c.args.words.now) c.args.benches.now c.open.new.benches
    (sink_call g.O.Sink.tells (g.O.Sink.state c.args.out.now) (g.O.Sink.state c.args.out.now))
    (sink_call g.E.Sink.tells (g.E.Sink.state c.args.err.now) (g.E.Sink.state c.refuse-in-Err.new.err)) c.refuse-in-Err.result
    (does_fit (length c.args.words.now) (length c.args.benches.now) _ _ c.do_fit.result c.if-not-do_fit.false c.do_fit.ensures refl refl) c.open.ensures.benches
    (record { looked = c.open.ensures.looked; prints = record { taken = refl; faults = refl }; says = c.refuse-in-Err.ensures })

pub returns-in-Err-clause-usage : goal.returns-in-Err-clause-usage
returns-in-Err-clause-usage g c = (
  (λ is. let one : c.refuse-in-Err.result ≡ 1 = c.refuse-in-Err.ensures.0 in absurd (omega (arith, one, is))),
  (λ unfit. absurd (unfit (does_fit (length c.args.words.now) (length c.args.benches.now) _ _ c.do_fit.result c.if-not-do_fit.false c.do_fit.ensures refl
      refl))),
)

pub returns-in-Err-clause-finished : goal.returns-in-Err-clause-finished
returns-in-Err-clause-finished g c =
    λ told. memory_finished g.B.Bench (length c.args.words.now) c.args.benches.now c.open.new.benches
    (sink_call g.O.Sink.tells (g.O.Sink.state c.args.out.now) (g.O.Sink.state c.args.out.now))
    (sink_call g.E.Sink.tells (g.E.Sink.state c.args.err.now) (g.E.Sink.state c.refuse-in-Err.new.err)) c.refuse-in-Err.result
    (does_fit (length c.args.words.now) (length c.args.benches.now) _ _ c.do_fit.result c.if-not-do_fit.false c.do_fit.ensures refl refl) c.open.ensures.benches
    (record { looked = c.open.ensures.looked; prints = record { taken = refl; faults = refl }; says = c.refuse-in-Err.ensures })

pub returns-in-Err-clause-campaigns : goal.returns-in-Err-clause-campaigns
returns-in-Err-clause-campaigns g c =
    λ told. memory_keeps g.B.Bench (length c.args.words.now) c.args.benches.now c.open.new.benches
    (sink_call g.O.Sink.tells (g.O.Sink.state c.args.out.now) (g.O.Sink.state c.args.out.now))
    (sink_call g.E.Sink.tells (g.E.Sink.state c.args.err.now) (g.E.Sink.state c.refuse-in-Err.new.err)) c.refuse-in-Err.result
    (does_fit (length c.args.words.now) (length c.args.benches.now) _ _ c.do_fit.result c.if-not-do_fit.false c.do_fit.ensures refl refl) c.open.ensures.benches
    (record { looked = c.open.ensures.looked; prints = record { taken = refl; faults = refl }; says = c.refuse-in-Err.ensures })

pub returns-in-Err-clause-complete : goal.returns-in-Err-clause-complete
returns-in-Err-clause-complete g c =
    λ told fit served none_rose quiet. inr c.refuse-in-Err.ensures.0

pub returns-in-Ok-clause-answers : goal.returns-in-Ok-clause-answers
returns-in-Ok-clause-answers g c =
    ended_answers g.B.Bench (length c.args.words.now) c.args.benches.now c.run.new.benches
    (sink_call g.O.Sink.tells (g.O.Sink.state c.args.out.now) (g.O.Sink.state c.run.new.out))
    (sink_call g.E.Sink.tells (g.E.Sink.state c.args.err.now) (g.E.Sink.state c.run.new.err)) c.run.result
    (does_fit (length c.args.words.now) (length c.args.benches.now) _ _ c.do_fit.result c.if-not-do_fit.false c.do_fit.ensures refl refl)
    (c.run.ensures.count ∙ c.open.ensures.benches)
    (have_ended g.B.Bench c.args.benches.now c.open.new.benches c.run.new.benches c.in-Ok.gang
    (sink_call g.O.Sink.tells (g.O.Sink.state c.args.out.now) (g.O.Sink.state c.run.new.out))
    (sink_call g.E.Sink.tells (g.E.Sink.state c.args.err.now) (g.E.Sink.state c.run.new.err)) c.run.result c.open.ensures.benches c.in-Ok.ensures.opened
    c.in-Ok.ensures.ready c.run.ensures)

pub returns-in-Ok-clause-usage : goal.returns-in-Ok-clause-usage
returns-in-Ok-clause-usage g c = (
  (λ is. absurd (ended_usage g.B.Bench (length c.args.words.now) c.args.benches.now c.run.new.benches
      (sink_call g.O.Sink.tells (g.O.Sink.state c.args.out.now) (g.O.Sink.state c.run.new.out))
      (sink_call g.E.Sink.tells (g.E.Sink.state c.args.err.now) (g.E.Sink.state c.run.new.err)) c.run.result
      (does_fit (length c.args.words.now) (length c.args.benches.now) _ _ c.do_fit.result c.if-not-do_fit.false c.do_fit.ensures refl refl)
      (c.run.ensures.count ∙ c.open.ensures.benches)
      (have_ended g.B.Bench c.args.benches.now c.open.new.benches c.run.new.benches c.in-Ok.gang
      (sink_call g.O.Sink.tells (g.O.Sink.state c.args.out.now) (g.O.Sink.state c.run.new.out))
      (sink_call g.E.Sink.tells (g.E.Sink.state c.args.err.now) (g.E.Sink.state c.run.new.err)) c.run.result c.open.ensures.benches c.in-Ok.ensures.opened
      c.in-Ok.ensures.ready c.run.ensures) is)),
  (λ unfit. absurd (unfit (does_fit (length c.args.words.now) (length c.args.benches.now) _ _ c.do_fit.result c.if-not-do_fit.false c.do_fit.ensures refl
      refl))),
)

pub returns-in-Ok-clause-finished : goal.returns-in-Ok-clause-finished
returns-in-Ok-clause-finished g c =
    ended_finished g.B.Bench (length c.args.words.now) c.args.benches.now c.run.new.benches
    (sink_call g.O.Sink.tells (g.O.Sink.state c.args.out.now) (g.O.Sink.state c.run.new.out))
    (sink_call g.E.Sink.tells (g.E.Sink.state c.args.err.now) (g.E.Sink.state c.run.new.err)) c.run.result
    (does_fit (length c.args.words.now) (length c.args.benches.now) _ _ c.do_fit.result c.if-not-do_fit.false c.do_fit.ensures refl refl)
    (c.run.ensures.count ∙ c.open.ensures.benches)
    (have_ended g.B.Bench c.args.benches.now c.open.new.benches c.run.new.benches c.in-Ok.gang
    (sink_call g.O.Sink.tells (g.O.Sink.state c.args.out.now) (g.O.Sink.state c.run.new.out))
    (sink_call g.E.Sink.tells (g.E.Sink.state c.args.err.now) (g.E.Sink.state c.run.new.err)) c.run.result c.open.ensures.benches c.in-Ok.ensures.opened
    c.in-Ok.ensures.ready c.run.ensures)

pub returns-in-Ok-clause-campaigns : goal.returns-in-Ok-clause-campaigns
returns-in-Ok-clause-campaigns g c =
    ended_keeps g.B.Bench (length c.args.words.now) c.args.benches.now c.run.new.benches
    (sink_call g.O.Sink.tells (g.O.Sink.state c.args.out.now) (g.O.Sink.state c.run.new.out))
    (sink_call g.E.Sink.tells (g.E.Sink.state c.args.err.now) (g.E.Sink.state c.run.new.err)) c.run.result
    (does_fit (length c.args.words.now) (length c.args.benches.now) _ _ c.do_fit.result c.if-not-do_fit.false c.do_fit.ensures refl refl)
    (c.run.ensures.count ∙ c.open.ensures.benches)
    (have_ended g.B.Bench c.args.benches.now c.open.new.benches c.run.new.benches c.in-Ok.gang
    (sink_call g.O.Sink.tells (g.O.Sink.state c.args.out.now) (g.O.Sink.state c.run.new.out))
    (sink_call g.E.Sink.tells (g.E.Sink.state c.args.err.now) (g.E.Sink.state c.run.new.err)) c.run.result c.open.ensures.benches c.in-Ok.ensures.opened
    c.in-Ok.ensures.ready c.run.ensures)

pub returns-in-Ok-clause-complete : goal.returns-in-Ok-clause-complete
returns-in-Ok-clause-complete g c =
    λ told fit served none_rose quiet. inl (ended_complete g.B.Bench (length c.args.words.now) c.args.benches.now c.run.new.benches
    (sink_call g.O.Sink.tells (g.O.Sink.state c.args.out.now) (g.O.Sink.state c.run.new.out))
    (sink_call g.E.Sink.tells (g.E.Sink.state c.args.err.now) (g.E.Sink.state c.run.new.err)) c.run.result
    (does_fit (length c.args.words.now) (length c.args.benches.now) _ _ c.do_fit.result c.if-not-do_fit.false c.do_fit.ensures refl refl)
    (c.run.ensures.count ∙ c.open.ensures.benches)
    (have_ended g.B.Bench c.args.benches.now c.open.new.benches c.run.new.benches c.in-Ok.gang
    (sink_call g.O.Sink.tells (g.O.Sink.state c.args.out.now) (g.O.Sink.state c.run.new.out))
    (sink_call g.E.Sink.tells (g.E.Sink.state c.args.err.now) (g.E.Sink.state c.run.new.err)) c.run.result c.open.ensures.benches c.in-Ok.ensures.opened
    c.in-Ok.ensures.ready c.run.ensures)
    c.scripts_that_serve_reach_their_goal.ensures told served none_rose quiet)
