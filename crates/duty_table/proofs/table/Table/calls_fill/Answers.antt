-- `Table::calls_fill`: its clause `fills`, that its loop keeps its invariant, and what `call_fills` requires.
use Rattle.std.proofs.Common.{◌∙◌, refl, arith}
use Rattle.duty_table.proofs.LastLemmas.{one_more, none_so, none_yet}
use Rattle.duty_table.proofs.table.Table.calls_fill.Goals as goal

pub loop-number-init : goal.loop-number-init
loop-number-init c = (refl, none_yet c.args.self.now.subject.now c.args.work c.args.states.now c.args.state.now)

pub call_fills-requires-clause-number : goal.call_fills-requires-clause-number
call_fills-requires-clause-number c = rw c.loop-number.invariant.0 (omega (arith, c.count-number-end.ensures.count))

pub call_fills-requires-clause-function : goal.call_fills-requires-clause-function
call_fills-requires-clause-function c = rw c.loop-number.invariant.0 c.requires

pub loop-number-preserved : goal.loop-number-preserved
loop-number-preserved c =
    let kept = none_so _ _ c.in-None.is c.in_ok-call_fills.ensures.fills in
    let last = rw c.loop-number.invariant.0 at kept in (
      c.in_ok-call_fills.ensures.subject ∙ c.loop-number.invariant.0,
      one_more c.args.self.now.subject.now c.args.work c.args.states.now c.args.state.now c.loop-number.number c.loop-number.invariant.1 last,
    )

pub returns-clause-fills : goal.returns-clause-fills
returns-clause-fills c = λ k below. c.loop-number.invariant.1 k (omega (arith, below, c.count-number-end.ensures.count))
