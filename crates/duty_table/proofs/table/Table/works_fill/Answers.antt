-- `Table::works_fill`: its clause `fills`, that its loop keeps its invariant, and what `calls_fill` requires.
use Rattle.std.proofs.Common.{◌∙◌, refl, arith}
use Rattle.duty_trials.specs.Lists.{count_of}
use Rattle.duty_trials.specs.Subjects.{site_in}
use Rattle.duty_table.specs.Tables.{CallsFill}
use Rattle.duty_table.proofs.LastLemmas.{each_more, none_so}
use Rattle.duty_table.proofs.table.Table.works_fill.Goals as goal

pub loop-state-init : goal.loop-state-init
loop-state-init c = (refl, λ i d below. absurd (omega (arith, below)))

pub calls_fill-requires : goal.calls_fill-requires
calls_fill-requires c = rw c.loop-state.invariant.0 c.requires

pub loop-state-preserved : goal.loop-state-preserved
loop-state-preserved c =
    let t = c.args.self.now.subject.now in
    let kept = none_so _ _ c.in-None.is c.in_ok-calls_fill.ensures.fills in
    let last = rw c.loop-state.invariant.0 at kept in (
      c.in_ok-calls_fill.ensures.subject ∙ c.loop-state.invariant.0,
      each_more (λ st. CallsFill t c.args.work c.args.states.now st (count_of (site_in t).layout c.args.work)) c.args.states.now
          c.loop-state.state-index c.state-item.result (omega arith) c.state-item.is c.loop-state.invariant.1 last,
    )

pub returns-clause-fills : goal.returns-clause-fills
returns-clause-fills c = λ i d below. c.loop-state.invariant.1 i d (omega (arith, below))
