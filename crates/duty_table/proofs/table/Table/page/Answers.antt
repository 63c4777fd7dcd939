-- `Table::page`: its clause `goes`, and what `run` requires.
use Rattle.std.proofs.Common.{◌≤◌, ◌+◌, ◌-◌, ℕ, List, length, refl, ap, ◌∙◌, arith}
use Rattle.duty_trials.proofs.SubjectLemmas.{page_short}
use Rattle.duty_table.proofs.RunLemmas.{ok_back, page_leaves, small_at}
use Rattle.duty_table.proofs.table.Table.page.Goals as goal

pub run-requires-clause-may : goal.run-requires-clause-may
run-requires-clause-may c =
    let t = c.args.self.now.subject.now in
    let short : c.page-span.result.to ≤ c.page-span.result.from + t.algorithm.now.device.page =
    page_short t c.args.number c.page-span.result c.requires c.page-span.ensures in
    let long = ap (λ (l : List ℕ). length l) c.as_slice-held.ensures.value ∙ c.in_ok-bytes.ensures.count in
    omega (arith, short, long, c.page-span.ensures.order)

pub returns-clause-goes : goal.returns-clause-goes
returns-clause-goes c = ok_back c.run.result _ _ (λ left steps r.
    page_leaves c.args.self.now.subject.now _ c.args.state.now left c.args.number c.in_ok-bytes.bytes.items c.page-span.result c.page-span.ensures refl refl
    c.as_slice-held.ensures.value c.in_ok-bytes.ensures.count (small_at c.in_ok-bytes.bytes.items c.in_ok-bytes.ensures.bytes) refl refl r)
    c.run.ensures.runs
