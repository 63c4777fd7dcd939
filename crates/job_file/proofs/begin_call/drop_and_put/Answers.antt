-- `drop_and_put`: its clauses `unopened`, `ok` and `stops`.
use Rattle.std.proofs.Common.{rules, ◌≡◌, ◌∙◌, ◌++◌, ◌∷◌, ℕ, List, None, inl, inr, Err, OnOk, sym, subst, arith}
use Rattle.std.proofs.lemmas.Result.{on_ok_weaker}
use Rattle.std.proofs.lemmas.Grind.{common_steps}
use Rattle.bench_model.specs.History.{LeftOnly}
use Rattle.bench_model.specs.State.{file_half}
use Rattle.bench_model.proofs.Moments.{leaves_as, leaves_then, stays_leaves, stays_adds_nothing}
use Rattle.job_text.specs.Parts.{front_of, with_hash}
use Rattle.job_file.specs.declared.fault.BeginFault.TheVariants as beginning
use Rattle.job_file.specs.Stops.{IsFreeOrWhole, IsOfBegin, IsUnopened}
use Rattle.job_file.proofs.UnopenedLemmas.{unopened_behind}
use Rattle.job_file.proofs.begin_call.drop_and_put.Goals as goal

pub returns-clause-unopened : goal.returns-clause-unopened
returns-clause-unopened g c = λ told.
    unopened_behind (file_half (g.B.Bench.state c.args.bench.now)) (file_half (g.B.Bench.state c.cells_drop.new.self))
    (file_half (g.B.Bench.state c.put_job.new.bench)) c.put_job.result
    (stays_adds_nothing c.cells_drop.ensures.does.file.half) (c.put_job.ensures.unopened told)

pub returns-in_err-cells_drop-clause-unopened : goal.returns-in_err-cells_drop-clause-unopened
returns-in_err-cells_drop-clause-unopened g c = λ told.
    let u = c.from_residual.ensures in
    let is : c.from_residual.result ≡ Err beginning.DeviceFault = search rules in
    rw is (stays_leaves (IsUnopened (file_half (g.B.Bench.state c.args.bench.now))) (λ f at. inl at) c.cells_drop.ensures.does.file.half)

pub returns-clause-ok : goal.returns-clause-ok
returns-clause-ok g c = λ told.
    let m = g.B.Bench.state c.cells_drop.new.self in
    let d = g.B.Bench.state c.put_job.new.bench in
    let front = front_of c.args.parts.now in
    let idle : m.operation ≡ None = (c.in_ok-cells_drop.ensures.does.ok told).operation in
    let none : d.operation ≡ None = c.put_job.ensures.cells.operation told ∙ idle in
    on_ok_weaker c.put_job.result (λ p. (p.0, p.1, none))
    (subst (λ (cells : List ℕ). OnOk c.put_job.result ((d.file ≡ 165 ∷ with_hash (front ++ cells)) × LeftOnly (165 ∷ with_hash (front ++ cells)) (file_half d)))
    (sym (c.put_job.ensures.cells.cells told)) (c.put_job.ensures.ok told))

pub returns-clause-stops : goal.returns-clause-stops
returns-clause-stops g c = λ told.
    let s = g.B.Bench.state c.args.bench.now in
    let m = g.B.Bench.state c.cells_drop.new.self in
    let d = g.B.Bench.state c.put_job.new.bench in
    let front = front_of c.args.parts.now in
    let P = IsOfBegin (file_half s) (with_hash (front ++ d.cells)) in
    leaves_then P (stays_leaves P (λ f at. inl at) c.cells_drop.ensures.does.file.half)
    (leaves_as (IsFreeOrWhole (with_hash (front ++ m.cells))) P
    (λ f either. inr (subst (λ (cells : List ℕ). IsFreeOrWhole (with_hash (front ++ cells)) f) (sym (c.put_job.ensures.cells.cells told)) either))
    (c.put_job.ensures.moments told))

pub returns-clause-device : goal.returns-clause-device
returns-clause-device g c = grind (arith, common_steps)

pub returns-clause-same : goal.returns-clause-same
returns-clause-same g c = grind (arith, common_steps)

pub put_job-requires-clause-free : goal.put_job-requires-clause-free
put_job-requires-clause-free g c = grind (arith, common_steps)

pub returns-clause-cells : goal.returns-clause-cells
returns-clause-cells g c = grind (arith, common_steps)

pub returns-clause-store : goal.returns-clause-store
returns-clause-store g c = grind (arith, common_steps)
