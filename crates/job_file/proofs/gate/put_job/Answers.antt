-- `put_job`: its clauses `ok`, `moments`, `unopened`, `store`, `device` and `cells`.
use Rattle.std.proofs.Common.{◌≡◌, ◌∙◌, ◌++◌, ◌∷◌, ap, subst, drop, inl, inr, List, ℕ, arith, refl}
use Rattle.std.proofs.lemmas.Result.{err_from_is_err_and}
use Rattle.bench_model.specs.History.{LeftOnly}
use Rattle.bench_model.specs.State.{file_half}
use Rattle.bench_model.proofs.Moments.{leaves_as, leaves_then, leaves_step, leaves_then_nothing}
use Rattle.job_text.specs.Files.{IsFree}
use Rattle.job_text.specs.Parts.{front_of, with_hash}
use Rattle.bench_model.proofs.CountLemmas.{none_counted}
use Rattle.job_file.specs.Stops.{IsFreeOrWhole, IsShut, IsUnopened}
use Rattle.job_file.proofs.FileLemmas.{free_closed, opening}
use Rattle.job_file.proofs.UnopenedLemmas.{unopened_by}
use Rattle.job_file.proofs.PutLemmas.{cells_read_then, cells_read_stay}
use Rattle.job_file.proofs.gate.put_job.Goals as goal

-- one line for each step
pub returns-clause-moments : goal.returns-clause-moments
returns-clause-moments g c = λ told.
    let s = g.B.Bench.state c.args.bench.now in
    let front = front_of c.args.parts.now in
    let body = with_hash (front ++ s.cells) in
    let P = IsFreeOrWhole body in
    let run1 = leaves_as IsFree P (λ f free. inl free) (c.shut.ensures.moments told) in
    let run2 = leaves_then P run1 (leaves_as IsShut P (λ f shut. inl (free_closed f _ 0 (λ e. absurd (omega (arith, e))) shut))
    (c.put_hashed.ensures.moments told)) in
    let run3 = leaves_then_nothing P run2 c.file_sync.ensures.does.moments in
    let is = c.in_ok-file_sync.ensures.does.file told ∙ c.in_ok-put_hashed.ensures.ok told
    ∙ ap (λ (l : List ℕ). 0 ∷ with_hash (front ++ l)) c.in_ok-shut.ensures.cells.cells in
    leaves_then P run3 (leaves_step _ P _ _ (c.in_ok-file_sync.ensures.does.ok told)
    (c.in_ok-put_hashed.ensures.ok told ∙ ap (λ (l : List ℕ). 0 ∷ with_hash (front ++ l)) c.in_ok-shut.ensures.cells.cells)
    (λ f torn. opening body f torn) c.write_synced.ensures.moments)

pub returns-in_err-write_synced-clause-moments : goal.returns-in_err-write_synced-clause-moments
returns-in_err-write_synced-clause-moments g c = λ told.
    let s = g.B.Bench.state c.args.bench.now in
    let front = front_of c.args.parts.now in
    let body = with_hash (front ++ s.cells) in
    let P = IsFreeOrWhole body in
    let run1 = leaves_as IsFree P (λ f free. inl free) (c.shut.ensures.moments told) in
    let run2 = leaves_then P run1 (leaves_as IsShut P (λ f shut. inl (free_closed f _ 0 (λ e. absurd (omega (arith, e))) shut))
    (c.put_hashed.ensures.moments told)) in
    let run3 = leaves_then_nothing P run2 c.file_sync.ensures.does.moments in
    let is = c.in_ok-file_sync.ensures.does.file told ∙ c.in_ok-put_hashed.ensures.ok told
    ∙ ap (λ (l : List ℕ). 0 ∷ with_hash (front ++ l)) c.in_ok-shut.ensures.cells.cells in
    leaves_then P run3 (leaves_step _ P _ _ (c.in_ok-file_sync.ensures.does.ok told)
    (c.in_ok-put_hashed.ensures.ok told ∙ ap (λ (l : List ℕ). 0 ∷ with_hash (front ++ l)) c.in_ok-shut.ensures.cells.cells)
    (λ f torn. opening body f torn) c.write_synced.ensures.moments)

pub returns-in_err-put_hashed-clause-unopened : goal.returns-in_err-put_hashed-clause-unopened
returns-in_err-put_hashed-clause-unopened g c = λ told.
    let a = file_half (g.B.Bench.state c.args.bench.now) in
    let P = IsUnopened a in
    let run1 = leaves_as IsFree P (λ f free. inr free) (c.shut.ensures.moments told) in
    let run2 = leaves_then P run1 (leaves_as IsShut P (λ f shut. inr (free_closed f _ 0 (λ e. absurd (omega (arith, e))) shut))
    (c.put_hashed.ensures.moments told)) in
    let p = err_from_is_err_and c.from_residual-in_err-put_hashed.result c.from_residual-in_err-put_hashed.ensures.1 in
    rw (p.1, p.2) (unopened_by (Unit {0}) a (file_half (g.B.Bench.state c.put_hashed.new.bench)) c.in_err-put_hashed.field-0.0 run2)

pub returns-clause-store : goal.returns-clause-store
returns-clause-store g c = none_counted _ _ (c.in_ok-write_synced.ensures.cause.on_ok refl ∙ c.in_ok-file_sync.ensures.does.cause.on_ok refl
    ∙ c.in_ok-put_hashed.ensures.store.on_other refl ∙ c.in_ok-shut.ensures.cause.on_ok refl)

pub returns-clause-device : goal.returns-clause-device
returns-clause-device g c = none_counted _ _ (c.write_synced.ensures.cells.faults ∙ c.file_sync.ensures.does.cells.faults
    ∙ c.in_ok-put_hashed.ensures.device.on_other refl ∙ c.shut.ensures.cells.faults)

pub returns-clause-cells : goal.returns-clause-cells
returns-clause-cells g c = let tells = g.B.Bench.tells in
    cells_read_then (cells_read_then (cells_read_then (cells_read_stay tells _ _ c.shut.ensures.cells) c.put_hashed.ensures.cells)
    (cells_read_stay tells _ _ c.file_sync.ensures.does.cells)) (cells_read_stay tells _ _ c.write_synced.ensures.cells)

pub returns-clause-ok : goal.returns-clause-ok
returns-clause-ok g c = λ told.
    let s = g.B.Bench.state c.args.bench.now in
    let d = g.B.Bench.state c.write_synced.new.bench in
    let front = front_of c.args.parts.now in
    let written = c.in_ok-write_synced.ensures.ok told in
    let is = c.in_ok-file_sync.ensures.does.file told ∙ c.in_ok-put_hashed.ensures.ok told
    ∙ ap (λ (l : List ℕ). 0 ∷ with_hash (front ++ l)) c.in_ok-shut.ensures.cells.cells in
    let file : d.file ≡ 165 ∷ with_hash (front ++ s.cells) = written.0 ∙ ap (λ (f : List ℕ). 165 ∷ drop 1 f) is in
    (file, subst (λ (f : List ℕ). LeftOnly f (file_half d)) file written.1)
