-- `begin`: its clauses `ok`, `stops`, `after`, `unopened`, `first`, `store` and `device`.
use Rattle.std.proofs.Common.{⊎_elim, inl, ◌≡◌, ◌++◌, ◌∷◌, ℕ, List, length, sym, refl, subst, arith, None, OnOk}
use Rattle.std.proofs.lemmas.Result.{err_from_is_err_and}
use Rattle.std.proofs.lemmas.Grind.{common_steps}
use Rattle.bench_model.specs.History.{LeftOnly, left}
use Rattle.bench_model.specs.State.{file_half}
use Rattle.bench_model.proofs.Moments.{leaves_left}
use Rattle.job_text.specs.Body.{body_of}
use Rattle.job_text.specs.Files.{IsFree}
use Rattle.job_text.specs.Parts.{job_of, front_of, with_hash}
use Rattle.job_text.proofs.PartLemmas.{hashed_is}
use Rattle.bench_model.proofs.CountLemmas.{none_counted}
use Rattle.job_file.specs.Stops.{IsOfBegin, IsFreeOrWhole}
use Rattle.job_file.proofs.PieceLemmas.{begins}
use Rattle.job_file.proofs.UnopenedLemmas.{unopened_behind, unopened_other}
use Rattle.job_file.proofs.CountLemmas.{counted_behind}
use Rattle.std.proofs.lemmas.Bool.{false≢true}
use Rattle.job_file.proofs.FirstLemmas.{syncs_then}
use Rattle.job_file.proofs.begin_call.begin.Goals as goal

pub returns-clause-ok : goal.returns-clause-ok
returns-clause-ok g c = λ told.
    let p = c.args.parts.now in
    let d = g.B.Bench.state c.drop_and_put.new.bench in
    let many : length d.cells ≡ p.size = omega (
      arith,
      g.met.B.Bench.all_told c.drop_and_put.new.bench told,
      c.drop_and_put.ensures.count,
      c.prepare.ensures.reads.cells.count,
      c.in_ok-head.ensures.sized refl,
    ) in
    let text = hashed_is p d.cells many in
    subst (λ (l : List ℕ). OnOk c.drop_and_put.result ((d.file ≡ 165 ∷ l) × LeftOnly (165 ∷ l) (file_half d) × (d.operation ≡ None))) text
    (c.drop_and_put.ensures.ok told)

pub returns-clause-stops : goal.returns-clause-stops
returns-clause-stops g c = λ told.
    let p = c.args.parts.now in
    let a = g.B.Bench.state c.args.bench.now in
    let b = g.B.Bench.state c.prepare.new.bench in
    let d = g.B.Bench.state c.drop_and_put.new.bench in
    let many : length d.cells ≡ p.size = omega (
      arith,
      g.met.B.Bench.all_told c.drop_and_put.new.bench told,
      c.drop_and_put.ensures.count,
      c.prepare.ensures.reads.cells.count,
      c.in_ok-head.ensures.sized refl,
    ) in
    let text = hashed_is p d.cells many in
    begins g.B.Bench.tells a b d (with_hash (front_of p ++ d.cells)) (body_of (job_of p d.cells)) c.prepare.ensures.reads (c.drop_and_put.ensures.stops told)
    text

pub returns-clause-after : goal.returns-clause-after
returns-clause-after g c = λ told is_free.
    let p = c.args.parts.now in
    let b = g.B.Bench.state c.prepare.new.bench in
    let d = g.B.Bench.state c.drop_and_put.new.bench in
    let many : length d.cells ≡ p.size = omega (
      arith,
      g.met.B.Bench.all_told c.drop_and_put.new.bench told,
      c.drop_and_put.ensures.count,
      c.prepare.ensures.reads.cells.count,
      c.in_ok-head.ensures.sized refl,
    ) in
    let text = hashed_is p d.cells many in
    let body = with_hash (front_of p ++ d.cells) in
    ⊎_elim
    (λ (at : left (file_half b) d.file). inl (subst (λ (f : List ℕ). IsFree f) (sym ((c.in_ok-head.ensures.free told).1 d.file at)) is_free))
    (λ (other : IsFreeOrWhole body d.file). subst (λ (l : List ℕ). IsFreeOrWhole l d.file) text other)
    (leaves_left (IsOfBegin (file_half b) body) (c.drop_and_put.ensures.stops told) d.file (g.met.B.Bench.as_read c.drop_and_put.new.bench told))

pub returns-in_err-head-clause-unopened : goal.returns-in_err-head-clause-unopened
returns-in_err-head-clause-unopened g c = λ told.
    let p = err_from_is_err_and c.from_residual.result c.from_residual.ensures.1 in
    rw (p.1, p.2) (unopened_other (Unit {0}) (file_half (g.B.Bench.state c.args.bench.now)) (file_half (g.B.Bench.state c.prepare.new.bench))
    c.in_err-head.field-0.0 c.in_err-head.ensures.no_device)

pub returns-clause-unopened : goal.returns-clause-unopened
returns-clause-unopened g c = λ told.
    unopened_behind (file_half (g.B.Bench.state c.args.bench.now)) (file_half (g.B.Bench.state c.prepare.new.bench))
    (file_half (g.B.Bench.state c.drop_and_put.new.bench)) c.drop_and_put.result
    c.prepare.ensures.reads.moments (c.drop_and_put.ensures.unopened told)

pub returns-clause-store : goal.returns-clause-store
returns-clause-store g c = counted_behind c.in_ok-head.ensures.counted c.drop_and_put.ensures.store

pub returns-clause-device : goal.returns-clause-device
returns-clause-device g c = counted_behind (none_counted _ _ c.prepare.ensures.reads.cells.faults) c.drop_and_put.ensures.device

pub returns-clause-same : goal.returns-clause-same
returns-clause-same g c = grind (arith, common_steps)

pub returns-clause-looked : goal.returns-clause-looked
returns-clause-looked g c = λ told other. absurd (other ((c.in_ok-head.ensures.free told).0, c.in_ok-head.ensures.sized refl))

pub returns-clause-refused : goal.returns-clause-refused
returns-clause-refused g c = grind (arith, common_steps)

pub returns-clause-sound : goal.returns-clause-sound
returns-clause-sound g c = grind (arith, common_steps)

pub returns-clause-free : goal.returns-clause-free
returns-clause-free g c = grind (arith, common_steps)

pub returns-clause-sized : goal.returns-clause-sized
returns-clause-sized g c = λ is. c.in_ok-head.ensures.sized refl

pub returns-clause-cells : goal.returns-clause-cells
returns-clause-cells g c = grind (arith, common_steps)

pub drop_and_put-requires-clause-free : goal.drop_and_put-requires-clause-free
drop_and_put-requires-clause-free g c = λ told. subst (λ (f : List ℕ). IsFree f) (sym (c.prepare.ensures.reads.file told)) (c.in_ok-head.ensures.free told).0

pub returns-clause-reads : goal.returns-clause-reads
returns-clause-reads g c = grind (arith, common_steps)

pub returns-in_err-head-clause-first : goal.returns-in_err-head-clause-first
returns-in_err-head-clause-first g c =
    let p = err_from_is_err_and c.from_residual.result c.from_residual.ensures.1 in
    rw (p.1, p.2) c.in_err-head.ensures.first

pub returns-clause-first : goal.returns-clause-first
returns-clause-first g c = syncs_then c.in_ok-head.ensures.first (λ is. absurd (false≢true is)) (λ told. (c.drop_and_put.ensures.stops told).goes_on)
