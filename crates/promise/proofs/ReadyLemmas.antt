-- The premises of completeness are met by a job that was begun, whose file stands for a job of algorithms that keep their duties.
use Rattle.std.proofs.Common.{◌≡◌, ◌<◌, true, get_or, ⊎_elim, refl, sym, ap, subst, ◌∙◌, arith, ℕ, zero, suc, List, [], ◌∷◌, length, Option, Ok}
use Rattle.bench_model.specs.Calls.{OnlyReads}
use Rattle.bench_model.specs.Shown.{bench_of}
use Rattle.bench_model.specs.declared.memory.MemoryBench.{MemoryBench}
use Rattle.board_file.specs.Shown as board
use Rattle.flm_descriptor.specs.Shown as flm
use Rattle.algo_calls.specs.Duties.{Serves, AllServe}
use Rattle.job_text.specs.Body as written
use Rattle.job_text.specs.Files.{IsWhole}
use Rattle.job_text.specs.Jobs.{IsJob, AreFlms}
use Rattle.job_text.proofs.OneTextLemmas.{one_text, has_fields}
use Rattle.command_words.specs.Files.{FilesAsked, begin}
use Rattle.promise.specs.Job.{Job}
use Rattle.promise.specs.Promise.{Call, FaultCounts, BeginsJob, IsIdle, call_of}
use Rattle.promise.specs.Complete.{KeepsDuties}
use Rattle.promise.specs.Recovery.{IsTaken, Resumes}
use Rattle.promise.specs.Ready.{PremisesAreMet, IsServed}
use Rattle.promise.proofs.CampaignLemmas.{whole_text, one_body}

-- one algorithm that keeps its duties is all of them
pub one_serves : (b : board.Shown) (a : flm.Shown) → Serves b a 0 → AllServe b (a ∷ [])
one_serves b a serves = record { serves = by }
  where
    by : (region : ℕ) (other : flm.Shown) → region < 1 → Serves b (get_or (a ∷ []) region other) region
    by zero other less = serves
    by (suc region) other less = absurd (omega (arith, less))

-- files say one list of algorithms
one_said : (files : List (List ℕ)) (xs ys : List flm.Shown) → AreFlms files xs → AreFlms files ys → xs ≡ ys
one_said [] [] [] are too = refl
one_said [] [] (y ∷ ys) are too = absurd too
one_said [] (x ∷ xs) ys are too = absurd are
one_said (file ∷ files) [] ys are too = absurd are
one_said (file ∷ files) (x ∷ xs) [] are too = absurd too
one_said (file ∷ files) (x ∷ xs) (y ∷ ys) are too =
    let first : Ok x ≡ Ok y = sym are.0 ∙ too.0 in
    let same : x ≡ y = cc in
    let rest = one_said files xs ys are.1 too.1 in
    λ i. same i ∷ rest i

-- the algorithms of a job keep their duties where its file is served
duties : (job : Job) (file : List ℕ) → IsWhole job.body file → IsServed file → KeepsDuties job
duties job file whole it = λ says right.
    let texts : it.text ≡ says.text = one_text it.text says.text (has_fields it.text it.board it.algorithms it.is) says.has_fields
    (one_body (written.body_of it.text) (written.body_of says.text) file it.whole (whole_text job says file whole)) in
    let is = subst (λ (t : written.Job). IsJob t it.board it.algorithms) texts it.is in
    let boards : it.board ≡ says.board = (let e : Ok it.board ≡ Ok says.board = sym is.board ∙ says.is_board in cc) in
    let all = one_said says.text.flms it.algorithms right.algorithms is.algorithms right.is_job.algorithms in
    subst (λ (b : board.Shown). AllServe b right.algorithms) boards (subst (λ (xs : List flm.Shown). AllServe it.board xs) all it.serve)

module _ (asked : FilesAsked) (under : List ℕ → Option (List ℕ)) (old begun new : MemoryBench) (inputs outputs : FaultCounts)
    (reads : OnlyReads true (bench_of begun) (bench_of new)) (served : IsServed (bench_of begun).file) where
  made : (it : BeginsJob (call_of under (bench_of old) (bench_of begun) inputs outputs 0) asked)
      → IsTaken (call_of under (bench_of old) (bench_of begun) inputs outputs 0) it.job it.begun.files.says → PremisesAreMet asked under old new
  made it taken =
      let done = it.done refl in record {
        job = it.job;
        duties = duties it.job (bench_of begun).file done.0 served;
        program = λ after input output status. record { files = it.begun.files; right = taken.right; free = it.begun.free; sized = taken.sized };
        taken_up = λ others after input output status. record {
          says = it.begun.files.says;
          right = taken.right;
          whole = subst (λ (f : List ℕ). IsWhole it.job.body f) (sym (reads.file refl)) done.0;
          sized = ap (λ (l : List ℕ). length l) (sym done.1) ∙ sym reads.cells.count;
        };
      }

  -- the call of `begin` was answered 0
  abbrev pub call_with : ℕ → Call
  call_with status = call_of under (bench_of old) (bench_of begun) inputs outputs status

  from_zero : Resumes (begin asked) (call_with 0) → PremisesAreMet asked under old new
  from_zero keeps = ⊎_elim
      (λ (idle : IsIdle (call_with 0)). absurd (idle.not_done refl))
      (λ (both : (it : BeginsJob (call_with 0) asked) × IsTaken (call_with 0) it.job it.begun.files.says). made both.0 both.1)
      keeps

pub are_met : (asked : FilesAsked) (under : List ℕ → Option (List ℕ)) (old begun new : MemoryBench) (inputs outputs : FaultCounts) (status : ℕ)
    → OnlyReads true (bench_of begun) (bench_of new) → IsServed (bench_of begun).file → status ≡ 0
    → Resumes (begin asked) (call_of under (bench_of old) (bench_of begun) inputs outputs status) → PremisesAreMet asked under old new
are_met asked under old begun new inputs outputs status reads served is_0 keeps =
    from_zero asked under old begun new inputs outputs reads served
    (subst (λ (s : ℕ). Resumes (begin asked) (call_of under (bench_of old) (bench_of begun) inputs outputs s)) is_0 keeps)
