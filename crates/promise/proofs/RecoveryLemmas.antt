-- Each call of a campaign recovers the job of the first call, because each keeps its promise and completes.
use Rattle.std.proofs.Common.{◌≡◌, ◌⊎◌, ⊎_elim, inl, inr, ◌∙◌, sym, ℕ, List, [], ◌∷◌, length, Option}
use Rattle.bench_model.specs.State.{BenchState}
use Rattle.campaign.specs.Stops.{last_at}
use Rattle.flash_session.specs.declared.goal.Goal.{Goal}
use Rattle.flash_session.specs.declared.goal.Goal.TheVariants.{New, Old}
use Rattle.command_words.specs.Files.{FilesAsked, program, begin}
use Rattle.promise.specs.Job.{Job}
use Rattle.promise.specs.Texts.{SaysJob}
use Rattle.promise.specs.Promise.{Call, IsIdle, ProgramsJob, BeginsJob}
use Rattle.promise.specs.Complete.{NoFault, IsRight, KeepsDuties, IsReady, IsComplete, Completes}
use Rattle.promise.specs.Campaign.{Later, command_to, goal_of, AllKeep, AllSafe}
use Rattle.promise.specs.Recovery.{IsTaken, Resumes, IsFirstTaken, AllComplete, AllRecover, IsRecoveredFrom}
use Rattle.promise.proofs.CampaignLemmas.{program_follows, begin_follows}

ends : (goal : Goal) (job : Job) (call : Call) → Completes (command_to goal) call → IsReady call job → KeepsDuties job → NoFault call → IsComplete call
ends New job call completes = completes job
ends Old job call completes = completes job

module _ (start : BenchState) (job : Job) (says : SaysJob job) (right : IsRight job says) (count : ℕ) (sized : length job.snapshot ≡ count) where
  all_recover : (last : Option (List ℕ)) (later : List Later) → AllSafe start job last later → AllComplete later → AllRecover job count later
  all_recover last [] safe complete = tt
  all_recover last (next ∷ rest) safe complete = (
    (λ whole same keeps none. (
      ends next.goal job next.call complete.0 (record { says = says; right = right; whole = whole; sized = sized ∙ sym same }) keeps none,
      (λ zero. (safe.1.done zero).1),
    )),
    all_recover (last_at last safe.0 (goal_of next.goal job) next.end) rest safe.2 complete.1,
  )

module _ (asked : FilesAsked) (first : Call) (end : ℕ) (later : List Later) (is : IsFirstTaken asked first end) (keep : AllKeep later)
    (complete : AllComplete later) where
  programmed : (it : ProgramsJob first asked) → IsTaken first it.job it.begun.files.says → IsRecoveredFrom asked first end later
  programmed it taken = record {
    job = it.job;
    begun = it.begun;
    taken = taken;
    recovers = λ follow.
        let safe = program_follows asked first end later (record { keeps = inl (inr it); free = is.free; within = is.within }) keep it follow in
        all_recover first.old it.job it.begun.files.says taken.right first.old.cell_count taken.sized safe.0 later safe.1 complete;
  }

  begun : (it : BeginsJob first asked) → IsTaken first it.job it.begun.files.says → IsRecoveredFrom asked first end later
  begun it taken = record {
    job = it.job;
    begun = it.begun;
    taken = taken;
    recovers = λ follow.
        let safe = begin_follows asked first end later (record { keeps = inr (inr it); free = is.free; within = is.within }) keep it follow in
        all_recover first.old it.job it.begun.files.says taken.right first.old.cell_count taken.sized safe.0 later safe.1 complete;
  }

  pub are_recovered : IsIdle first ⊎ IsRecoveredFrom asked first end later
  are_recovered = ⊎_elim
      (λ (either : Resumes (program asked) first). ⊎_elim (λ (r : IsIdle first). inl r)
      (λ (it : (p : ProgramsJob first asked) × IsTaken first p.job p.begun.files.says). inr (programmed it.0 it.1)) either)
      (λ (either : Resumes (begin asked) first). ⊎_elim (λ (r : IsIdle first). inl r)
      (λ (it : (b : BeginsJob first asked) × IsTaken first b.job b.begun.files.says). inr (begun it.0 it.1)) either)
      is.keeps
