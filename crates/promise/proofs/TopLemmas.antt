-- The call that is made and the call that is answered have the same parts, so what holds of one holds of the other.
use Rattle.std.proofs.Common.{◌≡◌, ◌≤◌, ◌⊎◌, ⊎_elim, inl, inr, subst, sym, arith, ℕ, Bool, IsTrue, List, Option, Some, None}
use Rattle.bench_model.specs.declared.bench.Bench.{Ghosts}
use Rattle.bench_model.specs.State.{BenchState}
use Rattle.outside_io.specs.State.{InputsState, SinkState}
use Rattle.report_text.specs.Refusal.{usage, out_of_memory}
use Rattle.command_words.specs.Files.{Command}
use Rattle.command_words.specs.Words.{Asks}
use Rattle.command_files.specs.Inputs.{inputs_call}
use Rattle.command_files.specs.Call as answers
use Rattle.command_files.specs.Call.{bench_call, sink_call, Answer, refused}
use Rattle.command_files.specs.Said.{Says as SaysOn}
use Rattle.flm_cli.specs.Answers.{Answers}
use Rattle.gang_commands.specs.Gangs as gang
use Rattle.promise.specs.Promise.{KeepsPromise, GangKeeps, fault_counts, call_of}
use Rattle.promise.specs.Complete.{Completes}
use Rattle.promise.specs.Recovery.{Resumes}
use Rattle.promise.proofs.ClassLemmas.{AreBytes}
use Rattle.promise.proofs.KeepLemmas.{keeps, resumes}
use Rattle.promise.proofs.CompleteLemmas.{completes}
use Rattle.promise.proofs.MomentLemmas.{forward}
use Rattle.promise.specs.Local.{KeepsToPlan, printed}
use Rattle.promise.proofs.LocalLemmas.{keeps_to_plan}

-- ---- one bench

module _ {n n' : ℕ} {tb ti to te : Bool} {s s' t t' : BenchState} {i i' j j' : InputsState} {o o' p p' e e' f f' : SinkState} where
  pub answered : (asked : Option Command) → n ≡ n' → s ≡ s' → t ≡ t' → i ≡ i' → j ≡ j' → o ≡ o' → p ≡ p' → e ≡ e' → f ≡ f'
      → Answers (answers.call_of n (bench_call tb s t) (inputs_call ti i j) (sink_call to o p) (sink_call te e f)) asked
      → Answers (answers.call_of n' (bench_call tb s' t') (inputs_call ti i' j') (sink_call to o' p') (sink_call te e' f')) asked
  answered asked status old new inputs inputs' out out' err err' it =
      subst (λ (call : answers.Call). Answers call asked)
      (λ k. answers.call_of (status k) (bench_call tb (old k) (new k)) (inputs_call ti (inputs k) (inputs' k)) (sink_call to (out k) (out' k))
      (sink_call te (err k) (err' k)))
      it

module _ {n n' : ℕ} {tb ti to te : Bool} {s s' t t' : BenchState} {i j : InputsState} {o p e f : SinkState} {under : List ℕ → Option (List ℕ)}
    {taken failed put lost : ℕ} where
  pub kept : (command : Command) → IsTrue tb → IsTrue ti → AreBytes s'.file → n ≡ n' → s ≡ s' → t ≡ t' → i.stands ≡ under → i.faults ≡ taken
      → j.faults ≡ failed → o.faults ≡ put → p.faults ≡ lost
      → Answers (answers.call_of n (bench_call tb s t) (inputs_call ti i j) (sink_call to o p) (sink_call te e f)) (Some command)
      → KeepsPromise command (call_of under s' t' (fault_counts taken failed) (fault_counts put lost) n')
  kept command told told_files bytes status old new names inputs inputs' out out' it =
      subst (KeepsPromise command) (λ k. call_of (names k) (old k) (new k) (fault_counts (inputs k) (inputs' k)) (fault_counts (out k) (out' k)) (status k))
      (keeps command (answers.call_of n (bench_call tb s t) (inputs_call ti i j) (sink_call to o p) (sink_call te e f)) told told_files
      (subst (λ (b : BenchState). AreBytes b.file) (sym old) bytes) it)

  pub resumed : (command : Command) → IsTrue tb → IsTrue ti → AreBytes s'.file → n ≡ n' → s ≡ s' → t ≡ t' → i.stands ≡ under → i.faults ≡ taken
      → j.faults ≡ failed → o.faults ≡ put → p.faults ≡ lost
      → Answers (answers.call_of n (bench_call tb s t) (inputs_call ti i j) (sink_call to o p) (sink_call te e f)) (Some command)
      → Resumes command (call_of under s' t' (fault_counts taken failed) (fault_counts put lost) n')
  resumed command told told_files bytes status old new names inputs inputs' out out' it =
      subst (Resumes command) (λ k. call_of (names k) (old k) (new k) (fault_counts (inputs k) (inputs' k)) (fault_counts (out k) (out' k)) (status k))
      (resumes command (answers.call_of n (bench_call tb s t) (inputs_call ti i j) (sink_call to o p) (sink_call te e f)) told told_files
      (subst (λ (b : BenchState). AreBytes b.file) (sym old) bytes) it)

  pub completed : (command : Command) (words : List (List ℕ)) → IsTrue tb → IsTrue ti → Asks words command → n ≡ n' → s ≡ s' → t ≡ t' → i.stands ≡ under
      → i.faults ≡ taken → j.faults ≡ failed → o.faults ≡ put → p.faults ≡ lost
      → Answers (answers.call_of n (bench_call tb s t) (inputs_call ti i j) (sink_call to o p) (sink_call te e f)) (Some command)
      → Completes command (call_of under s' t' (fault_counts taken failed) (fault_counts put lost) n')
  completed command words told told_files asks status old new names inputs inputs' out out' it =
      subst (Completes command) (λ k. call_of (names k) (old k) (new k) (fault_counts (inputs k) (inputs' k)) (fault_counts (out k) (out' k)) (status k))
      (completes command words (answers.call_of n (bench_call tb s t) (inputs_call ti i j) (sink_call to o p) (sink_call te e f)) told told_files asks it)

module _ {n n' : ℕ} {tb ti to te : Bool} {s s' t t' : BenchState} {i j : InputsState} {o p e f : SinkState} {under : List ℕ → Option (List ℕ)}
    {taken failed put lost : ℕ} {had has : List ℕ} where
  pub kept_to_plan : (command : Command) → IsTrue tb → IsTrue ti → AreBytes s'.file → n ≡ n' → s ≡ s' → t ≡ t' → i.stands ≡ under → i.faults ≡ taken
      → j.faults ≡ failed → o.faults ≡ put → p.faults ≡ lost → o.taken ≡ had → p.taken ≡ has
      → Answers (answers.call_of n (bench_call tb s t) (inputs_call ti i j) (sink_call to o p) (sink_call te e f)) (Some command)
      → KeepsToPlan command (call_of under s' t' (fault_counts taken failed) (fault_counts put lost) n') (printed to had has)
  kept_to_plan command told told_files bytes status old new names inputs inputs' out out' before after it =
      coe 0 1 (k. KeepsToPlan command
      (call_of (names k) (old k) (new k) (fault_counts (inputs k) (inputs' k)) (fault_counts (out k) (out' k)) (status k))
      (printed to (before k) (after k)))
      (keeps_to_plan command (answers.call_of n (bench_call tb s t) (inputs_call ti i j) (sink_call to o p) (sink_call te e f)) told told_files
      (subst (λ (b : BenchState). AreBytes b.file) (sym old) bytes) it)

module _ {n began ended : ℕ} {tb ti to te : Bool} {s t : BenchState} {i j : InputsState} {o p e f : SinkState} {file : List ℕ} where
  pub forwarded : (command : Command) → IsTrue tb → AreBytes file → s.file ≡ file → s.moment ≡ began → t.moment ≡ ended
      → Answers (answers.call_of n (bench_call tb s t) (inputs_call ti i j) (sink_call to o p) (sink_call te e f)) (Some command) → began ≤ ended
  forwarded command told bytes same old new it = omega (
    arith,
    old,
    new,
    forward command (answers.call_of n (bench_call tb s t) (inputs_call ti i j) (sink_call to o p) (sink_call te e f)) told
        (subst AreBytes (sym same) bytes) it,
  )

-- words that fit no command are answered 2 or 1
says_unfit : (n : ℕ) (err : answers.SinkCall) (answer : Answer) → (answer ≡ refused usage) ⊎ (answer ≡ refused out_of_memory) → SaysOn n err answer
    → (n ≡ 2) ⊎ (n ≡ 1)
says_unfit n err answer which says = ⊎_elim
    (λ (is : answer ≡ refused usage). inl (subst (SaysOn n err) is says).0)
    (λ (is : answer ≡ refused out_of_memory). inr (subst (SaysOn n err) is says).0)
    which

pub unfit : (call : answers.Call) → Answers call None → (call.status ≡ 2) ⊎ (call.status ≡ 1)
unfit call it = says_unfit call.status call.err it.answer it.ends.answer_is it.says

-- ---- several benches

module _ {B : Type 0} {G : Ghosts B} {words n n' : ℕ} {benches after after' : List B} {to te : Bool} {o o' p p' e e' f f' : SinkState} where
  pub gang_answered : n ≡ n' → after ≡ after' → o ≡ o' → p ≡ p' → e ≡ e' → f ≡ f'
      → gang.Answers G words benches after (sink_call to o p) (sink_call te e f) n
      → gang.Answers G words benches after' (sink_call to o' p') (sink_call te e' f') n'
  gang_answered status new out out' err err' it = coe 0 1
      (k. gang.Answers G words benches (new k) (sink_call to (out k) (out' k)) (sink_call te (err k) (err' k)) (status k)) it

module _ {B : Type 0} {G : Ghosts B} {n n' : ℕ} {benches after after' : List B} {to : Bool} {taken taken' said said' : List ℕ} where
  pub gang_kept : n ≡ n' → after ≡ after' → taken ≡ taken' → said ≡ said' → GangKeeps G benches after to taken said n
      → GangKeeps G benches after' to taken' said' n'
  gang_kept status new out out' it = coe 0 1 (k. GangKeeps G benches (new k) to (out k) (out' k) (status k)) it
