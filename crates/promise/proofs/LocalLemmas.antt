-- A call of `program`, `resume` or `revert` keeps to the plans that it prints.
use Rattle.std.proofs.Common.{◌≡◌, ◌⊎◌, ⊎_elim, inl, inr, refl, sym, ap, subst, ◌∙◌, append_assoc, append-nil, ◌++◌, ℕ, IsTrue, List, [], Some}
use Rattle.bench_model.specs.State.{Left}
use Rattle.outside_io.specs.Appends.{AppendsPart}
use Rattle.campaign.specs.Stops.{IsUntouched}
use Rattle.flash_session.specs.Script.{Broken}
use Rattle.flash_session.specs.declared.goal.Goal.{Goal}
use Rattle.flash_session.specs.declared.goal.Goal.TheVariants.{New, Old}
use Rattle.report_text.specs.Refusal.{out_of_memory, input_fault, store_fault, device_fault, output_fault, call_failed, mismatch}
use Rattle.command_words.specs.Files.{FilesAsked, Command, program, begin, resume, revert, plan, verify, compare, status, inspect, dump, demo}
use Rattle.command_files.specs.Answered.{StandsEarly, on_job_file}
use Rattle.command_files.specs.Call as answers
use Rattle.command_files.specs.Call.{BenchCall, SinkCall, Answer, done, refused}
use Rattle.command_files.specs.Said.{TookNothing, TookAll, TookPartBehind}
use Rattle.job_commands.specs.Carry as carry
use Rattle.job_commands.specs.Carry.{done_text, EndsInBegin, EndsBeforePlan, EndsInScript, EndsInClose, EndsInPlan, HasClosed, NeverBegun}
use Rattle.job_commands.specs.Beginning.{job_for}
use Rattle.job_commands.specs.GoOn.{goal_in, work_to, GoOnAnswers}
use Rattle.job_commands.specs.Printed.{PrintsWork}
use Rattle.job_commands.specs.Program as programs
use Rattle.job_commands.specs.Work.{Work, body, Breaks, plans_of, shown_plan}
use Rattle.flm_cli.specs.Answers.{Answers}
use Rattle.promise.specs.Job.{Job, laid}
use Rattle.promise.specs.Texts.{SaysJob}
use Rattle.promise.specs.Promise.{IsIdle, ProgramsJob, TakesUp}
use Rattle.promise.specs.Complete.{IsRight}
use Rattle.promise.specs.Local.{Printed, printed, WorksByPlan, KeepsToPlan}
use Rattle.promise.specs.Recovery.{IsTaken}
use Rattle.promise.proofs.ClassLemmas.{AreBytes}
use Rattle.promise.proofs.StopLemmas.{its}
use Rattle.promise.proofs.BeginLemmas.{begun_or_refused, begun_so}
use Rattle.promise.proofs.CampaignLemmas.{whole_text}
use Rattle.promise.proofs.CarryLemmas.{job_of, says, goal_for, ends_operation, carries, goes_on}
use Rattle.promise.proofs.CompleteLemmas.{its_size}

-- ---- what is printed

none_taken : (text before after : List ℕ) → after ≡ before → AppendsPart text before after
none_taken text before after is = record { part = []; rest = text; piece_is = refl; appended = is ∙ sym (append-nil before) }

front_taken : (front rest before after : List ℕ) → after ≡ before ++ front → AppendsPart (front ++ rest) before after
front_taken front rest before after is = record { part = front; rest = rest; piece_is = refl; appended = is }

part_taken : (front rest before after : List ℕ) → AppendsPart front before after → AppendsPart (front ++ rest) before after
part_taken front rest before after took = record {
  part = took.part;
  rest = took.rest ++ rest;
  piece_is = ap (λ (l : List ℕ). l ++ rest) took.piece_is ∙ append_assoc took.part took.rest rest;
  appended = took.appended;
}

behind_taken : (front text before after : List ℕ) → AppendsPart text (before ++ front) after → AppendsPart (front ++ text) before after
behind_taken front text before after took = record {
  part = front ++ took.part;
  rest = took.rest;
  piece_is = ap (λ (l : List ℕ). front ++ l) took.piece_is ∙ sym (append_assoc front took.part took.rest);
  appended = took.appended ∙ append_assoc before front took.part;
}

module _ (bench : BenchCall) (out : SinkCall) (w : Work) (broken : Broken) (tells : IsTrue out.tells) where
  abbrev before : List ℕ
  before = out.before.taken

  abbrev after : List ℕ
  after = out.after.taken

  abbrev Prints : Type 0
  Prints = AppendsPart (shown_plan w ++ done_text) before after

  none : TookNothing out → Prints
  none took = none_taken (shown_plan w ++ done_text) before after took.taken

  front : TookAll out (shown_plan w) → Prints
  front took = front_taken (shown_plan w) done_text before after (took.taken tells)

  prints : (answer : Answer) → StandsEarly on_job_file bench out answer → carry.Comes bench out w broken answer → Prints
  prints done stands comes = record {
    part = shown_plan w ++ done_text;
    rest = [];
    piece_is = sym (append-nil (shown_plan w ++ done_text));
    appended = comes.1.taken tells;
  }
  prints (refused out_of_memory) stands comes = none comes.prints
  prints (refused (input_fault name)) stands comes = none stands.prints
  prints (refused store_fault) stands comes = ⊎_elim
      (λ (early : EndsInBegin bench out (body w)). none early.prints)
      (λ (rest : EndsBeforePlan bench out w ⊎ (EndsInScript bench out w (Breaks w broken bench.after) ⊎ EndsInClose bench out w broken)). ⊎_elim
      (λ (early : EndsBeforePlan bench out w). none early.prints)
      (λ (late : EndsInScript bench out w (Breaks w broken bench.after) ⊎ EndsInClose bench out w broken). ⊎_elim
      (λ (cut : EndsInScript bench out w (Breaks w broken bench.after)). front cut.prints)
      (λ (close : EndsInClose bench out w broken). front close.prints)
      late)
      rest)
      comes
  prints (refused device_fault) stands comes = ⊎_elim
      (λ (early : EndsInBegin bench out (body w) × NeverBegun bench). none early.0.prints)
      (λ (rest : EndsBeforePlan bench out w ⊎ EndsInScript bench out w (Breaks w broken bench.after)). ⊎_elim
      (λ (early : EndsBeforePlan bench out w). none early.prints)
      (λ (cut : EndsInScript bench out w (Breaks w broken bench.after)). front cut.prints)
      rest)
      comes
  prints (refused output_fault) stands comes = ⊎_elim
      (λ (early : EndsInPlan bench out w). part_taken (shown_plan w) done_text before after (early.prints.taken tells))
      (λ (late : HasClosed bench.after w broken × TookPartBehind out (shown_plan w) done_text).
      behind_taken (shown_plan w) done_text before after (late.1.taken tells))
      comes
  prints (refused (call_failed number call end)) stands comes = front comes.prints
  prints (refused (mismatch at wanted found)) stands comes = front comes.prints
  prints (refused other) stands comes = absurd comes

-- ---- the work on a job

-- what a call printed
abbrev pub out_of : answers.Call → Printed
out_of call = printed call.out.tells call.out.before.taken call.out.after.taken

module _ (call : answers.Call) (answer : Answer) (zero : call.status ≡ 0 → answer ≡ done)
    (stands : StandsEarly on_job_file call.bench call.out answer) (goal : Goal) (job : Job) (says : SaysJob job) (right : IsRight job says)
    (First : List ℕ → List ℕ → Type 0) (surveyed : List ℕ) where
  abbrev w : Work
  w = work_to goal says.text says.board right.algorithms surveyed

  works_by : carry.Carries call.bench call.out First w answer → WorksByPlan (its call) job w.goal (out_of call)
  works_by it = record {
    says = says;
    right = right;
    found = surveyed;
    operation = ends_operation call First it.stops;
    plans = plans_of w;
    chosen = refl;
    prints = λ tells. prints call.bench call.out w it.broken tells answer stands it.comes;
    done = λ tells is_zero.
        let comes = subst (λ (a : Answer). carry.Comes call.bench call.out w it.broken a) (zero is_zero) it.comes in
        comes.1.taken tells;
    local = λ keeps k f c from to f_at c_at late. (it.stops.local (keeps says right)).from k c late to c_at;
  }

-- the goal of a job, as its text has it
job_goal : (goal : Goal) (job : Job) (says : SaysJob job) → goal_in goal says.text says.board ≡ goal_for goal job
job_goal New job says = rw (says.regions_are, says.image_is, says.snapshot_is) refl
job_goal Old job says = sym says.snapshot_is

-- `resume` and `revert`
goes_by : (goal : Goal) (call : answers.Call) → IsTrue call.bench.tells → AreBytes call.bench.before.file → GoOnAnswers goal call
    → IsIdle (its call) ⊎ ((it : TakesUp (its call) (goal_for goal)) × WorksByPlan (its call) it.job (goal_for goal it.job) (out_of call))
goes_by goal call told bytes it = ⊎_elim
    (λ (idle : IsIdle (its call)). inl idle)
    (λ (took : (t : TakesUp (its call) (goal_for goal)) × IsTaken (its call) t.job t.carries.says).
    let job = took.0.job in
    let says = took.0.carries.says in
    let right = took.1.right in
    let carried = (it.ends.told told).stands says.text says.board right.algorithms right.is_job
    (whole_text job says call.bench.before.file took.0.whole)
    (its_size job says right call.bench.before.cell_count took.1.sized) in
    inr (
      took.0,
      subst (λ (g : List ℕ). WorksByPlan (its call) job g (out_of call)) (job_goal goal job says)
          (works_by call it.answer it.zero it.ends.lawful.stands goal job says right (Left call.bench.before) carried.0 carried.1),
    ))
    (goes_on goal call told bytes it)

-- `program`
module _ (asked : FilesAsked) (call : answers.Call) (told : IsTrue call.bench.tells) (told_files : IsTrue call.inputs.tells)
    (bytes : AreBytes call.bench.before.file) where
  programs_by : programs.ProgramAnswers asked call → KeepsToPlan (program asked) (its call) (out_of call)
  programs_by it = begun_or_refused programs.has_program PrintsWork programs.Begins asked call told bytes it.answer it.zero it.ends
      ((p : ProgramsJob (its call) asked) × WorksByPlan (its call) p.job (laid p.job) (out_of call))
      (λ works is_free same starts.
      let aim = works.holds.aim in
      let text = job_for works.files aim starts.snapshot in
      let first = IsUntouched call.bench.before in
      let p : ProgramsJob (its call) asked = record {
        job = job_of text aim.board;
        begun = begun_so asked call told told_files bytes works.files aim starts.snapshot works.are_files works.holds.is_aim works.holds.holds.has_texts
            starts.is_job is_free starts.carries.surveyed (ends_operation call first starts.carries.stops);
        carries = carries call it.answer it.zero it.says New text aim.board aim.algorithms starts.is_job first starts.snapshot starts.carries;
      } in (
        p,
        works_by call it.answer it.zero it.ends.lawful.stands New (job_of text aim.board) (says text aim.board aim.algorithms starts.is_job)
            (record { algorithms = aim.algorithms; is_job = starts.is_job }) first starts.snapshot starts.carries,
      ))

pub keeps_to_plan : (command : Command) (call : answers.Call) → IsTrue call.bench.tells → IsTrue call.inputs.tells → AreBytes call.bench.before.file
    → Answers call (Some command) → KeepsToPlan command (its call) (out_of call)
keeps_to_plan (program asked) call told told_files bytes it = programs_by asked call told told_files bytes it
keeps_to_plan (begin asked) call told told_files bytes it = tt
keeps_to_plan resume call told told_files bytes it = goes_by New call told bytes it
keeps_to_plan revert call told told_files bytes it = goes_by Old call told bytes it
keeps_to_plan (plan files) call told told_files bytes it = tt
keeps_to_plan (verify files) call told told_files bytes it = tt
keeps_to_plan (compare image) call told told_files bytes it = tt
keeps_to_plan status call told told_files bytes it = tt
keeps_to_plan (inspect flm) call told told_files bytes it = tt
keeps_to_plan (dump form board) call told told_files bytes it = tt
keeps_to_plan (demo seed) call told told_files bytes it = tt
