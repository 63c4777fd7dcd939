-- A job that is carried to its goal.
use Rattle.std.proofs.Common.{◌≡◌, ◌≢◌, ◌⊎◌, ⊎_elim, inl, inr, refl, ◌∙◌, subst, arith, ℕ, true, IsTrue, List}
use Rattle.std.proofs.lemmas.Bool.{cases_eq}
use Rattle.bench_model.specs.State.{Left}
use Rattle.board_file.specs.Limits.{size_of}
use Rattle.board_file.specs.Shown as board
use Rattle.flm_descriptor.specs.Shown as flm
use Rattle.job_text.specs.Files.{IsFree}
use Rattle.job_text.specs.Body as written
use Rattle.job_text.specs.Body.{body_of}
use Rattle.job_text.specs.Jobs.{IsJob}
use Rattle.job_text.specs.Stands.{IsSomeJob}
use Rattle.job_text.proofs.OneTextLemmas.{has_fields}
use Rattle.campaign.specs.Stops.{IsAtClose, HasNoClose}
use Rattle.campaign.proofs.CampaignLemmas.{other_status}
use Rattle.flash_session.specs.declared.goal.Goal.{Goal}
use Rattle.flash_session.specs.declared.goal.Goal.TheVariants.{New, Old}
use Rattle.report_text.specs.Refusal.{status_of, no_job, not_a_job, damaged, cells_differ, out_of_memory, device_fault, call_failed, mismatch}
use Rattle.command_files.specs.Call as answers
use Rattle.command_files.specs.Call.{SinkCall, Answer, done, refused}
use Rattle.command_files.specs.Said.{Says as SaysOn}
use Rattle.job_commands.specs.Answers.{has_no_close}
use Rattle.job_commands.specs.Carry as carry
use Rattle.job_commands.specs.Work.{Work}
use Rattle.flash_session.specs.Script.{Broken}
use Rattle.job_commands.specs.GoOn.{goal_in, work_to, GoOnAnswers}
use Rattle.promise.specs.Job.{Job, laid}
use Rattle.promise.specs.Texts.{SaysJob}
use Rattle.promise.specs.Promise.{CarriesOut, EndsOperation, IsIdle, TakesUp}
use Rattle.promise.specs.Recovery.{IsTaken}
use Rattle.promise.proofs.ClassLemmas.{IsDamagedSo, IsNoJobSo, AreBytes, something}
use Rattle.promise.proofs.StopLemmas.{its}
use Rattle.promise.proofs.RefusedLemmas.{looked}
use Rattle.promise.proofs.RightLemmas.{right_as}

abbrev pub goal_for : Goal → Job → List ℕ
goal_for New job = laid job
goal_for Old job = job.snapshot

-- the job of a text and a board
abbrev pub job_of : written.Job → board.Shown → Job
job_of text b = record { body = body_of text; regions = b.regions; image = text.image; snapshot = text.snapshot }

abbrev pub says : (text : written.Job) (b : board.Shown) (algorithms : List flm.Shown) → IsJob text b algorithms → SaysJob (job_of text b)
says text b algorithms is = record {
  text = text;
  board = b;
  body_is = refl;
  has_fields = has_fields text b algorithms is;
  is_board = is.board;
  regions_are = refl;
  image_is = refl;
  snapshot_is = refl;
}

pub same_goal : (goal : Goal) (text : written.Job) (b : board.Shown) → goal_in goal text b ≡ goal_for goal (job_of text b)
same_goal New text b = refl
same_goal Old text b = refl

-- the operation that was open at the entry ends, and leaves the cells as surveyed
abbrev pub ends_operation : (call : answers.Call) (First : List ℕ → List ℕ → Type 0) {w : Work} {broken : Broken} → carry.Stops call.bench First w broken
    → EndsOperation (its call) w.surveyed
ends_operation call First stops = record {
  end = stops.broken_off;
  started = stops.path.started;
  at_entry = stops.at_entry;
  at_exit = stops.ended;
  before = λ k f c from to f_at c_at early. stops.path.before k c from to early c_at;
  leaves = stops.settled;
}

-- a status without a close comes only with answers without a close
no_close_with : (status : ℕ) (err : SinkCall) (answer : Answer) → SaysOn status err answer → HasNoClose status → has_no_close answer ≡ true
no_close_with status err (refused out_of_memory) says none = refl
no_close_with status err (refused device_fault) says none = refl
no_close_with status err (refused (call_failed number call end)) says none = refl
no_close_with status err (refused (mismatch at wanted found)) says none = refl
no_close_with status err done says none =
    absurd (other_status status 0 says.0 (λ e. omega (arith, e)) (λ e. omega (arith, e)) (λ e. omega (arith, e)) (λ e. omega (arith, e)) none)
no_close_with status err (refused r) says none = absurd
    (other_status status (status_of r) says.0 (λ e. omega (arith, e)) (λ e. omega (arith, e)) (λ e. omega (arith, e)) (λ e. omega (arith, e)) none)

module _ (call : answers.Call) (answer : Answer) (zero : call.status ≡ 0 → answer ≡ done) (said : SaysOn call.status call.err answer) (goal : Goal)
    (text : written.Job) (b : board.Shown)
    (algorithms : List flm.Shown) (is : IsJob text b algorithms) where
  pub carries : (First : List ℕ → List ℕ → Type 0) (surveyed : List ℕ)
      → carry.Carries call.bench call.out First (work_to goal text b algorithms surveyed) answer
      → CarriesOut (its call) (job_of text b) (goal_for goal (job_of text b)) First
  carries First surveyed it = record {
    says = says text b algorithms is;
    done = λ is_zero.
        let w = work_to goal text b algorithms surveyed in
        let comes = subst (λ (a : Answer). carry.Comes call.bench call.out w it.broken a) (zero is_zero) it.comes in
        record { file = comes.0.file; idle = comes.0.reached.idle; cells = comes.0.reached.goal ∙ same_goal goal text b };
    closing = it.stops.closing;
    before = λ k f c from to f_at c_at early. it.stops.pairs.before k f c from to early f_at c_at;
    from = λ k f c from to f_at c_at late.
        subst (λ (g : List ℕ). IsAtClose (body_of text) g f c) (same_goal goal text b) (it.stops.pairs.from k f c late to f_at c_at);
    no_close = λ none. it.no_close (no_close_with call.status call.err answer said none);
  }

-- a whole file of this job stands for it
pub taken : (call : answers.Call) (text : written.Job) (b : board.Shown) (algorithms : List flm.Shown) → IsJob text b algorithms
    → size_of b.regions ≡ call.bench.before.cell_count → (said : SaysJob (job_of text b)) → IsTaken (its call) (job_of text b) said
taken call text b algorithms is size said = record {
  right = right_as (job_of text b) (says text b algorithms is) said (record { algorithms = algorithms; is_job = is });
  sized = is.cells ∙ size;
}

-- `resume` and `revert`
pub goes_on : (goal : Goal) (call : answers.Call) → IsTrue call.bench.tells → AreBytes call.bench.before.file → GoOnAnswers goal call
    → IsIdle (its call) ⊎ ((it : TakesUp (its call) (goal_for goal)) × IsTaken (its call) it.job it.carries.says)
goes_on goal call told bytes answers =
    let file = call.bench.before.file in
    let from = answers.ends.told told in
    let stands = answers.ends.lawful.stands in
    ⊎_elim
    (λ (is_free : IsFree file). inl (looked call answers.answer no_job told answers.zero (λ early. early) stands (from.free is_free)))
    (λ (rest : IsSomeJob file ⊎ (IsDamagedSo file ⊎ IsNoJobSo file)). ⊎_elim
    (λ (some : IsSomeJob file). ⊎_elim
    (λ (size : size_of some.board.regions ≡ call.bench.before.cell_count).
    let carried = from.stands some.job some.board some.algorithms some.is some.whole size in
    let it : TakesUp (its call) (goal_for goal) = record {
      job = job_of some.job some.board;
      whole = some.whole;
      carries = carries call answers.answer answers.zero answers.says goal some.job some.board some.algorithms some.is (Left call.bench.before) carried.0
          carried.1;
    } in
    inr (it, taken call some.job some.board some.algorithms some.is size it.carries.says))
    (λ (other : size_of some.board.regions ≢ call.bench.before.cell_count).
    inl (looked call answers.answer (cells_differ (size_of some.board.regions) call.bench.before.cell_count) told answers.zero (λ early. early) stands
    (from.other_size some other)))
    (cases_eq (size_of some.board.regions) call.bench.before.cell_count))
    (λ (none : IsDamagedSo file ⊎ IsNoJobSo file). ⊎_elim
    (λ (is : IsDamagedSo file).
    inl (looked call answers.answer (damaged is.0 is.1) told answers.zero (λ early. early) stands (from.is_damaged is.0 is.1 is.2)))
    (λ (is : IsNoJobSo file).
    inl (looked call answers.answer (not_a_job is.0) told answers.zero (λ early. early) stands (from.not_job is.0 is.1)))
    none)
    rest)
    (something file bytes)
