-- What the loss of the power leaves, and what a finished resume leaves of it.
use Rattle.std.proofs.Common.{◌≡◌, ◌≢◌, ◌⊎◌, ⊎_elim, inl, inr, refl, sym, ap, subst, arith, ◌∙◌, ◌≤◌, ◌<◌, ℕ, true, List, [], ◌∷◌, option_copied, Option, Some}
use Rattle.std.proofs.Common.{None}
use Rattle.std.specs.Prelude.{length, ◌^◌}
use Rattle.std.proofs.lemmas.Bool.{cases_lt, cases_eq}
use Rattle.bench_model.specs.State.{SameOutside, BenchState, file_half}
use Rattle.bench_model.specs.History.{left}
use Rattle.bench_model.specs.declared.stop.StopBench.{StopBench}
use Rattle.byte_map.specs.Image.{Run}
use Rattle.board_file.specs.Limits.{size_of}
use Rattle.board_file.specs.Text.{IsBoard}
use Rattle.job_text.specs.Fits.{Suits}
use Rattle.job_text.specs.declared.format.Format.TheVariants.{Second}
use Rattle.job_text.specs.Parts.{files_with, flms_of, job_of as job_with, AreParts}
use Rattle.job_text.specs.declared.parts.JobParts.{JobParts}
use Rattle.job_text.specs.Stands.{IsSomeJob}
use Rattle.job_commands.specs.Carry.{Carries}
use Rattle.job_commands.specs.Steps.{BeginsParts}
use Rattle.bench_model.specs.Shown.{bench_of}
use Rattle.bench_model.specs.declared.memory.MemoryBench.{MemoryBench}
use Rattle.job_text.specs.Files.{IsFree, IsWhole, IsClosed}
use Rattle.job_text.specs.Body.{Job, body_of, flm_len}
use Rattle.job_text.specs.Jobs.{AreFlms, IsJob}
use Rattle.campaign.specs.Stops.{IsUntouched, IsAtClose}
use Rattle.flash_session.specs.declared.goal.Goal.TheVariants.{New}
use Rattle.report_text.specs.Refusal.{Refusal as Reason, out_of_memory, no_job, cells_differ, status_of}
use Rattle.report_text.specs.declared.refusal.Refusal.{Refusal}
use Rattle.report_text.proofs.StatusLemmas.{some_status}
use Rattle.command_files.specs.Call.{bench_call, Answer, done, refused}
use Rattle.command_files.specs.Answered.{yields, Refuses, OnlyLooked}
use Rattle.job_commands.specs.GoOn.{work_to, GoesOnFrom}
use Rattle.demo_job.specs.Made.{cells_of, image_of, laid_of}
use Rattle.demo_job.specs.Fixture.{board_text, Fixture, IsFixture}
use Rattle.demo_job.specs.Run.{IsFresh, IsLost, job_of, work_of, stopping_of, silence, answer_in, status_in}
use Rattle.demo_job.proofs.PlanLemmas.{laid_over}

-- the pair that is left: untouched, whole, or at the close
pub LeftPair : (seed : ℕ) (t : Fixture) (old : BenchState) (file cells : List ℕ) → Type 0
LeftPair seed t old file cells = (IsUntouched old file cells ⊎ IsWhole (body_of (job_of seed t)) file)
    ⊎ IsAtClose (body_of (job_of seed t)) (work_of seed t).goal file cells

pub left_pair : (seed : ℕ) (t : Fixture) (fresh lost : MemoryBench) (is : IsLost seed t fresh lost)
    → LeftPair seed t (stopping_of is.first) (bench_of lost).file (bench_of lost).cells
unfolding LeftPair
left_pair seed t fresh lost is =
    let pairs = is.carries.stops.pairs in
    let now = (stopping_of is.begun).moment in
    ⊎_elim
    (λ (less : now < is.carries.stops.closing). inl (pairs.before now (bench_of lost).file (bench_of lost).cells pairs.later
    (omega arith) less is.left.0 is.left.1))
    (λ (past : is.carries.stops.closing ≤ now). inr (pairs.from now (bench_of lost).file (bench_of lost).cells past (omega arith) is.left.0 is.left.1))
    (cases_lt now is.carries.stops.closing)

-- a stop of a fresh bench leaves a free file
free_at : (seed : ℕ) (fresh : MemoryBench) → IsFresh seed (bench_of fresh) → (file : List ℕ) → left (file_half (bench_of fresh)) file → IsFree file
free_at seed fresh is file at = subst (λ (f : List ℕ). IsFree f) (sym (is.rest.file file at ∙ is.file)) tt

untouched_free : (seed : ℕ) (first : StopBench MemoryBench) (fresh : MemoryBench) → first.inner ≡ fresh → IsFresh seed (bench_of fresh) → (file cells : List ℕ)
    → IsUntouched (stopping_of first) file cells → IsFree file
untouched_free seed first fresh inner is file cells untouched = ⊎_elim
    (λ (is_free : IsFree file). is_free)
    (λ (at : left (file_half (stopping_of first)) file). free_at seed fresh is file (subst (λ (b : MemoryBench). left (file_half (bench_of b)) file) inner at))
    untouched.free

not_done : (Did : Type 0) (reason : Reason) → Refuses Did done reason → ⊥
not_done Did reason either = ⊎_elim
    (λ (other : done ≡ refused reason). cc)
    (λ (yield : (yields done ≡ true) × Did). let e : yields done ≡ true = yield.0 in cc)
    either

-- a resume that is done leaves the image laid over the cells
pub done_laid : (seed : ℕ) (t : Fixture) (fresh lost after : MemoryBench) → IsFresh seed (bench_of fresh) → IsLost seed t fresh lost
    → t.algorithm.device.base ≡ 0x08000000 → t.algorithm.device.size ≡ 65536
    → GoesOnFrom New (bench_call true (bench_of lost) (bench_of after)) silence done → (bench_of after).cells ≡ laid_of seed
unfolding LeftPair
done_laid seed t fresh lost after is_fresh is base cells from =
    let Did = OnlyLooked (bench_call true (bench_of lost) (bench_of after)) silence in
    let file = (bench_of lost).file in
    let of_free : IsFree file → (bench_of after).cells ≡ laid_of seed = λ is_free. absurd (not_done Did no_job (from.free is_free)) in
    let of_whole : IsWhole (body_of (job_of seed t)) file → (bench_of after).cells ≡ laid_of seed = λ whole. ⊎_elim
    (λ (size : size_of t.board.regions ≡ (bench_of lost).cell_count).
    (from.stands (job_of seed t) t.board (t.algorithm ∷ []) is.is_job whole size).1.comes.0.reached.goal ∙ laid_over seed t is.is_job.suits.fit base cells)
    (λ (other : size_of t.board.regions ≢ (bench_of lost).cell_count).
    let some : IsSomeJob file = record { job = job_of seed t; board = t.board; algorithms = t.algorithm ∷ []; is = is.is_job; whole = whole } in
    absurd (not_done Did (cells_differ (size_of t.board.regions) (bench_of lost).cell_count) (from.other_size some other)))
    (cases_eq (size_of t.board.regions) (bench_of lost).cell_count) in
    ⊎_elim
    (λ (before : IsUntouched (stopping_of is.first) file (bench_of lost).cells ⊎ IsWhole (body_of (job_of seed t)) file). ⊎_elim
    (λ (untouched : IsUntouched (stopping_of is.first) file (bench_of lost).cells). of_free
    (untouched_free seed is.first fresh is.inner is_fresh file (bench_of lost).cells untouched))
    of_whole
    before)
    (λ (at_close : IsAtClose (body_of (job_of seed t)) (work_of seed t).goal file (bench_of lost).cells). ⊎_elim
    of_whole
    (λ (closed : IsClosed (body_of (job_of seed t)) file). of_free closed.free)
    at_close.whole_or_closed)
    (left_pair seed t fresh lost is)

-- no refusal has status 0
no_zero : (reason : Reason) → status_of reason ≡ 0 → ⊥
no_zero reason is = omega (arith, some_status reason, is)

pub zero_done : (end : Option Refusal) → status_in end ≡ 0 → answer_in end ≡ done
zero_done None is = refl
zero_done (Some r) is = absurd (no_zero _ is)

pub status_at : Answer → ℕ
status_at done = 0
status_at (refused reason) = status_of reason

status_same : (end : Option Refusal) → status_at (answer_in end) ≡ status_in end
unfolding status_at
status_same None = refl
status_same (Some r) = refl

-- the status of a job that ran out of memory is 1
pub want_is_one : (end : Option Refusal) → answer_in end ≡ refused out_of_memory → status_in end ≡ 1
unfolding status_at
want_is_one end is = sym (status_same end) ∙ ap status_at is

-- The parts of the job, and the job that is begun from them.

short_text : length board_text < 2 ^ 32
unfolding board_text
short_text = omega arith

pub parts_of : (t : Fixture) (parts : JobParts) → IsFixture t → Suits t.board (t.algorithm ∷ []) parts.image.now → parts.board.now ≡ board_text
    → parts.flm.now ≡ t.file
    → parts.second ≡ None → size_of t.board.regions ≡ parts.size → AreParts parts
parts_of t parts is suits board_is flm_is second_is size =
    let flms : flms_of parts ≡ t.file ∷ [] =
    ap (λ (f : List ℕ). files_with f (option_copied parts.second)) flm_is ∙ ap (λ o. files_with t.file (option_copied o)) second_is in
    record {
      board = t.board;
      algorithms = t.algorithm ∷ [];
      is_board = subst (λ (l : List ℕ). IsBoard l t.board) (sym board_is) is.is_board;
      are_algorithms = subst (λ (l : List (List ℕ)). AreFlms l (t.algorithm ∷ [])) (sym flms) (is.is_algorithm, tt);
      suits = suits;
      size = size;
      short_board = subst (λ (l : List ℕ). length l < 2 ^ 32) (sym board_is) short_text;
      short_first = subst (λ (l : List ℕ). length l < 2 ^ 32) (sym flm_is) is.is_forged.fits;
      short_second = subst (λ (l : List (List ℕ)). flm_len l 1 < 2 ^ 32) (sym flms) (omega arith);
    }

one_job : {a b : List ℕ} {c d : List (List ℕ)} {i j : List Run} {s u : List ℕ} → a ≡ b → c ≡ d → i ≡ j → s ≡ u
    → (let x : Job = record { format = Second; board = a; flms = c; image = i; snapshot = s } in x) ≡ record
    { format = Second; board = b; flms = d; image = j; snapshot = u }
one_job {a} {b} {c} {d} {i} {j} {s} {u} boards flms images snapshots =
    ap (λ (x : List ℕ). let k : Job = record { format = Second; board = x; flms = c; image = i; snapshot = s } in k) boards
    ∙ ap (λ (x : List (List ℕ)). let k : Job = record { format = Second; board = b; flms = x; image = i; snapshot = s } in k) flms
    ∙ ap (λ (x : List Run). let k : Job = record { format = Second; board = b; flms = d; image = x; snapshot = s } in k) images
    ∙ ap (λ (x : List ℕ). let k : Job = record { format = Second; board = b; flms = d; image = j; snapshot = x } in k) snapshots

pub record Begun (seed : ℕ) (t : Fixture) (first begun : StopBench MemoryBench) (answer : Answer) : Type 0 where
  pub is_job : IsJob (job_of seed t) t.board (t.algorithm ∷ [])
  pub carries : Carries (bench_call true (stopping_of first) (stopping_of begun)) silence (IsUntouched (stopping_of first)) (work_of seed t) answer

pub begun_of : (seed : ℕ) (t : Fixture) (first begun : StopBench MemoryBench) (fresh : MemoryBench) (answer : Answer) (parts : JobParts)
    → first.inner ≡ fresh → IsFresh seed (bench_of fresh) → (is : IsFixture t) → (suits : Suits t.board (t.algorithm ∷ []) parts.image.now)
    → (board_is : parts.board.now ≡ board_text)
    → (flm_is : parts.flm.now ≡ t.file) → (second_is : parts.second ≡ None) → parts.image.now ≡ image_of seed → (size : size_of t.board.regions ≡ parts.size)
    → parts.size ≡ 65536 → length (cells_of seed) ≡ 65536
    → BeginsParts (bench_call true (stopping_of first) (stopping_of begun)) silence parts answer → Begun seed t first begun answer
unfolding parts_of
begun_of seed t first begun fresh answer parts inner is_fresh is suits board_is flm_is second_is image_is size all long begins =
    let inner_cells : (stopping_of first).cells ≡ cells_of seed = ap (λ (b : MemoryBench). (bench_of b).cells) inner ∙ is_fresh.cells in
    let inner_file : (stopping_of first).file ≡ [] = ap (λ (b : MemoryBench). (bench_of b).file) inner ∙ is_fresh.file in
    let inner_idle : (stopping_of first).operation ≡ None = ap (λ (b : MemoryBench). (bench_of b).operation) inner ∙ is_fresh.rest.idle in
    let free : IsFree (stopping_of first).file = subst (λ (f : List ℕ). IsFree f) (sym inner_file) tt in
    let count : parts.size ≡ (stopping_of first).cell_count = all ∙ sym long ∙ sym (ap (λ (l : List ℕ). length l) inner_cells) in
    let of = begins.begins (parts_of t parts is suits board_is flm_is second_is size) free count in
    let surveyed : of.0 ≡ (stopping_of first).cells =
    (subst (λ (o : Option (ℕ × ℕ)). SameOutside o (stopping_of first).cells of.0) inner_idle of.2.surveyed) in
    let snapshot : of.0 ≡ cells_of seed = surveyed ∙ inner_cells in
    let flms : flms_of parts ≡ t.file ∷ [] =
    ap (λ (f : List ℕ). files_with f (option_copied parts.second)) flm_is ∙ ap (λ o. files_with t.file (option_copied o)) second_is in
    let same : job_with parts of.0 ≡ job_of seed t = one_job board_is flms image_is snapshot in
    record {
      is_job = subst (λ (j : Job). IsJob j t.board (t.algorithm ∷ [])) same of.1;
      carries =
          let one = subst (λ (j : Job). Carries (bench_call true (stopping_of first) (stopping_of begun)) silence (IsUntouched (stopping_of first))
          (work_to New j t.board (t.algorithm ∷ []) of.0) answer) same of.2 in
          subst (λ (s : List ℕ). Carries (bench_call true (stopping_of first) (stopping_of begun)) silence (IsUntouched (stopping_of first))
          (work_to New (job_of seed t) t.board (t.algorithm ∷ []) s) answer) snapshot one;
    }
