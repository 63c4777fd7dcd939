-- What a call for several benches promises: for each bench it is a call of `resume`, by that bench's own status and line.
use Rattle.std.proofs.Common.{◌≡◌, ◌≢◌, ◌⊎◌, ⊎_elim, inl, inr, ◌∙◌, refl, sym, ap, subst, ◌+◌, ◌<◌, arith, cond, Bool, true, false, IsTrue}
use Rattle.std.proofs.Common.{ℕ, zero, suc, List, [], ◌∷◌, ◌++◌, append-nil, length, get_or, map, Option, Some, None}
use Rattle.std.proofs.lemmas.Bool.{cases_eq, ne_eqb, false≢true}
use Rattle.std.proofs.lemmas.List.{length-map, get_or-map}
use Rattle.bench_model.specs.declared.bench.Bench.{Ghosts}
use Rattle.bench_model.specs.State.{BenchState}
use Rattle.outside_io.specs.Appends.{AppendsPart}
use Rattle.board_file.specs.Shown as board
use Rattle.flm_descriptor.specs.Shown as flm
use Rattle.job_text.specs.Files.{IsFree, IsWhole}
use Rattle.job_text.specs.Body.{Job, body_of}
use Rattle.job_text.specs.Jobs.{IsJob}
use Rattle.job_text.specs.Stands.{IsSomeJob}
use Rattle.campaign.specs.Stops.{IsDone}
use Rattle.report_text.specs.Refusal.{Refusal, status_of, usage, out_of_memory}
use Rattle.report_text.specs.Target.{target_line}
use Rattle.report_text.proofs.DoneLemmas.{only_done}
use Rattle.report_text.proofs.PlainLemmas.{IsOfGang, is_of_gang, said_of, line_is, one_line}
use Rattle.report_text.proofs.StatusLemmas.{some_status}
use Rattle.command_files.proofs.FileLemmas.{not_free}
use Rattle.command_files.specs.Call.{SinkCall}
use Rattle.command_files.specs.Said.{TookNothing}
use Rattle.flash_session.specs.declared.target_end.TargetEnd.TheVariants as ended
use Rattle.gang_commands.specs.Works.{aim_of}
use Rattle.gang_commands.specs.Ends.{HasFinished, KeepsOn, AllKeep}
use Rattle.gang_commands.specs.Gangs.{HasNoUsage, HasNoMemory, HaveEnded, Answers}
use Rattle.gang_commands.specs.Lines.{Outcome, reason, lines_from, status_before, status_in}
use Rattle.gang_commands.specs.Words.{DoFit}
use Rattle.gang_commands.proofs.TargetLemmas.{done_alone, its_reason, finished_by, keeps_by, same_pairs, ClosesEach, looked_closes, closes_by}
use Rattle.gang_commands.proofs.WordLemmas.{fits_or_not}
use Rattle.command_words.specs.Files.{resume}
use Rattle.promise.specs.Job.{laid}
use Rattle.promise.specs.Promise.{Call, IsIdle, TakesUp, KeepsPromise, fault_counts, call_of, BenchAnswer, BenchKeeps, EachKeeps, answer_lines}
use Rattle.promise.specs.Promise.{first_status, GangKeeps}
use Rattle.promise.proofs.ClassLemmas.{IsDamagedSo, IsNoJobSo, AreBytes, never_damaged, something}
use Rattle.promise.proofs.CarryLemmas.{job_of, says}

-- ---- one bench

module _ (status : ℕ) (s t : BenchState) (keeps : KeepsOn status s t) (closes : ClosesEach status s t) where
  abbrev call : Call
  call = call_of (λ name. None) s t (fault_counts 0 0) (fault_counts 0 0) status

  on_job : (job : Job) (b : board.Shown) (xs : List flm.Shown) → IsJob job b xs → IsWhole (body_of job) s.file
      → (status ≡ 0 → IsDone (body_of job) (aim_of job b).laid t) → TakesUp call laid
  on_job job b xs is whole done =
      let its = closes job b xs is whole in
      record {
        job = job_of job b;
        whole = whole;
        carries = record {
          says = says job b xs is;
          done = done;
          closing = its.turn;
          before = λ k f c from to f_at c_at early. its.stops.pairs.before k f c from to early f_at c_at;
          from = λ k f c from to f_at c_at late. its.stops.pairs.from k f c late to f_at c_at;
          no_close = its.no_close;
        };
      }

  refused : (status ≡ 0 → ⊥) → (IsSomeJob s.file → ⊥) → IsIdle call
  refused other none = record { not_done = other; stopped = (keeps.idle none).each }

  pub resumes : (status ≡ 0 → HasFinished s t) → AreBytes s.file → KeepsPromise resume call
  resumes finished bytes = ⊎_elim
      (λ (zero : status ≡ 0). let f = finished zero in inr (on_job f.job f.board f.algorithms f.is f.stood (λ is. f.done)))
      (λ (other : status ≢ 0). ⊎_elim
      (λ (free : IsFree s.file). inl (refused other (λ some. not_free some.job s.file some.whole free)))
      (λ (rest : IsSomeJob s.file ⊎ (IsDamagedSo s.file ⊎ IsNoJobSo s.file)). ⊎_elim
      (λ (some : IsSomeJob s.file). inr (on_job some.job some.board some.algorithms some.is some.whole (λ zero. absurd (other zero))))
      (λ (none : IsDamagedSo s.file ⊎ IsNoJobSo s.file). ⊎_elim
      (λ (is : IsDamagedSo s.file). inl (refused other (λ some. never_damaged s.file is some)))
      (λ (is : IsNoJobSo s.file). inl (refused other (λ some. is.1.none.no_job some.job some.board some.algorithms some.is some.whole)))
      none)
      rest)
      (something s.file bytes))
      (cases_eq status 0)

-- ---- one bench

-- the answer for the bench with this number: done, or refused for this reason
abbrev answer_of : ℕ → Option Refusal → BenchAnswer
answer_of number why = record { status = status_before why 0; line = target_line number why }

no_status : (why : Option Refusal) → why ≡ None → status_before why 0 ≡ 0
no_status why is = ap (λ (r : Option Refusal). status_before r 0) is

no_reason : (why : Option Refusal) → status_before why 0 ≡ 0 → why ≡ None
no_reason None is = refl
no_reason (Some r) is = absurd (omega (arith, some_status r, is))

bench_keeps : (s t : BenchState) (number : ℕ) (why : Option Refusal) → IsOfGang why → AreBytes s.file → KeepsOn (status_before why 0) s t
    → ClosesEach (status_before why 0) s t → (status_before why 0 ≡ 0 → HasFinished s t) → BenchKeeps s t number (answer_of number why)
bench_keeps s t number why of bytes keeps closes finished = record {
  keeps = resumes (status_before why 0) s t keeps closes finished bytes;
  said = said_of why;
  line_is = line_is number why;
  one_line = one_line why of;
  done = (
    (λ is. no_status why (only_done number why is)),
    (λ is. ap (λ (r : Option Refusal). target_line number r) (no_reason why is)),
  );
}

-- ---- all benches, numbered from `number` on

abbrev answers_from : ℕ → List (Option Refusal) → List BenchAnswer
answers_from number [] = []
answers_from number (why ∷ rest) = answer_of number why ∷ answers_from (number + 1) rest

as_many : (number : ℕ) (reasons : List (Option Refusal)) → length (answers_from number reasons) ≡ length reasons
as_many number [] = refl
as_many number (why ∷ rest) = omega (arith, as_many (number + 1) rest)

answer_at : (number place : ℕ) (reasons : List (Option Refusal)) (i : ℕ) (t : BenchAnswer) (r : Option Refusal) → place ≡ number + i → i < length reasons
    → get_or (answers_from number reasons) i t ≡ answer_of place (get_or reasons i r)
answer_at number place [] i t r is less = absurd (omega (arith, less))
answer_at number place (why ∷ rest) zero t r is less = let same : number ≡ place = omega (arith, is) in ap (λ (n : ℕ). answer_of n why) same
answer_at number place (why ∷ rest) (suc i) t r is less = answer_at (number + 1) place rest i t r (omega (arith, is)) (omega (arith, less))

same_lines : (number : ℕ) (ends : List Outcome) → answer_lines (answers_from number (map reason ends)) ≡ lines_from number ends
same_lines number [] = refl
same_lines number (x ∷ rest) = ap (λ (l : List ℕ). target_line number (reason x) ++ l) (same_lines (number + 1) rest)

first_of : (number : ℕ) (why : Option Refusal) (answers : List BenchAnswer) (rest : ℕ) → first_status answers ≡ rest
    → first_status (answer_of number why ∷ answers) ≡ status_before why rest
first_of number None answers rest is = is
first_of number (Some r) answers rest is =
    ap (λ (b : Bool). cond b (first_status answers) (status_of r)) (ne_eqb (status_of r) 0 (λ none. omega (arith, some_status r, none)))

same_status : (number : ℕ) (ends : List Outcome) → first_status (answers_from number (map reason ends)) ≡ status_in ends
same_status number [] = refl
same_status number (x ∷ rest) = first_of number (reason x) (answers_from (number + 1) (map reason rest)) (status_in rest) (same_status (number + 1) rest)

-- a beginning that the output took, where it tells what it took
record IsPart (tells : Bool) (text before after : List ℕ) : Type 0 where
  said : List ℕ
  rest : List ℕ
  is : text ≡ said ++ rest
  output : IsTrue tells → after ≡ before ++ said

part_of : (tells : Bool) (text before after : List ℕ) → (IsTrue tells → AppendsPart text before after) → IsPart tells text before after
part_of true text before after took =
    let it = took refl in
    record { said = it.part; rest = it.rest; is = it.piece_is; output = λ told. it.appended }
part_of false text before after took = record { said = []; rest = text; is = refl; output = λ told. absurd (false≢true told) }

-- ---- each of them

module _ {B : Type 0} (G : Ghosts B) where
  -- what holds at each place holds of each bench
  each_from : (number : ℕ) (benches after : List B) (answers : List BenchAnswer) → length after ≡ length benches → length answers ≡ length benches
      → ((i : ℕ) (b : B) (a : BenchAnswer) → i < length benches
      → BenchKeeps (G.state (get_or benches i b)) (G.state (get_or after i b)) (i + number) (get_or answers i a))
      → EachKeeps G number benches after answers
  each_from number [] [] [] same count each = tt
  each_from number [] [] (a ∷ answers) same count each = absurd (omega (arith, count))
  each_from number [] (t ∷ after) answers same count each = absurd (omega (arith, same))
  each_from number (s ∷ benches) [] answers same count each = absurd (omega (arith, same))
  each_from number (s ∷ benches) (t ∷ after) [] same count each = absurd (omega (arith, count))
  each_from number (s ∷ benches) (t ∷ after) (a ∷ answers) same count each =
      let first : 0 + number ≡ number = omega arith in (
        subst (λ (n : ℕ). BenchKeeps (G.state s) (G.state t) n a) first (each 0 s a (omega arith)),
        each_from (number + 1) benches after answers (omega (arith, same)) (omega (arith, count)) (λ i b x less.
            let next : suc i + number ≡ i + (number + 1) = omega arith in
            subst (λ (n : ℕ). BenchKeeps (G.state (get_or benches i b)) (G.state (get_or after i b)) n (get_or answers i x)) next
            (each (suc i) b x (omega (arith, less)))),
      )

-- ---- the call

module _ {B : Type 0} (G : Ghosts B) (told : IsTrue G.tells) (bytes : (b : B) → AreBytes (G.state b).file) (benches after : List B) (out err : SinkCall)
    (status : ℕ) where
  abbrev Kept : Type 0
  Kept = GangKeeps G benches after out.tells out.before.taken out.after.taken status

  -- the call was refused as a whole
  refused_call : (r : Refusal) → is_of_gang r ≡ true → status ≡ status_of r → (status ≡ 1) ⊎ (status ≡ 2) → TookNothing out
      → ((i : ℕ) (b : B) → i < length benches → ClosesEach (status_of r) (G.state (get_or benches i b)) (G.state (get_or after i b)))
      → AllKeep G status benches after → length after ≡ length benches → Kept
  refused_call r of is which nothing closes keep same =
      let reasons : List (Option Refusal) = map (λ (b : B). Some r) benches in
      let long : length reasons ≡ length benches = length-map benches (λ (b : B). Some r) in
      record {
        answers = answers_from 1 reasons;
        each = each_from G 1 benches after (answers_from 1 reasons) same (as_many 1 reasons ∙ long) (λ i b t less.
            let s = G.state (get_or benches i b) in
            let within : i < length reasons = omega (arith, less, long) in
            let why : get_or reasons i None ≡ Some r = get_or-map (λ (b : B). Some r) benches i b None less in
            let keeps : KeepsOn (status_of r) s (G.state (get_or after i b)) =
            subst (λ (n : ℕ). KeepsOn n s (G.state (get_or after i b))) is (keep i b less) in
            subst (λ (x : BenchAnswer). BenchKeeps s (G.state (get_or after i b)) (i + 1) x)
            (sym (answer_at 1 (i + 1) reasons i t None (omega arith) within ∙ ap (λ (w : Option Refusal). answer_of (i + 1) w) why))
            (bench_keeps s (G.state (get_or after i b)) (i + 1) (Some r) of (bytes (get_or benches i b)) keeps (closes i b less)
            (λ zero. absurd (omega (arith, some_status r, zero)))));
        said = [];
        says = inr (inr (which, refl));
        output = λ tells. nothing.taken ∙ sym (append-nil out.before.taken);
      }

  module _ (have : HaveEnded G benches after out err status) where
    abbrev reasons : List (Option Refusal)
    reasons = map reason have.ends

    long : length reasons ≡ length have.ends
    long = length-map have.ends reason

    each_answer : (i : ℕ) (b : B) (t : BenchAnswer) → i < length benches
        → BenchKeeps (G.state (get_or benches i b)) (G.state (get_or after i b)) (i + 1) (get_or (answers_from 1 reasons) i t)
    each_answer i b t less =
        let none : Outcome = record { end = ended.StoreFault; regions = None } in
        let s = G.state (get_or benches i b) in
        let now = G.state (get_or after i b) in
        let x : Outcome = get_or have.ends i none in
        let comes = (have.ended i b none less).comes told in
        let inside : i < length have.ends = omega (arith, less, have.each) in
        let within : i < length reasons = omega (arith, inside, long) in
        let why : get_or reasons i None ≡ reason x = get_or-map reason have.ends i none None inside in
        subst (λ (y : BenchAnswer). BenchKeeps s now (i + 1) y)
        (sym (answer_at 1 (i + 1) reasons i t None (omega arith) within ∙ ap (λ (w : Option Refusal). answer_of (i + 1) w) why))
        (bench_keeps s now (i + 1) (reason x) (its_reason x) (bytes (get_or benches i b))
        (keeps_by G (status_before (reason x) 0) s x now x.end refl comes (done_alone x)) (closes_by G s x now comes)
        (λ zero. finished_by G s x now comes (done_alone x zero)))

    count_is : length (answers_from 1 reasons) ≡ length benches
    count_is = as_many 1 reasons ∙ long ∙ have.each

    ended_call : length after ≡ length benches → Kept
    ended_call same = ⊎_elim
        (λ whole. record {
          answers = answers_from 1 reasons;
          each = each_from G 1 benches after (answers_from 1 reasons) same count_is each_answer;
          said = lines_from 1 have.ends;
          says = inl (whole.1 ∙ sym (same_status 1 have.ends), sym (same_lines 1 have.ends));
          output = λ tells. whole.0.taken tells;
        })
        (λ part.
        let it = part_of out.tells (lines_from 1 have.ends) out.before.taken out.after.taken part.0.taken in
        record {
          answers = answers_from 1 reasons;
          each = each_from G 1 benches after (answers_from 1 reasons) same count_is each_answer;
          said = it.said;
          says = inr (inl (it.rest, part.1.0, same_lines 1 have.ends ∙ it.is));
          output = it.output;
        })
        have.says

  pub gang_keeps : (words : ℕ) → Answers G words benches after out err status → AllKeep G status benches after → Kept
  gang_keeps words answers keep = ⊎_elim
      (λ (fit : DoFit words (length benches)). ⊎_elim
      (λ (wants : HasNoMemory G benches after out err status). refused_call out_of_memory refl wants.says.0 (inl wants.says.0) wants.prints
      (λ i b less. looked_closes 1 (G.state (get_or benches i b)) (G.state (get_or after i b)) (wants.looked i b less).pairs) keep answers.count)
      (λ (have : HaveEnded G benches after out err status). ended_call have answers.count)
      (answers.fit fit))
      (λ (unfit : DoFit words (length benches) → ⊥).
      let has : HasNoUsage benches after out err status = answers.unfit unfit in
      refused_call usage refl has.says.0 (inr has.says.0) has.prints
      (λ i b less. subst (λ (l : List B). ClosesEach 2 (G.state (get_or benches i b)) (G.state (get_or l i b))) (sym has.same)
      (looked_closes 2 (G.state (get_or benches i b)) (G.state (get_or benches i b)) (same_pairs (G.state (get_or benches i b))))) keep answers.count)
      (fits_or_not words (length benches))
