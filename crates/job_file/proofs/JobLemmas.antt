-- Reading a job step by step: the counts and the runs, the head, and the class of a file.
use Rattle.std.proofs.Common.{◌≡◌, ◌≢◌, ◌⊎◌, ◌≤◌, ◌<◌, ◌+◌, ◌-◌, ◌^◌, ◌∙◌, ℕ, true, false, ltb, leb, eqb, List, [], ◌∷◌, ◌++◌, length, get_or, take, drop}
use Rattle.std.proofs.Common.{Option, Some, None, Result, Ok, Err, refl, sym, ap, subst, arith}
use Rattle.std.proofs.lemmas.Bool.{lt-ltb, le-ltb, le-leb, lt-leb, eq-eqb, ne_eqb}
use Rattle.std.specs.List.{concat, flat_map}
use Rattle.std.proofs.lemmas.List.{length-drop, drop-drop, drop-take, take-append-drop}
use Rattle.faults.specs.Results.{◌>>=◌}
use Rattle.byte_map.specs.Image.{Run}
use Rattle.board_file.specs.Limits.{size_of}
use Rattle.board_file.specs.Shown as board
use Rattle.board_file.specs.Text.{IsBoard}
use Rattle.flm_descriptor.specs.declared.algorithm.Algorithm.{Algorithm}
use Rattle.flm_descriptor.specs.Shown as flm
use Rattle.job_text.specs.declared.format.Format.{Format}
use Rattle.job_text.specs.declared.format.Format.TheVariants.{First, Second}
use Rattle.job_text.specs.declared.head.Head.{Head}
use Rattle.job_text.specs.declared.head.Places.{Places}
use Rattle.job_text.specs.declared.job.Job as code
use Rattle.job_text.specs.Body.{Job, first_mark, flm_len, run_text, body_of, MayHave}
use Rattle.job_text.specs.Jobs.{IsJob, AreFlms}
use Rattle.job_text.specs.Said.{algorithms_shown, one_or_two}
use Rattle.job_text.specs.Stands.{snapshot_in, StandsFor}
use Rattle.job_text.specs.Reading.{holds_or, Texts, File, files_of, files_in, texts_at, runs_at, places_of, rest_at, format_in, is_damaged, job_as}
use Rattle.job_text.specs.Reading.{head_at}
use Rattle.job_text.proofs.Steps.{bind_is, holds}
use Rattle.job_text.proofs.TakeLemmas.{IsBytes}
use Rattle.job_text.proofs.RestLemmas.{found_of, ends_behind, runs_behind, counts_behind, rest_from, rest_said}
use Rattle.job_text.proofs.HeadLemmas.{IsFirst, IsSecond, four, six, first_takes, second_takes}
use Rattle.job_text.proofs.BodyLemmas.{TextsAre, texts_in, said_in, texts_take, head_for}
use Rattle.job_text.proofs.ClassLemmas.{second_whole}
use Rattle.job_file.specs.declared.fault.ReadFault.{ReadFault}
use Rattle.job_file.specs.declared.fault.ReadFault.TheVariants.{OutOfMemory, StoreFault, NotAJob}
use Rattle.job_file.specs.declared.texts.Said.{Said}
use Rattle.job_file.specs.Readers.{Fails, Gives, head_read, head_len, IsHeadOf, second_there, texts_there, counts_checked, Counts, IsGate, IsBodyOf, IsJobRest}
use Rattle.job_file.specs.Readers.{IsJobBody}
use Rattle.job_file.proofs.StepLemmas.{fails, err_through, bind_err}
use Rattle.job_file.proofs.TextsLemmas.{fails_within}

-- ---- what follows the texts

pub rest_texts : (d : ℕ) (format : Format) (h : Head) (bytes : List ℕ) (e : ReadFault) → Fails e (texts_at d (places_of format) h bytes)
    → Fails e (rest_at d format h bytes)
rest_texts d format h bytes e = fails_within e (texts_at d (places_of format) h bytes) (rest_at d format h bytes)
    (λ at is. rest_from d format h bytes ∙ bind_err (texts_at d (places_of format) h bytes) (counts_behind d format h) at is)

-- the texts were read, and end at this place
abbrev AreRead : ℕ → Format → Head → List ℕ → Texts → ℕ → Type 0
AreRead d format h file t end = texts_at d (places_of format) h (drop (places_of format).front file) ≡ Ok (t, drop end file)

counts_fail : (T : Type 0) (places : Places) (h : Head) (size : ℕ) (e : ReadFault) → Counts {T = T} places h size (Err e)
    → Fails e (counts_checked places h size)
counts_fail T places h size OutOfMemory is = absurd is
counts_fail T places h size StoreFault is = absurd is
counts_fail T places h size (NotAJob at) is = is

pub rest_miscounted : (T : Type 0) (d : ℕ) (format : Format) (h : Head) (file : List ℕ) (t : Texts) (end : ℕ) (e : ReadFault) → AreRead d format h file t end
    → Counts {T = T} (places_of format) h (size_of t.board.regions) (Err e)
    → Fails e (rest_at d format h (drop (places_of format).front file))
rest_miscounted T d format h file t end e read is =
    fails_within e (counts_checked (places_of format) h (size_of t.board.regions)) (rest_at d format h (drop (places_of format).front file))
    (λ at err. rest_said d format h (drop (places_of format).front file) t (drop end file) read
    ∙ err_through (holds_or (places_of format).cells (eqb h.cells (size_of t.board.regions))) (λ sized. holds_or (places_of format).runs (ltb 0 h.runs))
    (λ sized some. runs_behind d format h (t, drop end file)) at err)
    (counts_fail T (places_of format) h (size_of t.board.regions) e is)

-- the texts were read, and the head has as many cells as the regions and at least one run
pub record IsCountedRight (d : ℕ) (format : Format) (h : Head) (file : List ℕ) (t : Texts) (end : ℕ) : Type 0 where
  pub read : AreRead d format h file t end
  pub sized : h.cells ≡ size_of t.board.regions
  pub some : 1 ≤ h.runs

rest_counted : (d : ℕ) (format : Format) (h : Head) (file : List ℕ) (t : Texts) (end : ℕ) → IsCountedRight d format h file t end
    → rest_at d format h (drop (places_of format).front file) ≡ runs_behind d format h (t, drop end file)
rest_counted d format h file t end r =
    rest_said d format h (drop (places_of format).front file) t (drop end file) r.read
    ∙ bind_is (holds_or (places_of format).cells (eqb h.cells (size_of t.board.regions)))
    (λ sized. holds_or (places_of format).runs (ltb 0 h.runs) >>= λ some. runs_behind d format h (t, drop end file)) tt
    (holds (places_of format).cells (eqb h.cells (size_of t.board.regions)) (eq-eqb _ _ r.sized))
    ∙ bind_is (holds_or (places_of format).runs (ltb 0 h.runs)) (λ some. runs_behind d format h (t, drop end file)) tt
    (holds (places_of format).runs (ltb 0 h.runs) (lt-ltb _ _ r.some))

pub rest_runs : (d : ℕ) (format : Format) (h : Head) (file : List ℕ) (t : Texts) (end : ℕ) (e : ReadFault) → IsCountedRight d format h file t end
    → Fails e (runs_at d t.board.regions h.runs 0 (drop end file)) → Fails e (rest_at d format h (drop (places_of format).front file))
rest_runs d format h file t end e r =
    let runs = runs_at d t.board.regions h.runs 0 (drop end file) in
    fails_within e runs (rest_at d format h (drop (places_of format).front file))
    (λ at is. rest_counted d format h file t end r ∙ bind_err runs (λ x. ends_behind d format h t x) at is)

pub rest_ends : (d : ℕ) (format : Format) (h : Head) (file : List ℕ) (t : Texts) (end at : ℕ) (image : List Run) → IsCountedRight d format h file t end
    → runs_at d t.board.regions h.runs 0 (drop end file) ≡ Ok (image, drop at file) → length file ≡ d → d - at ≢ h.cells
    → rest_at d format h (drop (places_of format).front file) ≡ Err d
rest_ends d format h file t end at image r is long differ =
    let left : length (drop at file) ≢ h.cells = λ same. differ (omega (arith, same, long, length-drop at file)) in
    rest_counted d format h file t end r
    ∙ bind_is (runs_at d t.board.regions h.runs 0 (drop end file)) (λ x. ends_behind d format h t x) (image, drop at file) is
    ∙ bind_err (holds_or d (eqb (length (drop at file)) h.cells)) (λ ends. Ok (found_of format t image (drop at file))) d
    (fails d (eqb (length (drop at file)) h.cells) (ne_eqb _ _ left))

-- ---- the rest of a job was read

said_is : (file : List ℕ) (places : Places) (h : Head) (s : Said)
    → said_in (files_in (texts_there file places h s)) ≡ algorithms_shown (one_or_two s.first s.second)
said_is file places h s = by_second s.second
  where
    first : File
    first = (texts_there file places h s).first

    by_second : (o : Option Algorithm) → said_in (files_of first (second_there file (places.front + h.board + h.first) h.second o)) ≡ algorithms_shown
        (one_or_two s.first o)
    by_second None = refl
    by_second (Some a) = refl

pub rest_job : (job : code.Job) (d : ℕ) (format : Format) (h : Head) (file : List ℕ) (s : Said)
    → IsCountedRight d format h file (texts_there file (places_of format) h s) s.end
    → job.board ≡ s.board → algorithms_shown job.algorithms ≡ algorithms_shown (one_or_two s.first s.second)
    → drop s.end file ≡ flat_map run_text job.image ++ drop job.snapshot_at file → length job.image ≡ h.runs → length file ≡ d → d - job.snapshot_at ≡ h.cells
    → IsJobRest job format file h
rest_job job d format h file s r board_is algorithms_are runs many long left =
    let places = places_of format in
    let t : Texts = texts_there file places h s in
    let are : TextsAre h (drop places.front file) t (drop s.end file) = texts_take d places h (drop places.front file) (t, drop s.end file) r.read in
    record {
      text = t.board_text;
      flms = texts_in (files_in t);
      parts = are.parts ∙ ap (λ (l : List ℕ). t.board_text ++ (concat (texts_in (files_in t)) ++ l)) runs;
      is_board = subst (λ (b : board.Shown). IsBoard t.board_text b) (sym (ap board.shown board_is)) are.is_board;
      are_flms = subst (λ (said : List flm.Shown). AreFlms (texts_in (files_in t)) said) (said_is file places h s ∙ sym algorithms_are) are.are_flms;
      few = subst (λ (n : ℕ). (n ≡ 1) ⊎ (n ≡ 2)) (sym are.files_len) are.few;
      board_len = are.board_len;
      files_len = are.files_len;
      first_len = are.first_len;
      second_len = are.second_len;
      runs_len = many;
      cells_len = omega (arith, left, long, length-drop job.snapshot_at file);
      sized = r.sized ∙ ap (λ (b : board.Shown). size_of b.regions) (sym (ap board.shown board_is));
    }

-- ---- the head

-- the head that is read from bytes is written as these bytes
nil_from : (l : List ℕ) → length l ≡ 0 → l ≡ []
nil_from [] e = refl
nil_from (x ∷ xs) e = absurd (omega arith)

pub head_is : (d : ℕ) (format : Format) (bytes : List ℕ) (h : Head) (rest : List ℕ) → length bytes ≡ head_len format → IsBytes bytes
    → head_at d format bytes ≡ Ok (h, rest) → IsHeadOf format h bytes
head_is d First bytes h rest long fit is =
    let t : IsFirst bytes (h, rest) = first_takes d bytes (h, rest) fit is in
    let none : rest ≡ [] = nil_from rest (omega (arith, long, ap (λ (l : List ℕ). length l) t.parts)) in
    let parts : bytes ≡ first_mark ++ four h [] = t.parts ∙ ap (λ (l : List ℕ). first_mark ++ four h l) none in
    record {
      rest = (ap (λ (l : List ℕ). take 7 l) parts, t.one, t.none);
      text = ap (λ (l : List ℕ). drop 7 l) parts;
      board = t.fits.board;
      first = t.fits.first;
      second = t.fits.second;
    }
head_is d Second bytes h rest long fit is =
    let t : IsSecond bytes (h, rest) = second_takes d bytes (h, rest) fit is in
    let none : rest ≡ [] = nil_from rest (omega (arith, long, length-drop 39 bytes, ap (λ (l : List ℕ). length l) t.parts)) in
    record {
      rest = tt;
      text = t.parts ∙ ap (λ (l : List ℕ). six h l) none;
      board = t.fits.board;
      first = t.fits.first;
      second = t.fits.second;
    }

-- where the texts begin
pub front_is : (format : Format) → 1 + head_len format ≡ (places_of format).front
front_is First = refl
front_is Second = refl

-- a head, in a file that is long enough for it
pub head_gives : (whole : ℕ) (format : Format) (file : List ℕ) (r : Result Head ReadFault) → (places_of format).front ≤ whole
    → Gives (λ h. (h, drop (head_len format) (drop 1 file))) r (head_at whole format (drop 1 file))
    → Gives (λ h. (h, drop (places_of format).front file)) r (head_read whole format (drop 1 file))
head_gives whole format file r long gives =
    let test = leb (places_of format).front whole in
    let there : drop (head_len format) (drop 1 file) ≡ drop (places_of format).front file = drop-drop (head_len format) 1 file
    ∙ ap (λ (n : ℕ). drop n file) (front_is format) in
    let read : head_at whole format (drop 1 file) ≡ head_read whole format (drop 1 file) =
    sym (bind_is (holds_or whole test) (λ u. head_at whole format (drop 1 file)) tt (holds whole test (le-leb _ _ long))) in
    subst (λ (q : Result (Head × List ℕ) ℕ). Gives (λ (h : Head). (h, drop (places_of format).front file)) r q) read
    (subst (λ (l : List ℕ). Gives (λ (h : Head). (h, l)) r (head_at whole format (drop 1 file))) there gives)

pub head_cut : (whole : ℕ) (format : Format) (body : List ℕ) → whole < (places_of format).front → head_read whole format body ≡ Err whole
head_cut whole format body short =
    let test = leb (places_of format).front whole in
    bind_err (holds_or whole test) (λ u. head_at whole format body) whole (fails whole test (lt-leb _ _ short))

-- ---- the whole

job_from : (d : ℕ) (format : Format) (body : List ℕ) → job_as d format body ≡
    (holds_or d (leb (places_of format).front d) >>= λ long. head_at d format body >>= λ head. rest_at d format head.0 head.1)
unfolding job_as
job_from d format body = refl

pub job_head : (d : ℕ) (format : Format) (body : List ℕ) (e : ReadFault) → Fails e (head_read d format body) → Fails e (job_as d format body)
job_head d format body e = fails_within e (head_read d format body) (job_as d format body)
    (λ at is. job_from d format body ∙ err_through (holds_or d (leb (places_of format).front d)) (λ long. head_at d format body)
    (λ long head. rest_at d format head.0 head.1) at is)

pub job_rest : (d : ℕ) (format : Format) (body : List ℕ) (h : Head) (rest : List ℕ) → head_read d format body ≡ Ok (h, rest)
    → job_as d format body ≡ rest_at d format h rest
job_rest d format body h rest is = job_from d format body ∙ through (holds_or d (leb (places_of format).front d)) is
  where
    through : (r : Result (Unit {0}) ℕ) → (r >>= λ long. head_at d format body) ≡ Ok (h, rest)
        → (r >>= λ long. head_at d format body >>= λ head. rest_at d format head.0 head.1) ≡ rest_at d format h rest
    through (Ok u) e = bind_is (head_at d format body) (λ head. rest_at d format head.0 head.1) (h, rest) e
    through (Err at) e = absurd cc

-- the body of a job was read
text_is : (job : code.Job) (format : Format) (file : List ℕ) (h : Head) (r : IsJobRest job format file h) → MayHave format (length r.flms) → h.board < 2 ^ 32
    → h.first < 2 ^ 32 → h.second < 2 ^ 32
    → IsJob (record { format = format; board = r.text; flms = r.flms; image = job.image; snapshot = snapshot_in job file }) (board.shown job.board)
    (algorithms_shown job.algorithms)
text_is job format file h r may short_board short_first short_second = record {
  board = r.is_board;
  files = may;
  algorithms = r.are_flms;
  suits = record { fit = job.fit; some = job.some; inside = job.inside };
  cells = r.cells_len ∙ r.sized;
  short_board = omega (arith, r.board_len, short_board);
  short_first = omega (arith, r.first_len, short_first);
  short_second = omega (arith, r.second_len, short_second);
}

-- the bytes of a body from `at` on are those up to `n`, and the rest
split_at : (n at : ℕ) (body front : List ℕ) → at ≤ n → drop at (take n body) ≡ front → drop at body ≡ front ++ drop n body
split_at n at body front le is =
    let m : at + (n - at) ≡ n = omega (arith, le) in
    let part : drop at (take n body) ≡ take (n - at) (drop at body) = ap (λ (k : ℕ). drop at (take k body)) (sym m) ∙ drop-take at (n - at) body in
    sym (take-append-drop (n - at) (drop at body)) ∙ ap (λ (l : List ℕ). l ++ drop (n - at) (drop at body)) (sym part ∙ is)
    ∙ ap (λ (l : List ℕ). front ++ l) (drop-drop (n - at) at body ∙ ap (λ (k : ℕ). drop k body) m)

head_same : (h : Head) (j : Job) → length j.board ≡ h.board → length j.flms ≡ h.files → flm_len j.flms 0 ≡ h.first → flm_len j.flms 1 ≡ h.second
    → length j.image ≡ h.runs → length j.snapshot ≡ h.cells
    → h ≡ head_for j
head_same h j b q f s r n = λ i. record { board = sym b i; files = sym q i; first = sym f i; second = sym s i; runs = sym r i; cells = sym n i }

pub job_body : (job : code.Job) (format : Format) (file : List ℕ) (h : Head) → IsHeadOf format h (take (head_len format) (drop 1 file))
    → IsJobRest job format file h → IsJobBody job format (drop 1 file) file
job_body job First file h head r =
    let body = drop 1 file in
    let text : Job = record { format = First; board = r.text; flms = r.flms; image = job.image; snapshot = snapshot_in job file } in
    let tail = r.text ++ (concat r.flms ++ (flat_map run_text job.image ++ snapshot_in job file)) in
    let one : length r.flms ≡ 1 = r.files_len ∙ head.rest.1 in
    let front : take 23 body ≡ first_mark ++ four h [] =
    sym (take-append-drop 7 (take 23 body)) ∙ ap (λ (l : List ℕ). l ++ drop 7 (take 23 body)) head.rest.0 ∙ ap (λ (l : List ℕ). first_mark ++ l) head.text in
    let whole : body ≡ first_mark ++ four h tail =
    sym (take-append-drop 23 body) ∙ ap (λ (l : List ℕ). l ++ drop 23 body) front
    ∙ ap (λ (l : List ℕ). (first_mark ++ four h []) ++ l) (drop-drop 23 1 file ∙ r.parts) in
    record {
      text = text;
      format_is = refl;
      is = text_is job First file h r one head.board head.first head.second;
      whole = whole ∙ ap (λ (x : Head). first_mark ++ four x tail) (head_same h text r.board_len r.files_len r.first_len r.second_len r.runs_len r.cells_len);
      image = refl;
      snapshot = refl;
    }
job_body job Second file h head r =
    let body = drop 1 file in
    let text : Job = record { format = Second; board = r.text; flms = r.flms; image = job.image; snapshot = snapshot_in job file } in
    let tail = r.text ++ (concat r.flms ++ (flat_map run_text job.image ++ snapshot_in job file)) in
    let whole : drop 39 body ≡ six h tail = split_at 63 39 body (six h []) (omega arith) head.text
    ∙ ap (λ (l : List ℕ). six h [] ++ l) (drop-drop 63 1 file ∙ r.parts) in
    record {
      text = text;
      format_is = refl;
      is = text_is job Second file h r r.few head.board head.first head.second;
      whole = whole ∙ ap (λ (x : Head). six x tail) (head_same h text r.board_len r.files_len r.first_len r.second_len r.runs_len r.cells_len);
      image = refl;
      snapshot = refl;
    }

-- an undamaged body that is a job's by its format is the whole body of that job
body_whole : (format : Format) (body : List ℕ) (j : Job) → format_in body ≡ format → is_damaged body ≡ false → j.format ≡ format → IsBodyOf format body j
    → body ≡ body_of j
body_whole First body j format intact format_is whole = whole
body_whole Second body j format intact format_is whole = second_whole body j format intact format_is whole

pub job_stands : (job : code.Job) (format : Format) (file : List ℕ) → IsGate file true → format_in (drop 1 file) ≡ format → is_damaged (drop 1 file) ≡ false
    → IsJobBody job format (drop 1 file) file → StandsFor job file
job_stands job format [] gate marked intact b = absurd (omega (arith, gate.0))
job_stands job format (first ∷ body) gate marked intact b = record {
  text = b.text;
  is = b.is;
  whole = ap (λ (n : ℕ). n ∷ body) gate.1 ∙ ap (λ (l : List ℕ). 165 ∷ l) (body_whole format body b.text marked intact b.format_is b.whole);
  image = b.image;
  snapshot = b.snapshot;
}

-- ---- the counts

pub cells_differ : (places : Places) (h : Head) (size : ℕ) → h.cells ≢ size → counts_checked places h size ≡ Err places.cells
cells_differ places h size differ = bind_err (holds_or places.cells (eqb h.cells size)) (λ sized. holds_or places.runs (ltb 0 h.runs)) places.cells
    (fails places.cells (eqb h.cells size) (ne_eqb _ _ differ))

pub no_runs : (places : Places) (h : Head) (size : ℕ) → h.cells ≡ size → h.runs ≡ 0 → counts_checked places h size ≡ Err places.runs
no_runs places h size same none =
    bind_is (holds_or places.cells (eqb h.cells size)) (λ sized. holds_or places.runs (ltb 0 h.runs)) tt
    (holds places.cells (eqb h.cells size) (eq-eqb _ _ same))
    ∙ fails places.runs (ltb 0 h.runs) (le-ltb _ _ (omega (arith, none)))

-- ---- the gate

pub gate_open : (file gate : List ℕ) → 1 < length file → gate ≡ take 1 file → get_or gate 0 0 ≡ 165 → IsGate file true
gate_open [] gate long is open_ = absurd (omega arith)
gate_open (g ∷ rest) gate long is open_ = (long, sym (ap (λ (l : List ℕ). get_or l 0 0) is) ∙ open_)

pub gate_shut : (file gate : List ℕ) → 1 < length file → gate ≡ take 1 file → get_or gate 0 0 ≢ 165 → IsGate file false
gate_shut [] gate long is shut = absurd (omega arith)
gate_shut (g ∷ []) gate long is shut = tt
gate_shut (g ∷ next ∷ rest) gate long is shut = λ open_. shut (ap (λ (l : List ℕ). get_or l 0 0) is ∙ open_)
