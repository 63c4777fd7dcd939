-- What is read is the body of the job that is found, and the body of a job is read as that job.
use Rattle.std.proofs.Common.{◌≡◌, ◌≢◌, ◌⊎◌, ⊎_elim, inl, inr, ℕ, ◌+◌, ◌*◌, ◌^◌, ◌<◌, ◌≤◌, Bool, true, false, not, ◌||◌, nat_eq, ltb, leb, eqb, List, [], ◌∷◌}
use Rattle.std.proofs.Common.{◌++◌, length, map, drop, slice_get, Option, Some, None, Ok, refl, sym, ap, subst, ◌∙◌, append_assoc, arith}
use Rattle.std.specs.List.{concat, flat_map}
use Rattle.std.proofs.lemmas.Bool.{ltb-true, le-leb, lt-ltb, eqb-true, eq-eqb, ne_eqb, cases_eq, and_parts, and_from}
use Rattle.std.proofs.lemmas.List.{append-nil, length-append}
use Rattle.sha2.specs.Sha256.{sha256}
use Rattle.sha2.proofs.Facts256.{length-sha256}
use Rattle.faults.specs.Results.{◌>>=◌}
use Rattle.byte_map.specs.Image.{Run, addresses, end_of, AreMaximal}
use Rattle.board_file.specs.Limits.{size_of}
use Rattle.board_file.specs.Shown as board
use Rattle.board_file.specs.Text.{reading, IsBoard}
use Rattle.flm_descriptor.specs.Shown as flm
use Rattle.flm_descriptor.specs.Flm.{flm_of, IsFlm}
use Rattle.job_text.specs.declared.format.Format.{Format}
use Rattle.job_text.specs.declared.format.Format.TheVariants.{First, Second}
use Rattle.job_text.specs.declared.head.Head.{Head}
use Rattle.job_text.specs.declared.head.Places.{Places}
use Rattle.job_text.specs.Fits.{fits, all_fit, Suits}
use Rattle.job_text.specs.Body.{Job, first_mark, second_mark, field, flm_len, run_text, tail_of, hashed_of, body_in, body_of, MayHave}
use Rattle.job_text.specs.Jobs.{AreFlms, IsJob}
use Rattle.job_text.specs.Reading.{text_at, read_or, holds_or, head_at, runs_at, File, fits_in, file_at, second_at, Texts, are_files, files_of, files_in}
use Rattle.job_text.specs.Reading.{texts_at, Found, places_of, rest_at, format_in, job_as, job_at}
use Rattle.job_text.specs.Heads.{SecondFits}
use Rattle.job_text.proofs.Steps.{bind_ok, bind_to, ok_is, held, holds, was_read, is_read}
use Rattle.job_text.proofs.TakeLemmas.{IsBytes, behind_fits, text_parts, text_again}
use Rattle.job_text.proofs.RegionLemmas.{same_count, same_files, one_fits, two_fit, first_fits, second_fits, small_regions, few_cells, at_most_two}
use Rattle.job_text.proofs.HeadLemmas.{HeadFits, four, six, first_takes, second_takes, first_again, second_again}
use Rattle.job_text.proofs.RunTextLemmas.{runs_take, runs_again}

-- ---- the texts

record FileIs (b : board.Shown) (region len : ℕ) (bytes : List ℕ) (x : File × List ℕ) : Type 0 where
  parts : bytes ≡ x.0.text ++ x.1
  is_flm : IsFlm x.0.text x.0.algorithm
  fit : fits_in b (slice_get b.regions region) x.0.algorithm ≡ true
  len_is : length x.0.text ≡ len

file_takes : (d at : ℕ) (b : board.Shown) (region len : ℕ) (bytes : List ℕ) (x : File × List ℕ) → file_at d at b region len bytes ≡ Ok x →
    FileIs b region len bytes x
unfolding file_at
file_takes d at b region len bytes x e =
    let t = bind_ok (text_at d len bytes) _ x e in
    let a = bind_ok (read_or at (flm_of t.0.0)) _ x t.2 in
    let f = bind_ok (holds_or at (fits_in b (slice_get b.regions region) a.0)) _ x a.2 in
    let t0 = text_parts d len bytes t.0.0 t.0.1 t.1 in
    let made : File × List ℕ = (record { text = t.0.0; algorithm = a.0 }, t.0.1) in
    subst (λ (y : File × List ℕ). FileIs b region len bytes y) (ok_is {E = ℕ} made x f.2) (record {
      parts = t0.0;
      is_flm = was_read at (flm_of t.0.0) a.0 a.1;
      fit = held at (fits_in b (slice_get b.regions region) a.0) f.0 f.1;
      len_is = t0.1;
    })

file_again : (d at : ℕ) (b : board.Shown) (region : ℕ) (text : List ℕ) (a : flm.Shown) (rest : List ℕ) → IsFlm text a →
    fits_in b (slice_get b.regions region) a ≡ true
    → file_at d at b region (length text) (text ++ rest) ≡ Ok (record { text = text; algorithm = a }, rest)
unfolding file_at
file_again d at b region text a rest is fit =
    bind_to _ (λ t. read_or at (flm_of t.0) >>= λ x. holds_or at (fits_in b (slice_get b.regions region) x) >>= λ u. Ok
    (record { text = t.0; algorithm = x }, t.1)) (text, rest) _ (text_again d text rest)
    (bind_to _ (λ x. holds_or at (fits_in b (slice_get b.regions region) x) >>= λ u. Ok (record { text = text; algorithm = x }, rest)) a _
    (is_read at (flm_of text) a is)
    (bind_to _ (λ u. Ok (record { text = text; algorithm = a }, rest)) tt _ (holds at (fits_in b (slice_get b.regions region) a) fit)
    refl))

abbrev SecondIs : board.Shown → Head → List ℕ → Option File → List ℕ → Type 0
SecondIs b h bytes None rest = (bytes ≡ rest) × (h.files ≡ 1)
SecondIs b h bytes (Some f) rest = FileIs b 1 h.second bytes (f, rest) × (h.files ≢ 1)

second_takes_file : (d at : ℕ) (b : board.Shown) (h : Head) (bytes : List ℕ) (x : Option File × List ℕ) → second_at d at b h bytes ≡ Ok x →
    SecondIs b h bytes x.0 x.1
unfolding second_at
second_takes_file d at b h bytes x e = ⊎_elim
    (λ (one : h.files ≡ 1).
    let none : (None, bytes) ≡ x = ok_is {E = ℕ} (None, bytes) x (rw (eq-eqb h.files 1 one) at e) in
    subst (λ (y : Option File × List ℕ). SecondIs b h bytes y.0 y.1) none (refl, one))
    (λ (more : h.files ≢ 1).
    let f = bind_ok (file_at d at b 1 h.second bytes) _ x (rw (ne_eqb h.files 1 more) at e) in
    subst (λ (y : Option File × List ℕ). SecondIs b h bytes y.0 y.1) (ok_is {E = ℕ} (Some f.0.0, f.0.1) x f.2)
    (file_takes d at b 1 h.second bytes f.0 f.1, more))
    (cases_eq h.files 1)

abbrev pub texts_in : List File → List (List ℕ)
texts_in files = map (λ (f : File). f.text) files

abbrev pub said_in : List File → List flm.Shown
said_in files = map (λ (f : File). f.algorithm) files

pub record TextsAre (h : Head) (bytes : List ℕ) (t : Texts) (rest : List ℕ) : Type 0 where
  pub parts : bytes ≡ t.board_text ++ (concat (texts_in (files_in t)) ++ rest)
  pub is_board : IsBoard t.board_text t.board
  pub are_flms : AreFlms (texts_in (files_in t)) (said_in (files_in t))
  pub fit : all_fit t.board t.board.regions (said_in (files_in t)) ≡ true
  pub few : (h.files ≡ 1) ⊎ (h.files ≡ 2)
  pub board_len : length t.board_text ≡ h.board
  pub files_len : length (texts_in (files_in t)) ≡ h.files
  pub first_len : flm_len (texts_in (files_in t)) 0 ≡ h.first
  pub second_len : flm_len (texts_in (files_in t)) 1 ≡ h.second

or_cases : (a b : Bool) → (a || b) ≡ true → (a ≡ true) ⊎ (b ≡ true)
or_cases true b is = inl refl
or_cases false b is = inr is

are_few : (files regions : ℕ) → are_files files regions ≡ true → ((files ≡ 1) ⊎ (files ≡ 2)) × (files ≡ regions)
are_few files regions is =
    let p = and_parts (nat_eq files 1 || nat_eq files 2) (nat_eq files regions) is in (
      ⊎_elim (λ (one : nat_eq files 1 ≡ true). inl (eqb-true _ _ one)) (λ (two : nat_eq files 2 ≡ true). inr (eqb-true _ _ two))
          (or_cases (nat_eq files 1) (nat_eq files 2) p.0),
      eqb-true _ _ p.1,
    )

no_second : (files second : ℕ) → files ≡ 1 → (not (nat_eq files 1) || nat_eq second 0) ≡ true → second ≡ 0
no_second files second one is = ⊎_elim
    (λ (other : not (nat_eq files 1) ≡ true). let none : false ≡ true = rw (eq-eqb files 1 one) at other in absurd cc)
    (λ (zero_ : nat_eq second 0 ≡ true). eqb-true _ _ zero_)
    (or_cases (not (nat_eq files 1)) (nat_eq second 0) is)

-- the texts are read again, with one FLM file or with two
texts_are : (h : Head) (bytes after between : List ℕ) (text : List ℕ) (b : board.Shown) (first : File) (o : Option File) (rest : List ℕ)
    → bytes ≡ text ++ after → IsBoard text b → length text ≡ h.board → are_files h.files (length b.regions) ≡ true →
    (not (nat_eq h.files 1) || nat_eq h.second 0) ≡ true
    → FileIs b 0 h.first after (first, between) → SecondIs b h between o rest →
    TextsAre h bytes (record { board_text = text; board = b; first = first; second = o }) rest
texts_are h bytes after between text b first None rest parts is_board board_len files none one two =
    let count = are_few h.files (length b.regions) files in
    let regrouped : text ++ after ≡ text ++ ((first.text ++ []) ++ rest) =
    ap (λ (l : List ℕ). text ++ l) (one.parts ∙ ap (λ (l : List ℕ). first.text ++ l) two.0 ∙ ap (λ (l : List ℕ). l ++ rest) (sym (append-nil first.text))) in
    record {
      parts = parts ∙ regrouped;
      is_board = is_board;
      are_flms = (one.is_flm, tt);
      fit = one_fits b b.regions first.algorithm (sym count.1 ∙ two.1) one.fit;
      few = count.0;
      board_len = board_len;
      files_len = sym two.1;
      first_len = one.len_is;
      second_len = sym (no_second h.files h.second two.1 none);
    }
texts_are h bytes after between text b first (Some second) rest parts is_board board_len files none one two =
    let count = are_few h.files (length b.regions) files in
    let both : h.files ≡ 2 = ⊎_elim (λ (one_ : h.files ≡ 1). absurd (two.1 one_)) (λ (two_ : h.files ≡ 2). two_) count.0 in
    let g = two.0 in
    let regrouped : text ++ after ≡ text ++ ((first.text ++ (second.text ++ [])) ++ rest) =
    ap (λ (l : List ℕ). text ++ l) (one.parts ∙ ap (λ (l : List ℕ). first.text ++ l) (g.parts ∙ ap (λ (l : List ℕ). l ++ rest) (sym (append-nil second.text)))
    ∙ sym (append_assoc first.text (second.text ++ []) rest)) in
    record {
      parts = parts ∙ regrouped;
      is_board = is_board;
      are_flms = (one.is_flm, (g.is_flm, tt));
      fit = two_fit b b.regions first.algorithm second.algorithm (sym count.1 ∙ both) one.fit g.fit;
      few = count.0;
      board_len = board_len;
      files_len = sym both;
      first_len = one.len_is;
      second_len = g.len_is;
    }

pub texts_take : (d : ℕ) (places : Places) (h : Head) (bytes : List ℕ) (x : Texts × List ℕ) → texts_at d places h bytes ≡ Ok x → TextsAre h bytes x.0 x.1
unfolding texts_at
texts_take d places h bytes x e =
    let b = bind_ok (text_at d h.board bytes) _ x e in
    let s = bind_ok (read_or places.front (reading b.0.0)) _ x b.2 in
    let c = bind_ok (holds_or places.files (are_files h.files (length s.0.regions))) _ x s.2 in
    let z = bind_ok (holds_or places.second (not (nat_eq h.files 1) || nat_eq h.second 0)) _ x c.2 in
    let f = bind_ok (file_at d (places.front + h.board) s.0 0 h.first b.0.1) _ x z.2 in
    let g = bind_ok (second_at d (places.front + h.board + h.first) s.0 h f.0.1) _ x f.2 in
    let t0 = text_parts d h.board bytes b.0.0 b.0.1 b.1 in
    let t1 = file_takes d (places.front + h.board) s.0 0 h.first b.0.1 f.0 f.1 in
    let t2 = second_takes_file d (places.front + h.board + h.first) s.0 h f.0.1 g.0 g.1 in
    let made : Texts × List ℕ = (record { board_text = b.0.0; board = s.0; first = f.0.0; second = g.0.0 }, g.0.1) in
    subst (λ (y : Texts × List ℕ). TextsAre h bytes y.0 y.1) (ok_is {E = ℕ} made x g.2)
    (texts_are h bytes b.0.1 f.0.1 b.0.0 s.0 f.0.0 g.0.0 g.0.1 t0.0 (was_read places.front (reading b.0.0) s.0 s.1) t0.1
    (held places.files (are_files h.files (length s.0.regions)) c.0 c.1) (held places.second (not (nat_eq h.files 1) || nat_eq h.second 0) z.0 z.1) t1 t2)

-- ---- after the head

record RestIs (format : Format) (h : Head) (bytes : List ℕ) (x : Found) : Type 0 where
  parts : bytes ≡ tail_of x.job
  is_board : IsBoard x.job.board x.board
  are_flms : AreFlms x.job.flms x.algorithms
  suits : Suits x.board x.algorithms x.job.image
  cells : length x.job.snapshot ≡ size_of x.board.regions
  few : (length x.job.flms ≡ 1) ⊎ (length x.job.flms ≡ 2)
  format_is : x.job.format ≡ format
  board_len : length x.job.board ≡ h.board
  files_len : length x.job.flms ≡ h.files
  first_len : flm_len x.job.flms 0 ≡ h.first
  second_len : flm_len x.job.flms 1 ≡ h.second
  runs_len : length x.job.image ≡ h.runs
  cells_len : length x.job.snapshot ≡ h.cells

rest_takes : (d : ℕ) (format : Format) (h : Head) (bytes : List ℕ) (x : Found) → IsBytes bytes → rest_at d format h bytes ≡ Ok x → RestIs format h bytes x
unfolding rest_at
rest_takes d format h bytes x fits_bytes e =
    let places = places_of format in
    let t = bind_ok (texts_at d places h bytes) _ x e in
    let b = t.0.0.board in
    let files = files_in t.0.0 in
    let s = bind_ok (holds_or places.cells (eqb h.cells (size_of b.regions))) _ x t.2 in
    let o = bind_ok (holds_or places.runs (ltb 0 h.runs)) _ x s.2 in
    let r = bind_ok (runs_at d b.regions h.runs 0 t.0.1) _ x o.2 in
    let n = bind_ok (holds_or d (eqb (length r.0.1) h.cells)) _ x r.2 in
    let t0 = texts_take d places h bytes t.0 t.1 in
    let rest_fits : IsBytes t.0.1 = behind_fits (concat (texts_in files)) t.0.1 (concat (texts_in files) ++ t.0.1) refl
    (behind_fits t.0.0.board_text (concat (texts_in files) ++ t.0.1) bytes t0.parts fits_bytes) in
    let t1 = runs_take d b.regions h.runs 0 t.0.1 r.0 rest_fits r.1 in
    let sized : h.cells ≡ size_of b.regions = eqb-true _ _ (held places.cells (eqb h.cells (size_of b.regions)) s.0 s.1) in
    let many : 0 < h.runs = ltb-true _ _ (held places.runs (ltb 0 h.runs) o.0 o.1) in
    let ends : length r.0.1 ≡ h.cells = eqb-true _ _ (held d (eqb (length r.0.1) h.cells) n.0 n.1) in
    let whole = t0.parts ∙ ap (λ (l : List ℕ). t.0.0.board_text ++ (concat (texts_in files) ++ l)) t1.0.parts in
    let made : Found = record {
      job = record { format = format; board = t.0.0.board_text; flms = texts_in files; image = r.0.0; snapshot = r.0.1 };
      board = b;
      algorithms = said_in files;
    } in
    subst (λ (y : Found). RestIs format h bytes y) (ok_is {E = ℕ} made x n.2) (record {
      parts = whole;
      is_board = t0.is_board;
      are_flms = t0.are_flms;
      suits = record { fit = t0.fit; some = omega (arith, many, t1.1); inside = (t1.2, t1.3) };
      cells = ends ∙ sized;
      few = subst (λ (k : ℕ). (k ≡ 1) ⊎ (k ≡ 2)) (sym t0.files_len) t0.few;
      format_is = refl;
      board_len = t0.board_len;
      files_len = t0.files_len;
      first_len = t0.first_len;
      second_len = t0.second_len;
      runs_len = t1.1;
      cells_len = ends;
    })

abbrev pub head_for : Job → Head
head_for j = record {
  board = length j.board;
  files = length j.flms;
  first = flm_len j.flms 0;
  second = flm_len j.flms 1;
  runs = length j.image;
  cells =
      length j.snapshot;
}

-- ---- what was written is read again

files_again : (files regions : ℕ) → (files ≡ 1) ⊎ (files ≡ 2) → files ≡ regions → are_files files regions ≡ true
files_again files regions (inl one) same = and_from _ _ (left (eq-eqb files 1 one)) (eq-eqb files regions same)
  where
    left : nat_eq files 1 ≡ true → (nat_eq files 1 || nat_eq files 2) ≡ true
    left is = rw is refl
files_again files regions (inr two) same = and_from _ _ (right (eq-eqb files 2 two)) (eq-eqb files regions same)
  where
    either : (a b : Bool) → b ≡ true → (a || b) ≡ true
    either true b is = refl
    either false b is = is

    right : nat_eq files 2 ≡ true → (nat_eq files 1 || nat_eq files 2) ≡ true
    right is = either (nat_eq files 1) (nat_eq files 2) is

abbrev second_for : List (List ℕ) → List flm.Shown → Option File
second_for (f ∷ g ∷ files) (a ∷ c ∷ rest) = Some (record { text = g; algorithm = c })
second_for _ _ = None

abbrev texts_for : List ℕ → board.Shown → File → Option File → Texts
texts_for text b first second = record { board_text = text; board = b; first = first; second = second }

one_again : (d : ℕ) (places : Places) (h : Head) (text f : List ℕ) (b : board.Shown) (a : flm.Shown) (rest : List ℕ)
    → h.board ≡ length text → h.files ≡ 1 → h.first ≡ length f → h.second ≡ 0 → IsBoard text b → IsFlm f a → all_fit b b.regions (a ∷ []) ≡ true
    → texts_at d places h (text ++ ((f ++ []) ++ rest)) ≡ Ok (texts_for text b (record { text = f; algorithm = a }) None, rest)
unfolding texts_at second_at
one_again d places h text f b a rest board_is one first_is none is_board is_flm fit =
    let regions : h.files ≡ length b.regions = one ∙ sym (same_count b b.regions (a ∷ []) fit) in
    let start : text_at d h.board (text ++ ((f ++ []) ++ rest)) ≡ Ok (text, (f ++ []) ++ rest) =
    subst (λ (n : ℕ). text_at d n (text ++ ((f ++ []) ++ rest)) ≡ Ok (text, (f ++ []) ++ rest)) (sym board_is) (text_again d text ((f ++ []) ++ rest)) in
    let file : file_at d (places.front + h.board) b 0 h.first ((f ++ []) ++ rest) ≡ Ok (record { text = f; algorithm = a }, rest) =
    subst (λ (n : ℕ). file_at d (places.front + h.board) b 0 n ((f ++ []) ++ rest) ≡ Ok (record { text = f; algorithm = a }, rest)) (sym first_is)
    (ap (λ (l : List ℕ). file_at d (places.front + h.board) b 0 (length f) (l ++ rest)) (append-nil f)
    ∙ file_again d (places.front + h.board) b 0 f a rest is_flm (first_fits b b.regions a [] fit)) in
    bind_to _ (λ t. read_or places.front (reading t.0) >>= λ said. holds_or places.files (are_files h.files (length said.regions)) >>= λ c. holds_or
    places.second (not (nat_eq h.files 1) || nat_eq h.second 0) >>= λ z. file_at d (places.front + h.board) said 0 h.first t.1 >>= λ f. second_at d
    (places.front + h.board + h.first) said h f.1 >>= λ g. Ok (record { board_text = t.0; board = said; first = f.0; second = g.0 }, g.1))
    (text, (f ++ []) ++ rest) _ start
    (bind_to _ (λ said. holds_or places.files (are_files h.files (length said.regions)) >>= λ c. holds_or places.second
    (not (nat_eq h.files 1) || nat_eq h.second 0) >>= λ z. file_at d (places.front + h.board) said 0 h.first ((f ++ []) ++ rest) >>= λ f. second_at d
    (places.front + h.board + h.first) said h f.1 >>= λ g. Ok (record { board_text = text; board = said; first = f.0; second = g.0 }, g.1)) b _
    (is_read places.front (reading text) b is_board)
    (bind_to _ (λ c. holds_or places.second (not (nat_eq h.files 1) || nat_eq h.second 0) >>= λ z. file_at d (places.front + h.board) b 0 h.first
    ((f ++ []) ++ rest) >>= λ f. second_at d (places.front + h.board + h.first) b h f.1 >>= λ g. Ok
    (record { board_text = text; board = b; first = f.0; second = g.0 }, g.1)) tt _
    (holds places.files (are_files h.files (length b.regions)) (files_again h.files (length b.regions) (inl one) regions))
    (bind_to _ (λ z. file_at d (places.front + h.board) b 0 h.first ((f ++ []) ++ rest) >>= λ f. second_at d (places.front + h.board + h.first) b h f.1 >>= λ g.
    Ok (record { board_text = text; board = b; first = f.0; second = g.0 }, g.1)) tt _
    (holds places.second (not (nat_eq h.files 1) || nat_eq h.second 0) (second_zero h none))
    (bind_to _ (λ f. second_at d (places.front + h.board + h.first) b h f.1 >>= λ g. Ok
    (record { board_text = text; board = b; first = f.0; second = g.0 }, g.1)) (record { text = f; algorithm = a }, rest) _ file
    (bind_to _ (λ g. Ok (record { board_text = text; board = b; first = (record { text = f; algorithm = a }); second = g.0 }, g.1)) (None, rest) _
    (rw (eq-eqb h.files 1 one) refl)
    refl)))))
  where
    or_true : (a b : Bool) → b ≡ true → (a || b) ≡ true
    or_true true b is = refl
    or_true false b is = is

    second_zero : (h : Head) → h.second ≡ 0 → (not (nat_eq h.files 1) || nat_eq h.second 0) ≡ true
    second_zero h none = or_true (not (nat_eq h.files 1)) (nat_eq h.second 0) (eq-eqb h.second 0 none)

two_again : (d : ℕ) (places : Places) (h : Head) (text f g : List ℕ) (b : board.Shown) (a c : flm.Shown) (rest : List ℕ)
    → h.board ≡ length text → h.files ≡ 2 → h.first ≡ length f → h.second ≡ length g → IsBoard text b → IsFlm f a → IsFlm g c →
    all_fit b b.regions (a ∷ c ∷ []) ≡ true
    → texts_at d places h (text ++ ((f ++ (g ++ [])) ++ rest)) ≡ Ok
    (texts_for text b (record { text = f; algorithm = a }) (Some (record { text = g; algorithm = c })), rest)
unfolding texts_at second_at
two_again d places h text f g b a c rest board_is two first_is second_is is_board is_flm is_other fit =
    let regions : h.files ≡ length b.regions = two ∙ sym (same_count b b.regions (a ∷ c ∷ []) fit) in
    let tail = (f ++ (g ++ [])) ++ rest in
    let tail_is : tail ≡ f ++ (g ++ rest) = append_assoc f (g ++ []) rest ∙ ap (λ (l : List ℕ). f ++ (l ++ rest)) (append-nil g) in
    let more : h.files ≢ 1 = λ one. absurd (omega (arith, one, two)) in
    let start : text_at d h.board (text ++ tail) ≡ Ok (text, tail) =
    subst (λ (n : ℕ). text_at d n (text ++ tail) ≡ Ok (text, tail)) (sym board_is) (text_again d text tail) in
    let file : file_at d (places.front + h.board) b 0 h.first tail ≡ Ok (record { text = f; algorithm = a }, g ++ rest) =
    subst (λ (n : ℕ). file_at d (places.front + h.board) b 0 n tail ≡ Ok (record { text = f; algorithm = a }, g ++ rest)) (sym first_is)
    (ap (file_at d (places.front + h.board) b 0 (length f)) tail_is
    ∙ file_again d (places.front + h.board) b 0 f a (g ++ rest) is_flm (first_fits b b.regions a (c ∷ []) fit)) in
    let other : file_at d (places.front + h.board + h.first) b 1 h.second (g ++ rest) ≡ Ok (record { text = g; algorithm = c }, rest) =
    subst (λ (n : ℕ). file_at d (places.front + h.board + h.first) b 1 n (g ++ rest) ≡ Ok (record { text = g; algorithm = c }, rest)) (sym second_is)
    (file_again d (places.front + h.board + h.first) b 1 g c rest is_other (second_fits b b.regions a c [] fit)) in
    bind_to _ (λ t. read_or places.front (reading t.0) >>= λ said. holds_or places.files (are_files h.files (length said.regions)) >>= λ c. holds_or
    places.second (not (nat_eq h.files 1) || nat_eq h.second 0) >>= λ z. file_at d (places.front + h.board) said 0 h.first t.1 >>= λ f. second_at d
    (places.front + h.board + h.first) said h f.1 >>= λ g. Ok (record { board_text = t.0; board = said; first = f.0; second = g.0 }, g.1))
    (text, tail) _ start
    (bind_to _ (λ said. holds_or places.files (are_files h.files (length said.regions)) >>= λ c. holds_or places.second
    (not (nat_eq h.files 1) || nat_eq h.second 0) >>= λ z. file_at d (places.front + h.board) said 0 h.first (tail) >>= λ f. second_at d
    (places.front + h.board + h.first) said h f.1 >>= λ g. Ok (record { board_text = text; board = said; first = f.0; second = g.0 }, g.1)) b _
    (is_read places.front (reading text) b is_board)
    (bind_to _ (λ c. holds_or places.second (not (nat_eq h.files 1) || nat_eq h.second 0) >>= λ z. file_at d (places.front + h.board) b 0 h.first
    (tail) >>= λ f. second_at d (places.front + h.board + h.first) b h f.1 >>= λ g. Ok
    (record { board_text = text; board = b; first = f.0; second = g.0 }, g.1)) tt _
    (holds places.files (are_files h.files (length b.regions)) (files_again h.files (length b.regions) (inr two) regions))
    (bind_to _ (λ z. file_at d (places.front + h.board) b 0 h.first (tail) >>= λ f. second_at d (places.front + h.board + h.first) b h f.1 >>= λ g. Ok
    (record { board_text = text; board = b; first = f.0; second = g.0 }, g.1)) tt _
    (holds places.second (not (nat_eq h.files 1) || nat_eq h.second 0) (rw (ne_eqb h.files 1 more) refl))
    (bind_to _ (λ f. second_at d (places.front + h.board + h.first) b h f.1 >>= λ g. Ok
    (record { board_text = text; board = b; first = f.0; second = g.0 }, g.1)) (record { text = f; algorithm = a }, g ++ rest) _ file
    (bind_to _ (λ g. Ok (record { board_text = text; board = b; first = (record { text = f; algorithm = a }); second = g.0 }, g.1))
    (Some (record { text = g; algorithm = c }), rest) _ (rw (ne_eqb h.files 1 more)
    (bind_to _ (λ x. Ok (Some x.0, x.1)) (record { text = g; algorithm = c }, rest) _ other refl))
    refl)))))

record TextsFor (d : ℕ) (places : Places) (h : Head) (text : List ℕ) (flms : List (List ℕ)) (b : board.Shown) (algorithms : List flm.Shown)
    (rest : List ℕ) : Type 0 where
  first : File
  second : Option File
  read_as : texts_at d places h (text ++ (concat flms ++ rest)) ≡ Ok (texts_for text b first second, rest)
  flms_are : texts_in (files_of first second) ≡ flms
  said_are : said_in (files_of first second) ≡ algorithms

texts_all : (d : ℕ) (places : Places) (h : Head) (text : List ℕ) (flms : List (List ℕ)) (b : board.Shown) (algorithms : List flm.Shown) (rest : List ℕ)
    → (length flms ≡ 1) ⊎ (length flms ≡ 2) → AreFlms flms algorithms → all_fit b b.regions algorithms ≡ true → IsBoard text b
    → h.board ≡ length text → h.files ≡ length flms → h.first ≡ flm_len flms 0 → h.second ≡ flm_len flms 1 → TextsFor d places h text flms b algorithms rest
texts_all d places h text [] b algorithms rest (inl one) are fit is_board board_is files_is first_is second_is = absurd (omega (arith, one))
texts_all d places h text [] b algorithms rest (inr two) are fit is_board board_is files_is first_is second_is = absurd (omega (arith, two))
texts_all d places h text (f ∷ flms) b [] rest few are fit is_board board_is files_is first_is second_is = absurd are
texts_all d places h text (f ∷ []) b (a ∷ []) rest few are fit is_board board_is files_is first_is second_is = record {
  first = record { text = f; algorithm = a };
  second = None;
  read_as = one_again d places h text f b a rest board_is files_is first_is second_is is_board are.0 fit;
  flms_are = refl;
  said_are = refl;
}
texts_all d places h text (f ∷ []) b (a ∷ c ∷ more) rest few are fit is_board board_is files_is first_is second_is = absurd are.1
texts_all d places h text (f ∷ g ∷ flms) b (a ∷ []) rest few are fit is_board board_is files_is first_is second_is = absurd are.1
texts_all d places h text (f ∷ g ∷ []) b (a ∷ c ∷ []) rest few are fit is_board board_is files_is first_is second_is = record {
  first = record { text = f; algorithm = a };
  second = Some (record { text = g; algorithm = c });
  read_as = two_again d places h text f g b a c rest board_is files_is first_is second_is is_board are.0 are.1.0 fit;
  flms_are = refl;
  said_are = refl;
}
texts_all d places h text (f ∷ g ∷ []) b (a ∷ c ∷ e ∷ more) rest few are fit is_board board_is files_is first_is second_is = absurd are.1.1
texts_all d places h text (f ∷ g ∷ k ∷ flms) b (a ∷ c ∷ more) rest (inl one) are fit is_board board_is files_is first_is second_is = absurd (omega (arith, one))
texts_all d places h text (f ∷ g ∷ k ∷ flms) b (a ∷ c ∷ more) rest (inr two) are fit is_board board_is files_is first_is second_is = absurd (omega (arith, two))

few_files : (format : Format) (n : ℕ) → MayHave format n → (n ≡ 1) ⊎ (n ≡ 2)
few_files First n one = inl one
few_files Second n few = few

abbrev pub found_for : Job → board.Shown → List flm.Shown → Found
found_for j b algorithms = record { job = j; board = b; algorithms = algorithms }

-- the regions of a job are at most two
pub few_regions : (j : Job) (b : board.Shown) (algorithms : List flm.Shown) → IsJob j b algorithms → length b.regions ≤ 2
few_regions j b algorithms is =
    let one = same_count b b.regions algorithms is.suits.fit in
    let two = same_files j.flms algorithms is.algorithms in
    let three = at_most_two (length j.flms) (few_files j.format (length j.flms) is.files) in
    omega (arith, one, two, three)

rest_again : (d : ℕ) (format : Format) (j : Job) (b : board.Shown) (algorithms : List flm.Shown) → j.format ≡ format → IsJob j b algorithms
    → rest_at d format (head_for j) (tail_of j) ≡ Ok (found_for j b algorithms)
unfolding rest_at
rest_again d format j b algorithms format_is is =
    let places = places_of format in
    let rest = flat_map run_text j.image ++ j.snapshot in
    let few = few_files j.format (length j.flms) is.files in
    let t = texts_all d places (head_for j) j.board j.flms b algorithms rest few is.algorithms is.suits.fit is.board refl refl refl refl in
    let small = small_regions b b.regions algorithms j.flms is.suits.fit is.algorithms in
    bind_to _ (λ (x : Texts × List ℕ). holds_or (places_of format).cells (eqb (length j.snapshot) (size_of x.0.board.regions)) >>= λ sized. holds_or
    (places_of format).runs (ltb 0 (length j.image)) >>= λ some. runs_at d x.0.board.regions (length j.image) 0 x.1 >>= λ r. holds_or d
    (eqb (length r.1) (length j.snapshot)) >>= λ ends. Ok
    (record {
      job = record { format = format; board = x.0.board_text; flms = map (λ (f : File). f.text) (files_in x.0); image = r.0; snapshot = r.1 };
      board = x.0.board;
      algorithms = map (λ (f : File). f.algorithm) (files_in x.0);
    })) (texts_for j.board b t.first t.second, rest) _ t.read_as
    (bind_to _ (λ sized. holds_or (places_of format).runs (ltb 0 (length j.image)) >>= λ some. runs_at d (texts_for j.board b t.first t.second).board.regions
    (length j.image) 0 rest >>= λ r. holds_or d (eqb (length r.1) (length j.snapshot)) >>= λ ends. Ok
    (record {
      job = record {
        format = format;
        board = (texts_for j.board b t.first t.second).board_text;
        flms =
            map (λ (f : File). f.text) (files_in (texts_for j.board b t.first t.second));
        image = r.0;
        snapshot = r.1;
      };
      board =
          (texts_for j.board b t.first t.second).board;
      algorithms = map (λ (f : File). f.algorithm) (files_in (texts_for j.board b t.first t.second));
    })) tt _
    (holds places.cells (eqb (length j.snapshot) (size_of b.regions)) (eq-eqb _ _ is.cells))
    (bind_to _ (λ some. runs_at d (texts_for j.board b t.first t.second).board.regions (length j.image) 0 rest >>= λ r. holds_or d
    (eqb (length r.1) (length j.snapshot)) >>= λ ends. Ok
    (record {
      job = record {
        format = format;
        board = (texts_for j.board b t.first t.second).board_text;
        flms =
            map (λ (f : File). f.text) (files_in (texts_for j.board b t.first t.second));
        image = r.0;
        snapshot = r.1;
      };
      board =
          (texts_for j.board b t.first t.second).board;
      algorithms = map (λ (f : File). f.algorithm) (files_in (texts_for j.board b t.first t.second));
    })) tt _
    (holds places.runs (ltb 0 (length j.image)) (lt-ltb _ _ is.suits.some))
    (bind_to _ (λ (r : List Run × List ℕ). holds_or d (eqb (length r.1) (length j.snapshot)) >>= λ ends. Ok
    (record {
      job = record {
        format = format;
        board = (texts_for j.board b t.first t.second).board_text;
        flms =
            map (λ (f : File). f.text) (files_in (texts_for j.board b t.first t.second));
        image = r.0;
        snapshot = r.1;
      };
      board =
          (texts_for j.board b t.first t.second).board;
      algorithms = map (λ (f : File). f.algorithm) (files_in (texts_for j.board b t.first t.second));
    }))
    (j.image, j.snapshot) _ (runs_again d b.regions 0 j.image j.snapshot (few_regions j b algorithms is) small is.suits.inside.0 is.suits.inside.1)
    (bind_to _ (λ ends. Ok (record {
      job = record {
        format = format;
        board = (texts_for j.board b t.first t.second).board_text;
        flms =
            map (λ (f : File). f.text) (files_in (texts_for j.board b t.first t.second));
        image = j.image;
        snapshot = j.snapshot;
      };
      board =
          (texts_for j.board b t.first t.second).board;
      algorithms = map (λ (f : File). f.algorithm) (files_in (texts_for j.board b t.first t.second));
    })) tt _
    (holds d (eqb (length j.snapshot) (length j.snapshot)) (eq-eqb _ _ refl))
    (λ i. Ok (record {
      job = record { format = sym format_is i; board = j.board; flms = t.flms_are i; image = j.image; snapshot = j.snapshot };
      board = b;
      algorithms = t.said_are i;
    }))))))

-- ---- the whole

-- the body is that of a job: all of it in the first format, and in the second one its bytes after the hash
abbrev pub BodyIs : Format → List ℕ → Job → Type 0
BodyIs First body j = body ≡ body_of j
BodyIs Second body j = (drop 39 body ≡ hashed_of j) × (39 < length body)

pub record IsJobIn (format : Format) (body : List ℕ) (x : Found) : Type 0 where
  pub parts : BodyIs format body x.job
  pub is : IsJob x.job x.board x.algorithms
  pub format_is : x.job.format ≡ format

head_is : (format : Format) (h : Head) (bytes : List ℕ) (x : Found) → RestIs format h bytes x → h ≡ head_for x.job
head_is format h bytes x r = λ i. record {
  board = sym r.board_len i;
  files = sym r.files_len i;
  first = sym r.first_len i;
  second = sym r.second_len i;
  runs = sym r.runs_len i;
  cells = sym r.cells_len i;
}

is_job : (format : Format) (h : Head) (bytes : List ℕ) (x : Found) → RestIs format h bytes x → HeadFits h → MayHave x.job.format (length x.job.flms) →
    IsJob x.job x.board x.algorithms
is_job format h bytes x r fits may = record {
  board = r.is_board;
  files = may;
  algorithms = r.are_flms;
  suits = r.suits;
  cells = r.cells;
  short_board = omega (arith, r.board_len, fits.board);
  short_first = omega (arith, r.first_len, fits.first);
  short_second = omega (arith, r.second_len, fits.second);
}

first_job : (d : ℕ) (body : List ℕ) (x : Found) → IsBytes body → job_as d First body ≡ Ok x → IsJobIn First body x
unfolding job_as
first_job d body x fits e =
    let l = bind_ok (holds_or d (leb 24 d)) _ x e in
    let h = bind_ok (head_at d First body) _ x l.2 in
    let t0 = first_takes d body h.0 fits h.1 in
    let r = rest_takes d First h.0.0 h.0.1 x t0.rest_fits h.2 in
    let one : length x.job.flms ≡ 1 = r.files_len ∙ t0.one in
    let may : MayHave x.job.format (length x.job.flms) = subst (λ (f : Format). MayHave f (length x.job.flms)) (sym r.format_is) one in
    let text : body ≡ first_mark ++ four (head_for x.job) (tail_of x.job) =
    t0.parts ∙ ap (λ (y : Head). first_mark ++ four y h.0.1) (head_is First h.0.0 h.0.1 x r) ∙
    ap (λ (l : List ℕ). first_mark ++ four (head_for x.job) l) r.parts in
    record { parts = text ∙ first_text x.job r.format_is; is = is_job First h.0.0 h.0.1 x r t0.fits may; format_is = r.format_is }
  where
    first_text : (j : Job) → j.format ≡ First → first_mark ++ four (head_for j) (tail_of j) ≡ body_of j
    first_text j is = ap (λ (f : Format). body_in f j) (sym is)

second_job : (d : ℕ) (body : List ℕ) (x : Found) → IsBytes body → job_as d Second body ≡ Ok x → IsJobIn Second body x
unfolding job_as
second_job d body x fits e =
    let l = bind_ok (holds_or d (leb 64 d)) _ x e in
    let h = bind_ok (head_at d Second body) _ x l.2 in
    let t0 = second_takes d body h.0 fits h.1 in
    let r = rest_takes d Second h.0.0 h.0.1 x t0.rest_fits h.2 in
    let may : MayHave x.job.format (length x.job.flms) = subst (λ (f : Format). MayHave f (length x.job.flms)) (sym r.format_is) r.few in
    let text : drop 39 body ≡ six (head_for x.job) (tail_of x.job) =
    t0.parts ∙ ap (λ (y : Head). six y h.0.1) (head_is Second h.0.0 h.0.1 x r) ∙ ap (λ (l : List ℕ). six (head_for x.job) l) r.parts in
    record { parts = (text, t0.long); is = is_job Second h.0.0 h.0.1 x r t0.fits may; format_is = r.format_is }

pub job_takes : (d : ℕ) (format : Format) (body : List ℕ) (x : Found) → IsBytes body → job_as d format body ≡ Ok x → IsJobIn format body x
job_takes d First body x fits e = first_job d body x fits e
job_takes d Second body x fits e = second_job d body x fits e

-- the runs and the cells of a job are few enough for their fields
pub record IsSmall (j : Job) : Type 0 where
  pub runs : length j.image < 2 ^ 32
  pub cells : length j.snapshot < 2 ^ 32

-- runs that don't touch are at most half as many as there are addresses
half_runs : (low end : ℕ) (rs : List Run) → low ≤ end + 1 → AreMaximal low end rs → 2 * length rs + low ≤ end + 1
half_runs low end [] le m = omega (arith, le)
half_runs low end (r ∷ rs) le m = omega (arith, m.0, m.1, m.2, half_runs (end_of r + 1) end rs (omega (arith, m.2)) m.3)

pub small_job : (j : Job) (b : board.Shown) (algorithms : List flm.Shown) → IsJob j b algorithms → IsSmall j
small_job j b algorithms is =
    let few = half_runs 0 addresses j.image (omega arith) is.suits.inside.0 in
    let cells = few_cells b.regions (few_regions j b algorithms is) (small_regions b b.regions algorithms j.flms is.suits.fit is.algorithms) in
    record { runs = omega (arith, few); cells = omega (arith, is.cells, cells) }

head_fits : (j : Job) (b : board.Shown) (algorithms : List flm.Shown) → IsJob j b algorithms → HeadFits (head_for j)
head_fits j b algorithms is =
    let small = small_job j b algorithms is in
    let two = at_most_two (length j.flms) (few_files j.format (length j.flms) is.files) in
    record { board = is.short_board; files = omega (arith, two); first = is.short_first; second = is.short_second; runs = small.runs; cells = small.cells }

pub one_file : (flms : List (List ℕ)) → length flms ≡ 1 → flm_len flms 1 ≡ 0
one_file [] one = refl
one_file (f ∷ []) one = refl
one_file (f ∷ g ∷ flms) one = absurd (omega (arith, one))

marked_len : (m : List ℕ) → length (second_mark ++ sha256 m) ≡ 39
marked_len m = omega (arith, length-append second_mark (sha256 m), length-sha256 m)

as_format : (d : ℕ) (format : Format) (j : Job) (b : board.Shown) (algorithms : List flm.Shown) → (places_of format).front ≤ d → j.format ≡ format →
    MayHave format (length j.flms)
    → IsJob j b algorithms → job_as d format (body_in format j) ≡ Ok (found_for j b algorithms)
unfolding job_as
as_format d First j b algorithms long format_is one is =
    bind_to _ (λ long. head_at d First (body_in First j) >>= λ x. rest_at d First x.0 x.1) tt _ (holds d (leb 24 d) (le-leb _ _ long))
    (bind_to _ (λ x. rest_at d First x.0 x.1) (head_for j, tail_of j) _
    (first_again d (head_for j) (tail_of j) (head_fits j b algorithms is) one (one_file j.flms one))
    (rest_again d First j b algorithms format_is is))
as_format d Second j b algorithms long format_is few is =
    bind_to _ (λ long. head_at d Second (body_in Second j) >>= λ x. rest_at d Second x.0 x.1) tt _ (holds d (leb 64 d) (le-leb _ _ long))
    (bind_to _ (λ x. rest_at d Second x.0 x.1) (head_for j, tail_of j) _
    (second_again d (head_for j) (second_mark ++ sha256 (hashed_of j)) (tail_of j) (marked_len (hashed_of j)) (head_fits j b algorithms is))
    (rest_again d Second j b algorithms format_is is))

pub format_of : (format : Format) (j : Job) → format_in (body_in format j) ≡ format
format_of First j = refl
format_of Second j = refl

pub job_again : (d : ℕ) (j : Job) (b : board.Shown) (algorithms : List flm.Shown) → (places_of j.format).front ≤ d → IsJob j b algorithms →
    job_at d (body_of j) ≡ Ok (found_for j b algorithms)
job_again d j b algorithms long is = ap (λ (f : Format). job_as d f (body_of j)) (format_of j.format j) ∙
    as_format d j.format j b algorithms long refl is.files is

-- a body is at least as long as its head
pub long_body : (j : Job) → (places_of j.format).front ≤ length (body_of j) + 1
long_body j = by_format j.format
  where
    by_format : (format : Format) → (places_of format).front ≤ length (body_in format j) + 1
    by_format First = omega arith
    by_format Second = omega (arith, length-sha256 (hashed_of j), length-append (sha256 (hashed_of j)) (hashed_of j))

-- a body belongs to one job only
pub same_job : (j k : Job) (b c : board.Shown) (a e : List flm.Shown) → IsJob j b a → IsJob k c e → body_of j ≡ body_of k → j ≡ k
same_job j k b c a e is_j is_k same =
    let one = job_again 64 j b a (front_small j.format) is_j in
    let two = job_again 64 k c e (front_small k.format) is_k in
    let both : job_at 64 (body_of j) ≡ job_at 64 (body_of k) = ap (job_at 64) same in
    ap (λ (f : Found). f.job) (ok_is {E = ℕ} (found_for j b a) (found_for k c e) (sym one ∙ both ∙ two))
  where
    front_small : (format : Format) → (places_of format).front ≤ 64
    front_small First = omega arith
    front_small Second = omega arith

-- two FLM files, or one, that fit their regions one by one all fit
pub all_fitting : (b : board.Shown) (files : ℕ) (first : File) (o : Option File) → are_files files (length b.regions) ≡ true →
    fits_in b (slice_get b.regions 0) first.algorithm ≡ true → SecondFits b files o
    → all_fit b b.regions (said_in (files_of first o)) ≡ true
all_fitting b files first None are fit one = one_fits b b.regions first.algorithm (sym (are_few files (length b.regions) are).1 ∙ one) fit
all_fitting b files first (Some second) are fit more =
    let count = are_few files (length b.regions) are in
    let two : files ≡ 2 = ⊎_elim (λ (one_ : files ≡ 1). absurd (more.0 one_)) (λ (two_ : files ≡ 2). two_) count.0 in
    two_fit b b.regions first.algorithm second.algorithm (sym count.1 ∙ two) fit more.1

-- the part of a body between its head and its snapshot
abbrev texts_before : Job → List ℕ
texts_before j = j.board ++ (concat j.flms ++ flat_map run_text j.image)

abbrev lengths_in : Job → List ℕ
lengths_in j = field (length j.board) ++ (field (length j.flms) ++
    (field (flm_len j.flms 0) ++ (field (flm_len j.flms 1) ++ (field (length j.image) ++ field (length j.snapshot)))))

abbrev pub front_text : Format → Job → List ℕ
front_text First j = first_mark ++ (field (length j.board) ++
    (field (flm_len j.flms 0) ++ (field (length j.image) ++ (field (length j.snapshot) ++ texts_before j))))
front_text Second j = (second_mark ++ sha256 (hashed_of j)) ++ (lengths_in j ++ texts_before j)

tail_parts : (j : Job) → texts_before j ++ j.snapshot ≡ tail_of j
tail_parts j = append_assoc j.board (concat j.flms ++ flat_map run_text j.image) j.snapshot ∙
    ap (λ (l : List ℕ). j.board ++ l) (append_assoc (concat j.flms) (flat_map run_text j.image) j.snapshot)

pub ends_in_snapshot : (format : Format) (j : Job) → front_text format j ++ j.snapshot ≡ body_in format j
ends_in_snapshot First j = ap (λ (l : List ℕ). first_mark ++
    (field (length j.board) ++ (field (flm_len j.flms 0) ++ (field (length j.image) ++ (field (length j.snapshot) ++ l))))) (tail_parts j)
ends_in_snapshot Second j =
    append_assoc (second_mark ++ sha256 (hashed_of j)) (lengths_in j ++ texts_before j) j.snapshot
    ∙ append_assoc second_mark (sha256 (hashed_of j)) ((lengths_in j ++ texts_before j) ++ j.snapshot)
    ∙ ap (λ (l : List ℕ). second_mark ++ (sha256 (hashed_of j) ++ l))
    (append_assoc (lengths_in j) (texts_before j) j.snapshot ∙ ap (λ (l : List ℕ). lengths_in j ++ l) (tail_parts j))
