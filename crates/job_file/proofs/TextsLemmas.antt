-- The texts of a job, one after the other, as `read_said` reads them.
use Rattle.std.proofs.Common.{◌≡◌, ◌≢◌, ◌≤◌, ◌+◌, ◌∙◌, ℕ, Bool, true, false, not, ◌||◌, cond, nat_eq, List, length, take, drop, slice_get, Option}
use Rattle.std.proofs.Common.{Some, None, Result, Ok, Err, refl, sym, ap, subst, arith}
use Rattle.std.proofs.lemmas.Bool.{eq-eqb, ne_eqb}
use Rattle.std.proofs.lemmas.List.{length-drop, drop-drop}
use Rattle.faults.specs.Results.{◌>>=◌}
use Rattle.board_file.specs.declared.region.Region.{Region}
use Rattle.board_file.specs.Shown as board
use Rattle.board_file.specs.Text.{reading}
use Rattle.flm_descriptor.specs.declared.algorithm.Algorithm.{Algorithm}
use Rattle.flm_descriptor.specs.Shown as flm
use Rattle.flm_descriptor.specs.Flm.{flm_of}
use Rattle.job_text.specs.declared.head.Head.{Head}
use Rattle.job_text.specs.declared.head.Places.{Places}
use Rattle.job_text.specs.Fits.{all_fit}
use Rattle.job_text.specs.Said.{algorithms_shown, one_or_two}
use Rattle.job_text.specs.Reading.{text_at, read_or, holds_or, File, fits_in, file_at, second_at, Texts, are_files, texts_at}
use Rattle.job_text.proofs.Steps.{bind_is, holds}
use Rattle.job_text.proofs.BodyLemmas.{all_fitting}
use Rattle.job_file.specs.declared.fault.ReadFault.{ReadFault}
use Rattle.job_file.specs.declared.fault.ReadFault.TheVariants.{OutOfMemory, StoreFault, NotAJob}
use Rattle.job_file.specs.Readers.{Fails, board_read, algorithm_read, files_checked, file_there, CountsFiles, SecondFits}
use Rattle.job_file.proofs.StepLemmas.{text_here, fails, err_through, bind_err}

-- what fails in a part fails in the whole
pub fails_within : {Y Z : Type 0} (e : ReadFault) (part : Result Y ℕ) (whole : Result Z ℕ) → ((at : ℕ) → part ≡ Err at → whole ≡ Err at) → Fails e part
    → Fails e whole
fails_within OutOfMemory part whole f is = tt
fails_within StoreFault part whole f is = tt
fails_within (NotAJob at) part whole f is = f at is

-- ---- an FLM file

abbrev file_is : List ℕ → flm.Shown → List ℕ → Result (File × List ℕ) ℕ
file_is text a rest = Ok (record { text = text; algorithm = a }, rest)

abbrev fit_behind : ℕ → board.Shown → ℕ → List ℕ → List ℕ → flm.Shown → Result (File × List ℕ) ℕ
fit_behind at b region text rest a = holds_or at (fits_in b (slice_get b.regions region) a) >>= λ u. file_is text a rest

file_from : (d at : ℕ) (b : board.Shown) (region len : ℕ) (bytes : List ℕ)
    → file_at d at b region len bytes ≡ (text_at d len bytes >>= λ t. read_or at (flm_of t.0) >>= λ a. fit_behind at b region t.0 t.1 a)
unfolding file_at
file_from d at b region len bytes = refl

pub file_unread : (d at : ℕ) (b : board.Shown) (region len : ℕ) (bytes : List ℕ) (e : ReadFault) → Fails e (algorithm_read d at len bytes)
    → Fails e (file_at d at b region len bytes)
file_unread d at b region len bytes e = fails_within e (algorithm_read d at len bytes) (file_at d at b region len bytes)
    (λ k is. file_from d at b region len bytes ∙ err_through (text_at d len bytes) (λ t. read_or at (flm_of t.0)) (λ t a. fit_behind at b region t.0 t.1 a) k
    is)

-- the algorithm of an FLM file of `len` bytes was read at offset `at`
pub record IsAlgorithmRead (d at len : ℕ) (file : List ℕ) (a : flm.Shown) : Type 0 where
  pub long : length file ≡ d
  pub inside : at + len ≤ d
  pub read : algorithm_read d at len (drop at file) ≡ Ok a

file_fits : (d at : ℕ) (b : board.Shown) (region len : ℕ) (file : List ℕ) (a : flm.Shown) → IsAlgorithmRead d at len file a
    → file_at d at b region len (drop at file) ≡ fit_behind at b region (take len (drop at file)) (drop (at + len) file) a
file_fits d at b region len file a r =
    let rest = drop at file in
    let text = take len rest in
    let here : text_at d len rest ≡ Ok (text, drop len rest) = text_here d len rest (omega (arith, r.long, r.inside, length-drop at file)) in
    let says : read_or at (flm_of text) ≡ Ok a = sym (bind_is (text_at d len rest) (λ t. read_or at (flm_of t.0)) (text, drop len rest) here) ∙ r.read in
    file_from d at b region len rest
    ∙ bind_is (text_at d len rest) (λ t. read_or at (flm_of t.0) >>= λ x. fit_behind at b region t.0 t.1 x) (text, drop len rest) here
    ∙ bind_is (read_or at (flm_of text)) (λ x. fit_behind at b region text (drop len rest) x) a says
    ∙ ap (λ (l : List ℕ). fit_behind at b region text l a) (drop-drop len at file)

pub file_unfit : (d at : ℕ) (b : board.Shown) (region len : ℕ) (file : List ℕ) (a : flm.Shown) → IsAlgorithmRead d at len file a
    → fits_in b (slice_get b.regions region) a ≡ false
    → file_at d at b region len (drop at file) ≡ Err at
file_unfit d at b region len file a r unfit =
    file_fits d at b region len file a r
    ∙ bind_err (holds_or at (fits_in b (slice_get b.regions region) a)) (λ u. file_is (take len (drop at file)) a (drop (at + len) file))
    at (fails at (fits_in b (slice_get b.regions region) a) unfit)

pub file_read : (d at : ℕ) (b : board.Shown) (region len : ℕ) (file : List ℕ) (a : flm.Shown) → IsAlgorithmRead d at len file a
    → fits_in b (slice_get b.regions region) a ≡ true
    → file_at d at b region len (drop at file) ≡ Ok (record { text = take len (drop at file); algorithm = a }, drop (at + len) file)
file_read d at b region len file a r fit =
    file_fits d at b region len file a r
    ∙ bind_is (holds_or at (fits_in b (slice_get b.regions region) a)) (λ u. file_is (take len (drop at file)) a (drop (at + len) file)) tt
    (holds at (fits_in b (slice_get b.regions region) a) fit)

-- ---- the second one

abbrev second_if : Bool → ℕ → ℕ → board.Shown → Head → List ℕ → Result (Option File × List ℕ) ℕ
second_if one d at b h bytes = cond one (Ok (None, bytes)) (file_at d at b 1 h.second bytes >>= λ x. Ok (Some x.0, x.1))

second_from : (d at : ℕ) (b : board.Shown) (h : Head) (bytes : List ℕ) (one : Bool) → nat_eq h.files 1 ≡ one
    → second_at d at b h bytes ≡ second_if one d at b h bytes
unfolding second_at
second_from d at b h bytes one is = ap (λ (t : Bool). second_if t d at b h bytes) is

pub second_none : (d at : ℕ) (b : board.Shown) (h : Head) (bytes : List ℕ) → h.files ≡ 1 → second_at d at b h bytes ≡ Ok (None, bytes)
second_none d at b h bytes one = second_from d at b h bytes true (eq-eqb h.files 1 one)

pub second_fails : (d at : ℕ) (b : board.Shown) (h : Head) (bytes : List ℕ) (e : ReadFault) → h.files ≢ 1 → Fails e (file_at d at b 1 h.second bytes)
    → Fails e (second_at d at b h bytes)
second_fails d at b h bytes e more = fails_within e (file_at d at b 1 h.second bytes) (second_at d at b h bytes)
    (λ k is. second_from d at b h bytes false (ne_eqb h.files 1 more) ∙ bind_err (file_at d at b 1 h.second bytes) (λ x. Ok (Some x.0, x.1)) k is)

pub second_read : (d at : ℕ) (b : board.Shown) (h : Head) (bytes : List ℕ) (f : File) (rest : List ℕ) → h.files ≢ 1
    → file_at d at b 1 h.second bytes ≡ Ok (f, rest) → second_at d at b h bytes ≡ Ok (Some f, rest)
second_read d at b h bytes f rest more is =
    second_from d at b h bytes false (ne_eqb h.files 1 more) ∙ bind_is (file_at d at b 1 h.second bytes) (λ x. Ok (Some x.0, x.1)) (f, rest) is

-- ---- the number of files

pub files_differ : (places : Places) (h : Head) (regions : ℕ) → are_files h.files regions ≡ false → files_checked places h regions ≡ Err places.files
files_differ places h regions other =
    bind_err (holds_or places.files (are_files h.files regions)) (λ c. holds_or places.second (not (nat_eq h.files 1) || nat_eq h.second 0)) places.files
    (fails places.files (are_files h.files regions) other)

pub second_counted : (places : Places) (h : Head) (regions : ℕ) → are_files h.files regions ≡ true → (not (nat_eq h.files 1) || nat_eq h.second 0) ≡ false
    → files_checked places h regions ≡ Err places.second
second_counted places h regions are some =
    bind_is (holds_or places.files (are_files h.files regions)) (λ c. holds_or places.second (not (nat_eq h.files 1) || nat_eq h.second 0)) tt
    (holds places.files (are_files h.files regions) are)
    ∙ fails places.second (not (nat_eq h.files 1) || nat_eq h.second 0) some

pub unchecked : (T : Type 0) (places : Places) (h : Head) (regions : ℕ) (e : ReadFault) → CountsFiles {T = T} places h regions (Err e)
    → Fails e (files_checked places h regions)
unchecked T places h regions OutOfMemory is = absurd is
unchecked T places h regions StoreFault is = absurd is
unchecked T places h regions (NotAJob at) is = is

-- ---- all

abbrev all_is : List ℕ → board.Shown → File → Option File → List ℕ → Result (Texts × List ℕ) ℕ
all_is text b first second rest = Ok (record { board_text = text; board = b; first = first; second = second }, rest)

abbrev second_behind : ℕ → Places → Head → List ℕ → board.Shown → File × List ℕ → Result (Texts × List ℕ) ℕ
second_behind d places h text b f = second_at d (places.front + h.board + h.first) b h f.1 >>= λ g. all_is text b f.0 g.0 g.1

abbrev first_behind : ℕ → Places → Head → List ℕ → List ℕ → board.Shown → Result (Texts × List ℕ) ℕ
first_behind d places h text rest b = file_at d (places.front + h.board) b 0 h.first rest >>= second_behind d places h text b

abbrev files_behind : ℕ → Places → Head → List ℕ → List ℕ → board.Shown → Result (Texts × List ℕ) ℕ
files_behind d places h text rest b =
    holds_or places.files (are_files h.files (length b.regions)) >>= λ c. holds_or places.second (not (nat_eq h.files 1) || nat_eq h.second 0) >>= λ z.
    first_behind d places h text rest b

texts_from : (d : ℕ) (places : Places) (h : Head) (bytes : List ℕ)
    → texts_at d places h bytes ≡ (text_at d h.board bytes >>= λ t. read_or places.front (reading t.0) >>= λ b. files_behind d places h t.0 t.1 b)
unfolding texts_at
texts_from d places h bytes = refl

pub board_unread : (d : ℕ) (places : Places) (h : Head) (bytes : List ℕ) (e : ReadFault) → Fails e (board_read d places.front h.board bytes)
    → Fails e (texts_at d places h bytes)
board_unread d places h bytes e = fails_within e (board_read d places.front h.board bytes) (texts_at d places h bytes)
    (λ k is. texts_from d places h bytes ∙ err_through (text_at d h.board bytes) (λ t. read_or places.front (reading t.0))
    (λ t b. files_behind d places h t.0 t.1 b) k is)

-- the board was read
pub record IsBoardRead (d : ℕ) (places : Places) (h : Head) (file : List ℕ) (b : board.Shown) : Type 0 where
  pub long : length file ≡ d
  pub inside : places.front + h.board ≤ d
  pub read : board_read d places.front h.board (drop places.front file) ≡ Ok b

board_behind : (d : ℕ) (places : Places) (h : Head) (file : List ℕ) (b : board.Shown) → IsBoardRead d places h file b
    → texts_at d places h (drop places.front file) ≡ files_behind d places h (take h.board (drop places.front file)) (drop (places.front + h.board) file) b
board_behind d places h file b r =
    let bytes = drop places.front file in
    let text = take h.board bytes in
    let here : text_at d h.board bytes ≡ Ok (text, drop h.board bytes) =
    text_here d h.board bytes (omega (arith, r.long, r.inside, length-drop places.front file)) in
    let says : read_or places.front (reading text) ≡ Ok b = sym
    (bind_is (text_at d h.board bytes) (λ t. read_or places.front (reading t.0)) (text, drop h.board bytes) here) ∙ r.read in
    texts_from d places h bytes
    ∙ bind_is (text_at d h.board bytes) (λ t. read_or places.front (reading t.0) >>= λ x. files_behind d places h t.0 t.1 x) (text, drop h.board bytes) here
    ∙ bind_is (read_or places.front (reading text)) (λ x. files_behind d places h text (drop h.board bytes) x) b says
    ∙ ap (λ (l : List ℕ). files_behind d places h text l b) (drop-drop h.board places.front file)

pub files_uncounted : (d : ℕ) (places : Places) (h : Head) (file : List ℕ) (b : board.Shown) (e : ReadFault) → IsBoardRead d places h file b
    → Fails e (files_checked places h (length b.regions))
    → Fails e (texts_at d places h (drop places.front file))
files_uncounted d places h file b e r = fails_within e (files_checked places h (length b.regions)) (texts_at d places h (drop places.front file))
    (λ k is. board_behind d places h file b r
    ∙ err_through (holds_or places.files (are_files h.files (length b.regions))) (λ c. holds_or places.second (not (nat_eq h.files 1) || nat_eq h.second 0))
    (λ c z. first_behind d places h (take h.board (drop places.front file)) (drop (places.front + h.board) file) b) k is)

-- the board was read, and the number of FLM files was checked
pub record AreCounted (d : ℕ) (places : Places) (h : Head) (file : List ℕ) (b : board.Shown) : Type 0 where
  pub board : IsBoardRead d places h file b
  pub files : are_files h.files (length b.regions) ≡ true
  pub none : (not (nat_eq h.files 1) || nat_eq h.second 0) ≡ true

-- the number of FLM files was checked against the number of the board's regions
pub counted_by : (d : ℕ) (places : Places) (h : Head) (file : List ℕ) (b : board.Shown) {regions : List Region} → regions ≡ b.regions
    → IsBoardRead d places h file b → are_files h.files (length regions) ≡ true → (not (nat_eq h.files 1) || nat_eq h.second 0) ≡ true
    → AreCounted d places h file b
counted_by d places h file b many r files none = record {
  board = r;
  files = subst (λ (rs : List Region). are_files h.files (length rs) ≡ true) many files;
  none = none;
}

counted_behind : (d : ℕ) (places : Places) (h : Head) (file : List ℕ) (b : board.Shown) → AreCounted d places h file b
    → texts_at d places h (drop places.front file) ≡ first_behind d places h (take h.board (drop places.front file)) (drop (places.front + h.board) file) b
counted_behind d places h file b r =
    let text = take h.board (drop places.front file) in
    let rest = drop (places.front + h.board) file in
    board_behind d places h file b r.board
    ∙ bind_is (holds_or places.files (are_files h.files (length b.regions)))
    (λ c. holds_or places.second (not (nat_eq h.files 1) || nat_eq h.second 0) >>= λ z. first_behind d places h text rest b) tt
    (holds places.files (are_files h.files (length b.regions)) r.files)
    ∙ bind_is (holds_or places.second (not (nat_eq h.files 1) || nat_eq h.second 0)) (λ z. first_behind d places h text rest b) tt
    (holds places.second (not (nat_eq h.files 1) || nat_eq h.second 0) r.none)

pub first_unread : (d : ℕ) (places : Places) (h : Head) (file : List ℕ) (b : board.Shown) (e : ReadFault) → AreCounted d places h file b
    → Fails e (file_at d (places.front + h.board) b 0 h.first (drop (places.front + h.board) file)) → Fails e (texts_at d places h (drop places.front file))
first_unread d places h file b e r =
    let first = file_at d (places.front + h.board) b 0 h.first (drop (places.front + h.board) file) in
    fails_within e first (texts_at d places h (drop places.front file))
    (λ k is. counted_behind d places h file b r ∙ bind_err first (second_behind d places h (take h.board (drop places.front file)) b) k is)

-- the number of FLM files was checked, and the first file was read
pub record IsFirstRead (d : ℕ) (places : Places) (h : Head) (file : List ℕ) (b : board.Shown) (f : File) : Type 0 where
  pub counted : AreCounted d places h file b
  pub first : file_at d (places.front + h.board) b 0 h.first (drop (places.front + h.board) file) ≡ Ok (f, drop (places.front + h.board + h.first) file)

-- the first file was read, where the bytes are the file's and its place is right after the board's text
pub first_by : (d : ℕ) (places : Places) (h : Head) (file : List ℕ) (b : board.Shown) (one : List ℕ) (k : ℕ) (a : Algorithm) → one ≡ file → k ≡ h.board
    → AreCounted d places h file b
    → file_at d (places.front + k) b 0 h.first (drop (places.front + k) one) ≡ Ok (
      file_there one (places.front + k) h.first a,
      drop (places.front + k + h.first) one,
    )
    → IsFirstRead d places h file b (file_there file (places.front + h.board) h.first a)
first_by d places h file b one k a same at counted first = record {
  counted = counted;
  first = subst (λ (f : List ℕ). file_at d (places.front + h.board) b 0 h.first (drop (places.front + h.board) f) ≡ Ok
      (file_there f (places.front + h.board) h.first a, drop (places.front + h.board + h.first) f)) same
      (subst (λ (k : ℕ). file_at d (places.front + k) b 0 h.first (drop (places.front + k) one) ≡ Ok
      (file_there one (places.front + k) h.first a, drop (places.front + k + h.first) one)) at first);
}

read_behind : (d : ℕ) (places : Places) (h : Head) (file : List ℕ) (b : board.Shown) (f : File) → IsFirstRead d places h file b f
    → texts_at d places h (drop places.front file) ≡ second_behind d places h (take h.board (drop places.front file)) b
    (f, drop (places.front + h.board + h.first) file)
read_behind d places h file b f r =
    counted_behind d places h file b r.counted
    ∙ bind_is (file_at d (places.front + h.board) b 0 h.first (drop (places.front + h.board) file))
    (second_behind d places h (take h.board (drop places.front file)) b) (f, drop (places.front + h.board + h.first) file) r.first

pub second_unread : (d : ℕ) (places : Places) (h : Head) (file : List ℕ) (b : board.Shown) (f : File) (e : ReadFault) → IsFirstRead d places h file b f
    → Fails e (second_at d (places.front + h.board + h.first) b h (drop (places.front + h.board + h.first) file))
    → Fails e (texts_at d places h (drop places.front file))
second_unread d places h file b f e r =
    let second = second_at d (places.front + h.board + h.first) b h (drop (places.front + h.board + h.first) file) in
    fails_within e second (texts_at d places h (drop places.front file))
    (λ k is. read_behind d places h file b f r ∙ bind_err second (λ g. all_is (take h.board (drop places.front file)) b f g.0 g.1) k is)

pub texts_read : (d : ℕ) (places : Places) (h : Head) (file : List ℕ) (b : board.Shown) (f : File) (o : Option File) (rest : List ℕ)
    → IsFirstRead d places h file b f
    → second_at d (places.front + h.board + h.first) b h (drop (places.front + h.board + h.first) file) ≡ Ok (o, rest)
    → texts_at d places h (drop places.front file) ≡ Ok (record { board_text = take h.board (drop places.front file); board = b; first = f; second = o }, rest)
texts_read d places h file b f o rest r is =
    read_behind d places h file b f r
    ∙ bind_is (second_at d (places.front + h.board + h.first) b h (drop (places.front + h.board + h.first) file))
    (λ g. all_is (take h.board (drop places.front file)) b f g.0 g.1) (o, rest) is

-- ---- FLM files that fit their regions

abbrev alone : Algorithm → File
alone a = record { text = Rattle.std.proofs.Common.[]; algorithm = flm.shown a }

pub both_fit : (b : board.Shown) (files : ℕ) (first : Algorithm) (second : Option Algorithm) → are_files files (length b.regions) ≡ true
    → fits_in b (slice_get b.regions 0) (flm.shown first) ≡ true → SecondFits b files second
    → all_fit b b.regions (algorithms_shown (one_or_two first second)) ≡ true
both_fit b files first None are fit one = all_fitting b files (alone first) None are fit one
both_fit b files first (Some second) are fit more = all_fitting b files (alone first) (Some (alone second)) are fit more
