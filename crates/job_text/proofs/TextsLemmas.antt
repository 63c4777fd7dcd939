-- The texts of a body, one after the other, as `take_texts` takes them.
use Rattle.std.proofs.Common.{◌≡◌, ◌+◌, ◌∙◌, ℕ, Bool, true, false, not, ◌||◌, nat_eq, List, length, Option, Result, Ok, Err, refl, ap}
use Rattle.faults.specs.Results.{◌>>=◌}
use Rattle.board_file.specs.Shown as board
use Rattle.board_file.specs.Text.{reading}
use Rattle.job_text.specs.declared.fault.JobFault.{JobFault}
use Rattle.job_text.specs.declared.fault.JobFault.TheVariants.{OutOfMemory, NotAJob}
use Rattle.job_text.specs.declared.head.Head.{Head}
use Rattle.job_text.specs.declared.head.Places.{Places}
use Rattle.job_text.specs.Reading.{text_at, read_or, holds_or, File, file_at, second_at, Texts, are_files, texts_at}
use Rattle.job_text.specs.Shown.{Fails}
use Rattle.job_text.proofs.Steps.{bind_is}

-- where a step fails, everything that begins with it fails
failed_first : {Y Z : Type 0} (part : Result Y ℕ) (k : Y → Result Z ℕ) (whole : Result Z ℕ) (e : JobFault) → whole ≡ (part >>= k) → Fails e part → Fails e whole
failed_first part k whole OutOfMemory is fails = tt
failed_first part k whole (NotAJob at) is fails = is ∙ ap (λ (r : Result _ _). r >>= k) fails

abbrev all_is : List ℕ → board.Shown → File → Option File → List ℕ → Result (Texts × List ℕ) ℕ
all_is text b first second rest = Ok (record { board_text = text; board = b; first = first; second = second }, rest)

abbrev second_behind : ℕ → Places → Head → List ℕ → board.Shown → File × List ℕ → Result (Texts × List ℕ) ℕ
second_behind d places h text b f = second_at d (places.front + h.board + h.first) b h f.1 >>= λ g. all_is text b f.0 g.0 g.1

abbrev first_behind : ℕ → Places → Head → List ℕ → List ℕ → board.Shown → Result (Texts × List ℕ) ℕ
first_behind d places h text rest b = file_at d (places.front + h.board) b 0 h.first rest >>= second_behind d places h text b

abbrev none_behind : ℕ → Places → Head → List ℕ → List ℕ → board.Shown → Bool → Result (Texts × List ℕ) ℕ
none_behind d places h text rest b none = holds_or places.second none >>= λ z. first_behind d places h text rest b

abbrev files_behind : ℕ → Places → Head → List ℕ → List ℕ → board.Shown → Bool → Result (Texts × List ℕ) ℕ
files_behind d places h text rest b files =
    holds_or places.files files >>= λ c. none_behind d places h text rest b (not (nat_eq h.files 1) || nat_eq h.second 0)

abbrev board_behind : ℕ → Places → Head → List ℕ × List ℕ → Result (Texts × List ℕ) ℕ
board_behind d places h t = read_or places.front (reading t.0) >>= λ b. files_behind d places h t.0 t.1 b (are_files h.files (length b.regions))

texts_from : (d : ℕ) (places : Places) (h : Head) (bytes : List ℕ) → texts_at d places h bytes ≡ (text_at d h.board bytes >>= board_behind d places h)
unfolding texts_at
texts_from d places h bytes = refl

text_taken : (d : ℕ) (places : Places) (h : Head) (bytes text rest : List ℕ) → text_at d h.board bytes ≡ Ok (text, rest)
    → texts_at d places h bytes ≡ board_behind d places h (text, rest)
text_taken d places h bytes text rest is =
    texts_from d places h bytes ∙ bind_is (text_at d h.board bytes) (board_behind d places h) (text, rest) is

-- the board was read
pub record IsBoardRead (d : ℕ) (places : Places) (h : Head) (bytes text rest : List ℕ) (b : board.Shown) : Type 0 where
  pub text_is : text_at d h.board bytes ≡ Ok (text, rest)
  pub board_is : read_or places.front (reading text) ≡ Ok b

board_read : (d : ℕ) (places : Places) (h : Head) (bytes text rest : List ℕ) (b : board.Shown) (files : Bool) → IsBoardRead d places h bytes text rest b
    → are_files h.files (length b.regions) ≡ files → texts_at d places h bytes ≡ files_behind d places h text rest b files
board_read d places h bytes text rest b files r is =
    text_taken d places h bytes text rest r.text_is
    ∙ bind_is (read_or places.front (reading text)) (λ x. files_behind d places h text rest x (are_files h.files (length x.regions))) b r.board_is
    ∙ ap (files_behind d places h text rest b) is

pub files_differ : (d : ℕ) (places : Places) (h : Head) (bytes text rest : List ℕ) (b : board.Shown) → IsBoardRead d places h bytes text rest b
    → are_files h.files (length b.regions) ≡ false → texts_at d places h bytes ≡ Err places.files
files_differ d places h bytes text rest b r other = board_read d places h bytes text rest b false r other

none_read : (d : ℕ) (places : Places) (h : Head) (bytes text rest : List ℕ) (b : board.Shown) (none : Bool) → IsBoardRead d places h bytes text rest b
    → are_files h.files (length b.regions) ≡ true → (not (nat_eq h.files 1) || nat_eq h.second 0) ≡ none
    → texts_at d places h bytes ≡ none_behind d places h text rest b none
none_read d places h bytes text rest b none r files is =
    board_read d places h bytes text rest b true r files ∙ ap (none_behind d places h text rest b) is

pub second_counted : (d : ℕ) (places : Places) (h : Head) (bytes text rest : List ℕ) (b : board.Shown) → IsBoardRead d places h bytes text rest b
    → are_files h.files (length b.regions) ≡ true → (not (nat_eq h.files 1) || nat_eq h.second 0) ≡ false → texts_at d places h bytes ≡ Err places.second
second_counted d places h bytes text rest b r files some = none_read d places h bytes text rest b false r files some

-- the board was read, and the number of FLM files was checked
pub record AreCounted (d : ℕ) (places : Places) (h : Head) (bytes text rest : List ℕ) (b : board.Shown) : Type 0 where
  pub read : IsBoardRead d places h bytes text rest b
  pub files : are_files h.files (length b.regions) ≡ true
  pub none : (not (nat_eq h.files 1) || nat_eq h.second 0) ≡ true

counted : (d : ℕ) (places : Places) (h : Head) (bytes text rest : List ℕ) (b : board.Shown) → AreCounted d places h bytes text rest b
    → texts_at d places h bytes ≡ first_behind d places h text rest b
counted d places h bytes text rest b r = none_read d places h bytes text rest b true r.read r.files r.none

-- the number of FLM files was checked, and the first file was read
pub record IsFirstRead (d : ℕ) (places : Places) (h : Head) (bytes text rest : List ℕ) (b : board.Shown) (f : File) (after : List ℕ) : Type 0 where
  pub counted : AreCounted d places h bytes text rest b
  pub first : file_at d (places.front + h.board) b 0 h.first rest ≡ Ok (f, after)

first_read : (d : ℕ) (places : Places) (h : Head) (bytes text rest : List ℕ) (b : board.Shown) (f : File) (after : List ℕ)
    → IsFirstRead d places h bytes text rest b f after → texts_at d places h bytes ≡ second_behind d places h text b (f, after)
first_read d places h bytes text rest b f after r =
    counted d places h bytes text rest b r.counted
    ∙ bind_is (file_at d (places.front + h.board) b 0 h.first rest) (second_behind d places h text b) (f, after) r.first

pub second_fails : (d : ℕ) (places : Places) (h : Head) (bytes text rest : List ℕ) (b : board.Shown) (f : File) (after : List ℕ) (e : JobFault)
    → IsFirstRead d places h bytes text rest b f after → Fails e (second_at d (places.front + h.board + h.first) b h after)
    → Fails e (texts_at d places h bytes)
second_fails d places h bytes text rest b f after e r = failed_first (second_at d (places.front + h.board + h.first) b h after)
    (λ g. all_is text b f g.0 g.1) (texts_at d places h bytes) e (first_read d places h bytes text rest b f after r)

pub texts_read : (d : ℕ) (places : Places) (h : Head) (bytes text rest : List ℕ) (b : board.Shown) (f : File) (after : List ℕ) (o : Option File)
    (end : List ℕ) → IsFirstRead d places h bytes text rest b f after → second_at d (places.front + h.board + h.first) b h after ≡ Ok (o, end)
    → texts_at d places h bytes ≡ Ok (record { board_text = text; board = b; first = f; second = o }, end)
texts_read d places h bytes text rest b f after o end r is =
    first_read d places h bytes text rest b f after r
    ∙ bind_is (second_at d (places.front + h.board + h.first) b h after) (λ g. all_is text b f g.0 g.1) (o, end) is
