-- Reading a job file from left to right: the job, or the offset that shows the first check that fails.
use Rattle.std.specs.Prelude.{◌+◌, ◌-◌, ℕ, zero, suc, Bool, true, false, not, ◌&&◌, ◌||◌, ◌==◌, List, [], ◌∷◌, length, map, take, drop, Option, Some, None}
use Rattle.std.specs.Prelude.{Result, Ok, Err, nat_lt, nat_le, nat_eq, slice_get, bytes_eq, if◌then◌else◌}
use Rattle.std.specs.List.{starts_with}
use Rattle.sha2.specs.Sha256.{sha256}
use Rattle.octets.specs.Field.{field32}
use Rattle.faults.specs.Results.{◌>>=◌}
use Rattle.byte_map.specs.Image.{Run, addresses, end_of}
use Rattle.board_file.specs.declared.region.Region.{Region}
use Rattle.board_file.specs.Shown as board
use Rattle.board_file.specs.Limits.{size_of}
use Rattle.board_file.specs.Text as board_text
use Rattle.flm_descriptor.specs.Shown as flm
use Rattle.flm_descriptor.specs.Flm.{flm_of}
use Rattle.job_text.specs.Files.{open_gate}
use Rattle.job_text.specs.Fits.{fits, holds}
use Rattle.job_text.specs.declared.format.Format.{Format}
use Rattle.job_text.specs.declared.format.Format.TheVariants.{First, Second}
use Rattle.job_text.specs.declared.head.Head.{Head}
use Rattle.job_text.specs.declared.head.Places.{Places}
use Rattle.job_text.specs.Body.{Job, first_mark, second_mark}

-- Steps of reading. Each returns what it read and the bytes after that, or an offset. If the bytes end too early, the offset is the
-- file's length, `whole`.

-- reads a field: a number of 32 bits
abbrev pub number_at : ℕ → List ℕ → Result (ℕ × List ℕ) ℕ
number_at whole bytes = if nat_lt (length bytes) 4 then Err whole else Ok (field32 bytes 0, drop 4 bytes)

-- reads a text of `n` bytes
abbrev pub text_at : ℕ → ℕ → List ℕ → Result (List ℕ × List ℕ) ℕ
text_at whole n bytes = if nat_lt (length bytes) n then Err whole else Ok (take n bytes, drop n bytes)

-- reads the mark of format 1, which is at offset 1 of the file
abbrev pub mark_at : List ℕ → Result (List ℕ) ℕ
mark_at bytes = if starts_with nat_eq bytes first_mark then Ok (drop 7 bytes) else Err 1

-- what a reader accepted, or this offset
abbrev pub read_or : {A E : Type 0} → ℕ → Result A E → Result A ℕ
read_or at (Ok x) = Ok x
read_or at (Err fault) = Err at

-- a check: it holds, or this offset is the error
abbrev pub holds_or : ℕ → Bool → Result (Unit {0}) ℕ
holds_or at b = if b then Ok tt else Err at

-- The offsets of a format's fields. Format 1 has no field for the number of FLM files, which is one; a board with more regions is refused
-- at its text.
abbrev pub places_of : Format → Places
places_of First = record { front = 24; files = 24; second = 24; runs = 16; cells = 20 }
places_of Second = record { front = 64; files = 44; second = 52; runs = 56; cells = 60 }

unfoldable pub first_head : ℕ → List ℕ → Result (Head × List ℕ) ℕ
first_head whole bytes = do
  marked ← mark_at bytes
  b ← number_at whole marked
  f ← number_at whole b.1
  r ← number_at whole f.1
  n ← number_at whole r.1
  Ok (record { board = b.0; files = 1; first = f.0; second = 0; runs = r.0; cells = n.0 }, n.1)

-- the head of format 2, after the mark and the hash
unfoldable pub second_head : ℕ → List ℕ → Result (Head × List ℕ) ℕ
second_head whole bytes = do
  marked ← text_at whole 39 bytes
  b ← number_at whole marked.1
  q ← number_at whole b.1
  f ← number_at whole q.1
  s ← number_at whole f.1
  r ← number_at whole s.1
  n ← number_at whole r.1
  Ok (record { board = b.0; files = q.0; first = f.0; second = s.0; runs = r.0; cells = n.0 }, n.1)

abbrev pub head_at : ℕ → Format → List ℕ → Result (Head × List ℕ) ℕ
head_at whole First bytes = first_head whole bytes
head_at whole Second bytes = second_head whole bytes

-- ---- the runs

-- the end of the first of these regions that holds the address; the address itself where none does
abbrev pub reach : List Region → ℕ → ℕ
reach [] at = at
reach (r ∷ rs) at = if holds r at then r.base + r.size else reach rs at

-- each address from `from` to before `to` lies in one of at most two regions
abbrev pub covers : List Region → ℕ → ℕ → Bool
covers regions from to = nat_le to (reach regions (reach regions from))

abbrev pub all_covered : List Region → List Run → Bool
all_covered regions [] = true
all_covered regions (r ∷ rs) = covers regions r.at (end_of r) && all_covered regions rs

-- the run begins at `low` or above it, isn't empty, ends in memory, and lies in the regions
abbrev pub is_placed : (regions : List Region) (low at len : ℕ) → Bool
is_placed regions low at len = nat_le low at && nat_lt 0 len && nat_le (at + len) addresses && covers regions at (at + len)

-- reads a run; a wrong run is refused at its own offset
unfoldable pub run_at : ℕ → List Region → ℕ → List ℕ → Result (Run × List ℕ) ℕ
run_at whole regions low bytes = do
  at ← number_at whole bytes
  len ← number_at whole at.1
  text ← text_at whole len.0 len.1
  placed ← holds_or (whole - length bytes) (is_placed regions low at.0 len.0)
  Ok (record { at = at.0; bytes = text.0 }, text.1)

-- reads a number of runs; no run touches the one before it
unfoldable pub runs_at : ℕ → List Region → ℕ → ℕ → List ℕ → Result (List Run × List ℕ) ℕ
runs_at whole regions zero low bytes = Ok ([], bytes)
runs_at whole regions (suc n) low bytes = do
  first ← run_at whole regions low bytes
  others ← runs_at whole regions n (first.0.at + length first.0.bytes + 1) first.1
  Ok (first.0 ∷ others.0, others.1)

-- ---- the texts

-- an FLM file and the algorithm that it describes
pub record File : Type 0 where
  pub text : List ℕ
  pub algorithm : flm.Shown

-- there is a region, and the algorithm fits it
abbrev pub fits_in : board.Shown → Option Region → flm.Shown → Bool
fits_in b None a = false
fits_in b (Some region) a = fits b region a

-- reads the FLM file of a region, at offset `at`
unfoldable pub file_at : ℕ → ℕ → board.Shown → ℕ → ℕ → List ℕ → Result (File × List ℕ) ℕ
file_at whole at b region len bytes = do
  text ← text_at whole len bytes
  algorithm ← read_or at (flm_of text.0)
  fit ← holds_or at (fits_in b (slice_get b.regions region) algorithm)
  Ok (record { text = text.0; algorithm = algorithm }, text.1)

-- reads the second FLM file, if there are two
unfoldable pub second_at : ℕ → ℕ → board.Shown → Head → List ℕ → Result (Option File × List ℕ) ℕ
second_at whole at b head bytes =
    if nat_eq head.files 1 then Ok (None, bytes) else (file_at whole at b 1 head.second bytes >>= λ x. Ok (Some x.0, x.1))

-- the texts of the board and of the FLM files, with the board and the algorithms that they describe
pub record Texts : Type 0 where
  pub board_text : List ℕ
  pub board : board.Shown
  pub first : File
  pub second : Option File

-- there is one FLM file or two, and one for each region
abbrev pub are_files : ℕ → ℕ → Bool
are_files files regions = (nat_eq files 1 || nat_eq files 2) && nat_eq files regions

unfoldable pub texts_at : ℕ → Places → Head → List ℕ → Result (Texts × List ℕ) ℕ
texts_at whole places head bytes = do
  b ← text_at whole head.board bytes
  said ← read_or places.front (board_text.reading b.0)
  files ← holds_or places.files (are_files head.files (length said.regions))
  none ← holds_or places.second (not (nat_eq head.files 1) || nat_eq head.second 0)
  first ← file_at whole (places.front + head.board) said 0 head.first b.1
  second ← second_at whole (places.front + head.board + head.first) said head first.1
  Ok (record { board_text = b.0; board = said; first = first.0; second = second.0 }, second.1)

abbrev pub files_of : File → Option File → List File
files_of first None = first ∷ []
files_of first (Some second) = first ∷ second ∷ []

abbrev pub files_in : Texts → List File
files_in t = files_of t.first t.second

-- ---- the whole

-- a job, with the board and the algorithms that its texts describe
pub record Found : Type 0 where
  pub job : Job
  pub board : board.Shown
  pub algorithms : List flm.Shown

unfoldable pub rest_at : ℕ → Format → Head → List ℕ → Result Found ℕ
rest_at whole format head bytes = do
  texts ← texts_at whole (places_of format) head bytes
  sized ← holds_or (places_of format).cells (head.cells == size_of texts.0.board.regions)
  some ← holds_or (places_of format).runs (nat_lt 0 head.runs)
  runs ← runs_at whole texts.0.board.regions head.runs 0 texts.1
  ends ← holds_or whole (length runs.1 == head.cells)
  Ok (record {
    job = record {
      format = format;
      board = texts.0.board_text;
      flms = map (λ (f : File). f.text) (files_in texts.0);
      image = runs.0;
      snapshot = runs.1;
    };
    board = texts.0.board;
    algorithms = map (λ (f : File). f.algorithm) (files_in texts.0);
  })

abbrev pub is_second : List ℕ → Bool
is_second body = starts_with nat_eq body second_mark

-- the format of a body by its mark; a body without a mark is read as format 1
abbrev pub format_in : List ℕ → Format
format_in body = if is_second body then Second else First

-- reads the job of a file of `whole` bytes, from its byte 1 on; the hash of format 2 isn't checked
unfoldable pub job_as : ℕ → Format → List ℕ → Result Found ℕ
job_as whole format body = do
  long ← holds_or whole (nat_le (places_of format).front whole)
  head ← head_at whole format body
  rest_at whole format head.0 head.1

abbrev pub job_at : ℕ → List ℕ → Result Found ℕ
job_at whole body = job_as whole (format_in body) body

-- the hash that a body of format 2 keeps, and the hash of the file's bytes from 40 on
abbrev pub kept_in : List ℕ → List ℕ
kept_in body = take 32 (drop 7 body)

abbrev pub found_in : List ℕ → List ℕ
found_in body = sha256 (drop 39 body)

-- the body has the mark of format 2, is long enough for a head, and its two hashes differ
abbrev pub is_damaged : List ℕ → Bool
is_damaged body = nat_le 63 (length body) && is_second body && not (bytes_eq (kept_in body) (found_in body))

-- the class of a file: free, standing for a job, damaged with its two hashes, or no job with the offset that shows it
pub data Class : Type 0 where
  free : Class
  stands : Found → Class
  damaged : List ℕ → List ℕ → Class
  not_a_job : ℕ → Class

abbrev pub class_from : Result Found ℕ → Class
class_from (Ok found) = stands found
class_from (Err at) = not_a_job at

-- the class of a file of `whole` bytes with an open gate, by its body
unfoldable pub class_behind : ℕ → List ℕ → Class
class_behind whole body = if is_damaged body then damaged (kept_in body) (found_in body) else class_from (job_at whole body)

unfoldable pub class_of : List ℕ → Class
class_of [] = free
class_of (gate ∷ []) = free
class_of (gate ∷ next ∷ rest) = if gate == open_gate then class_behind (length rest + 2) (next ∷ rest) else free

-- what a caller sees of a job: all but its format and its texts, and of the snapshot only its offset
pub record Seen : Type 0 where
  pub board : board.Shown
  pub algorithms : List flm.Shown
  pub image : List Run
  pub snapshot_at : ℕ

-- a job as a caller sees it, in a file of `whole` bytes
abbrev pub seen : ℕ → Found → Seen
seen whole found =
    record { board = found.board; algorithms = found.algorithms; image = found.job.image; snapshot_at = whole - length found.job.snapshot }

abbrev pub seen_of : ℕ → Result Found ℕ → Result Seen ℕ
seen_of whole (Ok found) = Ok (seen whole found)
seen_of whole (Err at) = Err at
