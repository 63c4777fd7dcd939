-- What the readers of a job file on a bench return, compared with the definitions of the format.
use Rattle.std.specs.Prelude.{◌≡◌, ◌≢◌, ◌⊎◌, ◌≤◌, ◌<◌, ◌+◌, ◌^◌, ◌==◌, ◌||◌, ℕ, Bool, true, false, not, IsTrue, List, [], ◌∷◌, ◌++◌, length, take, drop, get_or}
use Rattle.std.specs.Prelude.{slice_get, nat_lt, nat_le, nat_eq, bytes_eq, Option, Some, None, Result, Ok, Err}
use Rattle.std.specs.List.{concat, flat_map}
use Rattle.faults.specs.Results.{◌>>=◌}
use Rattle.byte_map.specs.Image.{Run, addresses}
use Rattle.board_file.specs.declared.region.Region.{Region}
use Rattle.board_file.specs.Limits.{size_of}
use Rattle.board_file.specs.Shown as board
use Rattle.board_file.specs.Text as board_text
use Rattle.flm_descriptor.specs.declared.algorithm.Algorithm.{Algorithm}
use Rattle.flm_descriptor.specs.Shown as flm
use Rattle.flm_descriptor.specs.Flm.{flm_of}
use Rattle.job_text.specs.declared.format.Format.{Format}
use Rattle.job_text.specs.declared.format.Format.TheVariants.{First, Second}
use Rattle.job_text.specs.declared.head.Head.{Head}
use Rattle.job_text.specs.declared.head.Places.{Places}
use Rattle.job_text.specs.declared.damage.Damage.{Damage}
use Rattle.job_text.specs.declared.job.Job as code
use Rattle.job_text.specs.Body.{Job, first_mark, field, flm_len, run_text, hashed_of, body_of}
use Rattle.job_text.specs.Jobs.{IsJob, AreFlms}
use Rattle.job_text.specs.Said.{algorithms_shown}
use Rattle.job_text.specs.Stands.{snapshot_in}
use Rattle.job_text.specs.Runs.{run_of}
use Rattle.job_text.specs.Files.{open_gate, IsFree}
use Rattle.job_text.specs.Reading as reading
use Rattle.job_text.specs.Reading.{holds_or, read_or, text_at, head_at, places_of, are_files, covers, run_at}
use Rattle.job_file.specs.declared.fault.ReadFault.{ReadFault}
use Rattle.job_file.specs.declared.fault.ReadFault.TheVariants.{OutOfMemory, StoreFault, NotAJob}
use Rattle.job_file.specs.declared.texts.Said.{Said}

-- memory ran out or the store failed, so the fault says nothing about the file
abbrev pub IsNoVerdict : ReadFault → Type 0
IsNoVerdict OutOfMemory = Unit {0}
IsNoVerdict StoreFault = Unit {0}
IsNoVerdict (NotAJob at) = ⊥

-- the result of a reader, mapped by `view`, is what the definitions read, unless memory ran out or the store failed
abbrev pub Fails : {Y : Type 0} → ReadFault → Result Y ℕ → Type 0
Fails OutOfMemory read = Unit {0}
Fails StoreFault read = Unit {0}
Fails (NotAJob at) read = read ≡ Err at

abbrev pub Gives : {X Y : Type 0} → (X → Y) → Result X ReadFault → Result Y ℕ → Type 0
Gives view (Ok x) read = read ≡ Ok (view x)
Gives view (Err e) read = Fails e read

-- the head of a format, from the body after the gate; the file has `whole` bytes
abbrev pub head_read : ℕ → Format → List ℕ → Result (Head × List ℕ) ℕ
head_read whole format body = holds_or whole (nat_le (places_of format).front whole) >>= λ long. head_at whole format body

-- the board in the text of `len` bytes at offset `at`, and the algorithm in the FLM file of `len` bytes at that offset
abbrev pub board_read : ℕ → ℕ → ℕ → List ℕ → Result board.Shown ℕ
board_read whole at len bytes = text_at whole len bytes >>= λ b. read_or at (board_text.reading b.0)

abbrev pub algorithm_read : ℕ → ℕ → ℕ → List ℕ → Result flm.Shown ℕ
algorithm_read whole at len bytes = text_at whole len bytes >>= λ f. read_or at (flm_of f.0)

-- the FLM file of `len` bytes at offset `at` of a file, with the algorithm that it describes
abbrev pub file_there : List ℕ → ℕ → ℕ → Algorithm → reading.File
file_there file at len a = record { text = take len (drop at file); algorithm = flm.shown a }

abbrev pub second_there : List ℕ → ℕ → ℕ → Option Algorithm → Option reading.File
second_there file at len None = None
second_there file at len (Some a) = Some (file_there file at len a)

-- the texts of a file, with the board and the algorithms that they describe
abbrev pub texts_there : List ℕ → Places → Head → Said → reading.Texts
texts_there file places head s = record {
  board_text = take head.board (drop places.front file);
  board = board.shown s.board;
  first = file_there file (places.front + head.board) head.first s.first;
  second = second_there file (places.front + head.board + head.first) head.second s.second;
}

-- there is one FLM file and no second algorithm, or the second algorithm fits the second region
abbrev pub SecondFits : board.Shown → ℕ → Option Algorithm → Type 0
SecondFits b files None = files ≡ 1
SecondFits b files (Some a) = (files ≢ 1) × IsTrue (reading.fits_in b (slice_get b.regions 1) (flm.shown a))

-- the checks on the number of FLM files: it is the number of regions of the board, and with one file the second length is 0
abbrev pub files_checked : Places → Head → ℕ → Result (Unit {0}) ℕ
files_checked places head regions =
    holds_or places.files (are_files head.files regions) >>= λ files. holds_or places.second (not (nat_eq head.files 1) || nat_eq head.second 0)

abbrev pub CountsFiles : {T : Type 0} → Places → Head → ℕ → Result T ReadFault → Type 0
CountsFiles places head regions (Ok x) = IsTrue (are_files head.files regions) × IsTrue (not (nat_eq head.files 1) || nat_eq head.second 0)
CountsFiles places head regions (Err OutOfMemory) = ⊥
CountsFiles places head regions (Err StoreFault) = ⊥
CountsFiles places head regions (Err (NotAJob at)) = files_checked places head regions ≡ Err at

-- the head has as many cells as the regions and at least one run, or the offset of the wrong number is the error
abbrev pub counts_checked : Places → Head → ℕ → Result (Unit {0}) ℕ
counts_checked places head size = holds_or places.cells (head.cells == size) >>= λ sized. holds_or places.runs (nat_lt 0 head.runs)

abbrev pub Counts : {T : Type 0} → Places → Head → ℕ → Result T ReadFault → Type 0
Counts places head size (Ok x) = (head.cells ≡ size) × (1 ≤ head.runs)
Counts places head size (Err OutOfMemory) = ⊥
Counts places head size (Err StoreFault) = ⊥
Counts places head size (Err (NotAJob at)) = counts_checked places head size ≡ Err at

-- for each format: the offset of the lengths in a body, the length of a head (mark, hash and lengths), and the lengths as text
abbrev pub lengths_at : Format → ℕ
lengths_at First = 7
lengths_at Second = 39

abbrev pub head_len : Format → ℕ
head_len First = 23
head_len Second = 63

abbrev pub lengths_text : Format → Head → List ℕ
lengths_text First h = field h.board ++ (field h.first ++ (field h.runs ++ field h.cells))
lengths_text Second h = field h.board ++ (field h.files ++ (field h.first ++ (field h.second ++ (field h.runs ++ field h.cells))))

-- fields that a format leaves out: the first format has its mark, one FLM file, and a second length of 0
abbrev pub IsUnwritten : Format → List ℕ → Head → Type 0
IsUnwritten First bytes h = (take 7 bytes ≡ first_mark) × (h.files ≡ 1) × (h.second ≡ 0)
IsUnwritten Second bytes h = Unit {0}

-- the bytes are those of this head
pub record IsHeadOf (format : Format) (h : Head) (bytes : List ℕ) : Type 0 where
  pub rest : IsUnwritten format bytes h
  pub text : drop (lengths_at format) bytes ≡ lengths_text format h
  pub board : h.board < 2 ^ 32
  pub first : h.first < 2 ^ 32
  pub second : h.second < 2 ^ 32

-- after the head, the file holds the rest of a job, and it is this job in memory
pub record IsJobRest (job : code.Job) (format : Format) (file : List ℕ) (head : Head) : Type 0 where
  pub text : List ℕ
  pub flms : List (List ℕ)
  pub parts : drop (places_of format).front file ≡ text ++ (concat flms ++ (flat_map run_text job.image ++ snapshot_in job file))
  pub is_board : board_text.IsBoard text (board.shown job.board)
  pub are_flms : AreFlms flms (algorithms_shown job.algorithms)
  pub few : (length flms ≡ 1) ⊎ (length flms ≡ 2)
  pub board_len : length text ≡ head.board
  pub files_len : length flms ≡ head.files
  pub first_len : flm_len flms 0 ≡ head.first
  pub second_len : flm_len flms 1 ≡ head.second
  pub runs_len : length job.image ≡ head.runs
  pub cells_len : length (snapshot_in job file) ≡ head.cells
  pub sized : head.cells ≡ size_of job.board.regions

-- the body is that of the job; for the second format, all of it but the mark and the hash is compared
abbrev pub IsBodyOf : Format → List ℕ → Job → Type 0
IsBodyOf First body j = body ≡ body_of j
IsBodyOf Second body j = drop 39 body ≡ hashed_of j

-- the body is that of a job, and it is this job in memory
pub record IsJobBody (job : code.Job) (format : Format) (body file : List ℕ) : Type 0 where
  pub text : Job
  pub format_is : text.format ≡ format
  pub is : IsJob text (board.shown job.board) (algorithms_shown job.algorithms)
  pub whole : IsBodyOf format body text
  pub image : text.image ≡ job.image
  pub snapshot : text.snapshot ≡ snapshot_in job file

-- whether the gate is open: the file has more than one byte, and byte 0 is the open gate
abbrev pub IsGate : List ℕ → Bool → Type 0
IsGate file true = (1 < length file) × (get_or file 0 0 ≡ open_gate)
IsGate file false = IsFree file

-- the run begins at `low` or above it, isn't empty, lies in the regions, and ends within the file of `whole` bytes
pub record IsPlaced (whole : ℕ) (regions : List Region) (low at place len : ℕ) : Type 0 where
  pub rises : low ≤ place
  pub some : 1 ≤ len
  pub inside : place + len ≤ addresses
  pub covered : IsTrue (covers regions place (place + len))
  pub within : at + 8 + len ≤ whole

-- a run of `len` bytes was added at the end of an image; where the bench tells, they are the file's bytes from offset `from` on
pub record IsLaid (tells : Bool) (file : List ℕ) (from place len : ℕ) (old new : List Run) : Type 0 where
  pub bytes : List ℕ
  pub long : length bytes ≡ len
  pub stand : IsTrue tells → bytes ≡ take len (drop from file)
  pub added : new ≡ old ++ run_of place bytes ∷ []

-- the run at offset `at` of the file was added at the end of an image
pub record AddsRun (tells : Bool) (file : List ℕ) (whole : ℕ) (regions : List Region) (low at : ℕ) (old new : List Run) (place len : ℕ) : Type 0 where
  pub bytes : List ℕ
  pub long : length bytes ≡ len
  pub said : IsTrue tells → run_at whole regions low (drop at file) ≡ Ok (run_of place bytes, drop (at + 8 + len) file)
  pub text : IsTrue tells → drop at file ≡ run_text (run_of place bytes) ++ drop (at + 8 + len) file
  pub added : new ≡ old ++ run_of place bytes ∷ []
  pub placed : IsPlaced whole regions low at place len

-- the two hashes with the proof that they differ, or none where they are the same
abbrev pub AreHashes : List ℕ → List ℕ → Option Damage → Type 0
AreHashes kept found None = bytes_eq kept found ≡ true
AreHashes kept found (Some damage) = (damage.kept ≡ kept) × (damage.found ≡ found) × (bytes_eq kept found ≡ false)

-- where damage was found, the two hashes differ
abbrev pub Differs : Option Damage → Type 0
Differs None = Unit {0}
Differs (Some damage) = damage.kept ≢ damage.found
