-- The parts of a job: everything but the snapshot.
use Rattle.std.specs.Prelude.{◌≡◌, ◌<◌, ◌^◌, ℕ, List, [], ◌∷◌, ◌++◌, length, take, drop, replicate, option_copied, Option, Some, None}
use Rattle.std.specs.List.{concat, flat_map}
use Rattle.sha2.specs.Sha256.{sha256}
use Rattle.board_file.specs.Shown as board
use Rattle.board_file.specs.Limits.{size_of}
use Rattle.board_file.specs.Text.{IsBoard}
use Rattle.flm_descriptor.specs.Shown as flm
use Rattle.job_text.specs.declared.format.Format.TheVariants.{Second}
use Rattle.job_text.specs.Fits.{Suits}
use Rattle.job_text.specs.Body.{Job, second_mark, field, flm_len, run_text}
use Rattle.job_text.specs.Jobs.{AreFlms}
use Rattle.job_text.specs.declared.parts.JobParts.{JobParts}

-- the FLM files: one, or two
abbrev pub files_with : List ℕ → Option (List ℕ) → List (List ℕ)
files_with first None = first ∷ []
files_with first (Some second) = first ∷ second ∷ []

abbrev pub flms_of : JobParts → List (List ℕ)
flms_of parts = files_with parts.flm.now (option_copied parts.second)

-- the job with these parts and this snapshot
abbrev pub job_of : JobParts → List ℕ → Job
job_of parts snapshot = record { format = Second; board = parts.board.now; flms = flms_of parts; image = parts.image.now; snapshot = snapshot }

-- the parts suit one another: with any snapshot of `size` cells they make a job
pub record AreParts (parts : JobParts) : Type 0 where
  pub board : board.Shown
  pub algorithms : List flm.Shown
  pub is_board : IsBoard parts.board.now board
  pub are_algorithms : AreFlms (flms_of parts) algorithms
  pub suits : Suits board algorithms parts.image.now
  pub size : size_of board.regions ≡ parts.size
  pub short_board : length parts.board.now < 2 ^ 32
  pub short_first : length parts.flm.now < 2 ^ 32
  pub short_second : flm_len (flms_of parts) 1 < 2 ^ 32

-- the six lengths of a body, from the parts
abbrev pub lengths_of : JobParts → List ℕ
lengths_of parts = field (length parts.board.now) ++ field (length (flms_of parts)) ++ field (flm_len (flms_of parts) 0) ++ field (flm_len (flms_of parts) 1)
    ++ field (length parts.image.now) ++ field parts.size

-- the head of a body as first written: the mark, zeros in the place of the hash, and the six lengths
abbrev pub head_of_parts : JobParts → List ℕ
head_of_parts parts = second_mark ++ replicate 32 0 ++ lengths_of parts

-- everything before the snapshot, as first written
abbrev pub front_of : JobParts → List ℕ
front_of parts = head_of_parts parts ++ parts.board.now ++ concat (flms_of parts) ++ flat_map run_text parts.image.now

-- a body with its hash put in place
abbrev pub with_hash : List ℕ → List ℕ
with_hash blank = take 7 blank ++ (sha256 (drop 39 blank) ++ drop 39 blank)
