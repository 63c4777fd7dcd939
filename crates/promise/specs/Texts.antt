-- What the bytes of a job in a job file say, and what the files of a command say. The formats of a job's body, a board and an image file
-- are defined in the specs that are imported here.
use Rattle.std.specs.Prelude.{◌≡◌, ◌-◌, ℕ, List, [], ◌∷◌, ◌++◌, length, take, drop, Option, option_to_list, Some}
use Rattle.board_file.specs.Shown as board
use Rattle.board_file.specs.Text.{IsBoard}
use Rattle.job_text.specs.Body as written
use Rattle.image_more.specs.Files.{IsUnionBefore}
use Rattle.command_words.specs.Files.{FilesAsked}
use Rattle.promise.specs.Job.{Job}

-- The body of a job describes its board, its image and its snapshot, and is the body of no other job.
pub record SaysJob (job : Job) : Type 0 where
  pub text : written.Job
  pub board : board.Shown
  pub body_is : job.body ≡ written.body_of text
  pub has_fields : written.HasFields text
  pub is_board : IsBoard text.board board
  pub regions_are : job.regions ≡ board.regions
  pub image_is : job.image ≡ text.image
  pub snapshot_is : job.snapshot ≡ text.snapshot

-- These files are the ones under these names, in order.
abbrev pub StandUnder : (List ℕ → Option (List ℕ)) → List (List ℕ) → List (List ℕ) → Type 0
StandUnder file_under [] [] = Unit {0}
StandUnder file_under (name ∷ names) (file ∷ files) = (file_under name ≡ Some file) × StandUnder file_under names files
StandUnder file_under _ _ = ⊥

-- The job is that of a command's files. Its board is the file under the first name, and the next names give an FLM file for each region.
-- Its image is the union of the images under the other names.
pub record IsOfFiles (file_under : List ℕ → Option (List ℕ)) (asked : FilesAsked) (job : Job) : Type 0 where
  pub says : SaysJob job
  pub board : file_under asked.board ≡ Some says.text.board
  pub algorithms : StandUnder file_under (option_to_list asked.flm ++ take (length says.board.regions - 1) asked.images) says.text.flms
  pub images : List (List ℕ)
  pub others : StandUnder file_under (drop (length says.board.regions - 1) asked.images) images
  pub union : IsUnionBefore asked.raw_at images (length images) job.image
