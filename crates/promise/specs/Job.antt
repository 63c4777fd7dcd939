-- A job, and the cells that it must leave.
use Rattle.std.specs.Prelude.{◌≡◌, ◌<◌, ℕ, List, length, get_or, Some, unwrap_or}
use Rattle.board_file.specs.declared.region.Region.{Region}
use Rattle.byte_map.specs.Image.{Run, byte_at}
use Rattle.job_text.specs.Laid.{address_at, overlaid}
use Rattle.campaign.specs.Stops.{CampaignJob}

-- A job as the promise sees it: the bytes of its body, which follow byte 0 in a job file; the regions of its board; the wanted image; and
-- the cells when the job began.
pub record Job : Type 0 where
  pub body : List ℕ
  pub regions : List Region
  pub image : List Run
  pub snapshot : List ℕ

-- The cells that a job must leave: its image laid over its snapshot.
abbrev pub laid : Job → List ℕ
laid job = overlaid job.image job.regions job.snapshot

-- A job as all calls of a campaign share it: its body, the cells that it must leave, and its snapshot.
abbrev pub campaign_job : Job → CampaignJob
campaign_job job = record { body = job.body; laid = laid job; snapshot = job.snapshot }

-- What it means to lay an image over cells: each cell becomes the image's byte at its address, and stays where the image has none.
abbrev pub EachCellIsLaid : Type 0
EachCellIsLaid = (image : List Run) (regions : List Region) (cells : List ℕ) (place at : ℕ) → place < length cells
    → address_at regions place ≡ Some at
    → get_or (overlaid image regions cells) place 0 ≡ unwrap_or (byte_at image at) (get_or cells place 0)

-- An image laid over cells leaves as many cells as before.
abbrev pub SizeStays : Type 0
SizeStays = (image : List Run) (regions : List Region) (cells : List ℕ) → length (overlaid image regions cells) ≡ length cells
