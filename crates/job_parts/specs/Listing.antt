-- The listing of a job, line by line.
use Rattle.std.specs.Prelude.{◌≡◌, ◌-◌, ℕ, List, [], ◌∷◌, ◌++◌, length, map, codes}
use Rattle.std.specs.List.{concat, flat_map}
use Rattle.sha2.specs.Sha256.{sha256}
use Rattle.octets.specs.Digit.{hex_text}
use Rattle.byte_map.specs.Image.{Run, run_at, end_of}
use Rattle.board_file.specs.Shown as board
use Rattle.flm_descriptor.specs.Shown as flm
use Rattle.flm_descriptor.specs.declared.device.Device.{Device}
use Rattle.job_text.specs.declared.format.Format.{Format}
use Rattle.job_text.specs.declared.format.Format.TheVariants.{First, Second}
use Rattle.job_text.specs.Body.{Job}
use Rattle.report_text.specs.Job.{job_text}
use Rattle.report_text.specs.Lines.{hash_text}
use Rattle.report_text.specs.Inspection.{inspection_text}
use Rattle.job_parts.specs.Board.{board_text}
use Rattle.job_parts.specs.declared.listing.Survey.{Survey}

-- the lines for the format and the hash. The first format has no hash. A file of the second stands for a job only where its hash is right.
unfoldable pub format_text : Format → List ℕ
format_text First = codes "format 1\nhash none\n"
format_text Second = codes "format 2\nhash right\n"

-- the bytes of an image, in the order of their addresses
abbrev pub bytes_of : List Run → List ℕ
bytes_of image = flat_map (λ (r : Run). r.bytes) image

-- the line for the first and the last address of an image
unfoldable pub span_line : List Run → List ℕ
span_line image = concat (codes "first " ∷ hex_text 8 (run_at image 0).at ∷ codes " last " ∷ hex_text 8 (end_of (run_at image (length image - 1)) - 1)
    ∷ codes "\n" ∷ [])

-- the line for a SHA-256, two digits a byte
unfoldable pub hash_line : List ℕ → List ℕ → List ℕ
hash_line what hash = (what ++ codes "sha256 ") ++ hash_text hash ++ codes "\n"

abbrev pub devices_of : List flm.Shown → List Device
devices_of algorithms = map (λ (algorithm : flm.Shown). algorithm.device) algorithms

-- The whole listing: the devices and the image as `status` prints them, the format, the board, and each algorithm as `inspect` prints it.
-- Then come the first and last address of the image, and two hashes.
unfoldable pub listing_of : Format → List Run → List ℕ → List ℕ → board.Shown → List flm.Shown → List ℕ
listing_of format image of_image of_snapshot b algorithms =
    job_text (devices_of algorithms) image
    ++ format_text format
    ++ board_text b
    ++ flat_map inspection_text algorithms
    ++ span_line image
    ++ hash_line (codes "image ") of_image
    ++ hash_line (codes "snapshot ") of_snapshot

-- the listing of a job, with the hashes of the image's bytes and of the snapshot
abbrev pub listing_text : Job → board.Shown → List flm.Shown → List ℕ
listing_text j b algorithms = listing_of j.format j.image (sha256 (bytes_of j.image)) (sha256 j.snapshot) b algorithms

-- what was read of a job before its listing is put
pub record IsSurvey (j : Job) (survey : Survey) : Type 0 where
  pub format : survey.format ≡ j.format
  pub image : survey.image ≡ sha256 (bytes_of j.image)
  pub snapshot : survey.snapshot ≡ sha256 j.snapshot
