-- How long the texts of a job are, and where they are in its file.
use Rattle.std.specs.Prelude.{◌≡◌, ◌+◌, ℕ, length}
use Rattle.job_text.specs.Body.{Job, flm_len}
use Rattle.job_text.specs.Reading.{places_of}
use Rattle.job_parts.specs.declared.part.Place.{Place}
use Rattle.job_parts.specs.declared.part.Place.TheVariants as place
use Rattle.job_parts.specs.declared.lengths.Lengths.{Lengths}

-- the format of a job, and the lengths of its texts
pub record AreLengths (j : Job) (lengths : Lengths) : Type 0 where
  pub format : lengths.format ≡ j.format
  pub board : lengths.board ≡ length j.board
  pub first : lengths.first ≡ flm_len j.flms 0
  pub second : lengths.second ≡ flm_len j.flms 1

-- where the texts of a job begin in its file; the board's is the first
abbrev pub front_of : Lengths → ℕ
front_of lengths = (places_of lengths.format).front

-- where the FLM file of a region begins, and how many bytes it has
abbrev pub flm_at : Lengths → Place → ℕ
flm_at lengths place.First = front_of lengths + lengths.board
flm_at lengths place.Second = front_of lengths + lengths.board + lengths.first

abbrev pub flm_size : Lengths → Place → ℕ
flm_size lengths place.First = lengths.first
flm_size lengths place.Second = lengths.second
