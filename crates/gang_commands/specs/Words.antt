-- The words of a gang.
use Rattle.std.specs.Prelude.{◌≡◌, ◌≢◌, ◌≤◌, ◌%◌, ◌*◌, ℕ}

-- The words are pairs of a job file and a cells file, one pair for each bench. There are some, their number is even and at most 32, and it
-- is twice the number of benches.
pub record DoFit (words benches : ℕ) : Type 0 where
  pub some : words ≢ 0
  pub even : words % 2 ≡ 0
  pub few : words ≤ 32
  pub twice : words ≡ 2 * benches
