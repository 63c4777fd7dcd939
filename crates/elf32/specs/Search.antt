-- The least number that passes a test.
use Rattle.std.specs.Prelude.{◌≡◌, ◌<◌, ℕ, Bool, true, false, Option, find}
use Rattle.std.specs.List.{range_with_len}

-- the least number below `n` that passes the test
unfoldable pub first_below : (ℕ → Bool) → ℕ → Option ℕ
first_below test n = find test (range_with_len 0 n)

-- a number below `n` passes the test, and none before it does
pub record IsLeast (test : ℕ → Bool) (n i : ℕ) : Type 0 where
  pub below : i < n
  pub passes : test i ≡ true
  pub before : (k : ℕ) → k < i → test k ≡ false
