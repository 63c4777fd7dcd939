-- What a file in memory keeps of its past, and which files a stop may leave.
use Rattle.std.specs.Prelude.{◌<◌, ◌≤◌, ◌+◌, ◌≡◌, ◌⊎◌, ℕ, List, [], ◌∷◌, length, take, max, min, slice_index}
use Rattle.bench_model.specs.Calls.{written}

-- the file as a read gives it and as the last sync left it, its least and greatest length since that sync, and the ranges (place, length)
-- written since then
pub record Kept : Type 0 where
  pub file : List ℕ
  pub synced : List ℕ
  pub least : ℕ
  pub greatest : ℕ
  pub ranges : List (ℕ × ℕ)

abbrev pub all_synced : List ℕ → Kept
all_synced file = record { file = file; synced = file; least = length file; greatest = length file; ranges = [] }

abbrev pub after_write : ℕ → List ℕ → Kept → Kept
after_write at bytes k = record k {
  file = written at bytes k.file;
  greatest = max k.greatest (at + length bytes);
  ranges = (at, length bytes) ∷ k.ranges;
}

abbrev pub after_cut : ℕ → Kept → Kept
after_cut len k = record k { file = take len k.file; least = min k.least len }

-- a place is in one of the written ranges
abbrev pub IsWritten : List (ℕ × ℕ) → ℕ → Type 0
IsWritten [] i = ⊥
IsWritten (range ∷ ranges) i = ((range.0 ≤ i) × (i < range.0 + range.1)) ⊎ IsWritten ranges i

-- a byte is pending: it was written since the last sync, or is at or past the least length since then
abbrev pub IsPending : Kept → ℕ → Type 0
IsPending k i = IsWritten k.ranges i ⊎ (k.least ≤ i)

-- a stop may leave this file. Its length is any from the least to the greatest since the last sync. Pending bytes are any bytes, and all
-- others are as that sync left them.
pub record IsLeft (k : Kept) (f : List ℕ) : Type 0 where
  pub no_shorter : k.least ≤ length f
  pub no_longer : length f ≤ k.greatest
  pub same : (i : ℕ) → i < k.least → (IsWritten k.ranges i → ⊥) → slice_index f i ≡ slice_index k.synced i

-- the longest file that a stop may leave, with one value at all pending bytes
pub record IsFilled (value : ℕ) (k : Kept) (f : List ℕ) : Type 0 where
  pub long : length f ≡ k.greatest
  pub pending : (i : ℕ) → i < k.greatest → IsPending k i → slice_index f i ≡ value
  pub same : (i : ℕ) → i < k.least → (IsWritten k.ranges i → ⊥) → slice_index f i ≡ slice_index k.synced i
