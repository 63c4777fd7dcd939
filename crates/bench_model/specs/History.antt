-- What a stop (a loss of power) may leave of one half of a bench, its file or its cells, at each moment up to now.
use Rattle.std.specs.Prelude.{◌≤◌, ◌↔◌, ◌≡◌, ℕ, List}

-- One half of a bench: the present moment, and what a stop at each moment up to it may leave. A list is the bytes of the file, or the
-- cells.
pub record Half : Type 1 where
  pub now : ℕ
  pub at : ℕ → List ℕ → Type 0

-- what a stop at this moment may leave
abbrev pub left : Half → List ℕ → Type 0
left h = h.at h.now

-- a stop at this moment leaves only this list: nothing is pending, or no operation is open
abbrev pub LeftOnly : List ℕ → Half → Type 0
LeftOnly x h = (y : List ℕ) → left h y → y ≡ x

-- time has passed, and what a stop might have left at an earlier moment is unchanged
pub record GoesOn (old new : Half) : Type 0 where
  pub later : old.now ≤ new.now
  pub past : (k : ℕ) (x : List ℕ) → k ≤ old.now → new.at k x ↔ old.at k x

-- a stop at any moment from `old` to `new` leaves only lists with the property P
pub record Leaves (old new : Half) (P : List ℕ → Type 0) : Type 0 where
  pub goes_on : GoesOn old new
  pub each : (k : ℕ) (x : List ℕ) → old.now ≤ k → k ≤ new.now → new.at k x → P x

-- a stop at any moment from `old` to `new` leaves only what a stop at `old` may leave
abbrev pub AddsNothing : Half → Half → Type 0
AddsNothing old new = Leaves old new (left old)

-- a stop at any moment from `old` to `new` leaves exactly what a stop at `old` may leave
pub record Stays (old new : Half) : Type 0 where
  pub goes_on : GoesOn old new
  pub same : (k : ℕ) (x : List ℕ) → old.now ≤ k → k ≤ new.now → new.at k x ↔ left old x
