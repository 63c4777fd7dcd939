-- String tables: sequences of bytes, each ended by a zero byte (System V ABI, chapter 4, "String Table").
use Rattle.std.specs.Prelude.{◌≡◌, ◌≢◌, ℕ, ◌-◌, ◌==◌, ◌<◌, ◌≤◌, nat_lt, Bool, false, List, [], length, drop, slice_index, Option, Some, None, MatchOption}
use Rattle.std.specs.Prelude.{if◌then◌else◌}
use Rattle.std.specs.List.{before_first, position_or_len}
use Rattle.std.specs.Str.{bytes_eq}
use Rattle.std.specs.Borrow.{Bor}

abbrev pub is_zero : ℕ → Bool
is_zero byte = byte == 0

-- the string at a place of a table: the bytes up to the next zero byte; there is none without such a byte
unfoldable pub string_at : List ℕ → ℕ → Option (List ℕ)
string_at table at =
    if nat_lt (position_or_len is_zero (drop at table)) (length (drop at table))
    then Some (before_first is_zero (drop at table))
    else None

-- the name at a place of a string table; without a table every name is empty
abbrev pub name_in : Option (List ℕ) → ℕ → Option (List ℕ)
name_in None at = Some []
name_in (Some table) at = string_at table at

-- whether there is a string that is this name
abbrev pub is_name : List ℕ → Option (List ℕ) → Bool
is_name name None = false
is_name name (Some text) = bytes_eq name text

-- `ended` is the place after the last zero byte of a table, or 0 where there is none
pub record EndsAt (table : List ℕ) (ended : ℕ) : Type 0 where
  pub within : ended ≤ length table
  pub zero : 0 < ended → slice_index table (ended - 1) ≡ 0
  pub beyond : (k : ℕ) → ended ≤ k → k < length table → slice_index table k ≢ 0

-- there is a string longer than a limit
abbrev pub IsLonger : ℕ → Option (List ℕ) → Type 0
IsLonger limit None = ⊥
IsLonger limit (Some text) = limit < length text

-- the string is lent, or none where it is longer than the limit
abbrev pub IsWithin : ℕ → Option (List ℕ) → Option (Bor (List ℕ)) → Type 0
IsWithin limit text lent = MatchOption lent (IsLonger limit text) (λ found. (text ≡ Some found.now) × (length found.now ≤ limit))
