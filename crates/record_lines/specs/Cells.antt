-- The bytes of records as cells, each an address with its byte.
use Rattle.std.specs.Prelude.{◌≡◌, ◌+◌, ◌^◌, ℕ, ◌==◌, List, [], ◌∷◌, Option, Some, None, if◌then◌else◌}
use Rattle.std.specs.List.{All}
use Rattle.byte_map.specs.Image.{Run, byte_at, AreMaximal}

pub record Cell : Type 0 where
  pub at : ℕ
  pub byte : ℕ

-- the byte that some cells have at an address
abbrev pub held : List Cell → ℕ → Option ℕ
held [] a = None
held (cell ∷ cells) a = if a == cell.at then Some cell.byte else held cells a

-- no two of these cells have unequal bytes at one address
abbrev pub AreConsistent : List Cell → Type 0
AreConsistent cells = All (λ cell. held cells cell.at ≡ Some cell.byte) cells

-- bytes as cells at rising addresses, the first one at `at`
abbrev pub cells_from : ℕ → List ℕ → List Cell
cells_from at [] = []
cells_from at (byte ∷ bytes) = record { at = at; byte = byte } ∷ cells_from (at + 1) bytes

-- a clash: two unequal bytes at one address
pub record Clash : Type 0 where
  pub at : ℕ
  pub old : ℕ
  pub new : ℕ

-- the clash of a cell with the byte that its address already has, or else the clash of a later cell
abbrev pub clash_with : Option ℕ → Cell → Option Clash → Option Clash
clash_with None cell later = later
clash_with (Some old) cell later = if old == cell.byte then later else Some (record { at = cell.at; old = old; new = cell.byte })

-- the first of some cells, in their order, whose address already has another byte in `before`
abbrev pub first_clash : List Cell → List Cell → Option Clash
first_clash before [] = None
first_clash before (cell ∷ cells) = clash_with (held before cell.at) cell (first_clash before cells)

-- an image, as maximal runs, that has the bytes of some cells and no other
pub record IsImageOf (cells : List Cell) (image : List Run) : Type 0 where
  pub maximal : AreMaximal 0 (2 ^ 32) image
  pub same : (a : ℕ) → byte_at image a ≡ held cells a
