-- What a board's text says of each kind of flash controller: its name, the bytes of its block of registers, and the numbers that it takes.
use Rattle.std.specs.Prelude.{◌+◌, ℕ, List, codes, nat_le, nat_eq, Bool, true, Option, Some, None, if◌then◌else◌}
use Rattle.std.specs.Str.{bytes_eq}
use Rattle.board_file.specs.declared.kind.ControllerKind.{ControllerKind}
use Rattle.board_file.specs.declared.kind.ControllerKind.TheVariants as kind
use Rattle.board_file.specs.declared.key.Key.{Key}
use Rattle.board_file.specs.declared.key.Key.TheVariants as key
use Rattle.board_file.specs.Table.{addresses}

-- the kind of controller with this name
abbrev pub kind_named : List ℕ → Option ControllerKind
kind_named name = if bytes_eq name (codes "fc1") then Some kind.Fc1 else if bytes_eq name (codes "fpec") then Some kind.Fpec else None

-- how many bytes the registers of a flash controller have
abbrev pub block_of : ControllerKind → ℕ
block_of kind.Fc1 = 32
block_of kind.Fpec = 64

-- whether a kind of controller takes this number at a key of a region: FPEC programs halfwords, and erases to ones
abbrev pub takes_of_region : ControllerKind → Key → ℕ → Bool
takes_of_region kind.Fpec key.RegionEmpty n = nat_eq n 255
takes_of_region kind.Fpec key.RegionUnit n = nat_eq n 2
takes_of_region _ _ n = true

-- whether a kind of controller takes this number at a key: of a region, or a base whose block ends by the last address
abbrev pub takes : ControllerKind → Key → ℕ → Bool
takes c key.ControllerBase n = nat_le (n + block_of c) addresses
takes c k n = takes_of_region c k n
