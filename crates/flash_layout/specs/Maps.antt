-- The map of a flash device: the controller's kind, where everything lies, and how long operations take.
use Rattle.std.specs.Prelude.{ℕ, Bool, ◌-◌, ◌&&◌, nat_le, nat_lt, List}
use Rattle.std.specs.List.{list_any}
use Rattle.board_file.specs.declared.kind.ControllerKind.{ControllerKind}
use Rattle.board_file.specs.declared.quiet.QuietRange.{QuietRange}
use Rattle.board_file.specs.declared.sectors.SectorRun.{SectorRun}
use Rattle.board_file.specs.Kinds.{block_of}
use Rattle.board_file.specs.Shown.{Shown}
use Rattle.flash_layout.specs.declared.area.Area.{Area}
use Rattle.flash_layout.specs.declared.flash_map.FlashMap as code
use Rattle.flash_layout.specs.Areas.{areas_of, runs_of}

-- A map has the controller's kind, the areas, the sectors of all areas, the address of the controller's registers and the bytes of their
-- block. It also has the ticks to program a unit, erase a sector and erase an area, and the quiet ranges.
pub record FlashMap : Type 0 where
  pub kind : ControllerKind
  pub areas : List Area
  pub runs : List SectorRun
  pub base : ℕ
  pub block : ℕ
  pub program_ticks : ℕ
  pub erase_ticks : ℕ
  pub chip_ticks : ℕ
  pub quiet : List QuietRange

-- a map of the code as a map of the specs
abbrev pub map_of : code.FlashMap → FlashMap
map_of l = record {
  kind = l.kind;
  areas = l.areas.items;
  runs = l.runs.items;
  base = l.base;
  block = l.block;
  program_ticks = l.program_ticks;
  erase_ticks = l.erase_ticks;
  chip_ticks = l.chip_ticks;
  quiet = l.quiet.items;
}

-- the map of a board's parts
abbrev pub board_map : Shown → FlashMap
board_map b = record {
  kind = b.kind;
  areas = areas_of b.regions;
  runs = runs_of b.regions;
  base = b.controller_base;
  block = block_of b.kind;
  program_ticks = b.program_ticks;
  erase_ticks = b.erase_ticks;
  chip_ticks = b.chip_ticks;
  quiet = b.quiet;
}

-- the address lies in one of these quiet ranges
abbrev pub in_quiet : List QuietRange → ℕ → Bool
in_quiet ranges at = list_any (λ (q : QuietRange). nat_le q.base at && nat_lt (at - q.base) q.size) ranges
