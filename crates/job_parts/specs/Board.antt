-- The text of a board that was read.
use Rattle.std.specs.Prelude.{ℕ, List, [], ◌∷◌, ◌++◌, codes, decimal}
use Rattle.std.specs.List.{concat, flat_map}
use Rattle.octets.specs.Digit.{hex_text}
use Rattle.board_file.specs.Shown.{Shown}
use Rattle.board_file.specs.declared.kind.ControllerKind.{ControllerKind}
use Rattle.board_file.specs.declared.kind.ControllerKind.TheVariants.{Fc1, Fpec}
use Rattle.board_file.specs.declared.quiet.QuietRange.{QuietRange}
use Rattle.board_file.specs.declared.region.Region.{Region}
use Rattle.board_file.specs.declared.sectors.SectorRun.{SectorRun}

-- the line for the RAM: its base and size, and the bytes of the stack
unfoldable pub ram_line : Shown → List ℕ
ram_line b = concat (codes "ram " ∷ hex_text 8 b.ram_base ∷ codes " " ∷ decimal b.ram_size ∷ codes " stack " ∷ decimal b.stack ∷ codes "\n" ∷ [])

-- the name of a kind of controller in a board's text
abbrev pub kind_word : ControllerKind → List ℕ
kind_word Fc1 = codes "fc1"
kind_word Fpec = codes "fpec"

-- the line for the controller: its kind and base, and its ticks to program a unit, erase a sector and erase a region
unfoldable pub controller_line : Shown → List ℕ
controller_line b = concat (codes "controller " ∷ kind_word b.kind ∷ codes " " ∷ hex_text 8 b.controller_base ∷ codes " ticks " ∷ decimal b.program_ticks
    ∷ codes " " ∷ decimal b.erase_ticks ∷ codes " " ∷ decimal b.chip_ticks ∷ codes "\n" ∷ [])

-- the line for the rates: the clock in Hz, and the steps of the core in a millisecond
unfoldable pub rates_line : Shown → List ℕ
rates_line b = concat (codes "clock " ∷ decimal b.hz ∷ codes " steps " ∷ decimal b.steps_per_ms ∷ codes "\n" ∷ [])

-- the line for the weights of a sector, of a page and of a chip
unfoldable pub weights_line : Shown → List ℕ
weights_line b = concat (codes "weights sector " ∷ decimal b.weights.sector ∷ codes " page " ∷ decimal b.weights.page ∷ codes " chip "
    ∷ decimal b.weights.chip ∷ codes "\n" ∷ [])

-- the line for a quiet range: its base and size
unfoldable pub quiet_line : QuietRange → List ℕ
quiet_line range = concat (codes "quiet " ∷ hex_text 8 range.base ∷ codes " " ∷ decimal range.size ∷ codes "\n" ∷ [])

-- the line for a run of sectors: how many of one size follow each other
unfoldable pub sectors_line : SectorRun → List ℕ
sectors_line run = concat (codes "sectors " ∷ decimal run.count ∷ codes " of " ∷ decimal run.size ∷ codes "\n" ∷ [])

-- the line for a region: its base and size, what an erased byte holds, and how many bytes one store programs
unfoldable pub region_line : Region → List ℕ
region_line region = concat (codes "region " ∷ hex_text 8 region.base ∷ codes " " ∷ decimal region.size ∷ codes " empty " ∷ hex_text 2 region.empty
    ∷ codes " unit " ∷ decimal region.unit ∷ codes "\n" ∷ [])

unfoldable pub region_text : Region → List ℕ
region_text region = region_line region ++ flat_map sectors_line region.sectors

-- the whole text of a board
unfoldable pub board_text : Shown → List ℕ
board_text b = ram_line b ++ controller_line b ++ rates_line b ++ weights_line b ++ flat_map quiet_line b.quiet ++ flat_map region_text b.regions
