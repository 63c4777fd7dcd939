-- What a dump is read as, for the law `dumps_are_read_as_their_cells`.
use Rattle.std.proofs.Common.{◌≡◌, ◌<◌, ◌+◌, ◌-◌, ◌∙◌, sym, subst, refl, arith, ℕ, Bool, true, false, cond, List, [], ◌∷◌, length, slice_index, take, drop}
use Rattle.std.proofs.Common.{Some, None}
use Rattle.std.specs.List.{All}
use Rattle.std.proofs.lemmas.Option.{same_Some}
use Rattle.std.proofs.lemmas.List.Elements.{All-take, All-drop, All-from_get_or}
use Rattle.board_file.specs.declared.region.Region.{Region}
use Rattle.byte_map.specs.Image.{addresses, Run, run_at, holds, byte_of, byte_at}
use Rattle.byte_map.proofs.Runs.{holds_between, held_from, held_to, found_in}
use Rattle.image_more.specs.Any.{IsAnyImage}
use Rattle.image_more.specs.Maps.{IsByteMap}
use Rattle.image_more.proofs.LawLemmas.{hex_file, hex_file_alone, srec_file, srec_file_alone}
use Rattle.command_words.specs.declared.command.TextForm.{TextForm}
use Rattle.command_words.specs.declared.command.TextForm.TheVariants.{Hex, Srec}
use Rattle.device_dump.specs.CellMaps.{cell_runs, IsMapOfCells}
use Rattle.device_dump.specs.Dump.{text_in}

abbrev IsByte : ℕ → Type 0
IsByte byte = byte < 256

-- a byte of the first run, or of the runs after it
run_byte : (r : Run) (rest : List Run) (a byte : ℕ) (h : Bool) → holds r a ≡ h → All IsByte r.bytes → (byte_at rest a ≡ Some byte → IsByte byte)
    → cond h (Some (byte_of r a)) (byte_at rest a) ≡ Some byte → IsByte byte
run_byte r rest a byte true held bytes later is =
    let from = held_from r a held in
    let to = held_to r a held in
    let small : slice_index r.bytes (a - r.at) < 256 = bytes (a - r.at) 0 (omega (arith, from, to)) in
    subst IsByte (same_Some (byte_of r a) byte is) small
run_byte r rest a byte false held bytes later is = later is

cell_byte : (regions : List Region) (cells : List ℕ) (a byte : ℕ) → All IsByte cells → byte_at (cell_runs regions cells) a ≡ Some byte → IsByte byte
cell_byte [] cells a byte bytes is = absurd (let none : None ≡ Some byte = is in cc)
cell_byte (r ∷ rs) cells a byte bytes is =
    let run : Run = record { at = r.base; bytes = take r.size cells } in
    run_byte run (cell_runs rs (drop r.size cells)) a byte (holds run a) refl (All-take IsByte r.size cells bytes)
    (cell_byte rs (drop r.size cells) a byte (All-drop IsByte r.size cells bytes)) is

-- the bytes of the map are those of the cells
map_bytes : (regions : List Region) (cells : List ℕ) (map : List Run) → All IsByte cells → IsMapOfCells regions cells map → IsByteMap map
map_bytes regions cells map bytes is = record { maximal = is.maximal; small = All-from_get_or (λ (run : Run). All IsByte run.bytes) map none each } where
  none : Run
  none = record { at = 0; bytes = [] }

  each : (k : ℕ) → k < length map → All IsByte (run_at map k).bytes
  each k less = All-from_get_or IsByte (run_at map k).bytes 0 (λ j within.
      let run = run_at map k in
      let held = holds_between run (run.at + j) (omega arith) (omega (arith, within)) in
      let found = found_in 0 addresses map k (run.at + j) is.maximal less held in
      let small = cell_byte regions cells (run.at + j) (byte_of run (run.at + j)) bytes (sym (is.same (run.at + j)) ∙ found) in
      let place : run.at + j - run.at ≡ j = omega arith in
      subst (λ (n : ℕ). slice_index run.bytes n < 256) place small)

pub dump_read : (form : TextForm) (regions : List Region) (cells : List ℕ) (map : List Run) → All IsByte cells → IsMapOfCells regions cells map
    → IsAnyImage None (text_in form map) map
dump_read Hex regions cells map bytes is = hex_file map (map_bytes regions cells map bytes is)
dump_read Srec regions cells map bytes is = srec_file map (map_bytes regions cells map bytes is)

pub dump_alone : (form : TextForm) (regions : List Region) (cells : List ℕ) (map other : List Run) → All IsByte cells → IsMapOfCells regions cells map
    → IsAnyImage None (text_in form map) other → other ≡ map
dump_alone Hex regions cells map other bytes is read = hex_file_alone map other (map_bytes regions cells map bytes is) read
dump_alone Srec regions cells map other bytes is read = srec_file_alone map other (map_bytes regions cells map bytes is) read
