-- What the steps of `dump` answer.
use Rattle.std.specs.Prelude.{◌≡◌, ◌<◌, ℕ, List, length}
use Rattle.std.specs.List.{All}
use Rattle.byte_map.specs.Image.{Run}
use Rattle.board_file.specs.Limits.{size_of}
use Rattle.board_file.specs.declared.region.Region.{Region}
use Rattle.report_text.specs.Refusal.{out_of_memory, device_fault, output_fault}
use Rattle.command_words.specs.declared.command.TextForm.{TextForm}
use Rattle.command_files.specs.Call.{BenchCall, SinkCall, Answer, done, refused}
use Rattle.command_files.specs.Said.{TookNothing, PrintsText}
use Rattle.command_files.specs.Answered.{device, output, IsCounted}
use Rattle.device_dump.specs.CellMaps.{IsMapOfCells}
use Rattle.device_dump.specs.Dump.{text_in, DumpLeaves, IsDumped}

-- how a dump ends: out of memory, by a fault of the device, or with the text put to `out`
abbrev pub Dumped : TextForm → List Region → BenchCall → SinkCall → Answer → Type 0
Dumped form regions bench out done = IsDumped form regions bench out done
Dumped form regions bench out (refused output_fault) = IsDumped form regions bench out (refused output_fault)
Dumped form regions bench out (refused device_fault) = Unit {0}
Dumped form regions bench out (refused out_of_memory) = Unit {0}
Dumped form regions bench out (refused _) = ⊥

pub record DumpsCells (form : TextForm) (regions : List Region) (bench : BenchCall) (out : SinkCall) (answer : Answer) : Type 0 where
  pub leaves : DumpLeaves bench out answer
  pub dumped : Dumped form regions bench out answer
  pub device_count : IsCounted bench.before.device_faults bench.after.device_faults device answer
  pub out_count : IsCounted out.before.faults out.after.faults output answer

-- the text of the map of these cells goes to `out`
pub record IsPut (form : TextForm) (regions : List Region) (cells : List ℕ) (out : SinkCall) (answer : Answer) : Type 0 where
  pub bytes : All (λ byte. byte < 256) cells
  pub all : length cells ≡ size_of regions
  pub map : List Run
  pub is_map : IsMapOfCells regions cells map
  pub prints : PrintsText out (text_in form map) answer

-- the text of the map goes to `out`, or there is no memory for the map
abbrev pub PutsCells : TextForm → List Region → List ℕ → SinkCall → Answer → Type 0
PutsCells form regions cells out done = IsPut form regions cells out done
PutsCells form regions cells out (refused output_fault) = IsPut form regions cells out (refused output_fault)
PutsCells form regions cells out (refused out_of_memory) = TookNothing out
PutsCells form regions cells out (refused _) = ⊥
