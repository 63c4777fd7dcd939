-- What a comparison of cells found.
use Rattle.std.proofs.Common.{◌≡◌, ◌+◌, ◌∙◌, sym, ap, subst, arith, ℕ, Bool, IfOk, List, length, take, drop, slice_index, Option, Some, None, Result, Ok, Err}
use Rattle.bench_model.specs.State.{BenchState}
use Rattle.bench_model.specs.declared.bench_fault.DeviceFault.{DeviceFault}
use Rattle.byte_map.specs.Image.{Run}
use Rattle.board_file.specs.declared.region.Region.{Region}
use Rattle.readback.specs.Difference.{IsFirstDifference}
use Rattle.readback.specs.Readback.{OnlyReadsCells, Finds}
use Rattle.readback.specs.declared.compare.Difference.{Difference}
use Rattle.command_files.specs.Call.{bench_call}
use Rattle.flm_cli.specs.Compare.{CellsAre, DiffersFrom}
use Rattle.flm_cli.specs.Verify.{CellsAgree, CellsAgreeBelow, AgreesWith, DiffersAt}
use Rattle.flm_cli.specs.Steps.{FindsInImage, FoundBy}

module _ (tells : Bool) (a b c : BenchState) (reads : OnlyReadsCells tells b c) where
  in_bytes : (bytes : List ℕ) (found : Option Difference) → Finds tells b.cells 0 bytes found
      → FoundBy 0 (CellsAre (bench_call tells a c) bytes) (DiffersFrom (bench_call tells a c) bytes) found
  in_bytes bytes None finds = λ told. ap (λ (cells : List ℕ). take (length bytes) cells) (reads.cells told) ∙ finds told
  in_bytes bytes (Some d) finds =
      let place : finds.offset ≡ 0 + d.at = omega (arith, finds.place) in
      subst (λ (n : ℕ). IsFirstDifference tells c.cells 0 bytes n d.want d.got) place (record {
        within = finds.first.within;
        is_wanted = finds.first.is_wanted;
        unequal = finds.first.unequal;
        is_found = λ told. ap (λ (cells : List ℕ). slice_index cells (0 + finds.offset)) (reads.cells told) ∙ finds.first.is_found told;
        least = λ told. ap (λ (cells : List ℕ). take finds.offset (drop 0 cells)) (reads.cells told) ∙ finds.first.least told;
      })

  pub found_in_bytes : (bytes : List ℕ) (result : Result (Option Difference) DeviceFault) → IfOk result (λ found. Finds tells b.cells 0 bytes found)
      → IfOk result (FoundBy 0 (CellsAre (bench_call tells a c) bytes) (DiffersFrom (bench_call tells a c) bytes))
  found_in_bytes bytes (Ok found) finds = in_bytes bytes found finds
  found_in_bytes bytes (Err e) finds = tt

  in_image : (regions : List Region) (image : List Run) (found : Option Difference) → FindsInImage tells b.cells regions image found
      → FoundBy 0 (AgreesWith (bench_call tells a c) regions image) (DiffersAt (bench_call tells a c) regions image) found
  in_image regions image None finds = λ told. subst (λ (cells : List ℕ). CellsAgree cells regions image) (sym (reads.cells told)) (finds told)
  in_image regions image (Some d) finds =
      let (place, address, first) = finds in
      let zero : d.at ≡ 0 + d.at = omega arith in
      subst (λ (n : ℕ). DiffersAt (bench_call tells a c) regions image n d.want d.got) zero (record {
        place = place;
        address = address;
        first = record {
          is_wanted = first.is_wanted;
          unequal = first.unequal;
          is_found = λ told. ap (λ (cells : List ℕ). slice_index cells place) (reads.cells told) ∙ first.is_found told;
          least = λ told. subst (λ (cells : List ℕ). CellsAgreeBelow cells regions image place) (sym (reads.cells told)) (first.least told);
        };
      })

  pub found_in_image : (regions : List Region) (image : List Run) (result : Result (Option Difference) DeviceFault)
      → IfOk result (FindsInImage tells b.cells regions image)
      → IfOk result (FoundBy 0 (AgreesWith (bench_call tells a c) regions image) (DiffersAt (bench_call tells a c) regions image))
  found_in_image regions image (Ok found) finds = in_image regions image found finds
  found_in_image regions image (Err e) finds = tt
