-- The board and the algorithms that files describe, and why the files are refused.
use Rattle.std.proofs.Common.{◌≡◌, ◌+◌, ◌-◌, refl, subst, arith, inr, ℕ, zero, suc, List, [], ◌∷◌, ◌++◌, length, slice_get, Option, option_to_list}
use Rattle.std.proofs.Common.{IsSome, Some, None, Result, Ok, Err}
use Rattle.board_file.specs.declared.region.Region.{Region}
use Rattle.board_file.specs.Shown as board
use Rattle.flm_descriptor.specs.Shown as flm
use Rattle.report_text.specs.Refusal.{Refusal, out_of_memory, board_refused, flm_refused, other_device, no_room}
use Rattle.report_text.specs.declared.refusal.Refusal as value
use Rattle.command_words.specs.Files.{FilesAsked}
use Rattle.command_files.specs.Inputs.{InputsCall, FilesGiven, AreFiles, NoneFailed}
use Rattle.command_files.specs.Files.{others_of, IsForBoard, AreFor}
use Rattle.command_files.specs.Steps.{IsBoardRefusal, AreFlmRefusal}
use Rattle.command_files.proofs.WantedLemmas.{not_of_flm}
use Rattle.duty_rounds.specs.Verdicts.{AreFit}
use Rattle.flm_check.specs.BoardAlgorithms.{flms_in, IsBoardFor}
use Rattle.flm_check.specs.Steps.{IsReadRefusal, ReadsBoardAlgorithms, TakesBoardAlgorithms}
use Rattle.flm_check.specs.declared.board_algorithms.BoardAlgorithms.{BoardAlgorithms}

-- ---- algorithms for the regions of a board

-- an algorithm of a board is for the region in its place
pub record HasRegion (b : board.Shown) (regions : List Region) (k : ℕ) (algorithm : flm.Shown) : Type 0 where
  pub region : Region
  pub is : slice_get regions k ≡ Some region
  pub fits : IsForBoard b region.base region.size algorithm

region_of : (b : board.Shown) (regions : List Region) (files : List (List ℕ)) (algorithms : List flm.Shown) → AreFor b regions files algorithms
    → (k : ℕ) (a : flm.Shown) → slice_get algorithms k ≡ Some a → HasRegion b regions k a
region_of b regions [] [] are k a is = absurd cc
region_of b [] (file ∷ files) algorithms are k a is = absurd are
region_of b (region ∷ regions) (file ∷ files) [] are k a is = absurd are
region_of b (region ∷ regions) (file ∷ files) (algorithm ∷ algorithms) are zero a is =
    let same : algorithm ≡ a = cc in
    record { region = region; is = refl; fits = subst (λ (x : flm.Shown). IsForBoard b region.base region.size x) same are.0.fits }
region_of b (region ∷ regions) (file ∷ files) (algorithm ∷ algorithms) are (suc k) a is =
    let its = region_of b regions files algorithms are.1 k a is in record { region = its.region; is = its.is; fits = its.fits }
region_of b regions [] (algorithm ∷ algorithms) are k a is = absurd are

pub are_fit : (b : board.Shown) (files : List (List ℕ)) (algorithms : List flm.Shown) → AreFor b b.regions files algorithms → AreFit b algorithms
are_fit b files algorithms are = record {
  each = λ k a is.
      let its = region_of b b.regions files algorithms are k a is in
      record { its = its.region; is = its.is; base = its.fits.base_is; size = its.fits.size_is; room = its.fits.room };
}

-- ---- the number of FLM files

pub count_of : (flm : Option (List ℕ)) (images : List (List ℕ)) → IsSome flm → length (option_to_list flm ++ images) ≡ length images + 1
count_of None images some = absurd cc
count_of (Some f) images some = omega arith

-- ---- refusals

pub board_refusal : (files : FilesGiven) (r : Refusal) → IsBoardRefusal files.board r → IsReadRefusal files r
board_refusal files out_of_memory is = tt
board_refusal files (board_refused fault) is = is
board_refusal files r is = absurd is

pub flms_refusal : (files : FilesGiven) (b : board.Shown) (r : Refusal) → IsBoardFor files b → AreFlmRefusal b (flms_in files) r → IsReadRefusal files r
flms_refusal files b out_of_memory for is = tt
flms_refusal files b (flm_refused fault) for is = record { board = b; board_for = for; are_not = is }
flms_refusal files b (other_device base size) for is = record { board = b; board_for = for; are_not = is }
flms_refusal files b (no_room need have) for is = record { board = b; board_for = for; are_not = is }
flms_refusal files b r for is = absurd (not_of_flm b b.regions (flms_in files) r is)

-- how many FLM files there are after the first
pub others_count : (flm : Option (List ℕ)) (regions : List Region) → IsSome flm → others_of flm regions ≡ length regions - 1
others_count None regions some = absurd cc
others_count (Some f) regions some = refl

-- ---- taking the files, and reading them

pub takes_read : (inputs : InputsCall) (asked : FilesAsked) (files : FilesGiven) (result : Result BoardAlgorithms value.Refusal)
    → ReadsBoardAlgorithms files result → AreFiles inputs asked files → NoneFailed inputs → TakesBoardAlgorithms inputs asked result
takes_read inputs asked files (Ok checked) reads are none = record { given = record { files = files; are_files = are; holds = reads }; none_failed = none }
takes_read inputs asked files (Err e) reads are none = inr (record { given = record { files = files; are_files = are; holds = reads }; none_failed = none })
