-- From the steps of `verify` to its end, with a lemma for each step that may end it.
use Rattle.std.proofs.Common.{◌≡◌, ◌≢◌, ◌<◌, ◌^◌, ◌∙◌, ⊎_elim, sym, ap, subst, refl, arith, inl, inr, ℕ, Bool, true, IsTrue, IsSome, List, [], ◌∷◌, length}
use Rattle.std.proofs.Common.{slice_index, option_to_list, Option, Some, None}
use Rattle.std.proofs.lemmas.Bool.{cases_lt}
use Rattle.bench_model.specs.State.{BenchState}
use Rattle.outside_io.specs.State.{SinkState}
use Rattle.byte_map.specs.Image.{Run}
use Rattle.board_file.specs.declared.region.Region.{Region}
use Rattle.board_file.specs.Limits.{size_of}
use Rattle.board_file.specs.Shown as board
use Rattle.report_text.specs.Refusal.{Refusal, out_of_memory, usage, input_fault, flm_refused, other_device, no_room, board_refused, image_refused}
use Rattle.report_text.specs.Refusal.{image_misplaced, cells_differ, device_fault, output_fault, differs}
use Rattle.command_words.specs.Files.{FilesAsked, names_in}
use Rattle.command_files.specs.Inputs.{InputsCall, FilesGiven, AreFiles, NoneFailed}
use Rattle.command_files.specs.Files.{flm_files, image_files, Aim, IsAim}
use Rattle.command_files.specs.Refused.{AreNotFor, HasNoTarget, IsRefused}
use Rattle.command_files.specs.Steps.{IsTakeFault, IsFilesRefusal, aim_of}
use Rattle.command_files.specs.declared.wanted.Wanted.{Wanted}
use Rattle.image_set.proofs.UnionLemmas.{below_end}
use Rattle.command_files.proofs.ImageLemmas.{maximal_union}
use Rattle.command_files.specs.Call.{BenchCall, SinkCall, Answer, done, refused, bench_call, sink_call}
use Rattle.command_files.specs.Answered.{yields, DidNothing, IsOf, on_files}
use Rattle.flm_cli.specs.Comparison as comparison
use Rattle.flm_cli.specs.Comparison.{Compares}
use Rattle.command_files.specs.Reading.{ShowsFiles, AnswersFiles}
use Rattle.job_text.specs.Laid.{address_at}
use Rattle.flm_cli.specs.Verify.{wanted_at, CellsAgree, IsLeastDifference, DiffersAt, AgreesWith, IsComparedWithImage, Shows, IsDueForImage, VerifyEnds}
use Rattle.flm_cli.specs.Verify.{has_verify}
use Rattle.command_files.proofs.ReadingLemmas.{answers_yielding, answers_refused, answers_worked}
use Rattle.command_files.proofs.AnswerLemmas.{did_nothing, plain_lawful, untaken_lawful}
use Rattle.flm_cli.proofs.FoundLemmas.{leaves_early, found_cases, compared_lawful, is_due, due_yielding}
use Rattle.flm_cli.proofs.PlaceLemmas.{wanted_address}

-- The cells and an image.

agree_or_differ_told : (cells : List ℕ) (regions : List Region) (image : List Run) (place wanted found : ℕ) → CellsAgree cells regions image
    → IsLeastDifference true cells regions image place wanted found → ⊥
agree_or_differ_told cells regions image place wanted found agree differ = differ.unequal (sym (agree place wanted differ.is_wanted) ∙ differ.is_found refl)

earlier_difference : (cells : List ℕ) (regions : List Region) (image : List Run) (p w f q x g : ℕ) → IsLeastDifference true cells regions image p w f
    → IsLeastDifference true cells regions image q x g → p < q → ⊥
earlier_difference cells regions image p w f q x g one two less = one.unequal (sym (two.least refl p w less one.is_wanted) ∙ one.is_found refl)

module _ (bench : BenchCall) (regions : List Region) (image : List Run) where
  as_told : (place wanted found : ℕ) → IsTrue bench.tells → IsLeastDifference bench.tells bench.after.cells regions image place wanted found
      → IsLeastDifference true bench.after.cells regions image place wanted found
  as_told place wanted found told is = subst (λ (t : Bool). IsLeastDifference t bench.after.cells regions image place wanted found) told is

  agree_or_differ : IsTrue bench.tells → (at wanted found : ℕ) → AgreesWith bench regions image → DiffersAt bench regions image at wanted found → ⊥
  agree_or_differ told at wanted found agree differ =
      agree_or_differ_told bench.after.cells regions image differ.place wanted found (agree told) (as_told differ.place wanted found told differ.first)

  differ_once : IsTrue bench.tells → (p w f q x g : ℕ) → DiffersAt bench regions image p w f → DiffersAt bench regions image q x g
      → differs p w f ≡ differs q x g
  differ_once told p w f q x g one two =
      let a = as_told one.place w f told one.first in
      let b = as_told two.place x g told two.first in
      let cells = bench.after.cells in
      let place : one.place ≡ two.place = ⊎_elim
      (λ less. absurd (earlier_difference cells regions image one.place w f two.place x g a b less))
      (λ most. ⊎_elim (λ less. absurd (earlier_difference cells regions image two.place x g one.place w f b a less))
      (λ least. omega (arith, most, least)) (cases_lt two.place one.place))
      (cases_lt one.place two.place) in
      let address_same : Some p ≡ Some q = sym one.address ∙ ap (address_at regions) place ∙ two.address in
      let address : p ≡ q = cc in
      let wanted_same : Some w ≡ Some x = sym a.is_wanted ∙ ap (λ (n : ℕ). wanted_at regions image n) place ∙ b.is_wanted in
      let wanted : w ≡ x = cc in
      let found : f ≡ g = sym (a.is_found refl) ∙ ap (λ (n : ℕ). slice_index cells n) place ∙ b.is_found refl in
      cc

-- an address at which the image has a byte fits 32 bits
pub address_fits : (raw_at : Option ℕ) (files : FilesGiven) (aim : Aim) (bench : BenchCall) (at byte found : ℕ) → IsAim raw_at files aim
    → DiffersAt bench aim.board.regions aim.image at byte found → at < 2 ^ 32
address_fits raw_at files aim bench at byte found is differ =
    let images = image_files files.flm files.images aim.board in
    below_end aim.image at byte (maximal_union raw_at images (length images) aim.image is.are_read.union)
    (wanted_address aim.board.regions aim.image differ.place at byte differ.address differ.first.is_wanted)

-- The files.

-- where no FLM file is asked for, none is given
no_flm : (inputs : InputsCall) (asked : FilesAsked) (files : FilesGiven) → asked.flm ≡ None → AreFiles inputs asked files → files.flm ≡ None
no_flm inputs asked files none are = count_none asked.flm files.flm are.flm.count none where
  count_none : (a b : Option (List ℕ)) → length (option_to_list b) ≡ length (option_to_list a) → a ≡ None → b ≡ None
  count_none a None same is_none = refl
  count_none None (Some x) same is_none = absurd (omega (arith, same))
  count_none (Some y) b same is_none = absurd (cc)

-- with no FLM files, none is refused
no_files : (b : board.Shown) (regions : List Region) (r : Refusal) → AreNotFor b regions [] r → ⊥
no_files b [] r is = is
no_files b (region ∷ rest) r is = is

no_flm_refused : (b : board.Shown) (file : Option (List ℕ)) (others : List (List ℕ)) (r : Refusal) → file ≡ None
    → AreNotFor b b.regions (flm_files file others b) r → ⊥
no_flm_refused b None others r none is = no_files b b.regions r is
no_flm_refused b (Some x) others r none is = cc

-- an FLM file isn't both missing and given
no_flm_short : (file : Option (List ℕ)) → file ≡ None → IsSome file → ⊥
no_flm_short None none some = cc
no_flm_short (Some x) none some = cc

module _ (bench : BenchCall) (inputs : InputsCall) (out : SinkCall) (asked : FilesAsked) where
  due_yielding_for : (answer : Answer) (aim : Aim) → yields answer ≡ true → DidNothing bench out → comparison.IsCompared answer
      → IsDueForImage bench out answer aim
  due_yielding_for answer aim yields did complete = record {
    other_size = λ other. inr (yields, did);
    compared = λ same. due_yielding bench (AgreesWith bench aim.board.regions aim.image) (DiffersAt bench aim.board.regions aim.image) answer yields complete;
  }

  abbrev FilesAnswered : Answer → Type 0
  FilesAnswered answer = AnswersFiles bench inputs out asked answer (λ files. Shows bench answer) (λ files. IsDueForImage bench out answer)

  -- an answer yields before anything was done
  files_yielding : (answer : Answer) → yields answer ≡ true → DidNothing bench out → comparison.IsCompared answer
      → ShowsFiles inputs asked (λ files. Shows bench answer) answer → FilesAnswered answer
  files_yielding answer yields did complete shows =
      answers_yielding bench inputs out asked (λ files. Shows bench answer) (λ files. IsDueForImage bench out answer) answer yields did
      (λ files aim. due_yielding_for answer aim yields did complete) shows

  -- the files are refused
  files_refused : (r : Refusal) (files : FilesGiven) → AreFiles inputs asked files → IsRefused asked files r
      → ShowsFiles inputs asked (λ files. Shows bench (refused r)) (refused r) → FilesAnswered (refused r)
  files_refused r files are is shows =
      answers_refused bench inputs out asked (λ files. Shows bench (refused r)) (λ files. IsDueForImage bench out (refused r)) r files are is shows

  -- an answer of the work on what the files want
  files_worked : (answer : Answer) (files : FilesGiven) (aim : Aim) → AreFiles inputs asked files → IsAim asked.raw_at files aim
      → ShowsFiles inputs asked (λ files. Shows bench answer) answer → IsDueForImage bench out answer aim → FilesAnswered answer
  files_worked answer files aim are is shows due =
      answers_worked bench inputs out asked (λ files. Shows bench answer) (λ files. IsDueForImage bench out answer) answer files aim are is shows due

-- The exits.

module _ (tells told : Bool) (b : BenchState) (o : SinkState) (inputs : InputsCall) (asked : FilesAsked) where
  abbrev Ends : Refusal → Type 0
  Ends r = VerifyEnds asked (bench_call tells b b) inputs (sink_call told o o) (refused r)

  pub ends_untaken : (r : Refusal) → IsTakeFault inputs (names_in asked) r → Ends r
  ends_untaken out_of_memory is = record {
    lawful = untaken_lawful tells told b o inputs on_files has_verify (names_in asked) out_of_memory (did_nothing tells told b o) refl (λ name. refl) is;
    leaves = leaves_early tells told b o out_of_memory refl;
    files = files_yielding (bench_call tells b b) inputs (sink_call told o o) asked (refused out_of_memory) refl (did_nothing tells told b o) refl tt;
  }
  ends_untaken (input_fault name) is = record {
    lawful = untaken_lawful tells told b o inputs on_files has_verify (names_in asked) (input_fault name) (did_nothing tells told b o) refl (λ name. refl) is;
    leaves = leaves_early tells told b o (input_fault name) refl;
    files = files_yielding (bench_call tells b b) inputs (sink_call told o o) asked (refused (input_fault name)) refl (did_nothing tells told b o) refl tt;
  }
  ends_untaken r is = absurd is

  module _ (files : FilesGiven) (none : asked.flm ≡ None) (are : AreFiles inputs asked files) (same : NoneFailed inputs) where
    no_target : (r : Refusal) → HasNoTarget files r → ⊥
    no_target r is = no_flm_refused is.has_board.board files.flm files.images r (no_flm inputs asked files none are) is.are_not

    pub ends_unread : (r : Refusal) → IsFilesRefusal asked files r → Ends r
    ends_unread out_of_memory is = ends_untaken out_of_memory same
    ends_unread (board_refused fault) is = record {
      lawful = plain_lawful tells told b o inputs on_files has_verify (names_in asked) (board_refused fault) (did_nothing tells told b o) refl same refl;
      leaves = leaves_early tells told b o (board_refused fault) refl;
      files = files_refused _ inputs _ asked (board_refused fault) files are is (record { files = files; are_files = are; holds = is });
    }
    ends_unread usage is = absurd (no_flm_short files.flm (no_flm inputs asked files none are) is.leaves.has_flm)
    ends_unread (flm_refused fault) is = absurd (no_target (flm_refused fault) is)
    ends_unread (other_device base size) is = absurd (no_target (other_device base size) is)
    ends_unread (no_room need have) is = absurd (no_target (no_room need have) is)
    ends_unread (image_refused name fault) is = record {
      lawful = plain_lawful tells told b o inputs on_files has_verify (names_in asked) (image_refused name fault) (did_nothing tells told b o) refl same refl;
      leaves = leaves_early tells told b o (image_refused name fault) refl;
      files = files_refused _ inputs _ asked (image_refused name fault) files are is (record { files = files; are_files = are; holds = is });
    }
    ends_unread (image_misplaced fault) is = record {
      lawful = plain_lawful tells told b o inputs on_files has_verify (names_in asked) (image_misplaced fault) (did_nothing tells told b o) refl same refl;
      leaves = leaves_early tells told b o (image_misplaced fault) refl;
      files = files_refused _ inputs _ asked (image_misplaced fault) files are is (record { files = files; are_files = are; holds = is });
    }
    ends_unread r is = absurd is

    -- another number of cells
    pub ends_other_size : (wanted : Wanted) → IsAim asked.raw_at files (aim_of wanted) → size_of wanted.board.regions ≢ b.cell_count
        → Ends (cells_differ (size_of wanted.board.regions) b.cell_count)
    ends_other_size wanted is unequal =
        let aim = aim_of wanted in
        let r = cells_differ (size_of wanted.board.regions) b.cell_count in
        record {
          lawful = plain_lawful tells told b o inputs on_files has_verify (names_in asked) r (did_nothing tells told b o) refl same refl;
          leaves = leaves_early tells told b o r refl;
          files = files_worked _ inputs _ asked (refused r) files aim are is
              (record {
                files = files;
                are_files = are;
                holds = record { aim = aim; is_aim = is; holds = record { wanted_is = refl; found_is = refl; unequal = unequal } };
              })
              (record { other_size = λ other. inl refl; compared = λ equal. absurd (unequal equal) });
        }

worked_shows : (bench : BenchCall) (inputs : InputsCall) (asked : FilesAsked) (files : FilesGiven) (aim : Aim) → AreFiles inputs asked files
    → IsAim asked.raw_at files aim → (answer : Answer) → IsComparedWithImage bench aim answer → ShowsFiles inputs asked (λ files. Shows bench answer) answer
worked_shows bench inputs asked files aim are is done compared =
    record { files = files; are_files = are; holds = record { aim = aim; is_aim = is; holds = compared } }
worked_shows bench inputs asked files aim are is (refused device_fault) compared =
    record { files = files; are_files = are; holds = record { aim = aim; is_aim = is; holds = compared } }
worked_shows bench inputs asked files aim are is (refused output_fault) compared =
    record { files = files; are_files = are; holds = record { aim = aim; is_aim = is; holds = compared } }
worked_shows bench inputs asked files aim are is (refused (differs at wanted found)) compared =
    record { files = files; are_files = are; holds = record { aim = aim; is_aim = is; holds = compared } }
worked_shows bench inputs asked files aim are is (refused r) compared = absurd compared.found

pub ends_compared : (bench : BenchCall) (inputs : InputsCall) (out : SinkCall) (asked : FilesAsked) (files : FilesGiven) (wanted : Wanted)
    → AreFiles inputs asked files
    → NoneFailed inputs → IsAim asked.raw_at files (aim_of wanted) → size_of wanted.board.regions ≡ bench.before.cell_count → (answer : Answer)
    → Compares bench out (AgreesWith bench wanted.board.regions wanted.image) (DiffersAt bench wanted.board.regions wanted.image) answer
    → VerifyEnds asked bench inputs out answer
ends_compared bench inputs out asked files wanted are same is size answer compares =
    let aim = aim_of wanted in
    let regions = wanted.board.regions in
    record {
      lawful = compared_lawful bench inputs out has_verify (names_in asked) (AgreesWith bench regions wanted.image) (DiffersAt bench regions wanted.image)
          answer refl
          (found_cases (AgreesWith bench regions wanted.image) (DiffersAt bench regions wanted.image) (λ a. IsOf has_verify a) tt refl refl
          (λ at byte cell. refl)
          answer compares.found) same compares;
      leaves = compares.leaves;
      files = files_worked bench inputs out asked answer files aim are is
          (worked_shows bench inputs asked files aim are is answer (record { size = size; found = compares.found }))
          (record {
            other_size = λ other. absurd (other size);
            compared = λ equal. is_due bench (AgreesWith bench regions wanted.image) (DiffersAt bench regions wanted.image)
                (agree_or_differ bench regions wanted.image) (differ_once bench regions wanted.image) answer compares.found;
          });
    }
