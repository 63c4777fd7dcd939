-- The files of a command, as the promise sees them.
use Rattle.std.proofs.Common.{◌≡◌, refl, sym, subst, arith, ◌-◌, ℕ, zero, suc, IsTrue, IsSome, List, [], ◌∷◌, ◌++◌, length, take, drop, Option, option_to_list}
use Rattle.std.proofs.Common.{Some, None}
use Rattle.board_file.specs.declared.region.Region.{Region}
use Rattle.job_text.specs.declared.format.Format.TheVariants.{Second}
use Rattle.job_text.specs.Jobs.{IsJob}
use Rattle.command_words.specs.Files.{FilesAsked}
use Rattle.command_files.specs.Inputs.{InputsCall, AreEach, FilesGiven, AreFiles}
use Rattle.command_files.specs.Files.{others_of, Aim, IsAim, image_files}
use Rattle.job_commands.specs.Beginning.{HasTexts, job_for}
use Rattle.promise.specs.Texts.{StandUnder, IsOfFiles}
use Rattle.promise.proofs.CarryLemmas.{job_of, says}

stand_each : (inputs : InputsCall) (told : IsTrue inputs.tells) (names files : List (List ℕ)) → AreEach inputs names files
    → StandUnder inputs.before.stands names files
stand_each inputs told [] [] are = tt
stand_each inputs told [] (file ∷ files) are = absurd (omega (arith, are.count))
stand_each inputs told (name ∷ names) [] are = absurd (omega (arith, are.count))
stand_each inputs told (name ∷ names) (file ∷ files) are = (
  are.each 0 (omega arith) told,
  stand_each inputs told names files (record { count = omega (arith, are.count); each = λ k less. are.each (suc k) (omega (arith, less)) }),
)

module _ (under : List ℕ → Option (List ℕ)) where
  stand_both : (names files more others : List (List ℕ)) → StandUnder under names files
      → StandUnder under more others → StandUnder under (names ++ more) (files ++ others)
  stand_both [] [] more others are too = too
  stand_both [] (file ∷ files) more others are too = absurd are
  stand_both (name ∷ names) [] more others are too = absurd are
  stand_both (name ∷ names) (file ∷ files) more others are too = (are.0, stand_both names files more others are.1 too)

  stand_front : (k : ℕ) (names files : List (List ℕ)) → StandUnder under names files → StandUnder under (take k names) (take k files)
  stand_front zero names files are = tt
  stand_front (suc k) [] [] are = tt
  stand_front (suc k) [] (file ∷ files) are = absurd are
  stand_front (suc k) (name ∷ names) [] are = absurd are
  stand_front (suc k) (name ∷ names) (file ∷ files) are = (are.0, stand_front k names files are.1)

  stand_back : (k : ℕ) (names files : List (List ℕ)) → StandUnder under names files → StandUnder under (drop k names) (drop k files)
  stand_back zero names files are = are
  stand_back (suc k) [] [] are = tt
  stand_back (suc k) [] (file ∷ files) are = absurd are
  stand_back (suc k) (name ∷ names) [] are = absurd are
  stand_back (suc k) (name ∷ names) (file ∷ files) are = stand_back k names files are.1

others_are : (first : Option (List ℕ)) (regions : List Region) → IsSome first → others_of first regions ≡ length regions - 1
others_are None regions some = absurd (cc)
others_are (Some file) regions some = refl

-- the job made from a command's files is the job of these files
pub of_files : (inputs : InputsCall) (asked : FilesAsked) (files : FilesGiven) (aim : Aim) (snapshot : List ℕ) → IsTrue inputs.tells
    → AreFiles inputs asked files
    → IsAim asked.raw_at files aim → HasTexts files aim → IsJob (job_for files aim snapshot) aim.board aim.algorithms
    → IsOfFiles inputs.before.stands asked (job_of (job_for files aim snapshot) aim.board)
of_files inputs asked files aim snapshot told are is has is_job =
    let under = inputs.before.stands in
    let n = length aim.board.regions - 1 in
    let same = others_are files.flm aim.board.regions has.has_flm in
    let first = stand_each inputs told (option_to_list asked.flm) (option_to_list files.flm) are.flm in
    let images = stand_each inputs told asked.images files.images are.images in
    record {
      says = says (job_for files aim snapshot) aim.board aim.algorithms is_job;
      board = are.board told;
      algorithms = subst
          (λ (k : ℕ). StandUnder under (option_to_list asked.flm ++ take n asked.images) (option_to_list files.flm ++ take k files.images)) (sym same)
          (stand_both under (option_to_list asked.flm) (option_to_list files.flm) (take n asked.images) (take n files.images) first
          (stand_front under n asked.images files.images images));
      images = image_files files.flm files.images aim.board;
      others = subst (λ (k : ℕ). StandUnder under (drop n asked.images) (drop k files.images)) (sym same) (stand_back under n asked.images files.images images);
      union = is.are_read.union;
    }

-- the job of a command's files has the second format
pub second_format : (inputs : InputsCall) (asked : FilesAsked) (files : FilesGiven) (aim : Aim) (snapshot : List ℕ) (told : IsTrue inputs.tells)
    (are : AreFiles inputs asked files)
    (is : IsAim asked.raw_at files aim) (has : HasTexts files aim) (is_job : IsJob (job_for files aim snapshot) aim.board aim.algorithms)
    → (of_files inputs asked files aim snapshot told are is has is_job).says.text.format ≡ Second
unfolding of_files
second_format inputs asked files aim snapshot told are is has is_job = refl
