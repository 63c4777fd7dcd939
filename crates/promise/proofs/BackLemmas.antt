-- The files of a command are right if they are those of a job.
use Rattle.std.proofs.Common.{◌≡◌, refl, sym, subst, arith, ap, ◌∙◌, ◌-◌, ◌≤◌, ◌<◌, ◌||◌, ℕ, zero, suc, Bool, true, IsTrue, IsSome, List, [], ◌∷◌, ◌++◌}
use Rattle.std.proofs.Common.{length, take, drop, Option, option_to_list, Some, None}
use Rattle.std.specs.List.{list_any}
use Rattle.std.proofs.lemmas.Bool.{and_parts, eqb-true, leb-true}
use Rattle.std.proofs.lemmas.List.{length-append}
use Rattle.byte_map.specs.Image.{Run, run_at, end_of, byte_at}
use Rattle.byte_map.proofs.Runs.{holder, held_from, held_to}
use Rattle.board_file.specs.declared.region.Region.{Region}
use Rattle.board_file.specs.Shown as board
use Rattle.flm_descriptor.specs.Shown as flm
use Rattle.algo_loader.specs.Places.{has_room}
use Rattle.image_set.specs.Ranges.{is_inside, LiesInside}
use Rattle.image_more.specs.Place.{file_at}
use Rattle.image_more.specs.Files.{IsUnionBefore}
use Rattle.job_text.specs.Fits.{is_device_of, fits, all_fit, holds, Covers, AreCovered, LiesIn}
use Rattle.job_text.specs.Jobs.{AreFlms, IsJob}
use Rattle.job_text.proofs.RegionLemmas.{same_count, same_files}
use Rattle.command_words.specs.Files.{FilesAsked}
use Rattle.command_files.specs.Inputs.{InputsCall, IsFile, name_at, AreEach, FilesGiven, AreFiles}
use Rattle.command_files.specs.Files.{flm_files, image_files, AreFor, ranges_of, Aim, IsAim}
use Rattle.promise.specs.Job.{Job}
use Rattle.promise.specs.Texts.{StandUnder, SaysJob, IsOfFiles}

-- ---- lists of files

each_at : (inputs : InputsCall) (names files : List (List ℕ)) → StandUnder inputs.before.stands names files → (k : ℕ) → k < length names
    → IsFile inputs (name_at names k) (file_at files k)
each_at inputs [] files are k less = absurd (omega (arith, less))
each_at inputs (name ∷ names) [] are k less = absurd are
each_at inputs (name ∷ names) (file ∷ files) are zero less = λ told. are.0
each_at inputs (name ∷ names) (file ∷ files) are (suc k) less = each_at inputs names files are.1 k (omega (arith, less))

as_many : (under : List ℕ → Option (List ℕ)) (names files : List (List ℕ)) → StandUnder under names files → length files ≡ length names
as_many under [] [] are = refl
as_many under [] (file ∷ files) are = absurd are
as_many under (name ∷ names) [] are = absurd are
as_many under (name ∷ names) (file ∷ files) are = omega (arith, as_many under names files are.1)

are_each : (inputs : InputsCall) (names files : List (List ℕ)) → StandUnder inputs.before.stands names files → AreEach inputs names files
are_each inputs names files are = record { count = as_many inputs.before.stands names files are; each = each_at inputs names files are }

together : (under : List ℕ → Option (List ℕ)) (k : ℕ) (names front back : List (List ℕ)) → StandUnder under (take k names) front
    → StandUnder under (drop k names) back → StandUnder under names (front ++ back)
together under zero names [] back are too = too
together under zero names (file ∷ front) back are too = absurd are
together under (suc k) [] [] back are too = too
together under (suc k) [] (file ∷ front) back are too = absurd are
together under (suc k) (name ∷ names) [] back are too = absurd are
together under (suc k) (name ∷ names) (file ∷ front) back are too = (are.0, together under k names front back are.1 too)

front_is : (front back : List (List ℕ)) → take (length front) (front ++ back) ≡ front
front_is [] back = refl
front_is (file ∷ front) back = ap (λ (l : List (List ℕ)). file ∷ l) (front_is front back)

back_is : (front back : List (List ℕ)) → drop (length front) (front ++ back) ≡ back
back_is [] back = refl
back_is (file ∷ front) back = back_is front back

-- the first of some files
record HasFirst (under : List ℕ → Option (List ℕ)) (name : List ℕ) (names files : List (List ℕ)) : Type 0 where
  first : List ℕ
  others : List (List ℕ)
  files_are : files ≡ first ∷ others
  stands : under name ≡ Some first
  stand : StandUnder under names others

has_first : (under : List ℕ → Option (List ℕ)) (name : List ℕ) (names files : List (List ℕ)) → StandUnder under (name ∷ names) files
    → HasFirst under name names files
has_first under name names [] are = absurd are
has_first under name names (file ∷ files) are = record { first = file; others = files; files_are = refl; stands = are.0; stand = are.1 }

some_of : {A : Type 0} (o : Option A) → IsSome o → (x : A) × (o ≡ Some x)
some_of None some = absurd (cc)
some_of (Some x) some = (x, refl)

-- ---- algorithms

are_for : (b : board.Shown) (regions : List Region) (files : List (List ℕ)) (algorithms : List flm.Shown) → AreFlms files algorithms
    → all_fit b regions algorithms ≡ true → AreFor b regions files algorithms
are_for b [] [] [] are fit = tt
are_for b [] (file ∷ files) [] are fit = absurd are
are_for b [] files (x ∷ xs) are fit = absurd (cc)
are_for b (r ∷ rs) files [] are fit = absurd (cc)
are_for b (r ∷ rs) [] (x ∷ xs) are fit = absurd are
are_for b (r ∷ rs) (file ∷ files) (x ∷ xs) are fit =
    let both = and_parts (fits b r x) (all_fit b rs xs) fit in
    let device = and_parts (is_device_of r x.device) (has_room x b) both.0 in
    let places = and_parts _ _ device.0 in (
      record {
        says = are.0;
        fits = record {
          base_is = sym (eqb-true r.base x.device.base places.0);
          size_is = sym (eqb-true r.size x.device.size places.1);
          room =
              leb-true _ _ device.1;
        };
      },
      are_for b rs files xs are.1 both.1,
    )

-- ---- the image

in_some : (regions : List Region) (a : ℕ) → is_inside (ranges_of regions) a ≡ list_any (λ (region : Region). holds region a) regions
in_some [] a = refl
in_some (r ∷ rs) a = ap (λ (b : Bool). holds r a || b) (in_some rs a)

covered_at : (regions : List Region) (rs : List Run) → AreCovered regions rs → (k : ℕ) → k < length rs → Covers regions (run_at rs k).at (end_of (run_at rs k))
covered_at regions [] are k less = absurd (omega (arith, less))
covered_at regions (r ∷ rs) are zero less = are.0
covered_at regions (r ∷ rs) are (suc k) less = covered_at regions rs are.1 k (omega (arith, less))

lies_inside : (regions : List Region) (image : List Run) → 1 ≤ length image → LiesIn regions image → LiesInside image (ranges_of regions)
lies_inside regions image some lies = record {
  some = λ is. omega (arith, some, ap (λ (l : List Run). length l) is);
  inside = λ a has.
      let byte = some_of (byte_at image a) has in
      let held = holder image a byte.0 byte.1 in
      let run = run_at image held.0 in
      subst IsTrue (sym (in_some regions a)) (covered_at regions image lies.1 held.0 held.1 a (held_from run a held.2) (held_to run a held.2));
}

some_images : (raw_at : Option ℕ) (images : List (List ℕ)) (image : List Run) → IsUnionBefore raw_at images (length images) image → 1 ≤ length image
    → 1 ≤ length images
some_images raw_at [] image union some = absurd (omega (arith, some, ap (λ (l : List Run). length l) union))
some_images raw_at (file ∷ files) image union some = omega arith

-- ---- all of them

pub record AreRight (inputs : InputsCall) (asked : FilesAsked) (aim : Aim) : Type 0 where
  pub files : FilesGiven
  pub are_files : AreFiles inputs asked files
  pub is_aim : IsAim asked.raw_at files aim

module _ (inputs : InputsCall) (asked : FilesAsked) (job : Job) (some : IsSome asked.flm) (of : IsOfFiles inputs.before.stands asked job)
    (algorithms : List flm.Shown) (is_job : IsJob of.says.text of.says.board algorithms) where
  abbrev says : SaysJob job
  says = of.says

  abbrev under : List ℕ → Option (List ℕ)
  under = inputs.before.stands

  abbrev n : ℕ
  n = length says.board.regions - 1

  abbrev pub its_aim : Aim
  its_aim = record { board = says.board; algorithms = algorithms; image = says.text.image }

  first : (name : List ℕ) × (asked.flm ≡ Some name)
  first = some_of asked.flm some

  split : HasFirst under first.0 (take n asked.images) says.text.flms
  split = has_first under first.0 (take n asked.images) says.text.flms
      (subst (λ (o : Option (List ℕ)). StandUnder under (option_to_list o ++ take n asked.images) says.text.flms) first.1 of.algorithms)

  count : length says.text.flms ≡ length says.board.regions
  count = same_files says.text.flms algorithms is_job.algorithms
      ∙ sym (same_count says.board says.board.regions algorithms is_job.suits.fit)

  others_count : length split.others ≡ n
  others_count = omega (arith, count, ap (λ (l : List (List ℕ)). length l) split.files_are)

  abbrev files : FilesGiven
  files = record { board = says.text.board; flm = Some split.first; images = split.others ++ of.images }

  flms_are : flm_files files.flm files.images says.board ≡ says.text.flms
  flms_are = ap (λ (l : List (List ℕ)). split.first ∷ l)
      (subst (λ (k : ℕ). take k (split.others ++ of.images) ≡ split.others) others_count (front_is split.others of.images)) ∙ sym split.files_are

  images_are : image_files files.flm files.images says.board ≡ of.images
  images_are = subst (λ (k : ℕ). drop k (split.others ++ of.images) ≡ of.images) others_count (back_is split.others of.images)

  union : IsUnionBefore asked.raw_at of.images (length of.images) says.text.image
  union = subst (λ (i : List Run). IsUnionBefore asked.raw_at of.images (length of.images) i) says.image_is of.union

  pub are_right : AreRight inputs asked its_aim
  are_right = record {
    files = files;
    are_files = record {
      board = λ told. of.board;
      flm = subst (λ (o : Option (List ℕ)). AreEach inputs (option_to_list o) (split.first ∷ [])) (sym first.1)
          (are_each inputs (first.0 ∷ []) (split.first ∷ []) (split.stands, tt));
      images = are_each inputs asked.images (split.others ++ of.images) (together under n asked.images split.others of.images split.stand of.others);
    };
    is_aim = record {
      are_read = record {
        board = record {
          is_board = is_job.board;
          enough = λ flm. omega (
            arith,
            others_count,
            length-append split.others of.images,
            some_images asked.raw_at of.images says.text.image union is_job.suits.some,
          );
        };
        algorithms = subst (λ (l : List (List ℕ)). AreFor says.board says.board.regions l algorithms) (sym flms_are)
            (are_for says.board says.board.regions says.text.flms algorithms is_job.algorithms is_job.suits.fit);
        union = subst (λ (l : List (List ℕ)). IsUnionBefore asked.raw_at l (length l) says.text.image) (sym images_are) union;
      };
      inside = lies_inside says.board.regions says.text.image is_job.suits.some is_job.suits.inside;
    };
  }
