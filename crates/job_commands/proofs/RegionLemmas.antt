-- What a command's files want, in terms of the parts of a job.
use Rattle.std.proofs.Common.{◌≡◌, ◌≢◌, ◌⊎◌, ◌<◌, ◌≤◌, ◌-◌, ◌^◌, ◌||◌, ◌∙◌, ⊎_elim, inl, inr, sym, ap, subst, refl, arith, ℕ, suc, Bool, IsTrue, IsSome}
use Rattle.std.proofs.Common.{All, List, [], ◌∷◌, ◌++◌, length, take, Option, option_to_list, option_copied, Some, None}
use Rattle.std.specs.List.{list_any}
use Rattle.std.specs.Option.{ForSome}
use Rattle.std.proofs.lemmas.Bool.{eq-eqb, le-leb, and_from, cases_lt}
use Rattle.std.proofs.lemmas.List.{length-take-le, get_or_past}
use Rattle.std.proofs.lemmas.List.Elements.{All-nil, All-cons}
use Rattle.byte_map.specs.Image.{Run, run_at, end_of, byte_of, byte_at, AreMaximal}
use Rattle.byte_map.proofs.Runs.{found_in, holds_between}
use Rattle.board_file.specs.declared.region.Region.{Region}
use Rattle.board_file.specs.Limits.{size_of}
use Rattle.board_file.specs.Text.{IsBoard}
use Rattle.board_file.specs.Shown as board
use Rattle.board_file.proofs.CountLemmas.{at_most_two}
use Rattle.flm_descriptor.specs.Shown as flm
use Rattle.image_set.specs.Ranges.{is_inside, LiesInside}
use Rattle.job_text.specs.Fits.{holds, Covers, AreCovered, LiesIn, all_fit, Suits}
use Rattle.job_text.specs.Body.{flm_len}
use Rattle.job_text.specs.Jobs.{AreFlms, IsJob}
use Rattle.job_text.specs.Parts.{files_with, flms_of, AreParts}
use Rattle.job_text.specs.declared.parts.JobParts.{JobParts}
use Rattle.command_files.specs.Inputs.{FilesGiven}
use Rattle.command_files.specs.Files.{others_of, flm_files, image_files, AreFor, ranges_of, Aim, IsAim}
use Rattle.command_files.specs.Steps.{said_aim, AreTargetFiles}
use Rattle.command_files.specs.declared.target_files.TargetFiles.{TargetFiles}
use Rattle.command_files.proofs.ImageLemmas.{maximal_union}
use Rattle.job_commands.specs.Beginning.{HasTexts, job_for}

-- ---- the image

is_held : (o : Option ℕ) (byte : ℕ) → o ≡ Some byte → IsSome o
is_held None byte is = absurd (cc)
is_held (Some x) byte is = refl

-- an address lies in the range of a region exactly if the region holds it
pub in_some : (regions : List Region) (a : ℕ) → is_inside (ranges_of regions) a ≡ list_any (λ (region : Region). holds region a) regions
in_some [] a = refl
in_some (r ∷ rs) a = ap (λ (b : Bool). holds r a || b) (in_some rs a)

module _ (image : List Run) (regions : List Region) (maximal : AreMaximal 0 (2 ^ 32) image) (lies : LiesInside image (ranges_of regions)) where
  -- each byte of a run lies in a region
  run_covered : (k : ℕ) → k < length image → Covers regions (run_at image k).at (end_of (run_at image k))
  run_covered k less a from to = subst IsTrue (in_some regions a) (lies.inside a
      (is_held (byte_at image a) (byte_of (run_at image k) a)
      (found_in 0 (2 ^ 32) image k a maximal less (holds_between (run_at image k) a from to))))

  all_covered : (rest : List Run) → ((k : ℕ) → k < length rest → Covers regions (run_at rest k).at (end_of (run_at rest k))) → AreCovered regions rest
  all_covered [] each = tt
  all_covered (r ∷ rest) each = (each 0 (omega arith), all_covered rest (λ k less. each (suc k) (omega (arith, less))))

  pub lies_in : LiesIn regions image
  lies_in = (maximal, all_covered image run_covered)

some_run : (image : List Run) → image ≢ [] → 1 ≤ length image
some_run [] some = absurd (some refl)
some_run (r ∷ rs) some = omega arith

-- ---- the algorithms

fits_all : (b : board.Shown) (regions : List Region) (files : List (List ℕ)) (algorithms : List flm.Shown) → AreFor b regions files algorithms
    → length files ≡ length regions → IsTrue (all_fit b regions algorithms)
fits_all b [] [] [] are same = refl
fits_all b [] [] (x ∷ xs) are same = absurd are
fits_all b [] (f ∷ fs) xs are same = absurd (omega (arith, same))
fits_all b (r ∷ rs) [] xs are same = absurd (omega (arith, same))
fits_all b (r ∷ rs) (f ∷ fs) [] are same = absurd are
fits_all b (r ∷ rs) (f ∷ fs) (x ∷ xs) are same =
    let fits = are.0.fits in
    and_from _ _ (and_from _ _ (and_from _ _ (eq-eqb r.base x.device.base (sym fits.base_is)) (eq-eqb r.size x.device.size (sym fits.size_is)))
    (le-leb _ _ fits.room))
    (fits_all b rs fs xs are.1 (omega (arith, same)))

say_all : (b : board.Shown) (regions : List Region) (files : List (List ℕ)) (algorithms : List flm.Shown) → AreFor b regions files algorithms
    → AreFlms files algorithms
say_all b regions [] [] are = tt
say_all b [] [] (x ∷ xs) are = absurd are
say_all b (r ∷ rs) [] (x ∷ xs) are = absurd are
say_all b [] (f ∷ fs) xs are = absurd (none xs are) where
  none : (xs : List flm.Shown) → AreFor b [] (f ∷ fs) xs → ⊥
  none [] are = are
  none (x ∷ xs) are = are
say_all b (r ∷ rs) (f ∷ fs) [] are = absurd are
say_all b (r ∷ rs) (f ∷ fs) (x ∷ xs) are = (are.0.says, say_all b rs fs xs are.1)

-- a board with an FLM file for each region has a region
some_region : (b : board.Shown) (regions : List Region) (file : List ℕ) (files : List (List ℕ)) (algorithms : List flm.Shown)
    → AreFor b regions (file ∷ files) algorithms
    → 1 ≤ length regions
some_region b [] file files [] are = absurd are
some_region b [] file files (x ∷ xs) are = absurd are
some_region b (r ∷ rs) file files xs are = omega arith

-- the board has a region, and there are as many FLM files as regions
record AreAll (b : board.Shown) (files : List (List ℕ)) : Type 0 where
  pub some : 1 ≤ length b.regions
  count : length files ≡ length b.regions

all_files : (b : board.Shown) (first : Option (List ℕ)) (others : List (List ℕ)) (algorithms : List flm.Shown) → IsSome first
    → length b.regions ≤ length others → AreFor b b.regions (option_to_list first ++ take (others_of first b.regions) others) algorithms
    → AreAll b (option_to_list first ++ take (others_of first b.regions) others)
all_files b None others algorithms some enough are = absurd (cc)
all_files b (Some file) others algorithms some enough are =
    let region = some_region b b.regions file (take (length b.regions - 1) others) algorithms are in
    record { some = region; count = omega (arith, region, length-take-le (length b.regions - 1) others (omega (arith, enough))) }

one_or_two : (n : ℕ) → 1 ≤ n → n ≤ 2 → (n ≡ 1) ⊎ (n ≡ 2)
one_or_two n some few = ⊎_elim (λ (less : n < 2). inl (omega (arith, less, some))) (λ (more : 2 ≤ n). inr (omega (arith, more, few))) (cases_lt n 2)

-- a text that can be taken has a length that fits 32 bits, and so has a missing text
pub short_len : (files : List (List ℕ)) (k : ℕ) → All (λ (file : List ℕ). length file ≤ 67108864) files → flm_len files k < 2 ^ 32
short_len files k short = ⊎_elim
    (λ (less : k < length files). omega (arith, short k [] less))
    (λ (past : length files ≤ k). omega (arith, ap length (get_or_past files k [] past)))
    (cases_lt k (length files))

module _ (raw_at : Option ℕ) (files : FilesGiven) (aim : Aim) (is : IsAim raw_at files aim) (some : IsSome files.flm) where
  abbrev flms : List (List ℕ)
  flms = flm_files files.flm files.images aim.board

  are_all : AreAll aim.board flms
  are_all = all_files aim.board files.flm files.images aim.algorithms some (is.are_read.board.enough some) is.are_read.algorithms

  -- what the files want suits one another, as in a job
  pub aim_suits : Suits aim.board aim.algorithms aim.image
  aim_suits =
      let images = image_files files.flm files.images aim.board in
      let maximal = maximal_union raw_at images (length images) aim.image is.are_read.union in
      record {
        fit = fits_all aim.board aim.board.regions flms aim.algorithms is.are_read.algorithms are_all.count;
        some = some_run aim.image is.inside.some;
        inside = lies_in aim.image aim.board.regions maximal is.inside;
      }

  pub aim_flms : AreFlms flms aim.algorithms
  aim_flms = say_all aim.board aim.board.regions flms aim.algorithms is.are_read.algorithms

  pub few_files : (length flms ≡ 1) ⊎ (length flms ≡ 2)
  few_files = one_or_two (length flms) (omega (arith, are_all.some, are_all.count))
      (omega (arith, are_all.count, at_most_two files.board aim.board is.are_read.board.is_board))

-- what the files want makes a job, with any snapshot of the size
pub aim_job : (raw_at : Option ℕ) (files : FilesGiven) (aim : Aim) (has : HasTexts files aim) (snapshot : List ℕ) → IsAim raw_at files aim
    → length snapshot ≡ size_of aim.board.regions → IsJob (job_for files aim snapshot) aim.board aim.algorithms
aim_job raw_at files aim has snapshot is many = record {
  board = is.are_read.board.is_board;
  files = few_files raw_at files aim is has.has_flm;
  algorithms = aim_flms raw_at files aim is has.has_flm;
  suits = aim_suits raw_at files aim is has.has_flm;
  cells = many;
  short_board = omega (arith, has.short_board);
  short_first = short_len (flm_files files.flm files.images aim.board) 0 has.short_flms;
  short_second = short_len (flm_files files.flm files.images aim.board) 1 has.short_flms;
}

-- ---- what the files of a target say

files_are : (first : List ℕ) (second : Option (List ℕ)) → files_with first second ≡ first ∷ option_to_list second
files_are first None = refl
files_are first (Some second) = refl

both_short : (first : List ℕ) (second : Option (List ℕ)) → length first ≤ 67108864 → ForSome second (λ (bytes : List ℕ). length bytes ≤ 67108864)
    → All (λ (file : List ℕ). length file ≤ 67108864) (first ∷ option_to_list second)
both_short first None short too = All-cons (λ (file : List ℕ). length file ≤ 67108864) first [] short (All-nil (λ (file : List ℕ). length file ≤ 67108864))
both_short first (Some second) short too = All-cons (λ (file : List ℕ). length file ≤ 67108864) first (second ∷ []) short
    (All-cons (λ (file : List ℕ). length file ≤ 67108864) second [] (too second refl) (All-nil (λ (file : List ℕ). length file ≤ 67108864)))

some_first : (first : Option (List ℕ)) (others : List (List ℕ)) (b : board.Shown) (file : List ℕ) (files : List (List ℕ)) (algorithms : List flm.Shown)
    → flm_files first others b ≡ file ∷ files → IsSome first
some_first None others b file files algorithms is = absurd (omega (arith, ap length is, length-take-le 0 others (omega arith)))
some_first (Some first) others b file files algorithms is = refl

module _ (raw_at : Option ℕ) (files : FilesGiven) (said : TargetFiles) (is : AreTargetFiles raw_at files said) (short_board : length said.board_text ≤ 67108864)
    (short_flm : length said.flm ≤ 67108864) (short_second : ForSome said.second (λ (bytes : List ℕ). length bytes ≤ 67108864)) where
  abbrev aim : Aim
  aim = said_aim said

  pub some : IsSome files.flm
  some = some_first files.flm files.images aim.board said.flm (option_to_list said.second) aim.algorithms is.flms

  short_flms : All (λ (file : List ℕ). length file ≤ 67108864) (flm_files files.flm files.images aim.board)
  short_flms = subst (λ (l : List (List ℕ)). All (λ (file : List ℕ). length file ≤ 67108864) l) (sym is.flms)
      (both_short said.flm said.second short_flm short_second)

  -- the texts of the files are short enough to be taken
  pub said_texts : HasTexts files aim
  said_texts = record { has_flm = some; short_board = omega (arith, short_board, ap (λ (l : List ℕ). length l) is.board_text); short_flms = short_flms }

  module _ (parts : JobParts) (board_is : parts.board.now ≡ said.board_text) (flm_is : parts.flm.now ≡ said.flm)
      (second_is : option_copied parts.second ≡ said.second)
      (image_is : parts.image.now ≡ aim.image) (size_is : parts.size ≡ size_of aim.board.regions) where
    pub flms_are : flms_of parts ≡ flm_files files.flm files.images aim.board
    flms_are = ap (λ (f : List ℕ). files_with f (option_copied parts.second)) flm_is ∙ ap (λ (o : Option (List ℕ)). files_with said.flm o) second_is
        ∙ files_are said.flm said.second ∙ sym is.flms

    pub short : All (λ (file : List ℕ). length file ≤ 67108864) (flms_of parts)
    short = subst (λ (l : List (List ℕ)). All (λ (file : List ℕ). length file ≤ 67108864) l) (sym flms_are) short_flms

    -- The texts of the files make the parts of a job.
    abbrev pub said_parts : AreParts parts
    said_parts = record {
      board = aim.board;
      algorithms = aim.algorithms;
      is_board = subst (λ (text : List ℕ). IsBoard text aim.board) (is.board_text ∙ sym board_is) is.is_aim.are_read.board.is_board;
      are_algorithms = subst (λ (l : List (List ℕ)). AreFlms l aim.algorithms) (sym flms_are) (aim_flms raw_at files aim is.is_aim some);
      suits = subst (λ (rs : List Run). Suits aim.board aim.algorithms rs) (sym image_is) (aim_suits raw_at files aim is.is_aim some);
      size = sym size_is;
      short_board = omega (arith, short_board, ap (λ (l : List ℕ). length l) board_is);
      short_first = omega (arith, short_flm, ap (λ (l : List ℕ). length l) flm_is);
      short_second = short_len (flms_of parts) 1 short;
    }
