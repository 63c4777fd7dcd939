-- What the files of a command on a target say.
use Rattle.std.proofs.Common.{rules, ◌≡◌, ◌∙◌, ◌≤◌, ◌<◌, ◌-◌, ◌++◌, sym, ap, subst, arith, ℕ, zero, suc, All, List, [], ◌∷◌, take, get_or, Option}
use Rattle.std.proofs.Common.{option_to_list, IsSome, Some, None, length, length-append}
use Rattle.std.specs.Option.{ForSome}
use Rattle.std.proofs.lemmas.List.{length-take-le}
use Rattle.std.proofs.lemmas.List.Elements.{All-head}
use Rattle.board_file.specs.Shown as board
use Rattle.command_words.specs.Files.{FilesAsked}
use Rattle.command_files.specs.Inputs.{InputsCall, FilesGiven, AreFiles}
use Rattle.command_files.specs.Files.{flm_files}

-- an FLM file is asked for, so there is one
pub has_file : (inputs : InputsCall) (asked : FilesAsked) (files : FilesGiven) → IsSome asked.flm → AreFiles inputs asked files → IsSome files.flm
has_file inputs asked files some are = also asked.flm files.flm some are.flm.count where
  also : (a b : Option (List ℕ)) → IsSome a → length (option_to_list b) ≡ length (option_to_list a) → IsSome b
  also None b some count = absurd (cc)
  also (Some x) None some count = absurd (omega (arith, count))
  also (Some x) (Some y) some count = search rules

-- taking the last element of a list of at most one
pub taken_off : {A : Type 0} (all rest : List A) (last : Option A) → length all ≤ 1 → all ≡ rest ++ option_to_list last → (0 < length all → IsSome last)
    → all ≡ option_to_list last
taken_off all [] last few is some = is
taken_off all (x ∷ rest) None few is some =
    let some_item : 0 < length all = omega (arith, ap length is) in
    let wrong = some some_item in
    absurd (cc)
taken_off all (x ∷ rest) (Some y) few is some = absurd (omega (arith, few, ap length is, length-append rest (y ∷ [])))

pub taken_is : (images after rest : List (List ℕ)) (n : ℕ) (last : Option (List ℕ)) → after ≡ take n images → after ≡ rest ++ option_to_list last
    → (0 < length after → IsSome last) → n ≤ 1 → n ≤ length images → take n images ≡ option_to_list last
taken_is images after rest n last are is some few enough =
    sym are ∙ taken_off after rest last (omega (arith, ap length are, length-take-le n images enough, few)) is some

-- the last file is short if all files are
pub one_short : (longest : ℕ) (images : List (List ℕ)) (n : ℕ) (last : Option (List ℕ)) → All (λ (bytes : List ℕ). length bytes ≤ longest) images
    → take n images ≡ option_to_list last → ForSome last (λ (bytes : List ℕ). length bytes ≤ longest)
one_short longest images n None all is = λ bytes it. absurd (cc)
one_short longest images zero (Some x) all is = absurd (omega (arith, ap length is))
one_short longest [] (suc n) (Some x) all is = absurd (omega (arith, ap length is))
one_short longest (image ∷ images) (suc n) (Some x) all is = λ bytes it.
    let same : x ≡ bytes = cc in
    subst (λ (y : List ℕ). length y ≤ longest) same (subst (λ (bytes : List ℕ). length bytes ≤ longest) (ap (λ (l : List (List ℕ)). get_or l 0 []) is)
    (All-head (λ (bytes : List ℕ). length bytes ≤ longest) image images all))

-- the FLM files are the first one and the first of the others
pub flms_are : (files : FilesGiven) (board : board.Shown) (n : ℕ) (first : List ℕ) (second : Option (List ℕ)) → files.flm ≡ Some first
    → n ≡ length board.regions - 1
    → take n files.images ≡ option_to_list second → flm_files files.flm files.images board ≡ first ∷ option_to_list second
flms_are files board n first second flm count taken =
    ap (λ (f : Option (List ℕ)). flm_files f files.images board) flm
    ∙ ap (λ (k : ℕ). first ∷ take k files.images) (sym count) ∙ ap (λ (l : List (List ℕ)). first ∷ l) taken
