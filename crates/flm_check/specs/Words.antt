-- What the words of a command line ask for: a board, an FLM file for each of its regions, and two numbers.
use Rattle.std.specs.Prelude.{◌≡◌, ◌≤◌, ◌⊎◌, ℕ, false, nat_eq, List, [], ◌∷◌, ◌++◌, length, All, codes, None, IsSome}
use Rattle.std.specs.List.{starts_with}
use Rattle.command_words.specs.Files.{FilesAsked, names_in}
use Rattle.command_words.specs.Words.{IsDecimal}

-- What words ask for: files, a seed and a number of rounds. The images are the FLM file of a second region, if there is one.
pub record Asked : Type 0 where
  pub files : FilesAsked
  pub seed : ℕ
  pub rounds : ℕ

-- a name doesn't begin with `-`
abbrev pub IsName : List ℕ → Type 0
IsName word = starts_with nat_eq word (codes "-") ≡ false

abbrev pub seed_name : List ℕ
seed_name = codes "--seed"

abbrev pub rounds_name : List ℕ
rounds_name = codes "--rounds"

-- The options: each is a name and a number in decimal digits. A number that isn't given is 1. There is at least one round.

abbrev pub IsRounds : List ℕ → ℕ → Type 0
IsRounds word rounds = IsDecimal word rounds × (1 ≤ rounds)

pub record NoOption (options : List (List ℕ)) (seed rounds : ℕ) : Type 0 where
  pub words_are : options ≡ []
  pub seed_is : seed ≡ 1
  pub rounds_is : rounds ≡ 1

pub record OnlySeed (options : List (List ℕ)) (seed rounds : ℕ) : Type 0 where
  pub word : List ℕ
  pub words_are : options ≡ seed_name ∷ word ∷ []
  pub seed_is : IsDecimal word seed
  pub rounds_is : rounds ≡ 1

pub record OnlyRounds (options : List (List ℕ)) (seed rounds : ℕ) : Type 0 where
  pub word : List ℕ
  pub words_are : options ≡ rounds_name ∷ word ∷ []
  pub seed_is : seed ≡ 1
  pub rounds_is : IsRounds word rounds

pub record SeedFirst (options : List (List ℕ)) (seed rounds : ℕ) : Type 0 where
  pub seed_word : List ℕ
  pub rounds_word : List ℕ
  pub words_are : options ≡ seed_name ∷ seed_word ∷ rounds_name ∷ rounds_word ∷ []
  pub seed_is : IsDecimal seed_word seed
  pub rounds_is : IsRounds rounds_word rounds

pub record RoundsFirst (options : List (List ℕ)) (seed rounds : ℕ) : Type 0 where
  pub seed_word : List ℕ
  pub rounds_word : List ℕ
  pub words_are : options ≡ rounds_name ∷ rounds_word ∷ seed_name ∷ seed_word ∷ []
  pub seed_is : IsDecimal seed_word seed
  pub rounds_is : IsRounds rounds_word rounds

abbrev pub AreOptions : List (List ℕ) → ℕ → ℕ → Type 0
AreOptions options seed rounds = NoOption options seed rounds ⊎ (OnlySeed options seed rounds
    ⊎ (OnlyRounds options seed rounds ⊎ (SeedFirst options seed rounds ⊎ RoundsFirst options seed rounds)))

-- the words are `BOARD FLM [FLM] [--seed N] [--rounds N]`, with the options in either order
pub record Asks (words : List (List ℕ)) (asked : Asked) : Type 0 where
  pub options : List (List ℕ)
  pub words_are : words ≡ names_in asked.files ++ options
  pub raw_at : asked.files.raw_at ≡ None
  pub has_flm : IsSome asked.files.flm
  pub few : length asked.files.images ≤ 1
  pub names : All IsName (names_in asked.files)
  pub are_options : AreOptions options asked.seed asked.rounds

-- the words fit no call
abbrev pub AsksNothing : List (List ℕ) → Type 0
AsksNothing words = (asked : Asked) → Asks words asked → ⊥
