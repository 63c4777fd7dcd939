-- What words ask for, by their names and their options.
use Rattle.std.proofs.Common.{◌≡◌, ◌<◌, ◌≤◌, ◌∙◌, inl, inr, refl, sym, ap, subst, arith, ℕ, zero, suc, true, false, All, List, []}
use Rattle.std.proofs.Common.{◌∷◌, ◌++◌, length, get_or, take, drop, option_to_list, Option, IsSome, IfSome, IfNone, Some, None}
use Rattle.std.proofs.lemmas.List.Elements.{All-head, All-tail}
use Rattle.command_words.specs.Files.{FilesAsked, names_in}
use Rattle.command_words.specs.Words.{IsDecimal}
use Rattle.duty_rounds.specs.declared.rounds.Rounds.{Rounds}
use Rattle.flm_check.specs.Words.{Asked, IsName, seed_name, rounds_name, NoOption, OnlySeed, OnlyRounds, SeedFirst, RoundsFirst}
use Rattle.flm_check.specs.Words.{IsRounds, AreOptions, Asks}
use Rattle.flm_check.specs.Requested.{IsSetting}
use Rattle.flm_check.specs.declared.words.Setting.{Setting}
use Rattle.flm_check.specs.declared.words.Setting.TheVariants as setting

abbrev Words : Type 0
Words = List (List ℕ)

-- the five forms of options, one by one
options_by : (C : Type 0) (options : Words) (seed rounds : ℕ) → (NoOption options seed rounds → C) → (OnlySeed options seed rounds → C)
    → (OnlyRounds options seed rounds → C) → (SeedFirst options seed rounds → C) → (RoundsFirst options seed rounds → C) → AreOptions options seed rounds → C
options_by C options seed rounds none only_seed only_rounds seed_first rounds_first (inl are) = none are
options_by C options seed rounds none only_seed only_rounds seed_first rounds_first (inr (inl are)) = only_seed are
options_by C options seed rounds none only_seed only_rounds seed_first rounds_first (inr (inr (inl are))) = only_rounds are
options_by C options seed rounds none only_seed only_rounds seed_first rounds_first (inr (inr (inr (inl are)))) = seed_first are
options_by C options seed rounds none only_seed only_rounds seed_first rounds_first (inr (inr (inr (inr are)))) = rounds_first are

-- the names of options don't count as names of files
seed_no_name : IsName seed_name → ⊥
seed_no_name is = let wrong : true ≡ false = is in absurd cc

rounds_no_name : IsName rounds_name → ⊥
rounds_no_name is = let wrong : true ≡ false = is in absurd cc

name_first : (word : List ℕ) (rest : Words) (seed rounds : ℕ) → AreOptions (word ∷ rest) seed rounds → IsName word → ⊥
name_first word rest seed rounds are is = options_by ⊥ (word ∷ rest) seed rounds
    (λ o. let wrong = o.words_are in absurd cc)
    (λ o. let all = o.words_are in let same : word ≡ seed_name = cc in seed_no_name (subst (λ (w : List ℕ). IsName w) same is))
    (λ o. let all = o.words_are in let same : word ≡ rounds_name = cc in rounds_no_name (subst (λ (w : List ℕ). IsName w) same is))
    (λ o. let all = o.words_are in let same : word ≡ seed_name = cc in seed_no_name (subst (λ (w : List ℕ). IsName w) same is))
    (λ o. let all = o.words_are in let same : word ≡ rounds_name = cc in rounds_no_name (subst (λ (w : List ℕ). IsName w) same is))
    are

-- ---- words in front

pub two_words : (words : Words) (a b : List ℕ) → length words ≡ 2 → a ≡ get_or words 0 a → b ≡ get_or words 1 b → words ≡ a ∷ b ∷ []
two_words [] a b two one other = absurd (omega (arith, two))
two_words (x ∷ []) a b two one other = absurd (omega (arith, two))
two_words (x ∷ y ∷ []) a b two one other = cc
two_words (x ∷ y ∷ z ∷ rest) a b two one other = absurd (omega (arith, two))

pub four_words : (words : Words) (a b c d : List ℕ) → length words ≡ 4 → a ≡ get_or words 0 a → b ≡ get_or words 1 b → c ≡ get_or words 2 c
    → d ≡ get_or words 3 d → words ≡ a ∷ b ∷ c ∷ d ∷ []
four_words [] a b c d four one two three last = absurd (omega (arith, four))
four_words (w ∷ []) a b c d four one two three last = absurd (omega (arith, four))
four_words (w ∷ x ∷ []) a b c d four one two three last = absurd (omega (arith, four))
four_words (w ∷ x ∷ y ∷ []) a b c d four one two three last = absurd (omega (arith, four))
four_words (w ∷ x ∷ y ∷ z ∷ []) a b c d four one two three last = cc
four_words (w ∷ x ∷ y ∷ z ∷ v ∷ rest) a b c d four one two three last = absurd (omega (arith, four))

-- ---- options that are read

-- a number of rounds
pub rounds_read : (name word : List ℕ) (number : ℕ) (result : Option Setting) → name ≡ rounds_name → IsDecimal word number
    → IfSome result (λ s. (s ≡ setting.Rounds number) × (1 ≤ number)) → IfSome result (IsSetting name word)
rounds_read name word number None is decimal of = tt
rounds_read name word number (Some s) is decimal of = subst (λ (x : Setting). IsSetting name word x) (sym of.0) (is, (decimal, of.1))

no_rounds : (name word : List ℕ) (number : ℕ) → name ≡ rounds_name → IsDecimal word number → number ≡ 0 → (s : Setting) → IsSetting name word s → ⊥
no_rounds name word number is decimal none (setting.Seed n) has = let wrong = ap length (sym is ∙ has.0) in absurd (omega (arith, wrong))
no_rounds name word number is decimal none (setting.Rounds n) has = absurd (omega (arith, has.1.1, has.1.0.value, decimal.value, none))

pub rounds_unread : (name word : List ℕ) (number : ℕ) (result : Option Setting) → name ≡ rounds_name → IsDecimal word number
    → IfNone result (number ≡ 0) → IfNone result ((s : Setting) → IsSetting name word s → ⊥)
rounds_unread name word number None is decimal none = no_rounds name word number is decimal none
rounds_unread name word number (Some s) is decimal none = tt

-- a single option that gives nothing
pub options_one : (name word : List ℕ) → ((s : Setting) → IsSetting name word s → ⊥) → (seed rounds : ℕ)
    → AreOptions (name ∷ word ∷ []) seed rounds → ⊥
options_one name word none seed rounds are = options_by ⊥ (name ∷ word ∷ []) seed rounds
    (λ o. let wrong = o.words_are in absurd cc)
    (λ o.
    let all = o.words_are in let same : name ≡ seed_name = cc in let too : o.word ≡ word = cc in
    none (setting.Seed seed) (same, subst (λ (w : List ℕ). IsDecimal w seed) too o.seed_is))
    (λ o.
    let all = o.words_are in let same : name ≡ rounds_name = cc in let too : o.word ≡ word = cc in
    none (setting.Rounds rounds) (same, subst (λ (w : List ℕ). IsRounds w rounds) too o.rounds_is))
    (λ o. let wrong = ap length o.words_are in absurd (omega arith))
    (λ o. let wrong = ap length o.words_are in absurd (omega arith))
    are

-- what the first two and the last two of four words give
pub record Both (name word other_name other_word : List ℕ) (seed rounds : ℕ) : Type 0 where
  pub one : Setting
  pub other : Setting
  pub is_one : IsSetting name word one
  pub is_other : IsSetting other_name other_word other

pub options_two : (name word other_name other_word : List ℕ) (seed rounds : ℕ) → AreOptions (name ∷ word ∷ other_name ∷ other_word ∷ []) seed rounds
    → Both name word other_name other_word seed rounds
options_two name word other_name other_word seed rounds are =
    options_by (Both name word other_name other_word seed rounds) (name ∷ word ∷ other_name ∷ other_word ∷ []) seed rounds
    (λ o. let wrong = ap length o.words_are in absurd (omega arith))
    (λ o. let wrong = ap length o.words_are in absurd (omega arith))
    (λ o. let wrong = ap length o.words_are in absurd (omega arith))
    (λ o.
    let all = o.words_are in
    let n : name ≡ seed_name = cc in let w : o.seed_word ≡ word = cc in let m : other_name ≡ rounds_name = cc in let v : o.rounds_word ≡ other_word = cc in
    record {
      one = setting.Seed seed;
      other = setting.Rounds rounds;
      is_one = (n, subst (λ (x : List ℕ). IsDecimal x seed) w o.seed_is);
      is_other = (m, subst (λ (x : List ℕ). IsRounds x rounds) v o.rounds_is);
    })
    (λ o.
    let all = o.words_are in
    let n : name ≡ rounds_name = cc in let w : o.rounds_word ≡ word = cc in let m : other_name ≡ seed_name = cc in let v : o.seed_word ≡ other_word = cc in
    record {
      one = setting.Rounds rounds;
      other = setting.Seed seed;
      is_one = (n, subst (λ (x : List ℕ). IsRounds x rounds) w o.rounds_is);
      is_other = (m, subst (λ (x : List ℕ). IsDecimal x seed) v o.seed_is);
    })
    are

-- one of the two options of four words gives nothing
pub no_first : (name word other_name other_word : List ℕ) → ((s : Setting) → IsSetting name word s → ⊥) → (seed rounds : ℕ)
    → AreOptions (name ∷ word ∷ other_name ∷ other_word ∷ []) seed rounds → ⊥
no_first name word other_name other_word none seed rounds are =
    let both = options_two name word other_name other_word seed rounds are in none both.one both.is_one

pub no_second : (name word other_name other_word : List ℕ) → ((s : Setting) → IsSetting other_name other_word s → ⊥) → (seed rounds : ℕ)
    → AreOptions (name ∷ word ∷ other_name ∷ other_word ∷ []) seed rounds → ⊥
no_second name word other_name other_word none seed rounds are =
    let both = options_two name word other_name other_word seed rounds are in none both.other both.is_other

-- both options of four words give something
pub both_some : (name word other_name other_word : List ℕ) (options : Words) (one other : Setting) (result : Option Rounds)
    → options ≡ name ∷ word ∷ other_name ∷ other_word ∷ [] → IsSetting name word one → IsSetting other_name other_word other
    → IfSome result (λ r. (n w m v : List ℕ) → IsSetting n w one → IsSetting m v other → AreOptions (n ∷ w ∷ m ∷ v ∷ []) r.seed r.rounds)
    → IfSome result (λ r. AreOptions options r.seed r.rounds)
both_some name word other_name other_word options one other None all is_one is_other some = tt
both_some name word other_name other_word options one other (Some r) all is_one is_other some =
    subst (λ (o : Words). AreOptions o r.seed r.rounds) (sym all) (some name word other_name other_word is_one is_other)

pub both_none : (name word other_name other_word : List ℕ) (options : Words) (one other : Setting) (result : Option Rounds)
    → options ≡ name ∷ word ∷ other_name ∷ other_word ∷ [] → IsSetting name word one → IsSetting other_name other_word other
    → IfNone result ((n w m v : List ℕ) → IsSetting n w one → IsSetting m v other → (seed rounds : ℕ) → AreOptions (n ∷ w ∷ m ∷ v ∷ []) seed rounds → ⊥)
    → IfNone result ((seed rounds : ℕ) → AreOptions options seed rounds → ⊥)
both_none name word other_name other_word options one other None all is_one is_other none = λ seed rounds are.
    none name word other_name other_word is_one is_other seed rounds (subst (λ (o : Words). AreOptions o seed rounds) all are)
both_none name word other_name other_word options one other (Some r) all is_one is_other none = tt

-- ---- names and options

front_of : (files : FilesAsked) (options words : Words) → IsSome files.flm → words ≡ names_in files ++ options → 2 ≤ length words
front_of files options words some are = counted files.flm some are where
  counted : (flm : Option (List ℕ)) → IsSome flm → words ≡ (files.board ∷ (option_to_list flm ++ files.images)) ++ options → 2 ≤ length words
  counted None some are = absurd cc
  counted (Some f) some are = let long = ap length are in omega arith

-- fewer than two words ask for nothing
pub words_few : (words : Words) → length words < 2 → (asked : Asked) → Asks words asked → ⊥
words_few words few asked asks = absurd (omega (arith, few, front_of asked.files asks.options words asks.has_flm asks.words_are))

-- the first two words are names, and after them come the images and the options
pub record Apart (asked : Asked) (first second : List ℕ) (rest options : Words) : Type 0 where
  pub first_name : IsName first
  pub second_name : IsName second
  pub rest_is : rest ≡ asked.files.images ++ options
  pub names : All IsName asked.files.images

pub words_apart : (words : Words) (first second : List ℕ) (rest : Words) → words ≡ first ∷ second ∷ rest → (asked : Asked) → (asks : Asks words asked)
    → Apart asked first second rest asks.options
words_apart words first second rest is asked asks = apart asked.files.flm asks.has_flm (sym is ∙ asks.words_are) asks.names where
  apart : (flm : Option (List ℕ)) → IsSome flm → first ∷ second ∷ rest ≡ (asked.files.board ∷ (option_to_list flm ++ asked.files.images)) ++ asks.options
      → All IsName (asked.files.board ∷ (option_to_list flm ++ asked.files.images)) → Apart asked first second rest asks.options
  apart None some all names = absurd cc
  apart (Some f) some all names =
      let one : asked.files.board ≡ first = cc in
      let two : f ≡ second = cc in
      let behind : rest ≡ asked.files.images ++ asks.options = cc in
      let tail : All IsName (f ∷ asked.files.images) = All-tail IsName asked.files.board (f ∷ asked.files.images) names in
      record {
        first_name = subst (λ (w : List ℕ). IsName w) one (All-head IsName asked.files.board (f ∷ asked.files.images) names);
        second_name = subst (λ (w : List ℕ). IsName w) two (All-head IsName f asked.files.images tail);
        rest_is = behind;
        names = All-tail IsName f asked.files.images tail;
      }

-- the first k words, which are names, are the images, and the others are the options
pub options_behind : (k : ℕ) (rest images options : Words) (seed rounds : ℕ) → k ≤ 1 → k ≤ length rest → All IsName (take k rest)
    → (k ≡ 0 → (first : List ℕ) (others : Words) → rest ≡ first ∷ others → IsName first → ⊥) → rest ≡ images ++ options → length images ≤ 1 → All IsName images
    → AreOptions options seed rounds → AreOptions (drop k rest) seed rounds
options_behind zero rest [] options seed rounds few inside names all is short are_names are = subst (λ (o : Words). AreOptions o seed rounds) (sym is) are
options_behind zero rest (x ∷ []) options seed rounds few inside names all is short are_names are =
    absurd (all refl x options is (All-head IsName x [] are_names))
options_behind zero rest (x ∷ y ∷ images) options seed rounds few inside names all is short are_names are = absurd (omega (arith, short))
options_behind (suc zero) [] images options seed rounds few inside names all is short are_names are = absurd (omega (arith, inside))
options_behind (suc zero) (y ∷ rest) [] options seed rounds few inside names all is short are_names are =
    absurd (name_first y rest seed rounds (subst (λ (o : Words). AreOptions o seed rounds) (sym is) are) (All-head IsName y [] names))
options_behind (suc zero) (y ∷ rest) (x ∷ []) options seed rounds few inside names all is short are_names are =
    let behind : options ≡ rest = cc in subst (λ (o : Words). AreOptions o seed rounds) behind are
options_behind (suc zero) (y ∷ rest) (x ∷ z ∷ images) options seed rounds few inside names all is short are_names are = absurd (omega (arith, short))
options_behind (suc (suc k)) rest images options seed rounds few inside names all is short are_names are = absurd (omega (arith, few))
