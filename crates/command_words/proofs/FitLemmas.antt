-- The command that a line asks for, by its addresses and its positional words.
use Rattle.std.proofs.Common.{◌≡◌, ◌<◌, ◌≤◌, ◌+◌, ◌-◌, ◌^◌, ap, subst, refl, arith, rules, ℕ, List, [], ◌∷◌, ◌++◌, length, get_or, take, drop, Option, Some}
use Rattle.std.proofs.Common.{None, IsSome, MatchOption, IfNone, option_to_list}
use Rattle.std.proofs.lemmas.List.{take_all}
use Rattle.std.specs.Str.Parse.{IsNumeral, digits_value}
use Rattle.command_line.specs.Scan.{scan}
use Rattle.command_line.specs.declared.line.Line.{Line}
use Rattle.command_words.specs.Files.{FilesAsked, names_in}
use Rattle.command_words.specs.Lines.{Gives, Spells}
use Rattle.command_words.specs.Words.{Positional, AreArguments, IsDecimal, HasOneNumber, AreFew, HasBoardAndImages, HasTargetAndImages}
use Rattle.command_words.proofs.ScanLemmas.{arguments_given, read_arguments, one_given, one_arguments}

abbrev Words : Type 0
Words = List (List ℕ)

-- a board and an FLM file are two names
two_names : (files : FilesAsked) → IsSome files.flm → length (names_in files) ≡ length files.images + 2
two_names files some = counted files.flm some where
  counted : (flm : Option (List ℕ)) → IsSome flm → length (files.board ∷ (option_to_list flm ++ files.images)) ≡ length files.images + 2
  counted None some = absurd (cc)
  counted (Some f) some = omega arith

no_gift : (addresses : Words) → Gives addresses None → length addresses ≡ 0
no_gift [] gives = refl
no_gift (x ∷ []) gives = absurd gives
no_gift (x ∷ y ∷ rest) gives = absurd gives

gift_none : (addresses : Words) → length addresses ≡ 0 → Gives addresses None
gift_none [] none = tt
gift_none (x ∷ rest) none = absurd (omega (arith, none))

-- the names, as the code takes them apart

pub one_front : (names : Words) (first : List ℕ) → 1 ≤ length names → first ≡ get_or names 0 first → names ≡ first ∷ take (length names - 1) (drop 1 names)
one_front [] first least is = absurd (omega (arith, least))
one_front (x ∷ xs) first least is = let rest : take (length (x ∷ xs) - 1) xs ≡ xs = take_all _ xs (omega arith) in cc

pub two_fronts : (names : Words) (first second : List ℕ) → 2 ≤ length names → first ≡ get_or names 0 first → second ≡ get_or names 1 second
    → names ≡ first ∷ second ∷ take (length names - 2) (drop 2 names)
two_fronts [] first second least is also = absurd (omega (arith, least))
two_fronts (x ∷ []) first second least is also = absurd (omega (arith, least))
two_fronts (x ∷ y ∷ ys) first second least is also = let rest : take (length (x ∷ y ∷ ys) - 2) ys ≡ ys = take_all _ ys (omega arith) in cc

pub nil_of : (names : Words) → length names ≡ 0 → names ≡ []
nil_of [] none = refl
nil_of (x ∷ xs) none = absurd (omega (arith, none))

module _ (others addresses names : Words) (spells : scan [] [] others ≡ Some (addresses, names)) where
  abbrev IsNoAddress : Type 0
  IsNoAddress = (at : Option ℕ) → Gives addresses at → ⊥

  -- A board and images.

  pub board_without_address : IsNoAddress → (files : FilesAsked) → HasBoardAndImages others files → ⊥
  board_without_address none files has =
      none files.raw_at (arguments_given others addresses names spells files.raw_at (files.board ∷ files.images) has.arguments).gives

  pub no_board : length names < 1 → (files : FilesAsked) → HasBoardAndImages others files → ⊥
  no_board few files has =
      let given = arguments_given others addresses names spells files.raw_at (files.board ∷ files.images) has.arguments in
      omega (arith, few, ap length given.names_are)

  other_images : (raw_at : Option ℕ) (images : ℕ) → Gives addresses raw_at → (AreFew raw_at images → ⊥) → (r : Option ℕ) (n : ℕ) → Gives addresses r
      → AreFew r n → n ≡ images → ⊥
  other_images raw_at images gives many r n given few is =
      many (subst (λ (a : Option ℕ). AreFew a images) (one_given addresses r raw_at given gives) (subst (λ (k : ℕ). AreFew r k) is few))

  pub many_images : (raw_at : Option ℕ) (images : ℕ) → Gives addresses raw_at → length names ≡ images + 1 → (AreFew raw_at images → ⊥)
      → (files : FilesAsked) → HasBoardAndImages others files → ⊥
  many_images raw_at images gives count many files has =
      let given = arguments_given others addresses names spells files.raw_at (files.board ∷ files.images) has.arguments in
      other_images raw_at images gives many files.raw_at (length files.images) given.gives has.few (omega (arith, count, ap length given.names_are))

  pub board_fits : (raw_at : Option ℕ) (board : List ℕ) (images : Words) → Gives addresses raw_at → names ≡ board ∷ images → AreFew raw_at (length images)
      → HasBoardAndImages others (record { raw_at = raw_at; board = board; flm = None; images = images })
  board_fits raw_at board images gives is few = record {
    arguments = subst (λ (n : Words). AreArguments others raw_at n) is (read_arguments others addresses names spells raw_at gives);
    no_flm = refl;
    few = few;
  }

  -- A board, an FLM file and images.

  pub target_without_address : IsNoAddress → (files : FilesAsked) → HasTargetAndImages others files → ⊥
  target_without_address none files has =
      none files.raw_at (arguments_given others addresses names spells files.raw_at (names_in files) has.arguments).gives

  pub no_target : length names < 2 → (files : FilesAsked) → HasTargetAndImages others files → ⊥
  no_target few files has =
      let given = arguments_given others addresses names spells files.raw_at (names_in files) has.arguments in
      omega (arith, few, ap length given.names_are, two_names files has.has_flm)

  pub many_target_images : (raw_at : Option ℕ) (images : ℕ) → Gives addresses raw_at → length names ≡ images + 2 → (AreFew raw_at images → ⊥)
      → (files : FilesAsked) → HasTargetAndImages others files → ⊥
  many_target_images raw_at images gives count many files has =
      let given = arguments_given others addresses names spells files.raw_at (names_in files) has.arguments in
      other_images raw_at images gives many files.raw_at (length files.images) given.gives has.few
      (omega (arith, count, ap length given.names_are, two_names files has.has_flm))

  pub target_fits : (raw_at : Option ℕ) (board flm : List ℕ) (images : Words) → Gives addresses raw_at → names ≡ board ∷ flm ∷ images
      → AreFew raw_at (length images) → HasTargetAndImages others (record { raw_at = raw_at; board = board; flm = Some flm; images = images })
  target_fits raw_at board flm images gives is few = let some_flm : IsSome (Some flm) = search rules in record {
    arguments = subst (λ (n : Words). AreArguments others raw_at n) is (read_arguments others addresses names spells raw_at gives);
    has_flm = some_flm;
    few = few;
  }

  -- Names alone.

  pub names_alone : length addresses ≡ 0 → (given : Words) → names ≡ given → Positional others given
  names_alone none given is =
      subst (λ (n : Words). Positional others n) is (read_arguments others addresses names spells None (gift_none addresses none))

  pub no_address : (given : Words) → Positional others given → length addresses ≡ 0
  no_address given positional = no_gift addresses (arguments_given others addresses names spells None given positional).gives

  -- the positional words are the line's names
  pub the_names : (given : Words) → Positional others given → names ≡ given
  the_names given positional = (arguments_given others addresses names spells None given positional).names_are

  pub as_many : (given : Words) → Positional others given → length names ≡ length given
  as_many given positional = ap length (arguments_given others addresses names spells None given positional).names_are

-- The number.

pub no_one_number : (number : Option ℕ) (word : List ℕ) (line : Line)
    → MatchOption number (IsNumeral 10 word → digits_value 10 word < 2 ^ 32 → ⊥) (λ n. IsNumeral 10 word × (n ≡ digits_value 10 word))
    → ((others : Words) → Spells others line → Positional others (word ∷ []))
    → IfNone number ((others : Words) → Spells others line → (n : ℕ) → HasOneNumber others n → ⊥)
no_one_number None word line none positional = λ others spells n has.
    let same = (one_arguments others None None (has.word ∷ []) (word ∷ []) has.one (positional others spells)).names in
    let is : has.word ≡ word = cc in
    let decimal = subst (λ (w : List ℕ). IsDecimal w n) is has.decimal in
    none decimal.numeral decimal.small
no_one_number (Some number) word line reads positional = tt
