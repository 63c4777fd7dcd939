-- The words after the name of a command: its option and its names.
use Rattle.std.proofs.Common.{◌≡◌, ◌<◌, ◌+◌, ◌∙◌, sym, ap, subst, refl, arith, inl, inr, ⊎_elim, ℕ, List, [], ◌∷◌, ◌++◌, length, take, drop, get_or}
use Rattle.std.proofs.lemmas.List.{append_assoc, take-append-drop}
use Rattle.std.proofs.lemmas.List.Elements.{All-nil, All-cons, All-head, All-tail, All-append}
use Rattle.std.proofs.Math.Seq.{drop-cons}
use Rattle.std.proofs.Math.Numerals.{add-one}
use Rattle.command_words.specs.Words.{IsOption, HasNoOption, dashes, AllPositional, EndedByDashes, Positional, IsAddress, IsHexadecimal, IsDecimal}
use Rattle.command_words.proofs.AddressLemmas.{no_decimal, hex_digits}

-- Words without an option.

abbrev pub IsPlain : List ℕ → Type 0
IsPlain word = IsOption word → ⊥

abbrev pub Words : Type 0
Words = List (List ℕ)

pub plain-head : (x : List ℕ) (xs : Words) → HasNoOption (x ∷ xs) → IsPlain x
plain-head x xs = All-head IsPlain x xs

pub plain-tail : (x : List ℕ) (xs : Words) → HasNoOption (x ∷ xs) → HasNoOption xs
plain-tail x xs = All-tail IsPlain x xs

pub plain-append : (xs ys : Words) → HasNoOption xs → HasNoOption ys → HasNoOption (xs ++ ys)
plain-append xs ys = All-append IsPlain xs ys

pub plain-one : (x : List ℕ) → IsPlain x → HasNoOption (x ∷ [])
plain-one x plain = All-cons IsPlain x [] plain (All-nil IsPlain)

dashes_option : IsOption dashes
dashes_option = (refl, omega arith)

-- words in two parts; the second part begins with the word at place `n`
pub in_parts : (words : Words) (n : ℕ) → n < length words → words ≡ take n words ++ get_or words n [] ∷ drop (n + 1) words
in_parts words n less = sym (take-append-drop n words) ∙ ap (λ (l : Words). take n words ++ l) (drop-cons words n [] less)
    ∙ ap (λ (k : ℕ). take n words ++ get_or words n [] ∷ drop k words) (sym (add-one n))

-- Positional words.

-- words without an option come before the others
pub positional_before : (before words names : Words) → HasNoOption before → Positional words names → Positional (before ++ words) (before ++ names)
positional_before before words names plain positional = ⊎_elim
    (λ (all : AllPositional words names). inl (record {
      plain = plain-append before words plain all.plain;
      all = ap (λ (l : Words). before ++ l) all.all;
    }))
    (λ (ended : EndedByDashes words names). inr (record {
      before = before ++ ended.before;
      after = ended.after;
      plain = plain-append before ended.before plain ended.plain;
      words_are = ap (λ (l : Words). before ++ l) ended.words_are ∙ sym (append_assoc before ended.before (dashes ∷ ended.after));
      others = ap (λ (l : Words). before ++ l) ended.others ∙ sym (append_assoc before ended.before ended.after);
    }))
    positional

-- the positional words of a list that begins with words that are no options
pub record IsBehind (before words names : Words) : Type 0 where
  pub rest : Words
  pub positional : Positional words rest
  pub names_are : names ≡ before ++ rest

-- the words after the first one
word_less : (x : List ℕ) (words names : Words) → IsPlain x → Positional (x ∷ words) names → IsBehind (x ∷ []) words names
word_less x words names plain positional = ⊎_elim
    (λ (all : AllPositional (x ∷ words) names). record {
      rest = words;
      positional = inl (record { plain = plain-tail x words all.plain; all = refl });
      names_are = all.all;
    })
    (λ (ended : EndedByDashes (x ∷ words) names). ended_less ended.before ended.after ended.plain ended.words_are ended.others)
    positional where
      ended_less : (b a : Words) → HasNoOption b → x ∷ words ≡ b ++ dashes ∷ a → names ≡ b ++ a → IsBehind (x ∷ []) words names
      ended_less [] a none is others = let same : x ≡ dashes = cc in absurd (plain (subst IsOption (sym same) dashes_option))
      ended_less (y ∷ b) a none is others =
          let same : x ≡ y = cc in
          let rest : words ≡ b ++ dashes ∷ a = cc in
          record {
            rest = b ++ a;
            positional = inr (record { before = b; after = a; plain = plain-tail y b none; words_are = rest; others = refl });
            names_are = cc;
          }

pub positional_behind : (before words names : Words) → HasNoOption before → Positional (before ++ words) names → IsBehind before words names
positional_behind [] words names plain positional = record { rest = names; positional = positional; names_are = refl }
positional_behind (x ∷ before) words names plain positional =
    let one = word_less x (before ++ words) names (plain-head x before plain) positional in
    let later = positional_behind before words one.rest (plain-tail x before plain) one.positional in
    record {
      rest = later.rest;
      positional = later.positional;
      names_are = one.names_are ∙ ap (λ (l : Words). x ∷ l) later.names_are;
    }

-- Addresses.

-- a word is at most one address
pub one_address : (word : List ℕ) (a b : ℕ) → IsAddress word a → IsAddress word b → a ≡ b
one_address word a b one two = ⊎_elim
    (λ (one : IsHexadecimal word a). ⊎_elim
    (λ (two : IsHexadecimal word b). let same = hex_digits word two.digits a two.word_is one in
    let value = one.value in let value' = two.value in cc)
    (λ (two : IsDecimal word b). absurd (no_decimal word one.digits b one.word_is two)) two)
    (λ (one : IsDecimal word a). ⊎_elim
    (λ (two : IsHexadecimal word b). absurd (no_decimal word two.digits a two.word_is one))
    (λ (two : IsDecimal word b). one.value ∙ sym two.value) two)
    one
