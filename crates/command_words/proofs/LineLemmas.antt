-- Lines, and what their words ask for.
use Rattle.std.proofs.Common.{◌≡◌, ◌≢◌, ◌∙◌, sym, ap, refl, inl, inr, ℕ, List, [], ◌∷◌, Option, Some, None, find}
use Rattle.std.proofs.lemmas.Bool.{cases_Bool}
use Rattle.std.proofs.lemmas.Option.{same_Some}
use Rattle.std.proofs.lemmas.Slice.Eq.{bytes_eq-Decides}
use Rattle.std.specs.Str.{bytes_eq}
use Rattle.command_line.specs.Scan.{Said, commands, command_of, scan, with_command, says}
use Rattle.command_line.specs.declared.line.Line.{Line}
use Rattle.command_words.specs.Fits.{Fitted}
use Rattle.command_words.specs.Lines.{Spells, IsLineOf}
use Rattle.command_words.specs.Words.{text_of, form_text, AreArguments, Command, program, begin, resume, revert, plan, verify, compare, status, inspect, dump}
use Rattle.command_words.specs.Words.{demo, AsksNothing, Asked}
use Rattle.command_words.specs.declared.command.CommandName.{CommandName}
use Rattle.command_words.specs.declared.command.CommandName.TheVariants.{Program, Begin, Resume, Revert, Plan, Verify, Compare, Status, Inspect, Dump, Demo}
use Rattle.command_words.proofs.ScanLemmas.{arguments_read}
use Rattle.command_words.proofs.WordsLemmas.{AsksNothing-unknown, Asked-fitted}

abbrev Words : Type 0
Words = List (List ℕ)

-- What a line says about its words.

-- a word that was found among the names is that name
found_word : (w c : List ℕ) (names : Words) → find (λ n. bytes_eq n w) names ≡ Some c → w ≡ c
found_word w c [] e = cc
found_word w c (n ∷ names) e = elim (cases_Bool (bytes_eq n w)) [
  | inl hit ↦ let same : Some n ≡ Some c = rw hit at e in sym ((bytes_eq-Decides n w).0 hit) ∙ same_Some _ _ same
  | inr miss ↦ let later : find (λ m. bytes_eq m w) names ≡ Some c = rw miss at e in found_word w c names later
]

-- the words are this command and others, which are read as these addresses and names
record IsSaid (words : Words) (c : List ℕ) (addresses names : Words) : Type 0 where
  pub others : Words
  pub words_are : words ≡ c ∷ others
  pub scans : scan [] [] others ≡ Some (addresses, names)

said_so : (w : List ℕ) (ws : Words) (c : List ℕ) (addresses names : Words) (found : Option (List ℕ)) (said : Option Said)
    → found ≡ command_of w → said ≡ scan [] [] ws → with_command found said ≡ Some (c, addresses, names) → IsSaid (w ∷ ws) c addresses names
said_so w ws c addresses names None said f s e = let bad : None ≡ Some (c, addresses, names) = e in absurd (cc)
said_so w ws c addresses names (Some x) None f s e = let bad : None ≡ Some (c, addresses, names) = e in absurd (cc)
said_so w ws c addresses names (Some x) (Some (a, n)) f s e =
    let same : (x, a, n) ≡ (c, addresses, names) = same_Some _ _ e in
    let command : x ≡ c = ap (λ (t : List ℕ × Words × Words). t.0) same in
    let word : w ≡ x = found_word w x commands (sym f) in
    record {
      others = ws;
      words_are = ap (λ (v : List ℕ). v ∷ ws) (word ∙ command);
      scans = sym s ∙ ap (λ (t : List ℕ × Words × Words). Some (t.1, t.2)) same;
    }

is_said : (words : Words) (c : List ℕ) (addresses names : Words) → says words ≡ Some (c, addresses, names) → IsSaid words c addresses names
is_said [] c addresses names e = let bad : None ≡ Some (c, addresses, names) = e in absurd (cc)
is_said (w ∷ ws) c addresses names e = said_so w ws c addresses names (command_of w) (scan [] [] ws) refl refl e

-- the name of a command is found among the names
named_known : (name : CommandName) → command_of (text_of name) ≡ Some (text_of name)
named_known Program = refl
named_known name = refl

-- Words that say no line ask for nothing.
module _ (words : Words) (none : says words ≡ None) where
  no_arguments : (name : CommandName) (others : Words) (raw_at : Option ℕ) (names : Words) → words ≡ text_of name ∷ others → AreArguments others raw_at names
      → ⊥
  no_arguments name others raw_at names words_are are =
      let read = arguments_read others raw_at names are in
      let some : with_command (command_of (text_of name)) (scan [] [] others) ≡ Some (text_of name, read.addresses, names) =
      rw (named_known name, read.scans) refl in
      let bad : None ≡ Some (text_of name, read.addresses, names) = sym none ∙ ap says words_are ∙ some in
      absurd (cc)

  pub AsksNothing-unread : AsksNothing words
  AsksNothing-unread (program files) asked = no_arguments Program asked.others files.raw_at _ asked.begins asked.names.arguments
  AsksNothing-unread (begin files) asked = no_arguments Begin asked.others files.raw_at _ asked.begins asked.names.arguments
  AsksNothing-unread resume asked = no_arguments Resume asked.others None [] asked.begins asked.none
  AsksNothing-unread revert asked = no_arguments Revert asked.others None [] asked.begins asked.none
  AsksNothing-unread (plan files) asked = no_arguments Plan asked.others files.raw_at _ asked.begins asked.names.arguments
  AsksNothing-unread (verify files) asked = no_arguments Verify asked.others files.raw_at _ asked.begins asked.names.arguments
  AsksNothing-unread (compare image) asked = no_arguments Compare asked.others None (image ∷ []) asked.begins asked.one
  AsksNothing-unread status asked = no_arguments Status asked.others None [] asked.begins asked.none
  AsksNothing-unread (inspect flm) asked = no_arguments Inspect asked.others None (flm ∷ []) asked.begins asked.one
  AsksNothing-unread (dump form board) asked = no_arguments Dump asked.others None (form_text form ∷ board ∷ []) asked.begins asked.two
  AsksNothing-unread (demo seed) asked = no_arguments Demo asked.others None (asked.number.word ∷ []) asked.begins asked.number.one

-- What the words of a line ask for.
module _ (words : Words) (line : Line) (is : IsLineOf words line) where
  said : IsSaid words line.command line.addresses.items line.names.items
  said = is_said words line.command line.addresses.items line.names.items is

  pub AsksNothing-unnamed : ((name : CommandName) → line.command ≢ text_of name) → AsksNothing words
  AsksNothing-unnamed none = AsksNothing-unknown words said.others line.command said.words_are none

  pub Asked-line : (name : CommandName) (asked : Option Command) → line.command ≡ text_of name
      → ((others : Words) → Spells others line → Fitted name others asked) → Asked words asked
  Asked-line name asked text fitted =
      Asked-fitted name words said.others (said.words_are ∙ ap (λ (w : List ℕ). w ∷ said.others) text) asked
      (fitted said.others said.scans)
