-- Words and what they ask for.
use Rattle.std.proofs.Common.{◌≡◌, ◌≢◌, ◌∙◌, sym, ap, subst, refl, ◌==◌, if◌then◌else◌, Bool, ℕ, List, [], ◌∷◌, ◌++◌, get_or, drop, Option, Some, None, IsSome}
use Rattle.std.proofs.Common.{option_to_list}
use Rattle.command_words.specs.Words.{text_of, form_text, IsDump, Begins, Positional, HasOneName, IsDemo, HasBoardAndImages, IsVerify, HasTargetAndImages}
use Rattle.command_words.specs.Words.{IsOnTarget, Command, program, begin, resume, revert, plan, verify, compare, status, inspect, dump, demo, Asks}
use Rattle.command_words.specs.Words.{AsksNothing, Asked}
use Rattle.command_words.specs.Files.{FilesAsked, names_in}
use Rattle.command_words.specs.Fits.{Fits, Fitted}
use Rattle.command_words.specs.declared.command.CommandName.{CommandName}
use Rattle.command_words.specs.declared.command.CommandName.TheVariants.{Program, Begin, Resume, Revert, Plan, Verify, Compare, Status, Inspect, Dump, Demo}
use Rattle.command_words.specs.declared.command.TextForm.{TextForm}
use Rattle.command_words.specs.declared.command.TextForm.TheVariants.{Hex, Srec}
use Rattle.command_words.proofs.ScanLemmas.{one_arguments}

-- A first word names one command.

-- the byte of a word at an index
abbrev byte_is : List ℕ → ℕ → ℕ → Bool
byte_is word k byte = get_or word k 0 == byte

-- the command of a first word, by its bytes 0 to 2
named : List ℕ → CommandName
named word =
    if byte_is word 0 98 then Begin else if byte_is word 0 99 then Compare else if byte_is word 0 105 then Inspect else if byte_is word 0 118 then Verify
    else if byte_is word 0 100 then (if byte_is word 1 101 then Demo else Dump) else if byte_is word 0 115 then Status
    else if byte_is word 0 112 then (if byte_is word 2 111 then Program else Plan)
    else (if byte_is word 2 115 then Resume else Revert)

named-text_of : (name : CommandName) → named (text_of name) ≡ name
unfolding named
named-text_of Program = refl
named-text_of name = refl

-- the command that a first word names is the one that the words ask for
abbrev IsCalled : Command → CommandName → Type 0
IsCalled (program files) name = name ≡ Program
IsCalled (begin files) name = name ≡ Begin
IsCalled resume name = name ≡ Resume
IsCalled revert name = name ≡ Revert
IsCalled (plan files) name = name ≡ Plan
IsCalled (verify files) name = name ≡ Verify
IsCalled (compare image) name = name ≡ Compare
IsCalled status name = name ≡ Status
IsCalled (inspect flm) name = name ≡ Inspect
IsCalled (dump form board) name = name ≡ Dump
IsCalled (demo seed) name = name ≡ Demo

-- `other` stands for the first word where there is none
module _ (words : List (List ℕ)) (other : List ℕ) where
  -- the command of the first word
  abbrev first_name : CommandName
  first_name = named (get_or words 0 other)

  first_is : (command : CommandName) (others : List (List ℕ)) → words ≡ text_of command ∷ others → first_name ≡ command
  first_is command others words_are = ap (λ (w : List (List ℕ)). named (get_or w 0 other)) words_are ∙ named-text_of command

  called : (command : Command) → Asks words command → IsCalled command first_name
  called (program files) asked = first_is Program asked.others asked.begins
  called (begin files) asked = first_is Begin asked.others asked.begins
  called resume asked = first_is Resume asked.others asked.begins
  called revert asked = first_is Revert asked.others asked.begins
  called (plan files) asked = first_is Plan asked.others asked.begins
  called (verify files) asked = first_is Verify asked.others asked.begins
  called (compare image) asked = first_is Compare asked.others asked.begins
  called status asked = first_is Status asked.others asked.begins
  called (inspect flm) asked = first_is Inspect asked.others asked.begins
  called (dump form board) asked = first_is Dump asked.others asked.begins
  called (demo seed) asked = first_is Demo asked.others asked.begins

-- a first word that names no command
module _ (words others : List (List ℕ)) (first : List ℕ) (is : words ≡ first ∷ others) (none : (name : CommandName) → first ≢ text_of name) where
  no_beginning : (name : CommandName) (rest : List (List ℕ)) → words ≡ text_of name ∷ rest → ⊥
  no_beginning name rest words_are = none name (ap (λ (w : List (List ℕ)). get_or w 0 []) (sym is ∙ words_are))

  pub AsksNothing-unknown : AsksNothing words
  AsksNothing-unknown (program files) asked = no_beginning Program asked.others asked.begins
  AsksNothing-unknown (begin files) asked = no_beginning Begin asked.others asked.begins
  AsksNothing-unknown resume asked = no_beginning Resume asked.others asked.begins
  AsksNothing-unknown revert asked = no_beginning Revert asked.others asked.begins
  AsksNothing-unknown (plan files) asked = no_beginning Plan asked.others asked.begins
  AsksNothing-unknown (verify files) asked = no_beginning Verify asked.others asked.begins
  AsksNothing-unknown (compare image) asked = no_beginning Compare asked.others asked.begins
  AsksNothing-unknown status asked = no_beginning Status asked.others asked.begins
  AsksNothing-unknown (inspect flm) asked = no_beginning Inspect asked.others asked.begins
  AsksNothing-unknown (dump form board) asked = no_beginning Dump asked.others asked.begins
  AsksNothing-unknown (demo seed) asked = no_beginning Demo asked.others asked.begins

-- Words that begin with the name of a command ask for what the others make of it.
module _ (name : CommandName) (words others : List (List ℕ)) (is : words ≡ text_of name ∷ others) where
  -- what holds of the name at the front of the words, and of the words after it
  same_beginning : (P : CommandName → List (List ℕ) → Type 0) (command : CommandName) (rest : List (List ℕ)) → words ≡ text_of command ∷ rest → P command rest
      → P name others
  same_beginning P command rest words_are holds =
      let name_is : command ≡ name = sym (first_is words [] command rest words_are) ∙ first_is words [] name others is in
      let rest_is : rest ≡ others = ap (λ (w : List (List ℕ)). drop 1 w) (sym words_are ∙ is) in
      subst (λ (n : CommandName). P n others) name_is (subst (λ (r : List (List ℕ)). P command r) rest_is holds)

  fits : (command : Command) → Asks words command → Fits name others command
  fits (program files) asked = same_beginning (λ n o. Fits n o (program files)) Program asked.others asked.begins asked.names
  fits (begin files) asked = same_beginning (λ n o. Fits n o (begin files)) Begin asked.others asked.begins asked.names
  fits resume asked = same_beginning (λ n o. Fits n o resume) Resume asked.others asked.begins asked.none
  fits revert asked = same_beginning (λ n o. Fits n o revert) Revert asked.others asked.begins asked.none
  fits (plan files) asked = same_beginning (λ n o. Fits n o (plan files)) Plan asked.others asked.begins asked.names
  fits (verify files) asked = same_beginning (λ n o. Fits n o (verify files)) Verify asked.others asked.begins asked.names
  fits (compare image) asked = same_beginning (λ n o. Fits n o (compare image)) Compare asked.others asked.begins asked.one
  fits status asked = same_beginning (λ n o. Fits n o status) Status asked.others asked.begins asked.none
  fits (inspect flm) asked = same_beginning (λ n o. Fits n o (inspect flm)) Inspect asked.others asked.begins asked.one
  fits (dump form board) asked = same_beginning (λ n o. Fits n o (dump form board)) Dump asked.others asked.begins asked.two
  fits (demo seed) asked = same_beginning (λ n o. Fits n o (demo seed)) Demo asked.others asked.begins asked.number

  pub Asked-fitted : (asked : Option Command) → Fitted name others asked → Asked words asked
  Asked-fitted (Some command) fitted = asks name is command fitted where
    asks : (n : CommandName) → words ≡ text_of n ∷ others → (command : Command) → Fits n others command → Asks words command
    asks Program is (program files) fits = record { others = others; begins = is; names = fits }
    asks Begin is (begin files) fits = record { others = others; begins = is; names = fits }
    asks Resume is resume fits = record { others = others; begins = is; none = fits }
    asks Revert is revert fits = record { others = others; begins = is; none = fits }
    asks Plan is (plan files) fits = record { others = others; begins = is; names = fits }
    asks Verify is (verify files) fits = record { others = others; begins = is; names = fits }
    asks Compare is (compare image) fits = record { others = others; begins = is; one = fits }
    asks Status is status fits = record { others = others; begins = is; none = fits }
    asks Inspect is (inspect flm) fits = record { others = others; begins = is; one = fits }
    asks Dump is (dump form board) fits = record { others = others; begins = is; two = fits }
    asks Demo is (demo seed) fits = record { others = others; begins = is; number = fits }
    asks n is command fits = absurd fits
  Asked-fitted None none = λ command asked. none command (fits command asked)

-- A list of words has at most one command.

one_name_alone : (words : List (List ℕ)) (a b : List ℕ) → Positional words (a ∷ []) → Positional words (b ∷ []) → a ≡ b
one_name_alone words a b one two =
    let same = (one_arguments words None None (a ∷ []) (b ∷ []) one two).names in cc

-- the words after one name
same_others : (command : CommandName) (words xs ys : List (List ℕ)) → Begins command words xs → Begins command words ys → xs ≡ ys
same_others command words xs ys one two = ap (λ (w : List (List ℕ)). drop 1 w) (sym one ∙ two)

same_name : (command : CommandName) (words : List (List ℕ)) (a b : List ℕ) → HasOneName command words a → HasOneName command words b → a ≡ b
same_name command words a b one two =
    let same = same_others command words one.others two.others one.begins two.begins in
    one_name_alone two.others a b (subst (λ (w : List (List ℕ)). Positional w (a ∷ [])) same one.one) two.one

same_seed : (words : List (List ℕ)) (a b : ℕ) → IsDemo words a → IsDemo words b → a ≡ b
same_seed words a b one two =
    let same = same_others Demo words one.others two.others one.begins two.begins in
    let word : one.number.word ≡ two.number.word = one_name_alone two.others one.number.word two.number.word
    (subst (λ (w : List (List ℕ)). Positional w (one.number.word ∷ [])) same one.number.one) two.number.one in
    let x = one.number.decimal.value in let y = two.number.decimal.value in cc

-- a word names at most one format
same_form : (f g : TextForm) → form_text f ≡ form_text g → f ≡ g
same_form Hex Hex same = refl
same_form Hex Srec same = absurd (cc)
same_form Srec Hex same = absurd (cc)
same_form Srec Srec same = refl

same_dump : (words : List (List ℕ)) (f g : TextForm) (a b : List ℕ) → IsDump words f a → IsDump words g b → dump f a ≡ dump g b
same_dump words f g a b one two =
    let others = same_others Dump words one.others two.others one.begins two.begins in
    let names = (one_arguments two.others None None (form_text f ∷ a ∷ []) (form_text g ∷ b ∷ [])
    (subst (λ (w : List (List ℕ)). Positional w (form_text f ∷ a ∷ [])) others one.two) two.two).names in
    let text : form_text f ≡ form_text g = cc in
    let form = same_form f g text in
    let board : a ≡ b = cc in
    cc

same_record : (r r' : Option ℕ) (b b' : List ℕ) (f f' : Option (List ℕ)) (i i' : List (List ℕ)) → r ≡ r' → b ≡ b' → f ≡ f' → i ≡ i'
    → ◌≡◌ {A = FilesAsked} (record { raw_at = r; board = b; flm = f; images = i }) (record { raw_at = r'; board = b'; flm = f'; images = i' })
same_record r r' b b' f f' i i' r_is b_is f_is i_is = cc

-- a board and images are the only ones that these words give
same_files : (words : List (List ℕ)) (a b : FilesAsked) → HasBoardAndImages words a → HasBoardAndImages words b → a ≡ b
same_files words a b one two =
    let same = one_arguments words a.raw_at b.raw_at (a.board ∷ a.images) (b.board ∷ b.images) one.arguments two.arguments in
    let raw_at = same.raw_at in
    let names = same.names in
    let board : a.board ≡ b.board = cc in
    let images : a.images ≡ b.images = cc in
    let flm : a.flm ≡ b.flm = one.no_flm ∙ sym two.no_flm in
    same_record a.raw_at b.raw_at a.board b.board a.flm b.flm a.images b.images raw_at board flm images

same_verify : (words : List (List ℕ)) (a b : FilesAsked) → IsVerify words a → IsVerify words b → a ≡ b
same_verify words a b one two =
    let others = same_others Verify words one.others two.others one.begins two.begins in
    same_files two.others a b (subst (λ (w : List (List ℕ)). HasBoardAndImages w a) others one.names) two.names

-- a board, an FLM file and images are the only ones that these words give

pub record IsSameTarget (f g : Option (List ℕ)) (x y : List ℕ) (is js : List (List ℕ)) : Type 0 where
  pub board : x ≡ y
  pub flm : f ≡ g
  pub images : is ≡ js

one_target : (f g : Option (List ℕ)) (x y : List ℕ) (is js : List (List ℕ)) → IsSome f → IsSome g
    → x ∷ (option_to_list f ++ is) ≡ y ∷ (option_to_list g ++ js) → IsSameTarget f g x y is js
one_target None g x y is js some some' same = absurd (cc)
one_target (Some f) None x y is js some some' same = absurd (cc)
one_target (Some f) (Some g) x y is js some some' same = record { board = cc; flm = let file : f ≡ g = cc in cc; images = cc }

same_target : (words : List (List ℕ)) (a b : FilesAsked) → HasTargetAndImages words a → HasTargetAndImages words b → a ≡ b
same_target words a b one two =
    let same = one_arguments words a.raw_at b.raw_at (names_in a) (names_in b) one.arguments two.arguments in
    let parts = one_target a.flm b.flm a.board b.board a.images b.images one.has_flm two.has_flm same.names in
    same_record a.raw_at b.raw_at a.board b.board a.flm b.flm a.images b.images same.raw_at parts.board parts.flm parts.images

same_on_target : (command : CommandName) (words : List (List ℕ)) (a b : FilesAsked) → IsOnTarget command words a → IsOnTarget command words b → a ≡ b
same_on_target command words a b one two =
    let others = same_others command words one.others two.others one.begins two.begins in
    same_target two.others a b (subst (λ (w : List (List ℕ)). HasTargetAndImages w a) others one.names) two.names

pub one_command : (words : List (List ℕ)) (a b : Command) → Asks words a → Asks words b → a ≡ b
one_command words (program x) (program y) one two = ap program (same_on_target Program words x y one two)
one_command words (begin x) (begin y) one two = ap begin (same_on_target Begin words x y one two)
one_command words resume resume one two = refl
one_command words revert revert one two = refl
one_command words (plan x) (plan y) one two = ap plan (same_on_target Plan words x y one two)
one_command words (verify x) (verify y) one two = ap verify (same_verify words x y one two)
one_command words (compare a) (compare b) one two = ap compare (same_name Compare words a b one two)
one_command words status status one two = refl
one_command words (inspect a) (inspect b) one two = ap inspect (same_name Inspect words a b one two)
one_command words (dump f a) (dump g b) one two = same_dump words f g a b one two
one_command words (demo a) (demo b) one two = ap demo (same_seed words a b one two)
one_command words a b one two =
    absurd (let called_one = called words [] a one in let called_other = called words [] b two in let no : ⊥ = cc in no)

-- words ask for at most one thing
pub one_asked : (words : List (List ℕ)) (a b : Option Command) → Asked words a → Asked words b → a ≡ b
one_asked words None None one two = refl
one_asked words None (Some b) one two = absurd (one b two)
one_asked words (Some a) None one two = absurd (two a one)
one_asked words (Some a) (Some b) one two = ap (λ (c : Command). Some c) (one_command words a b one two)
