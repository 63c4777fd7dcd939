-- What the words of a command line ask for.
use Rattle.std.specs.Prelude.{◌≡◌, ◌≤◌, ◌<◌, ◌^◌, ◌⊎◌, ℕ, List, [], ◌∷◌, ◌++◌, length, All, slice_index, codes, Option, Some, None, IsSome}
use Rattle.std.specs.Str.Parse.{IsNumeral, digits_value}
use Rattle.command_words.specs.Files.{FilesAsked, names_in}
pub use Rattle.command_words.specs.Files.{Command, program, begin, resume, revert, plan, verify, compare, status, inspect, dump, demo, names_asked}
use Rattle.command_words.specs.declared.command.CommandName.{CommandName}
use Rattle.command_words.specs.declared.command.CommandName.TheVariants.{Program, Begin, Resume, Revert, Plan, Verify, Compare, Status, Inspect, Dump, Demo}
use Rattle.command_words.specs.declared.command.TextForm.{TextForm}
use Rattle.command_words.specs.declared.command.TextForm.TheVariants.{Hex, Srec}

-- the first word of a command line, which names the command
abbrev pub text_of : CommandName → List ℕ
text_of Program = codes "program"
text_of Begin = codes "begin"
text_of Resume = codes "resume"
text_of Revert = codes "revert"
text_of Plan = codes "plan"
text_of Verify = codes "verify"
text_of Compare = codes "compare"
text_of Status = codes "status"
text_of Inspect = codes "inspect"
text_of Dump = codes "dump"
text_of Demo = codes "demo"

-- an option begins with `-` and is longer than one byte
abbrev pub IsOption : List ℕ → Type 0
IsOption word = (slice_index word 0 ≡ 45) × (1 < length word)

abbrev pub HasNoOption : List (List ℕ) → Type 0
HasNoOption words = All (λ word. IsOption word → ⊥) words

-- `--`, which ends the options
abbrev pub dashes : List ℕ
dashes = codes "--"

-- no word is an option, so each is positional
pub record AllPositional (words positional : List (List ℕ)) : Type 0 where
  pub plain : HasNoOption words
  pub all : positional ≡ words

-- the first `--` ends the options: every other word is positional, and no word before it is an option
pub record EndedByDashes (words positional : List (List ℕ)) : Type 0 where
  pub before : List (List ℕ)
  pub after : List (List ℕ)
  pub plain : HasNoOption before
  pub words_are : words ≡ before ++ dashes ∷ after
  pub others : positional ≡ before ++ after

-- the positional words among those after the name of a command that has no options
abbrev pub Positional : List (List ℕ) → List (List ℕ) → Type 0
Positional words positional = AllPositional words positional ⊎ EndedByDashes words positional

-- the first word is the command's name, and the others follow
abbrev pub Begins : CommandName → List (List ℕ) → List (List ℕ) → Type 0
Begins command words others = words ≡ text_of command ∷ others

-- a command line with this command and no other words
pub record HasNoName (command : CommandName) (words : List (List ℕ)) : Type 0 where
  pub others : List (List ℕ)
  pub begins : Begins command words others
  pub none : Positional others []

-- a command line with this command and exactly one positional word
pub record HasOneName (command : CommandName) (words : List (List ℕ)) (name : List ℕ) : Type 0 where
  pub others : List (List ℕ)
  pub begins : Begins command words others
  pub one : Positional others (name ∷ [])

-- `compare IMAGE`
abbrev pub IsCompare : List (List ℕ) → List ℕ → Type 0
IsCompare words image = HasOneName Compare words image

-- `inspect FLM`
abbrev pub IsInspect : List (List ℕ) → List ℕ → Type 0
IsInspect words flm = HasOneName Inspect words flm

-- the word for a text format
abbrev pub form_text : TextForm → List ℕ
form_text Hex = codes "hex"
form_text Srec = codes "srec"

-- `dump FORM BOARD`
pub record IsDump (words : List (List ℕ)) (form : TextForm) (board : List ℕ) : Type 0 where
  pub others : List (List ℕ)
  pub begins : Begins Dump words others
  pub two : Positional others (form_text form ∷ board ∷ [])

-- An address: `0x` with 1 to 8 hexadecimal digits, or decimal digits of a value below 2^32. It has no sign.

pub record IsHexadecimal (word : List ℕ) (at : ℕ) : Type 0 where
  pub digits : List ℕ
  pub word_is : word ≡ codes "0x" ++ digits
  pub numeral : IsNumeral 16 digits
  pub few : length digits ≤ 8
  pub value : at ≡ digits_value 16 digits

pub record IsDecimal (word : List ℕ) (at : ℕ) : Type 0 where
  pub numeral : IsNumeral 10 word
  pub small : digits_value 10 word < 2 ^ 32
  pub value : at ≡ digits_value 10 word

abbrev pub IsAddress : List ℕ → ℕ → Type 0
IsAddress word at = IsHexadecimal word at ⊎ IsDecimal word at

-- there is one positional word, a number in decimal digits without a sign
pub record HasOneNumber (words : List (List ℕ)) (number : ℕ) : Type 0 where
  pub word : List ℕ
  pub one : Positional words (word ∷ [])
  pub decimal : IsDecimal word number

-- `demo N`
pub record IsDemo (words : List (List ℕ)) (seed : ℕ) : Type 0 where
  pub others : List (List ℕ)
  pub begins : Begins Demo words others
  pub number : HasOneNumber others seed

-- The option `--raw-at ADDR`, two words, or `--raw-at=ADDR`, one word.

abbrev pub raw_at_name : List ℕ
raw_at_name = codes "--raw-at"

abbrev pub raw_at_equals : List ℕ
raw_at_equals = codes "--raw-at="

pub record InTwoWords (option : List (List ℕ)) (at : ℕ) : Type 0 where
  pub address : List ℕ
  pub words_are : option ≡ raw_at_name ∷ address ∷ []
  pub is_address : IsAddress address at

pub record InOneWord (option : List (List ℕ)) (at : ℕ) : Type 0 where
  pub address : List ℕ
  pub words_are : option ≡ (raw_at_equals ++ address) ∷ []
  pub is_address : IsAddress address at

abbrev pub IsRawAt : List (List ℕ) → ℕ → Type 0
IsRawAt option at = InTwoWords option at ⊎ InOneWord option at

-- the option occurs once, before any `--`; without it the words are these positional words and no option
pub record HasRawAt (words : List (List ℕ)) (at : ℕ) (positional : List (List ℕ)) : Type 0 where
  pub before : List (List ℕ)
  pub option : List (List ℕ)
  pub after : List (List ℕ)
  pub words_are : words ≡ before ++ (option ++ after)
  pub is_option : IsRawAt option at
  pub plain : HasNoOption before
  pub others : Positional (before ++ after) positional

-- the words after the name of a command that may have this option: its address, if any, and the positional words
abbrev pub AreArguments : List (List ℕ) → Option ℕ → List (List ℕ) → Type 0
AreArguments words None positional = Positional words positional
AreArguments words (Some at) positional = HasRawAt words at positional

-- how many images are allowed: one of raw bytes, else 1 to 16
abbrev pub AreFew : Option ℕ → ℕ → Type 0
AreFew None images = (1 ≤ images) × (images ≤ 16)
AreFew (Some at) images = images ≡ 1

-- the words after a command's name are a board and an allowed number of images, without an FLM file
pub record HasBoardAndImages (words : List (List ℕ)) (files : FilesAsked) : Type 0 where
  pub arguments : AreArguments words files.raw_at (files.board ∷ files.images)
  pub no_flm : files.flm ≡ None
  pub few : AreFew files.raw_at (length files.images)

-- `verify [--raw-at ADDR] BOARD IMAGE...`
pub record IsVerify (words : List (List ℕ)) (files : FilesAsked) : Type 0 where
  pub others : List (List ℕ)
  pub begins : Begins Verify words others
  pub names : HasBoardAndImages others files

-- the words after a command's name are a board, an FLM file and an allowed number of images
pub record HasTargetAndImages (words : List (List ℕ)) (files : FilesAsked) : Type 0 where
  pub arguments : AreArguments words files.raw_at (names_in files)
  pub has_flm : IsSome files.flm
  pub few : AreFew files.raw_at (length files.images)

-- a command line with this command, a board, an FLM file and images
pub record IsOnTarget (command : CommandName) (words : List (List ℕ)) (files : FilesAsked) : Type 0 where
  pub others : List (List ℕ)
  pub begins : Begins command words others
  pub names : HasTargetAndImages others files

-- `program [--raw-at ADDR] BOARD FLM IMAGE...`
abbrev pub IsProgram : List (List ℕ) → FilesAsked → Type 0
IsProgram words files = IsOnTarget Program words files

-- `begin [--raw-at ADDR] BOARD FLM IMAGE...`
abbrev pub IsBegin : List (List ℕ) → FilesAsked → Type 0
IsBegin words files = IsOnTarget Begin words files

-- `plan [--raw-at ADDR] BOARD FLM IMAGE...`
abbrev pub IsPlan : List (List ℕ) → FilesAsked → Type 0
IsPlan words files = IsOnTarget Plan words files

-- ---- what words ask for

abbrev pub Asks : List (List ℕ) → Command → Type 0
Asks words (program files) = IsProgram words files
Asks words (begin files) = IsBegin words files
Asks words resume = HasNoName Resume words
Asks words revert = HasNoName Revert words
Asks words (plan files) = IsPlan words files
Asks words (verify files) = IsVerify words files
Asks words (compare image) = IsCompare words image
Asks words status = HasNoName Status words
Asks words (inspect flm) = IsInspect words flm
Asks words (dump form board) = IsDump words form board
Asks words (demo seed) = IsDemo words seed

-- the words fit no command
abbrev pub AsksNothing : List (List ℕ) → Type 0
AsksNothing words = (command : Command) → Asks words command → ⊥

-- what the words ask for: this command, or nothing
abbrev pub Asked : List (List ℕ) → Option Command → Type 0
Asked words (Some command) = Asks words command
Asked words None = AsksNothing words
