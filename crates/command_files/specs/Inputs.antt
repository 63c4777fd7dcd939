-- The inputs during one call, and the files that a command takes from them.
use Rattle.std.specs.Prelude.{◌≡◌, ◌<◌, ℕ, Bool, IsTrue, List, [], ◌∷◌, ◌++◌, All, length, get_or, Option, option_to_list, Some}
use Rattle.outside_io.specs.State.{InputsState}
use Rattle.command_words.specs.Files.{FilesAsked}
use Rattle.image_more.specs.Place.{file_at}

-- the inputs at entry and at exit, and whether they tell their contents
pub record InputsCall : Type 0 where
  pub tells : Bool
  pub before : InputsState
  pub after : InputsState

abbrev pub inputs_call : Bool → InputsState → InputsState → InputsCall
inputs_call tells before after = record { tells = tells; before = before; after = after }

-- nothing was taken from the inputs, and no fault was counted
pub record TakesNothing (inputs : InputsCall) : Type 0 where
  pub stands : (name : List ℕ) → inputs.after.stands name ≡ inputs.before.stands name
  pub faults : inputs.after.faults ≡ inputs.before.faults
  pub failed : inputs.after.failed ≡ inputs.before.failed

-- no take failed, and no fault was counted
pub record NoneFailed (inputs : InputsCall) : Type 0 where
  pub faults : inputs.after.faults ≡ inputs.before.faults
  pub failed : IsTrue inputs.tells → inputs.after.failed ≡ inputs.before.failed

-- the file with this name has these bytes, where the inputs tell their contents
abbrev pub IsFile : InputsCall → List ℕ → List ℕ → Type 0
IsFile inputs name bytes = IsTrue inputs.tells → inputs.before.stands name ≡ Some bytes

abbrev pub name_at : List (List ℕ) → ℕ → List ℕ
name_at names k = get_or names k []

-- the files with these names are these, in the same order
pub record AreEach (inputs : InputsCall) (names files : List (List ℕ)) : Type 0 where
  pub count : length files ≡ length names
  pub each : (k : ℕ) → k < length names → IsFile inputs (name_at names k) (file_at files k)

-- The bytes of a command's files. If a command has FLM files for a board with several regions, `images` begins with its further FLM files.
pub record FilesGiven : Type 0 where
  pub board : List ℕ
  pub flm : Option (List ℕ)
  pub images : List (List ℕ)

-- these are the files with the names that the command asks for
pub record AreFiles (inputs : InputsCall) (asked : FilesAsked) (files : FilesGiven) : Type 0 where
  pub board : IsFile inputs asked.board files.board
  pub flm : AreEach inputs (option_to_list asked.flm) (option_to_list files.flm)
  pub images : AreEach inputs asked.images files.images

-- Some files hold this property. Where the inputs tell their contents, the files are those with these names.
pub record Given (inputs : InputsCall) (asked : FilesAsked) (Holds : FilesGiven → Type 0) : Type 0 where
  pub files : FilesGiven
  pub are_files : AreFiles inputs asked files
  pub holds : Holds files

-- there is a file with this name
abbrev pub IsThere : InputsCall → List ℕ → Type 0
IsThere inputs name = (file : List ℕ) × IsFile inputs name file

-- All names before this one were taken. The take of this one failed, and no other take did.
pub record IsUntaken (inputs : InputsCall) (names : List (List ℕ)) (name : List ℕ) : Type 0 where
  pub earlier : List (List ℕ)
  pub later : List (List ℕ)
  pub names_are : names ≡ earlier ++ name ∷ later
  pub taken : All (IsThere inputs) earlier
  pub failed : IsTrue inputs.tells → inputs.after.failed ≡ inputs.before.failed ++ name ∷ []
