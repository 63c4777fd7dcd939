-- The commands, and the files that each asks for.
use Rattle.std.specs.Prelude.{ℕ, List, [], ◌∷◌, ◌++◌, Option, option_to_list}
use Rattle.command_words.specs.declared.command.TextForm.{TextForm}

-- The files that a command asks for by name: a board, an FLM file if the command has one, and images. With an address there is one image,
-- and its file is raw bytes from that address on.
pub record FilesAsked : Type 0 where
  pub raw_at : Option ℕ
  pub board : List ℕ
  pub flm : Option (List ℕ)
  pub images : List (List ℕ)

-- the names of the files, in the order of the words
abbrev pub names_in : FilesAsked → List (List ℕ)
names_in files = files.board ∷ (option_to_list files.flm ++ files.images)

-- a command, with the names of its files or its number
pub data Command : Type 0 where
  program : (files : FilesAsked) → Command
  begin : (files : FilesAsked) → Command
  resume : Command
  revert : Command
  plan : (files : FilesAsked) → Command
  verify : (files : FilesAsked) → Command
  compare : (image : List ℕ) → Command
  status : Command
  inspect : (flm : List ℕ) → Command
  dump : (form : TextForm) → (board : List ℕ) → Command
  demo : (seed : ℕ) → Command

-- the names of the files that a command may take, in the order of the words
abbrev pub names_asked : Command → List (List ℕ)
names_asked (program files) = names_in files
names_asked (begin files) = names_in files
names_asked (plan files) = names_in files
names_asked (verify files) = names_in files
names_asked (compare image) = image ∷ []
names_asked (inspect flm) = flm ∷ []
names_asked (dump form board) = board ∷ []
names_asked _ = []
