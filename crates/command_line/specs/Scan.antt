-- What the words of a command line say: a command, its addresses and its positional words.
use Rattle.std.specs.Prelude.{ℕ, List, [], ◌∷◌, ◌++◌, codes, Option, Some, None, find, if◌then◌else◌}
use Rattle.std.specs.Str.{bytes_eq, IsUtf8}
use Rattle.clap.specs.Lexer.{long_of, short_of}

abbrev pub Text : Type 0
Text = List ℕ

-- the addresses and the positional words that were read
abbrev pub Said : Type 0
Said = List Text × List Text

abbrev pub dashes : Text
dashes = 45 ∷ 45 ∷ []

-- a word that begins as an option: only `--raw-at` is allowed, with its address in this word or in the next
abbrev pub option : Text × Option Text → (Text → Option Said) → Option Said → Option Said
option (name, Some v) attached next = if bytes_eq (codes "raw-at") name then attached v else None
option (name, None) attached next = if bytes_eq (codes "raw-at") name then next else None

-- a word other than `--`
abbrev pub other : Option (Text × Option Text) → Option Text → (Text → Option Said) → Option Said → Option Said → Option Said
other (Some p) flags attached next plain = option p attached next
other None (Some flags) attached next plain = None
other None None attached next plain = plain

-- the word after `--raw-at` must not be an option
abbrev pub address : Option (Text × Option Text) → Option Text → Option Said → Option Said
address (Some p) flags next = None
address None (Some flags) next = None
address None None next = next

-- what the words say, after the addresses `raws` and the positional words `names`
abbrev mutual
  pub scan : List Text → List Text → List Text → Option Said
  scan raws names [] = Some (raws, names)
  scan raws names (w ∷ ws) =
      if bytes_eq w dashes then Some (raws, names ++ ws)
      else other (long_of w) (short_of w) (λ v. scan (raws ++ v ∷ []) names ws) (scan_address raws names ws) (scan raws (names ++ w ∷ []) ws)

  pub scan_address : List Text → List Text → List Text → Option Said
  scan_address raws names [] = None
  scan_address raws names (w ∷ ws) =
      if bytes_eq w dashes then None else address (long_of w) (short_of w) (scan (raws ++ w ∷ []) names ws)

-- the names of the commands
abbrev pub commands : List Text
commands = codes "program" ∷ codes "begin" ∷ codes "resume" ∷ codes "revert" ∷ codes "plan" ∷ codes "verify" ∷ codes "compare" ∷ codes "status"
    ∷ codes "inspect" ∷ codes "dump" ∷ codes "demo" ∷ []

-- the command that the first word names
abbrev pub command_of : Text → Option Text
command_of w = find (λ name. bytes_eq name w) commands

-- the command, with its addresses and its positional words
abbrev pub with_command : Option Text → Option Said → Option (Text × List Text × List Text)
with_command None said = None
with_command (Some c) None = None
with_command (Some c) (Some p) = Some (c, p.0, p.1)

-- what the words of a command line say
abbrev pub says : List Text → Option (Text × List Text × List Text)
says [] = None
says (w ∷ ws) = with_command (command_of w) (scan [] [] ws)

-- each word is text
abbrev pub AreTexts : List Text → Type 0
AreTexts [] = Unit {0}
AreTexts (w ∷ ws) = IsUtf8 w × AreTexts ws
