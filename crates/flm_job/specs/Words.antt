-- What the words of a command line ask for, after the name of the job file.
use Rattle.std.specs.Prelude.{◌≡◌, ◌⊎◌, ℕ, List, [], ◌∷◌, codes}
use Rattle.command_words.specs.declared.command.TextForm.{TextForm}
use Rattle.command_words.specs.declared.command.TextForm.TheVariants.{Hex, Srec}
use Rattle.job_parts.specs.declared.part.Place.TheVariants as place
use Rattle.job_parts.specs.declared.part.Part.{Part}
use Rattle.job_parts.specs.declared.part.Part.TheVariants as part

-- the word for a form of a text
abbrev pub IsForm : List ℕ → TextForm → Type 0
IsForm word Hex = word ≡ codes "hex"
IsForm word Srec = word ≡ codes "srec"

abbrev pub board_name : List ℕ
board_name = codes "board"

abbrev pub flm_name : List ℕ
flm_name = codes "flm"

abbrev pub image_name : List ℕ
image_name = codes "image"

abbrev pub snapshot_name : List ℕ
snapshot_name = codes "snapshot"

-- the words are a name and the word for a form
pub record AskForForm (words : List (List ℕ)) (name : List ℕ) (form : TextForm) : Type 0 where
  pub word : List ℕ
  pub words_are : words ≡ name ∷ word ∷ []
  pub is_form : IsForm word form

-- The words ask for a part: nothing, or `board`, `flm [1|2]`, `image hex|srec` or `snapshot raw`. `flm` alone is the first region's.
abbrev pub AskFor : List (List ℕ) → Part → Type 0
AskFor words part.Listing = words ≡ []
AskFor words part.Board = words ≡ board_name ∷ []
AskFor words (part.Flm place.First) = (words ≡ flm_name ∷ []) ⊎ (words ≡ flm_name ∷ codes "1" ∷ [])
AskFor words (part.Flm place.Second) = words ≡ flm_name ∷ codes "2" ∷ []
AskFor words (part.Image form) = AskForForm words image_name form
AskFor words part.Snapshot = words ≡ snapshot_name ∷ codes "raw" ∷ []
