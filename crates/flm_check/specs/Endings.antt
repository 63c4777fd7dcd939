-- How a check of algorithms ends: its status and its first line.
use Rattle.std.specs.Prelude.{ℕ, List, [], ◌∷◌, codes, decimal}
use Rattle.std.specs.List.{concat}
use Rattle.flm_check.specs.declared.ending.Duty.{Duty}
use Rattle.flm_check.specs.declared.ending.Duty.TheVariants as duty
use Rattle.flm_check.specs.declared.ending.Ending.{Ending}
use Rattle.flm_check.specs.declared.ending.Ending.TheVariants as ending

-- the word for how a call broke its duty
abbrev pub word_of : Duty → List ℕ
word_of duty.Answer = codes "answer"
word_of duty.NoFuel = codes "no-fuel"
word_of duty.Fault = codes "fault"
word_of duty.OperationOutside = codes "operation-outside"
word_of duty.OperationOpen = codes "operation-open"
word_of duty.CellInside = codes "cell-inside"
word_of duty.CellOutside = codes "cell-outside"

abbrev pub status_of : Ending → ℕ
status_of ending.Proved = 0
status_of (ending.Tried lists calls) = 0
status_of (ending.Broken broken) = 15

unfoldable pub first_line : Ending → List ℕ
first_line ending.Proved = codes "proved\n"
first_line (ending.Tried lists calls) = concat (codes "tried " ∷ decimal lists ∷ codes " lists " ∷ decimal calls ∷ codes " calls\n" ∷ [])
first_line (ending.Broken broken) = concat (codes "broken " ∷ word_of broken ∷ codes "\n" ∷ [])
