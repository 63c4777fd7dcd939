-- What each pass over the statements of a text finds.
use Rattle.std.specs.Prelude.{◌≡◌, ◌<◌, ◌^◌, ℕ, List, [], ◌∷◌, ◌++◌, length, All, Contains}
use Rattle.armv6m_decode.specs.declared.instr.Instr.{Instr}
use Rattle.armv6m_asm.specs.declared.statement.Operation.{Operation}
use Rattle.armv6m_asm.specs.declared.statement.Statement.{Statement}
use Rattle.armv6m_asm.specs.declared.labels.Label.{Label}
use Rattle.armv6m_asm.specs.declared.fault.AsmFault.{AsmFault}
use Rattle.armv6m_asm.specs.declared.fault.AsmFault.TheVariants.{BadWord, TwiceLabel, NoLabel, OutOfReach, OutOfMemory}
use Rattle.armv6m_asm.specs.Usable.{IsUsable}
use Rattle.armv6m_asm.specs.Label.{names_of}
use Rattle.armv6m_asm.specs.Assembly.{width, size_of, place_after, labels_of, AreOnce, IsFirstTwice, named_by, IsFirstMissing, IsCodeOf, AreBytesOf, GoesBeyond}
use Rattle.armv6m_asm.specs.Assembly.{IsFirstBeyond, AreRead, IsFirstBad}

-- ---- lines

-- the statements of all lines. The place of each fits 32 bits.
pub record ReadsAll (lines : List (List ℕ)) (statements : List Statement) : Type 0 where
  pub read : AreRead 0 lines statements
  pub usable : All IsUsable statements
  pub fits : place_after 0 statements < 2 ^ 32

abbrev pub IsReadFault : List (List ℕ) → AsmFault → Type 0
IsReadFault lines (BadWord line) = IsFirstBad lines line
IsReadFault lines (TwiceLabel name) = ⊥
IsReadFault lines (NoLabel name) = ⊥
IsReadFault lines (OutOfReach line) = ⊥
IsReadFault lines OutOfMemory = Unit {0}

-- ---- labels

pub record FindsLabels (statements : List Statement) (labels : List Label) : Type 0 where
  pub labels_are : labels ≡ labels_of 0 statements
  pub once : AreOnce (names_of labels)

-- a statement's labels are added to the list, and still no name stands twice
pub record AddsLabels (old new labels : List Label) : Type 0 where
  pub added : new ≡ old ++ labels
  pub once : AreOnce (names_of old) → AreOnce (names_of new)

-- a statement's label is in the list already
pub record StandsAlready (old labels : List Label) (name : List ℕ) : Type 0 where
  pub named : names_of labels ≡ name ∷ []
  pub already : Contains (names_of old) name

abbrev pub IsAddFault : List Label → List Label → AsmFault → Type 0
IsAddFault old labels (BadWord line) = ⊥
IsAddFault old labels (TwiceLabel name) = StandsAlready old labels name
IsAddFault old labels (NoLabel name) = ⊥
IsAddFault old labels (OutOfReach line) = ⊥
IsAddFault old labels OutOfMemory = Unit {0}

abbrev pub IsLabelFault : List Statement → AsmFault → Type 0
IsLabelFault statements (BadWord line) = ⊥
IsLabelFault statements (TwiceLabel name) = IsFirstTwice (names_of (labels_of 0 statements)) name
IsLabelFault statements (NoLabel name) = ⊥
IsLabelFault statements (OutOfReach line) = ⊥
IsLabelFault statements OutOfMemory = Unit {0}

-- ---- destinations

-- a statement names a destination that isn't a label
pub record IsMissing (operation : Operation) (names : List (List ℕ)) (name : List ℕ) : Type 0 where
  pub named : named_by operation ≡ name ∷ []
  pub missing : Contains names name → ⊥

abbrev pub IsMissingFault : Operation → List (List ℕ) → AsmFault → Type 0
IsMissingFault operation names (BadWord line) = ⊥
IsMissingFault operation names (TwiceLabel name) = ⊥
IsMissingFault operation names (NoLabel name) = IsMissing operation names name
IsMissingFault operation names (OutOfReach line) = ⊥
IsMissingFault operation names OutOfMemory = Unit {0}

abbrev pub IsDestinationFault : List (List ℕ) → List (List ℕ) → AsmFault → Type 0
IsDestinationFault destinations names (BadWord line) = ⊥
IsDestinationFault destinations names (TwiceLabel name) = ⊥
IsDestinationFault destinations names (NoLabel name) = IsFirstMissing destinations names name
IsDestinationFault destinations names (OutOfReach line) = ⊥
IsDestinationFault destinations names OutOfMemory = Unit {0}

-- ---- code

-- the code of an instruction is added to the bytes
pub record AddsCode (old new : List ℕ) (i : Instr) : Type 0 where
  pub own : List ℕ
  pub added : new ≡ old ++ own
  pub long : length own ≡ width i
  pub code : IsCodeOf i own

-- the bytes of a statement are added to those before it
pub record AddsBytes (labels : List Label) (operation : Operation) (at : ℕ) (old new : List ℕ) : Type 0 where
  pub own : List ℕ
  pub added : new ≡ old ++ own
  pub long : length own ≡ size_of operation at
  pub bytes : AreBytesOf labels operation at own

pub record IsBeyondAt (labels : List Label) (operation : Operation) (at line answered : ℕ) : Type 0 where
  pub beyond : GoesBeyond labels operation at
  pub line_is : answered ≡ line

abbrev pub IsBeyondFault : List Label → Operation → ℕ → ℕ → AsmFault → Type 0
IsBeyondFault labels operation at line (BadWord answered) = ⊥
IsBeyondFault labels operation at line (TwiceLabel name) = ⊥
IsBeyondFault labels operation at line (NoLabel name) = ⊥
IsBeyondFault labels operation at line (OutOfReach answered) = IsBeyondAt labels operation at line answered
IsBeyondFault labels operation at line OutOfMemory = Unit {0}

abbrev pub IsCodeFault : List Label → List Statement → AsmFault → Type 0
IsCodeFault labels statements (BadWord line) = ⊥
IsCodeFault labels statements (TwiceLabel name) = ⊥
IsCodeFault labels statements (NoLabel name) = ⊥
IsCodeFault labels statements (OutOfReach line) = IsFirstBeyond labels statements line
IsCodeFault labels statements OutOfMemory = Unit {0}
