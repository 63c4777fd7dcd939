-- The assembly of a text: from the statements of its lines to its code, which begins at address 0.
use Rattle.std.specs.Prelude.{◌≡◌, ◌≢◌, ◌⊎◌, ◌+◌, ◌%◌, ◌==◌, ℕ, Bool, true, false, List, [], ◌∷◌, ◌++◌, length, All, AllPairs, Contains, Option, Some, None}
use Rattle.std.specs.Prelude.{if◌then◌else◌}
use Rattle.std.specs.Borrow.{Bor}
use Rattle.std.specs.Int.{w16, w32, to_le_bytes}
use Rattle.octets.specs.Lines.{lines_of}
use Rattle.armv6m_decode.specs.declared.instr.Instr.{Instr}
use Rattle.armv6m_decode.specs.declared.instr.Instr.TheVariants as instr
use Rattle.armv6m_decode.specs.declared.instr.Branch.TheVariants.{Bl}
use Rattle.armv6m_decode.specs.declared.instr.Other.TheVariants.{Mrs, Msr, Dsb, Dmb, Isb}
use Rattle.armv6m_encode.specs.declared.code.Encoding.{Encoding}
use Rattle.armv6m_encode.specs.declared.code.Encoding.TheVariants.{Half, Pair}
use Rattle.armv6m_encode.specs.Encoding.{IsEncodedAs}
use Rattle.armv6m_forms.specs.declared.form.Aim.{Aim}
use Rattle.armv6m_forms.specs.declared.form.Aim.TheVariants.{BranchLink}
use Rattle.armv6m_forms.specs.declared.form.Form.TheVariants as form
use Rattle.armv6m_forms.specs.Form.{StandsFor, HasNoInstruction}
use Rattle.armv6m_asm.specs.declared.statement.Destination.{Destination}
use Rattle.armv6m_asm.specs.declared.statement.Destination.TheVariants as destination
use Rattle.armv6m_asm.specs.declared.statement.Operation.{Operation}
use Rattle.armv6m_asm.specs.declared.statement.Operation.TheVariants.{Nothing, Word, Align, Plain, Aimed}
use Rattle.armv6m_asm.specs.declared.statement.Statement.{Statement}
use Rattle.armv6m_asm.specs.declared.labels.Label.{Label}
use Rattle.armv6m_asm.specs.Label.{names_of}
use Rattle.armv6m_asm.specs.declared.code.Code.{Code}
use Rattle.armv6m_asm.specs.declared.fault.AsmFault.{AsmFault}
use Rattle.armv6m_asm.specs.declared.fault.AsmFault.TheVariants.{BadWord, TwiceLabel, NoLabel, OutOfReach, OutOfMemory}
use Rattle.armv6m_asm.specs.Statement.{IsStatement}

-- ---- places

-- whether an instruction has two halfwords (A5.3)
abbrev pub is_wide : Instr → Bool
is_wide (instr.Branch (Bl immediate)) = true
is_wide (instr.Other (Mrs d special)) = true
is_wide (instr.Other (Msr n special)) = true
is_wide (instr.Other Dsb) = true
is_wide (instr.Other Dmb) = true
is_wide (instr.Other Isb) = true
is_wide _ = false

-- how many bytes an instruction has
abbrev pub width : Instr → ℕ
width i = if is_wide i then 4 else 2

-- how many bytes an instruction with a destination has
abbrev pub aim_width : Aim → ℕ
aim_width BranchLink = 4
aim_width _ = 2

-- the bytes of `NOP`, the halfword BF00 with its low byte first: `.align` pads with it
abbrev pub nop : List ℕ
nop = 0x00 ∷ 0xBF ∷ []

-- the bytes that pad a place to a multiple of 4. Each place is even, so they are none or one `NOP`.
abbrev pub padding : ℕ → List ℕ
padding at = if at % 4 == 0 then [] else nop

-- how many bytes a statement has when it begins at a place
abbrev pub size_of : Operation → ℕ → ℕ
size_of Nothing at = 0
size_of (Word value) at = 4
size_of Align at = length (padding at)
size_of (Plain i) at = width i
size_of (Aimed aim t) at = aim_width aim

-- the place after some statements that begin at a place
abbrev pub place_after : ℕ → List Statement → ℕ
place_after from [] = from
place_after from (s ∷ statements) = place_after (from + size_of s.operation from) statements

-- after an `.align` the place is a multiple of 4, wherever the `.align` stands in a text
abbrev pub AlignPads : Type 0
AlignPads = (statements : List Statement) → (place_after 0 statements + size_of Align (place_after 0 statements)) % 4 ≡ 0

-- ---- labels

abbrev pub label_at : Option (Bor (List ℕ)) → ℕ → List Label
label_at None at = []
label_at (Some name) at = record { name = name.now; place = at } ∷ []

-- the labels of some statements that begin at a place, in their order. Each has the place of its statement.
abbrev pub labels_of : ℕ → List Statement → List Label
labels_of from [] = []
labels_of from (s ∷ statements) = label_at s.label from ++ labels_of (from + size_of s.operation from) statements

-- no name occurs twice in a list
abbrev pub AreOnce : List (List ℕ) → Type 0
AreOnce names = AllPairs (λ first second. first ≢ second) names

-- the first name of a list that also occurs earlier in the list
pub record IsFirstTwice (names : List (List ℕ)) (name : List ℕ) : Type 0 where
  pub earlier : List (List ℕ)
  pub later : List (List ℕ)
  pub names_are : names ≡ earlier ++ name ∷ later
  pub once : AreOnce earlier
  pub twice : Contains earlier name

-- ---- destinations

abbrev pub name_in : Destination → List (List ℕ)
name_in (destination.Label name) = name.now ∷ []
name_in (destination.Address address) = []

abbrev pub named_by : Operation → List (List ℕ)
named_by (Aimed aim t) = name_in t
named_by _ = []

-- the names that some statements have as destinations, in their order
abbrev pub destinations_of : List Statement → List (List ℕ)
destinations_of [] = []
destinations_of (s ∷ statements) = named_by s.operation ++ destinations_of statements

-- the first destination that isn't the name of a label
pub record IsFirstMissing (destinations names : List (List ℕ)) (name : List ℕ) : Type 0 where
  pub earlier : List (List ℕ)
  pub later : List (List ℕ)
  pub destinations_are : destinations ≡ earlier ++ name ∷ later
  pub there : All (Contains names) earlier
  pub missing : Contains names name → ⊥

-- the address that a destination means: the place of the label, or the address that is written
abbrev pub LeadsTo : List Label → Destination → ℕ → Type 0
LeadsTo labels (destination.Label name) address = Contains labels (record { name = name.now; place = address })
LeadsTo labels (destination.Address written) address = address ≡ written

-- ---- code

-- the bytes of an encoding: each halfword has its low byte first, and the first halfword of a pair comes first (A3.3, A5.1)
abbrev pub code_of : Encoding → List ℕ
code_of (Half half) = to_le_bytes w16 half
code_of (Pair first second) = to_le_bytes w16 first ++ to_le_bytes w16 second

-- the bytes that the decoder's table reads as an instruction
pub record IsCodeOf (i : Instr) (bytes : List ℕ) : Type 0 where
  pub encoding : Encoding
  pub encoded : IsEncodedAs i encoding
  pub bytes_are : bytes ≡ code_of encoding

-- the bytes of an instruction at a place that has an address as its destination
pub record IsAimedCode (aim : Aim) (address at : ℕ) (bytes : List ℕ) : Type 0 where
  pub instr : Instr
  pub stands : StandsFor instr at (form.Aimed aim address)
  pub code : IsCodeOf instr bytes

-- the bytes of an instruction at a place that has a label or an address as its destination
pub record LeadsByCode (labels : List Label) (aim : Aim) (t : Destination) (at : ℕ) (bytes : List ℕ) : Type 0 where
  pub address : ℕ
  pub leads : LeadsTo labels t address
  pub code : IsAimedCode aim address at bytes

-- the bytes of a statement at a place
abbrev pub AreBytesOf : List Label → Operation → ℕ → List ℕ → Type 0
AreBytesOf labels Nothing at bytes = bytes ≡ []
AreBytesOf labels (Word value) at bytes = bytes ≡ to_le_bytes w32 value
AreBytesOf labels Align at bytes = bytes ≡ padding at
AreBytesOf labels (Plain i) at bytes = IsCodeOf i bytes
AreBytesOf labels (Aimed aim t) at bytes = LeadsByCode labels aim t at bytes

-- the bytes of some statements that begin at a place, one statement after the other. Each statement has its size in bytes, so places count
-- bytes.
abbrev pub AreBytes : List Label → ℕ → List Statement → List ℕ → Type 0
AreBytes labels from [] bytes = bytes ≡ []
AreBytes labels from (s ∷ statements) bytes =
    (own : List ℕ) × (rest : List ℕ) × (bytes ≡ own ++ rest) × (length own ≡ size_of s.operation from) × AreBytesOf labels s.operation from own
    × AreBytes labels (from + size_of s.operation from) statements rest

-- no encoding of the instruction reaches from its place to its destination
pub record IsBeyond (labels : List Label) (aim : Aim) (t : Destination) (at : ℕ) : Type 0 where
  pub address : ℕ
  pub leads : LeadsTo labels t address
  pub none : HasNoInstruction at (form.Aimed aim address)

abbrev pub GoesBeyond : List Label → Operation → ℕ → Type 0
GoesBeyond labels (Aimed aim t) at = IsBeyond labels aim t at
GoesBeyond labels _ at = ⊥

-- the first line with a destination out of reach. All lines before it have their bytes.
pub record IsFirstBeyond (labels : List Label) (statements : List Statement) (line : ℕ) : Type 0 where
  pub before : List Statement
  pub here : Statement
  pub after : List Statement
  pub statements_are : statements ≡ before ++ here ∷ after
  pub bytes : List ℕ
  pub reached : AreBytes labels 0 before bytes
  pub beyond : GoesBeyond labels here.operation (place_after 0 before)
  pub line_is : line ≡ length before + 1

-- ---- lines

abbrev pub IsAligned : Operation → ℕ → Type 0
IsAligned (Word value) at = at % 4 ≡ 0
IsAligned _ at = Unit {0}

-- a line reads as this statement. A `.word` is at a multiple of 4.
pub record IsRight (line : List ℕ) (at : ℕ) (s : Statement) : Type 0 where
  pub statement : IsStatement line s
  pub aligned : IsAligned s.operation at

-- a line doesn't read as any statement
abbrev pub HasNoStatement : List ℕ → Type 0
HasNoStatement line = (s : Statement) → IsStatement line s → ⊥

-- a line reads as a `.word` at a place that isn't a multiple of 4
pub record IsAskew (line : List ℕ) (at : ℕ) : Type 0 where
  pub here : Statement
  pub statement : IsStatement line here
  pub askew : IsAligned here.operation at → ⊥

abbrev pub IsBad : List ℕ → ℕ → Type 0
IsBad line at = HasNoStatement line ⊎ IsAskew line at

-- these statements are those of the lines, the first of them at place `from`
abbrev pub AreRead : ℕ → List (List ℕ) → List Statement → Type 0
AreRead from [] [] = Unit {0}
AreRead from [] (s ∷ statements) = ⊥
AreRead from (line ∷ lines) [] = ⊥
AreRead from (line ∷ lines) (s ∷ statements) = IsRight line from s × AreRead (from + size_of s.operation from) lines statements

-- the first line that is no statement or a misaligned `.word`
pub record IsFirstBad (lines : List (List ℕ)) (line : ℕ) : Type 0 where
  pub before : List (List ℕ)
  pub here : List ℕ
  pub after : List (List ℕ)
  pub lines_are : lines ≡ before ++ here ∷ after
  pub statements : List Statement
  pub read : AreRead 0 before statements
  pub bad : IsBad here (place_after 0 statements)
  pub line_is : line ≡ length before + 1

-- ---- the text

-- all lines of a text are read, and these are their statements and labels
pub record AreOfText (text : List ℕ) (statements : List Statement) (labels : List Label) : Type 0 where
  pub read : AreRead 0 (lines_of text) statements
  pub labels_are : labels ≡ labels_of 0 statements

-- all lines of a text are read, and no label stands twice
pub record HasLabelsOnce (text : List ℕ) (statements : List Statement) (labels : List Label) : Type 0 where
  pub read : AreOfText text statements labels
  pub once : AreOnce (names_of labels)

-- all lines are read, no label stands twice, and each destination that is a name is a label
pub record HasDestinations (text : List ℕ) (statements : List Statement) (labels : List Label) : Type 0 where
  pub read : HasLabelsOnce text statements labels
  pub there : All (Contains (names_of labels)) (destinations_of statements)

-- the code and the labels of a text that passes all checks
pub record IsAssembled (text : List ℕ) (code : Code) : Type 0 where
  pub statements : List Statement
  pub read : HasDestinations text statements code.labels
  pub bytes : AreBytes code.labels 0 statements code.bytes

pub record HasTwiceLabel (text name : List ℕ) : Type 0 where
  pub statements : List Statement
  pub labels : List Label
  pub read : AreOfText text statements labels
  pub twice : IsFirstTwice (names_of labels) name

pub record HasNoLabel (text name : List ℕ) : Type 0 where
  pub statements : List Statement
  pub labels : List Label
  pub read : HasLabelsOnce text statements labels
  pub missing : IsFirstMissing (destinations_of statements) (names_of labels) name

pub record HasOutOfReach (text : List ℕ) (line : ℕ) : Type 0 where
  pub statements : List Statement
  pub labels : List Label
  pub read : HasDestinations text statements labels
  pub beyond : IsFirstBeyond labels statements line

-- why a text isn't assembled. Each check goes over the whole text: first lines, then labels, then destinations, then their reach.
abbrev pub IsRefused : List ℕ → AsmFault → Type 0
IsRefused text (BadWord line) = IsFirstBad (lines_of text) line
IsRefused text (TwiceLabel name) = HasTwiceLabel text name
IsRefused text (NoLabel name) = HasNoLabel text name
IsRefused text (OutOfReach line) = HasOutOfReach text line
IsRefused text OutOfMemory = Unit {0}
