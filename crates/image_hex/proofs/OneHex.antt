-- A text of Intel HEX has one image or one fault.
use Rattle.std.proofs.Common.{◌≡◌, ◌≢◌, ◌⊎◌, ⊎_elim, inl, inr, refl, sym, ◌∙◌, ℕ, List}
use Rattle.byte_map.specs.Image.{Run}
use Rattle.record_lines.specs.Format.{IsImageOfText, IsFaultOfLine, HasNoEnd}
use Rattle.image_hex.specs.declared.fault.HexKind.{HexKind}
use Rattle.image_hex.specs.declared.fault.HexKind.TheVariants as hex_kind
use Rattle.image_hex.specs.Hex.{hex, IsHexFault}
use Rattle.record_lines.proofs.OneReading.{image_or_fault, image_or_no_end, fault_or_no_end, one_line_fault, one_no_end}

-- the two kinds of a fault of a text: a fault of a line, or a missing end
abbrev HexFaultIs : List (List ℕ) → ℕ → HexKind → Type 0
HexFaultIs lines line kind = IsFaultOfLine hex lines line kind ⊎ ((kind ≡ hex_kind.NoEnd) × HasNoEnd hex lines line)

hex_fault_is : (lines : List (List ℕ)) (line : ℕ) (kind : HexKind) → IsHexFault lines line kind → kind ≢ hex_kind.OutOfMemory → HexFaultIs lines line kind
hex_fault_is lines line hex_kind.NoEnd is other = inr (refl, is)
hex_fault_is lines line hex_kind.OutOfMemory is other = absurd (other refl)
hex_fault_is lines line kind is other = inl is

-- a text that has an image has no fault but out of memory
pub hex_memory_alone : (lines : List (List ℕ)) (image : List Run) (line : ℕ) (kind : HexKind) → IsImageOfText hex lines image
    → IsHexFault lines line kind → kind ≡ hex_kind.OutOfMemory
hex_memory_alone lines image line hex_kind.NotRecord one is = absurd (image_or_fault hex lines image line hex_kind.NotRecord one is)
hex_memory_alone lines image line hex_kind.BadDigit one is = absurd (image_or_fault hex lines image line hex_kind.BadDigit one is)
hex_memory_alone lines image line hex_kind.BadLength one is = absurd (image_or_fault hex lines image line hex_kind.BadLength one is)
hex_memory_alone lines image line (hex_kind.BadSum said due) one is = absurd (image_or_fault hex lines image line (hex_kind.BadSum said due) one is)
hex_memory_alone lines image line (hex_kind.BadType value) one is = absurd (image_or_fault hex lines image line (hex_kind.BadType value) one is)
hex_memory_alone lines image line (hex_kind.Conflict at old new) one is = absurd (image_or_fault hex lines image line (hex_kind.Conflict at old new) one is)
hex_memory_alone lines image line hex_kind.NoEnd one is = absurd (image_or_no_end hex lines image line one is)
hex_memory_alone lines image line hex_kind.OutOfMemory one is = refl

pub hex_image_or_fault : (lines : List (List ℕ)) (image : List Run) (line : ℕ) (kind : HexKind) → IsImageOfText hex lines image
    → IsHexFault lines line kind → kind ≢ hex_kind.OutOfMemory → ⊥
hex_image_or_fault lines image line kind one fault other = other (hex_memory_alone lines image line kind one fault)

pub one_hex_fault : (lines : List (List ℕ)) (line other : ℕ) (a b : HexKind) → IsHexFault lines line a → IsHexFault lines other b
    → a ≢ hex_kind.OutOfMemory → b ≢ hex_kind.OutOfMemory → (line ≡ other) × (a ≡ b)
one_hex_fault lines line other a b one two no_a no_b = ⊎_elim
    (λ (one : IsFaultOfLine hex lines line a). ⊎_elim
    (λ (two : IsFaultOfLine hex lines other b). let same = one_line_fault hex lines line other a b one two in (same.line_is, same.fault_is))
    (λ (two : (b ≡ hex_kind.NoEnd) × HasNoEnd hex lines other). absurd (fault_or_no_end hex lines line other a one two.1))
    (hex_fault_is lines other b two no_b))
    (λ (one : (a ≡ hex_kind.NoEnd) × HasNoEnd hex lines line). ⊎_elim
    (λ (two : IsFaultOfLine hex lines other b). absurd (fault_or_no_end hex lines other line b two one.1))
    (λ (two : (b ≡ hex_kind.NoEnd) × HasNoEnd hex lines other). (one_no_end hex lines line other one.1 two.1, one.0 ∙ sym two.0))
    (hex_fault_is lines other b two no_b))
    (hex_fault_is lines line a one no_a)
