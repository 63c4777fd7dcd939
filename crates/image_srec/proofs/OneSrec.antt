-- A text of S-records has one image or one fault.
use Rattle.std.proofs.Common.{◌≡◌, ◌≢◌, ◌⊎◌, ⊎_elim, inl, inr, refl, sym, ◌∙◌, ℕ, List}
use Rattle.byte_map.specs.Image.{Run}
use Rattle.record_lines.specs.Format.{IsImageOfText, IsFaultOfLine, HasNoEnd}
use Rattle.image_srec.specs.declared.fault.SrecKind.{SrecKind}
use Rattle.image_srec.specs.declared.fault.SrecKind.TheVariants as srec_kind
use Rattle.image_srec.specs.Srec.{srec, IsSrecFault}
use Rattle.record_lines.proofs.OneReading.{image_or_fault, image_or_no_end, fault_or_no_end, one_line_fault, one_no_end}

-- the two kinds of a fault of a text: a fault of a line, or a missing end
abbrev SrecFaultIs : List (List ℕ) → ℕ → SrecKind → Type 0
SrecFaultIs lines line kind = IsFaultOfLine srec lines line kind ⊎ ((kind ≡ srec_kind.NoEnd) × HasNoEnd srec lines line)

srec_fault_is : (lines : List (List ℕ)) (line : ℕ) (kind : SrecKind) → IsSrecFault lines line kind → kind ≢ srec_kind.OutOfMemory → SrecFaultIs lines line kind
srec_fault_is lines line srec_kind.NoEnd is other = inr (refl, is)
srec_fault_is lines line srec_kind.OutOfMemory is other = absurd (other refl)
srec_fault_is lines line kind is other = inl is

-- a text that has an image has no fault but out of memory
pub srec_memory_alone : (lines : List (List ℕ)) (image : List Run) (line : ℕ) (kind : SrecKind) → IsImageOfText srec lines image
    → IsSrecFault lines line kind → kind ≡ srec_kind.OutOfMemory
srec_memory_alone lines image line srec_kind.NotRecord one is = absurd (image_or_fault srec lines image line srec_kind.NotRecord one is)
srec_memory_alone lines image line srec_kind.BadDigit one is = absurd (image_or_fault srec lines image line srec_kind.BadDigit one is)
srec_memory_alone lines image line srec_kind.BadLength one is = absurd (image_or_fault srec lines image line srec_kind.BadLength one is)
srec_memory_alone lines image line (srec_kind.BadSum said due) one is = absurd (image_or_fault srec lines image line (srec_kind.BadSum said due) one is)
srec_memory_alone lines image line (srec_kind.BadType value) one is = absurd (image_or_fault srec lines image line (srec_kind.BadType value) one is)
srec_memory_alone lines image line (srec_kind.CountDiffers said seen) one is =
    absurd (image_or_fault srec lines image line (srec_kind.CountDiffers said seen) one is)
srec_memory_alone lines image line (srec_kind.PastEnd at) one is = absurd (image_or_fault srec lines image line (srec_kind.PastEnd at) one is)
srec_memory_alone lines image line (srec_kind.Conflict at old new) one is = absurd (image_or_fault srec lines image line (srec_kind.Conflict at old new) one is)
srec_memory_alone lines image line srec_kind.NoEnd one is = absurd (image_or_no_end srec lines image line one is)
srec_memory_alone lines image line srec_kind.OutOfMemory one is = refl

pub srec_image_or_fault : (lines : List (List ℕ)) (image : List Run) (line : ℕ) (kind : SrecKind) → IsImageOfText srec lines image
    → IsSrecFault lines line kind → kind ≢ srec_kind.OutOfMemory → ⊥
srec_image_or_fault lines image line kind one fault other = other (srec_memory_alone lines image line kind one fault)

pub one_srec_fault : (lines : List (List ℕ)) (line other : ℕ) (a b : SrecKind) → IsSrecFault lines line a → IsSrecFault lines other b
    → a ≢ srec_kind.OutOfMemory → b ≢ srec_kind.OutOfMemory → (line ≡ other) × (a ≡ b)
one_srec_fault lines line other a b one two no_a no_b = ⊎_elim
    (λ (one : IsFaultOfLine srec lines line a). ⊎_elim
    (λ (two : IsFaultOfLine srec lines other b). let same = one_line_fault srec lines line other a b one two in (same.line_is, same.fault_is))
    (λ (two : (b ≡ srec_kind.NoEnd) × HasNoEnd srec lines other). absurd (fault_or_no_end srec lines line other a one two.1))
    (srec_fault_is lines other b two no_b))
    (λ (one : (a ≡ srec_kind.NoEnd) × HasNoEnd srec lines line). ⊎_elim
    (λ (two : IsFaultOfLine srec lines other b). absurd (fault_or_no_end srec lines other line b two one.1))
    (λ (two : (b ≡ srec_kind.NoEnd) × HasNoEnd srec lines other). (one_no_end srec lines line other one.1 two.1, one.0 ∙ sym two.0))
    (srec_fault_is lines other b two no_b))
    (srec_fault_is lines line a one no_a)
