-- An image file has one image or one fault.
use Rattle.std.proofs.Common.{◌≡◌, ◌≢◌, ◌^◌, ◌∙◌, sym, ap, subst, refl, arith, ℕ, List, Option, Some, None}
use Rattle.octets.specs.Lines.{lines_of}
use Rattle.byte_map.specs.Image.{Run}
use Rattle.byte_map.proofs.OneList.{one_list}
use Rattle.image_hex.specs.Hex.{hex}
use Rattle.image_srec.specs.Srec.{srec}
use Rattle.image_hex.specs.declared.fault.HexFault.{HexFault}
use Rattle.image_hex.specs.declared.fault.HexKind.{HexKind}
use Rattle.image_srec.specs.declared.fault.SrecKind.{SrecKind}
use Rattle.image_srec.specs.declared.fault.SrecFault.{SrecFault}
use Rattle.image_set.specs.declared.form.Form.{Form}
use Rattle.image_set.specs.declared.form.Form.TheVariants as form
use Rattle.image_set.specs.declared.fault.ImageFault.{ImageFault}
use Rattle.image_set.specs.declared.fault.ImageFault.TheVariants.{NoForm, Hex, Srec, Elf, Conflict, PastEnd, OutsideDevice, EmptyImage, OutOfMemory}
use Rattle.image_set.specs.Form.{form_of}
use Rattle.image_set.specs.Read.{IsImageOfForm, GoesPastEnd, IsFaultOfForm, IsImage, IsFault}
use Rattle.record_lines.proofs.OneReading.{one_text_image}
use Rattle.image_hex.proofs.OneHex.{hex_image_or_fault, one_hex_fault}
use Rattle.image_srec.proofs.OneSrec.{srec_image_or_fault, one_srec_fault}
use Rattle.image_set.proofs.SegmentLaws.{one_elf_image, elf_image_or_refused, elf_image_or_fault, one_refused, one_elf_fault, elf_or_segment}

one_image_of : (f : Option Form) (bytes : List ℕ) (a b : List Run) → IsImageOfForm f bytes a → IsImageOfForm f bytes b → a ≡ b
one_image_of None bytes a b one two = absurd one
one_image_of (Some (form.Raw at)) bytes a b one two = one_list 0 (2 ^ 32) a b one.maximal two.maximal (λ x. one.union x ∙ sym (two.union x))
one_image_of (Some form.Elf) bytes a b one two = one_elf_image bytes a b one two
one_image_of (Some form.Hex) bytes a b one two = one_text_image hex (lines_of bytes) a b one two
one_image_of (Some form.Srec) bytes a b one two = one_text_image srec (lines_of bytes) a b one two

pub one_image : (raw_at : Option ℕ) (bytes : List ℕ) (a b : List Run) → IsImage raw_at bytes a → IsImage raw_at bytes b → a ≡ b
one_image raw_at bytes a b one two = one_image_of (form_of raw_at bytes) bytes a b one two

-- a file with a run past 2^32 has no image
past_end : (f : Option Form) (bytes : List ℕ) (image : List Run) (at : ℕ) → IsImageOfForm f bytes image → GoesPastEnd f bytes at → ⊥
past_end None bytes image at one two = one
past_end (Some (form.Raw from)) bytes image at one two = omega (arith, one.fits, two.1)
past_end (Some form.Elf) bytes image at one two = elf_image_or_refused bytes image (PastEnd at) one two (λ same. cc)
past_end (Some form.Hex) bytes image at one two = two
past_end (Some form.Srec) bytes image at one two = two

image_or_fault_of : (f : Option Form) (bytes : List ℕ) (image : List Run) (fault : ImageFault) → IsImageOfForm f bytes image → IsFaultOfForm f bytes fault
    → fault ≢ OutOfMemory → ⊥
image_or_fault_of f bytes image NoForm one two other = subst (λ (g : Option Form). IsImageOfForm g bytes image) two one
image_or_fault_of f bytes image (Hex fault) one two other =
    hex_image_or_fault (lines_of bytes) image fault.line fault.kind (subst (λ (g : Option Form). IsImageOfForm g bytes image) two.0 one) two.1 two.2
image_or_fault_of f bytes image (Srec fault) one two other =
    srec_image_or_fault (lines_of bytes) image fault.line fault.kind (subst (λ (g : Option Form). IsImageOfForm g bytes image) two.0 one) two.1 two.2
image_or_fault_of f bytes image (Elf fault) one two other =
    elf_image_or_fault bytes image fault (subst (λ (g : Option Form). IsImageOfForm g bytes image) two.0 one) two.1
image_or_fault_of f bytes image (Conflict at old new) one two other =
    elf_image_or_refused bytes image (Conflict at old new) (subst (λ (g : Option Form). IsImageOfForm g bytes image) two.0 one) two.1 other
image_or_fault_of f bytes image (PastEnd at) one two other = past_end f bytes image at one two
image_or_fault_of f bytes image (OutsideDevice at) one two other = two
image_or_fault_of f bytes image EmptyImage one two other = two
image_or_fault_of f bytes image OutOfMemory one two other = other refl

pub image_or_fault : (raw_at : Option ℕ) (bytes : List ℕ) (image : List Run) (fault : ImageFault) → IsImage raw_at bytes image → IsFault raw_at bytes fault
    → fault ≢ OutOfMemory → ⊥
image_or_fault raw_at bytes image fault one two other = image_or_fault_of (form_of raw_at bytes) bytes image fault one two other

-- The faults of each form.

same_hex : (a b : HexFault) → (a.line ≡ b.line) × (a.kind ≡ b.kind) → Hex a ≡ Hex b
same_hex a b same =
    ap (λ (n : ℕ). Hex (record { line = n; kind = a.kind })) same.0 ∙ ap (λ (k : HexKind). Hex (record { line = b.line; kind = k })) same.1

same_srec : (a b : SrecFault) → (a.line ≡ b.line) × (a.kind ≡ b.kind) → Srec a ≡ Srec b
same_srec a b same =
    ap (λ (n : ℕ). Srec (record { line = n; kind = a.kind })) same.0 ∙ ap (λ (k : SrecKind). Srec (record { line = b.line; kind = k })) same.1

none_fault : (bytes : List ℕ) (a : ImageFault) → IsFaultOfForm None bytes a → a ≢ OutOfMemory → a ≡ NoForm
none_fault bytes NoForm is other = refl
none_fault bytes (PastEnd at) is other = absurd is
none_fault bytes (OutsideDevice at) is other = absurd is
none_fault bytes EmptyImage is other = absurd is
none_fault bytes OutOfMemory is other = absurd (other refl)
none_fault bytes a is other = let wrong = is.0 in absurd (cc)

raw_fault : (from : ℕ) (bytes : List ℕ) (a : ImageFault) → IsFaultOfForm (Some (form.Raw from)) bytes a → a ≢ OutOfMemory → a ≡ PastEnd from
raw_fault from bytes NoForm is other = absurd (cc)
raw_fault from bytes (PastEnd at) is other = ap PastEnd is.0
raw_fault from bytes (OutsideDevice at) is other = absurd is
raw_fault from bytes EmptyImage is other = absurd is
raw_fault from bytes OutOfMemory is other = absurd (other refl)
raw_fault from bytes a is other = let wrong = is.0 in absurd (cc)

pub record IsHexOf (bytes : List ℕ) (a : ImageFault) : Type 0 where
  pub fault : HexFault
  pub is : a ≡ Hex fault
  pub of_form : IsFaultOfForm (Some form.Hex) bytes (Hex fault)

hex_fault : (bytes : List ℕ) (a : ImageFault) → IsFaultOfForm (Some form.Hex) bytes a → a ≢ OutOfMemory → IsHexOf bytes a
hex_fault bytes NoForm is other = absurd (cc)
hex_fault bytes (Hex fault) is other = record { fault = fault; is = refl; of_form = is }
hex_fault bytes (PastEnd at) is other = absurd is
hex_fault bytes (OutsideDevice at) is other = absurd is
hex_fault bytes EmptyImage is other = absurd is
hex_fault bytes OutOfMemory is other = absurd (other refl)
hex_fault bytes a is other = let wrong = is.0 in absurd (cc)

pub record IsSrecOf (bytes : List ℕ) (a : ImageFault) : Type 0 where
  pub fault : SrecFault
  pub is : a ≡ Srec fault
  pub of_form : IsFaultOfForm (Some form.Srec) bytes (Srec fault)

srec_fault : (bytes : List ℕ) (a : ImageFault) → IsFaultOfForm (Some form.Srec) bytes a → a ≢ OutOfMemory → IsSrecOf bytes a
srec_fault bytes NoForm is other = absurd (cc)
srec_fault bytes (Srec fault) is other = record { fault = fault; is = refl; of_form = is }
srec_fault bytes (PastEnd at) is other = absurd is
srec_fault bytes (OutsideDevice at) is other = absurd is
srec_fault bytes EmptyImage is other = absurd is
srec_fault bytes OutOfMemory is other = absurd (other refl)
srec_fault bytes a is other = let wrong = is.0 in absurd (cc)

-- a fault of an ELF file: of the file itself, or of a segment
elf_faults : (bytes : List ℕ) (a b : ImageFault) → IsFaultOfForm (Some form.Elf) bytes a → IsFaultOfForm (Some form.Elf) bytes b
    → a ≢ OutOfMemory → b ≢ OutOfMemory → a ≡ b
elf_faults bytes (Elf a) (Elf b) one two no_a no_b = ap Elf (one_elf_fault bytes a b one.1 two.1)
elf_faults bytes (Elf a) (Conflict at old new) one two no_a no_b = elf_or_segment bytes a (Conflict at old new) one.1 two.1 no_b
elf_faults bytes (Elf a) (PastEnd at) one two no_a no_b = elf_or_segment bytes a (PastEnd at) one.1 two no_b
elf_faults bytes (Conflict at old new) (Elf b) one two no_a no_b = sym (elf_or_segment bytes b (Conflict at old new) two.1 one.1 no_a)
elf_faults bytes (Conflict at old new) (Conflict at' old' new') one two no_a no_b = one_refused bytes _ _ one.1 two.1 no_a no_b
elf_faults bytes (Conflict at old new) (PastEnd at') one two no_a no_b = one_refused bytes _ _ one.1 two no_a no_b
elf_faults bytes (PastEnd at) (Elf b) one two no_a no_b = sym (elf_or_segment bytes b (PastEnd at) two.1 one no_a)
elf_faults bytes (PastEnd at) (Conflict at' old' new') one two no_a no_b = one_refused bytes _ _ one two.1 no_a no_b
elf_faults bytes (PastEnd at) (PastEnd at') one two no_a no_b = one_refused bytes _ _ one two no_a no_b
elf_faults bytes OutOfMemory b one two no_a no_b = absurd (no_a refl)
elf_faults bytes a OutOfMemory one two no_a no_b = absurd (no_b refl)
elf_faults bytes NoForm b one two no_a no_b = absurd (cc)
elf_faults bytes (Hex fault) b one two no_a no_b = let wrong = one.0 in absurd (cc)
elf_faults bytes (Srec fault) b one two no_a no_b = let wrong = one.0 in absurd (cc)
elf_faults bytes (OutsideDevice at) b one two no_a no_b = absurd one
elf_faults bytes EmptyImage b one two no_a no_b = absurd one
elf_faults bytes a NoForm one two no_a no_b = absurd (cc)
elf_faults bytes a (Hex fault) one two no_a no_b = let wrong = two.0 in absurd (cc)
elf_faults bytes a (Srec fault) one two no_a no_b = let wrong = two.0 in absurd (cc)
elf_faults bytes a (OutsideDevice at) one two no_a no_b = absurd two
elf_faults bytes a EmptyImage one two no_a no_b = absurd two

one_fault_of : (f : Option Form) (bytes : List ℕ) (a b : ImageFault) → IsFaultOfForm f bytes a → IsFaultOfForm f bytes b → a ≢ OutOfMemory → b ≢ OutOfMemory →
    a ≡ b
one_fault_of None bytes a b one two no_a no_b = none_fault bytes a one no_a ∙ sym (none_fault bytes b two no_b)
one_fault_of (Some (form.Raw from)) bytes a b one two no_a no_b = raw_fault from bytes a one no_a ∙ sym (raw_fault from bytes b two no_b)
one_fault_of (Some form.Elf) bytes a b one two no_a no_b = elf_faults bytes a b one two no_a no_b
one_fault_of (Some form.Hex) bytes a b one two no_a no_b =
    let x = hex_fault bytes a one no_a in
    let y = hex_fault bytes b two no_b in
    x.is ∙ same_hex x.fault y.fault (one_hex_fault (lines_of bytes) x.fault.line y.fault.line x.fault.kind y.fault.kind x.of_form.1 y.of_form.1
    x.of_form.2 y.of_form.2) ∙ sym y.is
one_fault_of (Some form.Srec) bytes a b one two no_a no_b =
    let x = srec_fault bytes a one no_a in
    let y = srec_fault bytes b two no_b in
    x.is ∙ same_srec x.fault y.fault (one_srec_fault (lines_of bytes) x.fault.line y.fault.line x.fault.kind y.fault.kind x.of_form.1 y.of_form.1
    x.of_form.2 y.of_form.2) ∙ sym y.is

pub one_fault : (raw_at : Option ℕ) (bytes : List ℕ) (a b : ImageFault) → IsFault raw_at bytes a → IsFault raw_at bytes b → a ≢ OutOfMemory → b ≢ OutOfMemory →
    a ≡ b
one_fault raw_at bytes a b one two no_a no_b = one_fault_of (form_of raw_at bytes) bytes a b one two no_a no_b

memory_left : (fault : ImageFault) → (fault ≢ OutOfMemory → ⊥) → fault ≡ OutOfMemory
memory_left OutOfMemory is = refl
memory_left fault is = absurd (is (λ same. cc))

-- a file with an image has no fault but out of memory
pub memory_alone : (raw_at : Option ℕ) (bytes : List ℕ) (image : List Run) (fault : ImageFault) → IsImage raw_at bytes image → IsFault raw_at bytes fault →
    fault ≡ OutOfMemory
memory_alone raw_at bytes image fault one two = memory_left fault (image_or_fault raw_at bytes image fault one two)
