-- An ELF file has one image or one fault.
use Rattle.std.proofs.Common.{◌≡◌, ◌≢◌, ◌<◌, ◌≤◌, ◌^◌, ◌∙◌, sym, ap, subst, refl, arith, ⊎_elim, ℕ, List, Some}
use Rattle.std.proofs.lemmas.Bool.{cases_lt}
use Rattle.byte_map.specs.Image.{Run, end_of, byte_of, byte_at}
use Rattle.byte_map.specs.Laying.{AgreesBelow, IsFirstClash}
use Rattle.byte_map.proofs.OneList.{one_list}
use Rattle.byte_map.proofs.Runs.{held_to}
use Rattle.elf32.specs.declared.fault.ElfFault.{ElfFault}
use Rattle.elf32.specs.Checks.{file_fault}
use Rattle.image_set.specs.declared.fault.ImageFault.{ImageFault}
use Rattle.image_set.specs.declared.fault.ImageFault.TheVariants.{NoForm, Hex, Srec, Elf, Conflict, PastEnd, OutsideDevice, EmptyImage, OutOfMemory}
use Rattle.image_set.specs.Segments.{piece_at, pieces_before, IsRight, IsSegmentFault, IsElfImage, IsFirstRefused, IsElfFault}

-- A piece.

-- a piece that agrees with an image doesn't clash with it
agrees_or_clashes : (piece : Run) (image : List Run) (at old new : ℕ) → end_of piece ≤ 2 ^ 32 → AgreesBelow piece image (2 ^ 32)
    → IsFirstClash piece image at old new → ⊥
agrees_or_clashes piece image at old new fits agrees clash =
    let to = held_to piece at clash.held in
    clash.unequal (agrees at old (omega (arith, to, fits)) clash.held clash.old_is ∙ clash.new_is)

pub record IsSameClash (at at' old old' new new' : ℕ) : Type 0 where
  pub at_is : at ≡ at'
  pub old_is : old ≡ old'
  pub new_is : new ≡ new'

earlier_clash : (piece : Run) (image : List Run) (p q old new old' new' : ℕ) → IsFirstClash piece image p old new → IsFirstClash piece image q old' new' →
    p < q → ⊥
earlier_clash piece image p q old new old' new' one two less = one.unequal (two.first p old less one.held one.old_is ∙ one.new_is)

pub one_clash : (piece : Run) (image : List Run) (p q old old' new new' : ℕ) → IsFirstClash piece image p old new → IsFirstClash piece image q old' new'
    → IsSameClash p q old old' new new'
one_clash piece image p q old old' new new' one two =
    let at : p ≡ q = ⊎_elim
    (λ less. absurd (earlier_clash piece image p q old new old' new' one two less))
    (λ most. ⊎_elim (λ less. absurd (earlier_clash piece image q p old' new' old new two one less)) (λ least. omega (arith, most, least)) (cases_lt q p))
    (cases_lt p q) in
    let a = one.old_is in
    let b = two.old_is in
    let old_same : Some old ≡ Some old' = sym a ∙ ap (λ (n : ℕ). byte_at image n) at ∙ b in
    record { at_is = at; old_is = cc; new_is = sym one.new_is ∙ ap (λ (n : ℕ). byte_of piece n) at ∙ two.new_is }

-- A segment.

right_or_refused : (bytes : List ℕ) (k : ℕ) (fault : ImageFault) → IsRight bytes k → IsSegmentFault bytes k (pieces_before bytes k) fault
    → fault ≢ OutOfMemory → ⊥
right_or_refused bytes k (Elf fault) right is other = let whole = right.whole in let cut = is.0 in cc
right_or_refused bytes k (Conflict at old new) right is other =
    agrees_or_clashes (piece_at bytes k) (pieces_before bytes k) at old new right.fits right.agrees is.1.1
right_or_refused bytes k (PastEnd at) right is other = omega (arith, right.fits, is.1.1)
right_or_refused bytes k OutOfMemory right is other = other refl
right_or_refused bytes k fault right is other = is

one_segment_fault : (bytes : List ℕ) (k : ℕ) (image : List Run) (a b : ImageFault) → IsSegmentFault bytes k image a → IsSegmentFault bytes k image b
    → a ≢ OutOfMemory → b ≢ OutOfMemory → a ≡ b
one_segment_fault bytes k image (Elf a) (Elf b) one two no_a no_b = ap Elf (one.1 ∙ sym two.1)
one_segment_fault bytes k image (Elf a) (Conflict at old new) one two no_a no_b = let cut = one.0 in let whole = two.0 in absurd (cc)
one_segment_fault bytes k image (Elf a) (PastEnd at) one two no_a no_b = let cut = one.0 in let whole = two.0 in absurd (cc)
one_segment_fault bytes k image (Conflict at old new) (Elf b) one two no_a no_b = let whole = one.0 in let cut = two.0 in absurd (cc)
one_segment_fault bytes k image (Conflict at old new) (Conflict at' old' new') one two no_a no_b =
    let same = one_clash (piece_at bytes k) image at at' old old' new new' one.1.1 two.1.1 in
    let a = same.at_is in
    let b = same.old_is in
    let c = same.new_is in
    cc
one_segment_fault bytes k image (Conflict at old new) (PastEnd at') one two no_a no_b = absurd (omega (arith, one.1.0, two.1.1))
one_segment_fault bytes k image (PastEnd at) (Elf b) one two no_a no_b = let whole = one.0 in let cut = two.0 in absurd (cc)
one_segment_fault bytes k image (PastEnd at) (Conflict at' old new) one two no_a no_b = absurd (omega (arith, two.1.0, one.1.1))
one_segment_fault bytes k image (PastEnd at) (PastEnd at') one two no_a no_b = ap PastEnd (one.1.0 ∙ sym two.1.0)
one_segment_fault bytes k image OutOfMemory b one two no_a no_b = absurd (no_a refl)
one_segment_fault bytes k image a OutOfMemory one two no_a no_b = absurd (no_b refl)
one_segment_fault bytes k image NoForm b one two no_a no_b = absurd one
one_segment_fault bytes k image (Hex fault) b one two no_a no_b = absurd one
one_segment_fault bytes k image (Srec fault) b one two no_a no_b = absurd one
one_segment_fault bytes k image (OutsideDevice at) b one two no_a no_b = absurd one
one_segment_fault bytes k image EmptyImage b one two no_a no_b = absurd one
one_segment_fault bytes k image a NoForm one two no_a no_b = absurd two
one_segment_fault bytes k image a (Hex fault) one two no_a no_b = absurd two
one_segment_fault bytes k image a (Srec fault) one two no_a no_b = absurd two
one_segment_fault bytes k image a (OutsideDevice at) one two no_a no_b = absurd two
one_segment_fault bytes k image a EmptyImage one two no_a no_b = absurd two

-- A file.

pub one_elf_image : (bytes : List ℕ) (a b : List Run) → IsElfImage bytes a → IsElfImage bytes b → a ≡ b
one_elf_image bytes a b one two =
    one_list 0 (2 ^ 32) a b one.segments.maximal two.segments.maximal (λ x. one.segments.union x ∙ sym (two.segments.union x))

pub elf_image_or_refused : (bytes : List ℕ) (image : List Run) (fault : ImageFault) → IsElfImage bytes image → IsFirstRefused bytes fault
    → fault ≢ OutOfMemory → ⊥
elf_image_or_refused bytes image fault one two other =
    right_or_refused bytes two.place fault (one.segments.right two.place two.inside two.loaded) two.refused other

pub elf_image_or_fault : (bytes : List ℕ) (image : List Run) (fault : ElfFault) → IsElfImage bytes image → IsElfFault bytes fault → ⊥
elf_image_or_fault bytes image fault one two = ⊎_elim
    (λ (of_file : file_fault bytes ≡ Some fault). let none = one.readable in cc)
    (λ (of_segment : IsFirstRefused bytes (Elf fault)). elf_image_or_refused bytes image (Elf fault) one of_segment (λ same. cc))
    two

earlier_refused : (bytes : List ℕ) (a b : ImageFault) → (one : IsFirstRefused bytes a) → (two : IsFirstRefused bytes b) → a ≢ OutOfMemory →
    one.place < two.place → ⊥
earlier_refused bytes a b one two no_a less = right_or_refused bytes one.place a (two.before one.place less one.loaded) one.refused no_a

pub one_refused : (bytes : List ℕ) (a b : ImageFault) → IsFirstRefused bytes a → IsFirstRefused bytes b → a ≢ OutOfMemory → b ≢ OutOfMemory → a ≡ b
one_refused bytes a b one two no_a no_b =
    let place : one.place ≡ two.place = ⊎_elim
    (λ less. absurd (earlier_refused bytes a b one two no_a less))
    (λ most. ⊎_elim (λ less. absurd (earlier_refused bytes b a two one no_b less)) (λ least. omega (arith, most, least)) (cases_lt two.place one.place))
    (cases_lt one.place two.place) in
    one_segment_fault bytes two.place (pieces_before bytes two.place) a b
    (subst (λ (k : ℕ). IsSegmentFault bytes k (pieces_before bytes k) a) place one.refused) two.refused no_a no_b

pub one_elf_fault : (bytes : List ℕ) (a b : ElfFault) → IsElfFault bytes a → IsElfFault bytes b → a ≡ b
one_elf_fault bytes a b one two = ⊎_elim
    (λ (one : file_fault bytes ≡ Some a). ⊎_elim
    (λ (two : file_fault bytes ≡ Some b). cc)
    (λ (two : IsFirstRefused bytes (Elf b)). let none = two.readable in absurd (cc)) two)
    (λ (one : IsFirstRefused bytes (Elf a)). ⊎_elim
    (λ (two : file_fault bytes ≡ Some b). let none = one.readable in absurd (cc))
    (λ (two : IsFirstRefused bytes (Elf b)). let same = one_refused bytes (Elf a) (Elf b) one two (λ is. cc) (λ is. cc) in cc) two)
    one

-- a fault of the file or of a segment's bytes is the same as that of a refused segment
pub elf_or_segment : (bytes : List ℕ) (a : ElfFault) (b : ImageFault) → IsElfFault bytes a → IsFirstRefused bytes b → b ≢ OutOfMemory → Elf a ≡ b
elf_or_segment bytes a b one two no_b = ⊎_elim
    (λ (one : file_fault bytes ≡ Some a). let none = two.readable in absurd (cc))
    (λ (one : IsFirstRefused bytes (Elf a)). one_refused bytes (Elf a) b one two (λ is. cc) no_b)
    one
