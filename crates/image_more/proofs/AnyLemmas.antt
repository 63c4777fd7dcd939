-- A file of any form has one image, or one fault besides out of memory.
use Rattle.std.proofs.Common.{◌≡◌, ◌≢◌, ap, subst, refl, ℕ, Bool, true, false, List, Option}
use Rattle.byte_map.specs.Image.{Run}
use Rattle.image_set.proofs.FileLemmas.{one_image, image_or_fault, one_fault}
use Rattle.image_more.specs.declared.fault.AnyFault.{AnyFault}
use Rattle.image_more.specs.declared.fault.AnyFault.TheVariants.{Image, Uf2, OutOfMemory}
use Rattle.image_more.specs.Any.{is_uf2, IsImageBy, IsAnyImage, IsAnyFault}
use Rattle.image_more.proofs.Uf2Laws.{one_uf2_image, uf2_memory_alone, one_uf2_fault}

one_by : (uf2 : Bool) (raw_at : Option ℕ) (bytes : List ℕ) (a b : List Run) → IsImageBy uf2 raw_at bytes a → IsImageBy uf2 raw_at bytes b → a ≡ b
one_by true raw_at bytes a b one two = one_uf2_image bytes a b one two
one_by false raw_at bytes a b one two = one_image raw_at bytes a b one two

pub one_any_image : (raw_at : Option ℕ) (bytes : List ℕ) (a b : List Run) → IsAnyImage raw_at bytes a → IsAnyImage raw_at bytes b → a ≡ b
one_any_image raw_at bytes a b one two = one_by (is_uf2 raw_at bytes) raw_at bytes a b one two

-- the image of a file that is read as UF2, or of one that isn't
by : (uf2 : Bool) (raw_at : Option ℕ) (bytes : List ℕ) (image : List Run) → is_uf2 raw_at bytes ≡ uf2 → IsAnyImage raw_at bytes image →
    IsImageBy uf2 raw_at bytes image
by uf2 raw_at bytes image is any = subst (λ (b : Bool). IsImageBy b raw_at bytes image) is any

pub any_memory_alone : (raw_at : Option ℕ) (bytes : List ℕ) (image : List Run) (fault : AnyFault) → IsAnyImage raw_at bytes image →
    IsAnyFault raw_at bytes fault → fault ≡ OutOfMemory
any_memory_alone raw_at bytes image (Image fault) one two = absurd (image_or_fault raw_at bytes image fault (by false raw_at bytes image two.0 one) two.1 two.2)
any_memory_alone raw_at bytes image (Uf2 fault) one two = absurd (two.2 (uf2_memory_alone bytes image fault (by true raw_at bytes image two.0 one) two.1))
any_memory_alone raw_at bytes image OutOfMemory one two = refl

pub any_image_or_fault : (raw_at : Option ℕ) (bytes : List ℕ) (image : List Run) (fault : AnyFault) → IsAnyImage raw_at bytes image →
    IsAnyFault raw_at bytes fault
    → fault ≢ OutOfMemory → ⊥
any_image_or_fault raw_at bytes image fault one two other = other (any_memory_alone raw_at bytes image fault one two)

not_both : (raw_at : Option ℕ) (bytes : List ℕ) → is_uf2 raw_at bytes ≡ true → is_uf2 raw_at bytes ≡ false → ⊥
not_both raw_at bytes is isn't = cc

pub one_any_fault : (raw_at : Option ℕ) (bytes : List ℕ) (a b : AnyFault) → IsAnyFault raw_at bytes a → IsAnyFault raw_at bytes b → a ≢ OutOfMemory →
    b ≢ OutOfMemory → a ≡ b
one_any_fault raw_at bytes (Image a) (Image b) one two no_a no_b = ap Image (one_fault raw_at bytes a b one.1 two.1 one.2 two.2)
one_any_fault raw_at bytes (Image a) (Uf2 b) one two no_a no_b = absurd (not_both raw_at bytes two.0 one.0)
one_any_fault raw_at bytes (Uf2 a) (Image b) one two no_a no_b = absurd (not_both raw_at bytes one.0 two.0)
one_any_fault raw_at bytes (Uf2 a) (Uf2 b) one two no_a no_b = ap Uf2 (one_uf2_fault bytes a b one.1 two.1 one.2 two.2)
one_any_fault raw_at bytes OutOfMemory b one two no_a no_b = absurd (no_a refl)
one_any_fault raw_at bytes a OutOfMemory one two no_a no_b = absurd (no_b refl)
