-- How the checks of sector items end.
use Rattle.std.proofs.Common.{◌≡◌, ℕ, ◌+◌, ◌-◌, ◌<◌, ◌≤◌, List, Some, None, length, refl}
use Rattle.std.proofs.lemmas.Bool.{eq-eqb, le-leb}
use Rattle.elf32.specs.Search.{first_below}
use Rattle.elf32.proofs.SearchLemmas.{first_below-first}
use Rattle.flm_descriptor.specs.declared.fault.FlmFault.TheVariants.{SectorOrder, SectorSize}
use Rattle.flm_descriptor.specs.declared.items.SectorItem.{SectorItem}
use Rattle.flm_descriptor.specs.Shape.{offset_at, size_at}
use Rattle.flm_descriptor.specs.Limits.{order_fault, size_fault, falls, is_void}

-- the fault of the first item that doesn't begin above the one before it
pub order_fault-here : (items : List SectorItem) (k : ℕ) → first_below (falls items) k ≡ None → k < length items - 1
    → offset_at items (k + 1) ≤ offset_at items k → order_fault items ≡ Some (SectorOrder (k + 1))
unfolding order_fault
order_fault-here items k before inside low =
    rw (first_below-first (falls items) (length items - 1) k inside before (le-leb (offset_at items (k + 1)) (offset_at items k) low)) refl

pub order_fault-none : (items : List SectorItem) → first_below (falls items) (length items - 1) ≡ None → order_fault items ≡ None
unfolding order_fault
order_fault-none items none = rw none refl

-- the fault of the first item without bytes
pub size_fault-here : (items : List SectorItem) (k : ℕ) → first_below (is_void items) k ≡ None → k < length items
    → size_at items k ≡ 0 → size_fault items ≡ Some (SectorSize k)
unfolding size_fault
size_fault-here items k before inside void =
    rw (first_below-first (is_void items) (length items) k inside before (eq-eqb (size_at items k) 0 void)) refl

pub size_fault-none : (items : List SectorItem) → first_below (is_void items) (length items) ≡ None → size_fault items ≡ None
unfolding size_fault
size_fault-none items none = rw none refl
