-- A shared reference `&` to the bytes is made from a borrow of them. Assumes `Logic`.
use Prim.Native.Nat.{ℕ, ◌+◌}
use Rattle.std.specs.Prelude.{List, [], ◌∷◌, Option, Some, None}
use seplogic.Ra.Ura.{Ura}
use base.Fraction.{full_share}
use mir.Syntax.{w8}
use base.Fml.{Lft, ftrue, ffalse}
use types.Logic.{Logic}
use denote.Copied.{uint_Copied}
use denote.Plain.{uint_row_laws}
use denote.RawPtr.{Ptr, block_ptr, null_ptr}
use denote.Sharing.{ShrLaws, said}
use denote.SharingLaws.{beside_shr_laws, nothing_shr_laws, said_shr_laws}
use denote.Struct.Lending.{Lends, Lends-both, Lends-nothing, Lends-said, Lends-false}
use Rattle.ram_arena.specs.Ownership.{slot, slots, slot_lent, slots_lent, fit, cells_own, cells_lent}

slot_lent_laws : (b o : ℕ) (c : Option ℕ) → ShrLaws (slot_lent b o c)
slot_lent_laws b o (Some x) = uint_row_laws w8 x b o
slot_lent_laws b o None = nothing_shr_laws

pub slots_lent_laws : (b o : ℕ) (cs : List (Option ℕ)) → ShrLaws (slots_lent b o cs)
slots_lent_laws b o [] = nothing_shr_laws
slots_lent_laws b o (c ∷ cs) = beside_shr_laws _ _ (slot_lent_laws b o c) (slots_lent_laws b (o + 1) cs)

pub cells_lent_laws : (p : Ptr) (cs : List (Option ℕ)) → ShrLaws (cells_lent p cs)
cells_lent_laws (block_ptr b o) cs = beside_shr_laws _ _ (said_shr_laws (fit cs) tt) (slots_lent_laws b o cs)
cells_lent_laws null_ptr cs = said_shr_laws ffalse tt

module _ {M : Type 1} {𝓤 : Ura M} (𝓛 : Logic 𝓤) (l : Lft) where
  Lends-slot : (b o : ℕ) (c : Option ℕ) → Lends 𝓛 (slot b o c) (slot_lent b o c) l
  Lends-slot b o (Some x) = λ κ ts. (uint_Copied 𝓛 w8).shares full_share l x κ ts b o
  Lends-slot b o None = Lends-nothing 𝓛 (slot b o None) l

  Lends-slots : (b o : ℕ) (cs : List (Option ℕ)) → Lends 𝓛 (slots b o cs) (slots_lent b o cs) l
  Lends-slots b o [] = Lends-nothing 𝓛 ftrue l
  Lends-slots b o (c ∷ cs) = Lends-both 𝓛 (slot b o c) (slots b (o + 1) cs) (slot_lent b o c) (slots_lent b (o + 1) cs) l (Lends-slot b o c)
      (Lends-slots b (o + 1) cs)

  pub Lends-cells : (p : Ptr) (cs : List (Option ℕ)) → Lends 𝓛 (cells_own p cs) (cells_lent p cs) l
  Lends-cells (block_ptr b o) cs = Lends-both 𝓛 (fit cs) (slots b o cs) (said (fit cs)) (slots_lent b o cs) l (Lends-said 𝓛 (fit cs) tt l) (Lends-slots b o cs)
  Lends-cells null_ptr cs = Lends-false 𝓛 (said ffalse) l
