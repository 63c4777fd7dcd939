-- The other instructions without accesses do in another run what their rows of the marks say.
use Rattle.std.proofs.Common.{◌≡◌, ◌<◌, ◌+◌, ◌*◌, ◌%◌, ◌^◌, ◌&&◌, ℕ, Bool, true, false, nat_eq, if◌then◌else◌, Option, Some, None, Ok, Err}
use Rattle.std.proofs.Common.{List, slice_index, refl, ap, ◌∙◌, arith}
use Rattle.std.proofs.lemmas.Bool.{and_parts}
use Rattle.std.specs.Int.{w32, swap_bytes}
use Rattle.armv6m_alu.specs.Bits.{is_bit_set, sign_extended}
use Rattle.armv6m_alu.specs.Sums.{number_of}
use Rattle.armv6m_decode.specs.Targets.{literal_target}
use Rattle.armv6m_decode.specs.declared.instr.Other.{Other}
use Rattle.armv6m_decode.specs.declared.instr.Other.TheVariants.{Adr, AddFromSp, AddToSp, SubFromSp, Sxth, Sxtb, Uxth, Uxtb, Cpsie, Cpsid, Rev, Rev16, Revsh}
use Rattle.armv6m_decode.specs.declared.instr.Other.TheVariants.{Bkpt, Nop, Yield, Wfe, Wfi, Sev, Udf, Svc, Mrs, Msr, Dsb, Dmb, Isb}
use Rattle.armv6m_decode.specs.declared.registers.TheConstants.{SP, APSR, MSP, PRIMASK}
use Rattle.armv6m_step.specs.declared.core_state.Core.{Core}
use Rattle.armv6m_step.specs.Ends.{Outcome, OwnEnd}
use Rattle.armv6m_step.specs.Registers.{reg, moved, pc_of}
use Rattle.armv6m_step.specs.Numbers.{sum, difference}
use Rattle.armv6m_step.specs.Ram.{value_at}
use Rattle.armv6m_step.specs.OtherRows.{other, put as put_number, swapped_half, swapped_halves, flags_number, with_flags_of, with_primask, is_sp_or_pc}
use Rattle.shadow_step.specs.declared.marks.Mark.{Mark}
use Rattle.shadow_step.specs.declared.marks.Mark.TheVariants.{Known, Page, Any}
use Rattle.shadow_step.specs.declared.marks.CoreMarks.{CoreMarks}
use Rattle.shadow_step.specs.Marks.{Pages, ArePages, Says, CoreAgrees, known_if, plain, operand, gone, set_nzcv}
use Rattle.shadow_step.specs.Rows.{Lockstep, known}
use Rattle.shadow_step.specs.OtherRows.{low_byte, low_half, put_marks, set_primask, all_flags, read_marks, write_marks, other_marks}
use Rattle.shadow_step.proofs.MarkLemmas.{says_if, says_plain, operand_says, operand_same, put_agrees, gone_agrees}

-- the low byte and the low halfword of bytes of a page

low_of : (bytes : List ℕ) (w i : ℕ) → ((k : ℕ) → slice_index bytes k < 2 ^ 8) → value_at bytes w i % 2 ^ 8 ≡ slice_index bytes i
low_of bytes w i small =
    let a : slice_index bytes i < 2 ^ 8 = small i in
    let word : ℕ = slice_index bytes i + 0x100 * slice_index bytes (i + 1) + 0x10000 * slice_index bytes (i + 2) + 0x1000000 * slice_index bytes (i + 3) in
    let half : ℕ = slice_index bytes i + 0x100 * slice_index bytes (i + 1) in
    elim (nat_eq w 1) as (λ one. (if one then slice_index bytes i else if nat_eq w 2 then half else word) % 2 ^ 8 ≡ slice_index bytes i) [
      | true ↦ omega arith
      | false ↦ elim (nat_eq w 2) as (λ two. (if two then half else word) % 2 ^ 8 ≡ slice_index bytes i) [ true ↦ omega arith | false ↦ omega arith ]
    ]

half_of : (bytes : List ℕ) (w i : ℕ) → ((k : ℕ) → slice_index bytes k < 2 ^ 8) → nat_eq w 1 ≡ false → value_at bytes w i % 2 ^ 16 ≡ value_at bytes 2 i
half_of bytes w i small e =
    let a : slice_index bytes i < 2 ^ 8 = small i in
    let b : slice_index bytes (i + 1) < 2 ^ 8 = small (i + 1) in
    let word : ℕ = slice_index bytes i + 0x100 * slice_index bytes (i + 1) + 0x10000 * slice_index bytes (i + 2) + 0x1000000 * slice_index bytes (i + 3) in
    let half : ℕ = slice_index bytes i + 0x100 * slice_index bytes (i + 1) in
    rw e (elim (nat_eq w 2) as (λ two. (if two then half else word) % 2 ^ 16 ≡ half) [ true ↦ omega arith | false ↦ omega arith ])

byte_half : (bytes : List ℕ) (w i : ℕ) → ((k : ℕ) → slice_index bytes k < 2 ^ 8) → nat_eq w 1 ≡ true → value_at bytes w i % 2 ^ 16 ≡ slice_index bytes i
byte_half bytes w i small e = let a : slice_index bytes i < 2 ^ 8 = small i in rw e (omega arith)

pub low_byte_says : (p : Pages) → ArePages p → (m : Mark) (v v' : ℕ) → Says p m v v' → Says p (low_byte m) (v % 2 ^ 8) (v' % 2 ^ 8)
low_byte_says p bytes Known v v' says = ap (λ (x : ℕ). x % 2 ^ 8) says
low_byte_says p bytes (Page w i) v v' says =
    (ap (λ (x : ℕ). x % 2 ^ 8) says.0 ∙ low_of p.here w i bytes.here, ap (λ (x : ℕ). x % 2 ^ 8) says.1 ∙ low_of p.there w i bytes.there)
low_byte_says p bytes Any v v' says = tt

low_half_by : (p : Pages) → ArePages p → (w i v v' : ℕ) (one : Bool) → nat_eq w 1 ≡ one → Says p (Page w i) v v' →
    Says p (if one then Page 1 i else Page 2 i) (v % 2 ^ 16) (v' % 2 ^ 16)
low_half_by p bytes w i v v' true e says =
    (ap (λ (x : ℕ). x % 2 ^ 16) says.0 ∙ byte_half p.here w i bytes.here e, ap (λ (x : ℕ). x % 2 ^ 16) says.1 ∙ byte_half p.there w i bytes.there e)
low_half_by p bytes w i v v' false e says =
    (ap (λ (x : ℕ). x % 2 ^ 16) says.0 ∙ half_of p.here w i bytes.here e, ap (λ (x : ℕ). x % 2 ^ 16) says.1 ∙ half_of p.there w i bytes.there e)

pub low_half_says : (p : Pages) → ArePages p → (m : Mark) (v v' : ℕ) → Says p m v v' → Says p (low_half m) (v % 2 ^ 16) (v' % 2 ^ 16)
low_half_says p bytes Known v v' says = ap (λ (x : ℕ). x % 2 ^ 16) says
low_half_says p bytes (Page w i) v v' says = low_half_by p bytes w i v v' (nat_eq w 1) refl says
low_half_says p bytes Any v v' says = tt

module _ (p : Pages) (t : CoreMarks) (core core' : Core) (next next' : ℕ) (agrees : CoreAgrees p t core core') (follows : next' ≡ next)
    (at : pc_of core' ≡ pc_of core) where
  number_agrees : (d : ℕ) (m : Mark) (v v' : ℕ) → Says p m v v' → Lockstep p (put_marks t d m) (put_number core next d v) (put_number core' next' d v')
  number_agrees d m v v' says = gone_agrees p _ _ _ (put_agrees p t core core' agrees d m v v' says) next next' follows

  function_agrees : (d m : ℕ) (f : ℕ → ℕ) → Lockstep p (put_marks t d (plain (operand t m))) (put_number core next d (f (reg core m)))
      (put_number core' next' d (f (reg core' m)))
  function_agrees d m f = number_agrees d _ _ _ (says_plain p _ _ _ f (operand_says p t core core' agrees m))

  from_sp : (d : ℕ) (f : ℕ → ℕ) → Lockstep p (put_marks t d (known_if (known t SP))) (put_number core next d (f (reg core SP)))
      (put_number core' next' d (f (reg core' SP)))
  from_sp d f = number_agrees d _ _ _ (says_if p (known t SP) _ _ (λ k. ap f (operand_same p t core core' agrees SP k)))

  nothing : Lockstep p (Some (gone t)) (Ok (moved core next)) (Ok (moved core' next'))
  nothing = gone_agrees p t core core' agrees next next' follows

  primask_agrees : (k b b' : Bool) → (k ≡ true → b' ≡ b) →
      Lockstep p (Some (gone (set_primask t k))) (Ok (moved (with_primask core b) next)) (Ok (moved (with_primask core' b') next'))
  unfolding set_primask with_primask
  primask_agrees k b b' same = gone_agrees p _ _ _ (record {
    many = agrees.many;
    here = agrees.here;
    there = agrees.there;
    regs = agrees.regs;
    n = agrees.n;
    z = agrees.z;
    c = agrees.c;
    v = agrees.v;
    primask = same;
  }) next next' follows

  flags_agree : (k : Bool) (x x' : ℕ) → (k ≡ true → x' ≡ x) →
      Lockstep p (Some (gone (set_nzcv t k))) (Ok (moved (with_flags_of core x) next)) (Ok (moved (with_flags_of core' x') next'))
  unfolding set_nzcv with_flags_of
  flags_agree k x x' same = gone_agrees p _ _ _ (record {
    many = agrees.many;
    here = agrees.here;
    there = agrees.there;
    regs = agrees.regs;
    primask = agrees.primask;
    n = λ h. ap (λ (y : ℕ). is_bit_set y 31) (same h);
    z = λ h. ap (λ (y : ℕ). is_bit_set y 30) (same h);
    c = λ h. ap (λ (y : ℕ). is_bit_set y 29) (same h);
    v = λ h. ap (λ (y : ℕ). is_bit_set y 28) (same h);
  }) next next' follows

  flags_same : all_flags t ≡ true → flags_number core' ≡ flags_number core
  flags_same k =
      let a : (t.n ≡ true) × ((t.z && (t.c && t.v)) ≡ true) = and_parts _ _ k in
      let b : (t.z ≡ true) × ((t.c && t.v) ≡ true) = and_parts _ _ a.1 in
      let d : (t.c ≡ true) × (t.v ≡ true) = and_parts _ _ b.1 in
      let n : core'.n ≡ core.n = agrees.n a.0 in
      let z : core'.z ≡ core.z = agrees.z b.0 in
      let c : core'.c ≡ core.c = agrees.c d.0 in
      let v : core'.v ≡ core.v = agrees.v d.1 in
      rw (n, z, c, v) refl

  unsaid : (mt : Option CoreMarks) (e : OwnEnd) (o : Outcome) → Lockstep p mt (Err e) o
  unsaid None e o = tt
  unsaid (Some x) e o = tt

  unless : (stop : Bool) (mt : Option CoreMarks) (e e' : OwnEnd) (o o' : Outcome) → Lockstep p mt o o' →
      Lockstep p mt (if stop then Err e else o) (if stop then Err e' else o')
  unless true mt e e' o o' step = unsaid mt e (Err e')
  unless false mt e e' o o' step = step

  each : (hit : Bool) (mt mt2 : Option CoreMarks) (o o' u u' : Outcome) → Lockstep p mt o o' → Lockstep p mt2 u u' →
      Lockstep p (if hit then mt else mt2) (if hit then o else u) (if hit then o' else u')
  each true mt mt2 o o' u u' a b = a
  each false mt mt2 o o' u u' a b = b

  pub other_agrees : ArePages p → (op : Other) → Lockstep p (other_marks t op) (other core next op) (other core' next' op)
  other_agrees bytes (Adr d i) = number_agrees d Known _ _ (ap (λ (x : ℕ). literal_target x i) at)
  other_agrees bytes (AddFromSp d i) = from_sp d (λ x. sum x (4 * i))
  other_agrees bytes (AddToSp i) = from_sp SP (λ x. sum x (4 * i))
  other_agrees bytes (SubFromSp i) = from_sp SP (λ x. difference x (4 * i))
  other_agrees bytes (Sxth d m) = function_agrees d m (λ x. sign_extended 16 (x % 2 ^ 16))
  other_agrees bytes (Sxtb d m) = function_agrees d m (λ x. sign_extended 8 (x % 2 ^ 8))
  other_agrees bytes (Uxth d m) = number_agrees d _ _ _ (low_half_says p bytes _ _ _ (operand_says p t core core' agrees m))
  other_agrees bytes (Uxtb d m) = number_agrees d _ _ _ (low_byte_says p bytes _ _ _ (operand_says p t core core' agrees m))
  other_agrees bytes Cpsie = primask_agrees true false false (λ k. refl)
  other_agrees bytes Cpsid = primask_agrees true true true (λ k. refl)
  other_agrees bytes (Rev d m) = function_agrees d m (λ x. swap_bytes w32 x)
  other_agrees bytes (Rev16 d m) = function_agrees d m swapped_halves
  other_agrees bytes (Revsh d m) = function_agrees d m (λ x. sign_extended 16 (swapped_half (x % 2 ^ 16)))
  other_agrees bytes (Bkpt i) = tt
  other_agrees bytes (Udf i) = tt
  other_agrees bytes (Svc i) = tt
  other_agrees bytes (Mrs d special) = unless (is_sp_or_pc d) (read_marks t d special) _ _ _ _
      (each (nat_eq special APSR) _ _ _ _ _ _ (number_agrees d _ _ _ (says_if p (all_flags t) _ _ flags_same))
      (each (nat_eq special MSP) _ _ _ _ _ _ (number_agrees d _ _ _ (operand_says p t core core' agrees SP))
      (each (nat_eq special PRIMASK) _ _ _ _ _ _ (number_agrees d _ _ _ (says_if p t.primask _ _ (λ k. ap number_of (agrees.primask k)))) tt)))
  other_agrees bytes (Msr n special) = unless (is_sp_or_pc n) (write_marks t n special) _ _ _ _
      (each (nat_eq special APSR) _ _ _ _ _ _ (flags_agree (known t n) _ _ (λ k. operand_same p t core core' agrees n k))
      (each (nat_eq special MSP) _ _ _ _ _ _ (number_agrees SP _ _ _ (operand_says p t core core' agrees n))
      (each (nat_eq special PRIMASK) _ _ _ _ _ _
      (primask_agrees (known t n) _ _ (λ k. ap (λ (x : ℕ). is_bit_set x 0) (operand_same p t core core' agrees n k))) tt)))
  other_agrees bytes Nop = nothing
  other_agrees bytes Yield = nothing
  other_agrees bytes Wfe = nothing
  other_agrees bytes Wfi = nothing
  other_agrees bytes Sev = nothing
  other_agrees bytes Dsb = nothing
  other_agrees bytes Dmb = nothing
  other_agrees bytes Isb = nothing
