-- The row that a form names, and that no other instruction stands for the form.
use Rattle.std.proofs.Common.{refl, ap, ◌∙◌, sym, arith, ⊎_elim}
use Rattle.std.proofs.lemmas.Bool.Decides.{nat_tests}
use Rattle.std.specs.Prelude.{◌≡◌, ℕ, ◌+◌, ◌-◌, ◌*◌, ◌/◌, ◌%◌, ◌^◌, ◌<◌, ◌&&◌, Bool, true, false, not, IsTrue, nat_eq, nat_lt, if◌then◌else◌, Option, Some}
use Rattle.std.specs.Prelude.{None}
use Rattle.armv6m_decode.specs.declared.instr.Instr.{Instr}
use Rattle.armv6m_decode.specs.declared.instr.Instr.TheVariants as instr
use Rattle.armv6m_decode.specs.declared.instr.Alu.TheVariants.{LslsImmediate, LsrsImmediate, AsrsImmediate, AddsRegister, SubsRegister, AddsImmediate3}
use Rattle.armv6m_decode.specs.declared.instr.Alu.TheVariants.{SubsImmediate3, MovsImmediate, CmpImmediate, AddsImmediate8, SubsImmediate8, Ands, Eors}
use Rattle.armv6m_decode.specs.declared.instr.Alu.TheVariants.{LslsRegister, LsrsRegister, AsrsRegister, Adcs, Sbcs, Rors, Tst, Rsbs, CmpRegister, Cmn, Orrs}
use Rattle.armv6m_decode.specs.declared.instr.Alu.TheVariants.{Muls, Bics, Mvns, AddHigh, CmpHigh, MovHigh}
use Rattle.armv6m_decode.specs.declared.instr.Memory.TheVariants.{LdrLiteral, StrRegister, StrhRegister, StrbRegister, LdrsbRegister, LdrRegister, LdrhRegister}
use Rattle.armv6m_decode.specs.declared.instr.Memory.TheVariants.{LdrbRegister, LdrshRegister, StrImmediate, LdrImmediate, StrbImmediate, LdrbImmediate}
use Rattle.armv6m_decode.specs.declared.instr.Memory.TheVariants.{StrhImmediate, LdrhImmediate, StrSp, LdrSp}
use Rattle.armv6m_decode.specs.declared.instr.Many.TheVariants.{Push, Pop, Stm, Ldm}
use Rattle.armv6m_decode.specs.declared.instr.Branch.TheVariants.{Bx, Blx, Bcc, B, Bl}
use Rattle.armv6m_decode.specs.declared.instr.Other.TheVariants.{Adr, AddFromSp, AddToSp, SubFromSp, Sxth, Sxtb, Uxth, Uxtb, Cpsie, Cpsid, Rev, Rev16, Revsh}
use Rattle.armv6m_decode.specs.declared.instr.Other.TheVariants.{Bkpt, Nop, Yield, Wfe, Wfi, Sev, Udf, Svc, Mrs, Msr, Dsb, Dmb, Isb}
use Rattle.armv6m_encode.specs.Encoding.{fields_fit}
use Rattle.armv6m_decode.specs.declared.registers.TheConstants.{SP, LR, PC}
use Rattle.armv6m_forms.specs.declared.mnemonic.Mnemonic.{Mnemonic}
use Rattle.armv6m_forms.specs.declared.mnemonic.Mnemonic.TheVariants as mnemonic
use Rattle.armv6m_forms.specs.declared.form.Operands.TheVariants as operands
use Rattle.armv6m_forms.specs.declared.form.Aim.{Aim}
use Rattle.armv6m_forms.specs.declared.form.Aim.TheVariants.{Branch, BranchIf, BranchLink, Load, Address}
use Rattle.armv6m_forms.specs.declared.form.Form.{Form}
use Rattle.armv6m_forms.specs.declared.form.Form.TheVariants.{Plain, Aimed}
use Rattle.armv6m_decode.specs.Targets.{pc_read, literal_target, signed_offset, branch_target}
use Rattle.armv6m_decode.specs.declared.condition.Condition.{Condition}
use Rattle.armv6m_forms.specs.Form.{form_of, right_shift, with_register, is_made, IsReadToo, StandsFor, OneInstructionForEach}
use Rattle.armv6m_forms.specs.Row.{scale_of, counted, halved}

-- the instruction that is made from a field, if there is one
abbrev pub with_field : (ℕ → Option Instr) → Option ℕ → Option Instr
with_field f None = None
with_field f (Some field) = f field

-- CMP of two registers: encoding T1 if both are low registers
abbrev pub comparison : ℕ → ℕ → Instr
comparison d m = if nat_lt d 8 && nat_lt m 8 then instr.Alu (CmpRegister d m) else instr.Alu (CmpHigh d m)

-- ---- rows by mnemonic and shape; a `field` is that of an immediate, or a list's low byte

abbrev pub row_none : Mnemonic → Option Instr
row_none mnemonic.Nop = Some (instr.Other Nop)
row_none mnemonic.Yield = Some (instr.Other Yield)
row_none mnemonic.Wfe = Some (instr.Other Wfe)
row_none mnemonic.Wfi = Some (instr.Other Wfi)
row_none mnemonic.Sev = Some (instr.Other Sev)
row_none mnemonic.Dsb = Some (instr.Other Dsb)
row_none mnemonic.Dmb = Some (instr.Other Dmb)
row_none mnemonic.Isb = Some (instr.Other Isb)
row_none mnemonic.Udf = Some (instr.Other (Udf 0))
row_none mnemonic.Svc = Some (instr.Other (Svc 0))
row_none _ = None

abbrev pub row_one : Mnemonic → ℕ → Option Instr
row_one mnemonic.Bx m = Some (instr.Branch (Bx m))
row_one mnemonic.Blx m = Some (instr.Branch (Blx m))
row_one _ m = None

abbrev pub row_two : Mnemonic → ℕ → ℕ → Option Instr
row_two mnemonic.Movs d m = Some (instr.Alu (LslsImmediate d m 0))
row_two mnemonic.Lsls d m = Some (instr.Alu (LslsRegister d m))
row_two mnemonic.Lsrs d m = Some (instr.Alu (LsrsRegister d m))
row_two mnemonic.Asrs d m = Some (instr.Alu (AsrsRegister d m))
row_two mnemonic.Ands d m = Some (instr.Alu (Ands d m))
row_two mnemonic.Eors d m = Some (instr.Alu (Eors d m))
row_two mnemonic.Adcs d m = Some (instr.Alu (Adcs d m))
row_two mnemonic.Sbcs d m = Some (instr.Alu (Sbcs d m))
row_two mnemonic.Rors d m = Some (instr.Alu (Rors d m))
row_two mnemonic.Tst d m = Some (instr.Alu (Tst d m))
row_two mnemonic.Cmn d m = Some (instr.Alu (Cmn d m))
row_two mnemonic.Orrs d m = Some (instr.Alu (Orrs d m))
row_two mnemonic.Muls d m = Some (instr.Alu (Muls d m))
row_two mnemonic.Bics d m = Some (instr.Alu (Bics d m))
row_two mnemonic.Mvns d m = Some (instr.Alu (Mvns d m))
row_two mnemonic.Add d m = Some (instr.Alu (AddHigh d m))
row_two mnemonic.Mov d m = Some (instr.Alu (MovHigh d m))
row_two mnemonic.Sxth d m = Some (instr.Other (Sxth d m))
row_two mnemonic.Sxtb d m = Some (instr.Other (Sxtb d m))
row_two mnemonic.Uxth d m = Some (instr.Other (Uxth d m))
row_two mnemonic.Uxtb d m = Some (instr.Other (Uxtb d m))
row_two mnemonic.Rev d m = Some (instr.Other (Rev d m))
row_two mnemonic.Rev16 d m = Some (instr.Other (Rev16 d m))
row_two mnemonic.Revsh d m = Some (instr.Other (Revsh d m))
row_two mnemonic.Cmp d m = Some (comparison d m)
row_two _ d m = None

abbrev pub row_three : Mnemonic → ℕ → ℕ → ℕ → Option Instr
row_three mnemonic.Adds d n m = Some (instr.Alu (AddsRegister d n m))
row_three mnemonic.Subs d n m = Some (instr.Alu (SubsRegister d n m))
row_three _ d n m = None

abbrev pub row_immediate : Mnemonic → ℕ → Option Instr
row_immediate mnemonic.Bkpt field = Some (instr.Other (Bkpt field))
row_immediate _ field = None

abbrev pub row_one_immediate : Mnemonic → ℕ → ℕ → Option Instr
row_one_immediate mnemonic.Movs d field = Some (instr.Alu (MovsImmediate d field))
row_one_immediate mnemonic.Cmp d field = Some (instr.Alu (CmpImmediate d field))
row_one_immediate mnemonic.Adds d field = Some (instr.Alu (AddsImmediate8 d field))
row_one_immediate mnemonic.Subs d field = Some (instr.Alu (SubsImmediate8 d field))
row_one_immediate mnemonic.Add d field = if nat_eq d SP then Some (instr.Other (AddToSp field)) else None
row_one_immediate mnemonic.Sub d field = if nat_eq d SP then Some (instr.Other (SubFromSp field)) else None
row_one_immediate _ d field = None

abbrev pub row_two_immediate : Mnemonic → ℕ → ℕ → ℕ → Option Instr
row_two_immediate mnemonic.Lsls d n field = Some (instr.Alu (LslsImmediate d n field))
row_two_immediate mnemonic.Lsrs d n field = if nat_eq field 0 then None else Some (instr.Alu (LsrsImmediate d n (if nat_eq field 32 then 0 else field)))
row_two_immediate mnemonic.Asrs d n field = if nat_eq field 0 then None else Some (instr.Alu (AsrsImmediate d n (if nat_eq field 32 then 0 else field)))
row_two_immediate mnemonic.Adds d n field = Some (instr.Alu (AddsImmediate3 d n field))
row_two_immediate mnemonic.Subs d n field = Some (instr.Alu (SubsImmediate3 d n field))
row_two_immediate mnemonic.Rsbs d n field = if nat_eq field 0 then Some (instr.Alu (Rsbs d n)) else None
row_two_immediate mnemonic.Add d n field = if nat_eq n SP then Some (instr.Other (AddFromSp d field)) else None
row_two_immediate _ d n field = None

abbrev pub row_by_register : Mnemonic → ℕ → ℕ → ℕ → Option Instr
row_by_register mnemonic.Str t n m = Some (instr.Memory (StrRegister t n m))
row_by_register mnemonic.Strh t n m = Some (instr.Memory (StrhRegister t n m))
row_by_register mnemonic.Strb t n m = Some (instr.Memory (StrbRegister t n m))
row_by_register mnemonic.Ldrsb t n m = Some (instr.Memory (LdrsbRegister t n m))
row_by_register mnemonic.Ldr t n m = Some (instr.Memory (LdrRegister t n m))
row_by_register mnemonic.Ldrh t n m = Some (instr.Memory (LdrhRegister t n m))
row_by_register mnemonic.Ldrb t n m = Some (instr.Memory (LdrbRegister t n m))
row_by_register mnemonic.Ldrsh t n m = Some (instr.Memory (LdrshRegister t n m))
row_by_register _ t n m = None

abbrev pub row_by_offset : Mnemonic → ℕ → ℕ → ℕ → Option Instr
row_by_offset mnemonic.Str t n field = if nat_eq n SP then Some (instr.Memory (StrSp t field)) else Some (instr.Memory (StrImmediate t n field))
row_by_offset mnemonic.Ldr t n field = if nat_eq n SP then Some (instr.Memory (LdrSp t field)) else Some (instr.Memory (LdrImmediate t n field))
row_by_offset mnemonic.Strh t n field = Some (instr.Memory (StrhImmediate t n field))
row_by_offset mnemonic.Ldrh t n field = Some (instr.Memory (LdrhImmediate t n field))
row_by_offset mnemonic.Strb t n field = Some (instr.Memory (StrbImmediate t n field))
row_by_offset mnemonic.Ldrb t n field = Some (instr.Memory (LdrbImmediate t n field))
row_by_offset _ t n field = None

abbrev pub row_list : Mnemonic → ℕ → Option Instr
row_list mnemonic.Push list = if nat_eq (list / 256) 0 then Some (instr.Many (Push false (list % 256))) else if nat_eq (list / 256) 64 then Some
    (instr.Many (Push true (list % 256))) else None
row_list mnemonic.Pop list = if nat_eq (list / 256) 0 then Some (instr.Many (Pop false (list % 256))) else if nat_eq (list / 256) 128 then Some
    (instr.Many (Pop true (list % 256))) else None
row_list _ list = None

abbrev pub row_base_list : Mnemonic → ℕ → ℕ → Option Instr
row_base_list mnemonic.Ldm n field = Some (instr.Many (Ldm n field))
row_base_list _ n field = None

abbrev pub row_updated_list : Mnemonic → ℕ → ℕ → Option Instr
row_updated_list mnemonic.Stm n field = Some (instr.Many (Stm n field))
row_updated_list _ n field = None

abbrev pub row_interrupts : Mnemonic → Option Instr
row_interrupts mnemonic.Cpsie = Some (instr.Other Cpsie)
row_interrupts mnemonic.Cpsid = Some (instr.Other Cpsid)
row_interrupts _ = None

abbrev pub row_from_special : Mnemonic → ℕ → ℕ → Option Instr
row_from_special mnemonic.Mrs d special = Some (instr.Other (Mrs d special))
row_from_special _ d special = None

abbrev pub row_to_special : Mnemonic → ℕ → ℕ → Option Instr
row_to_special mnemonic.Msr special n = Some (instr.Other (Msr n special))
row_to_special _ special n = None

-- ---- targets

-- the distance of a target from a place, modulo 2^32
abbrev pub distance : ℕ → ℕ → ℕ
distance from target = (target + (2 ^ 32 - from)) % 2 ^ 32

abbrev pub row_aimed : Aim → ℕ → ℕ → Option Instr
row_aimed Branch at target = with_field (λ i. Some (instr.Branch (B i))) (halved 2048 (distance (pc_read at) target))
row_aimed (BranchIf condition) at target = with_field (λ i. Some (instr.Branch (Bcc condition i))) (halved 256 (distance (pc_read at) target))
row_aimed BranchLink at target = with_field (λ i. Some (instr.Branch (Bl i))) (halved 16777216 (distance (pc_read at) target))
row_aimed (Load t) at target = with_field (λ i. Some (instr.Memory (LdrLiteral t i))) (counted 4 (distance (pc_read at / 4 * 4) target))
row_aimed (Address d) at target = with_field (λ i. Some (instr.Other (Adr d i))) (counted 4 (distance (pc_read at / 4 * 4) target))

-- ---- the row of any form

abbrev pub row_of : Form → ℕ → Option Instr
row_of (Plain mnemonic operands.None) at = row_none mnemonic
row_of (Plain mnemonic (operands.One m)) at = row_one mnemonic m
row_of (Plain mnemonic (operands.Two d m)) at = row_two mnemonic d m
row_of (Plain mnemonic (operands.Three d n m)) at = row_three mnemonic d n m
row_of (Plain mnemonic (operands.Immediate immediate)) at = with_field (row_immediate mnemonic) (counted (scale_of mnemonic) immediate)
row_of (Plain mnemonic (operands.OneImmediate d immediate)) at = with_field (row_one_immediate mnemonic d) (counted (scale_of mnemonic) immediate)
row_of (Plain mnemonic (operands.TwoImmediate d n immediate)) at = with_field (row_two_immediate mnemonic d n) (counted (scale_of mnemonic) immediate)
row_of (Plain mnemonic (operands.ByRegister t n m)) at = row_by_register mnemonic t n m
row_of (Plain mnemonic (operands.ByOffset t n offset)) at = with_field (row_by_offset mnemonic t n) (counted (scale_of mnemonic) offset)
row_of (Plain mnemonic (operands.List list)) at = row_list mnemonic list
row_of (Plain mnemonic (operands.BaseList n list)) at = with_field (row_base_list mnemonic n) (counted 1 list)
row_of (Plain mnemonic (operands.UpdatedList n list)) at = with_field (row_updated_list mnemonic n) (counted 1 list)
row_of (Plain mnemonic operands.Interrupts) at = row_interrupts mnemonic
row_of (Plain mnemonic (operands.FromSpecial d special)) at = row_from_special mnemonic d special
row_of (Plain mnemonic (operands.ToSpecial special n)) at = row_to_special mnemonic special n
row_of (Aimed aim target) at = row_aimed aim at target

-- ---- tests

one_below : (a x : ℕ) → IsTrue (nat_lt a x) → a < x
one_below a x h = grind (arith, nat_tests)

second_of_two : (a b x y : ℕ) → IsTrue (nat_lt a x && nat_lt b y) → b < y
second_of_two a b x y h = grind (arith, nat_tests)

third_of_three : (a b c x y z : ℕ) → IsTrue (nat_lt a x && nat_lt b y && nat_lt c z) → c < z
third_of_three a b c x y z h = grind (arith, nat_tests)

counted_1 : (a : ℕ) → a < 256 → counted 1 a ≡ Some a
counted_1 a h = grind (arith, nat_tests)

counted_2 : (a : ℕ) → a < 256 → counted 2 (2 * a) ≡ Some a
counted_2 a h = grind (arith, nat_tests)

counted_4 : (a : ℕ) → a < 256 → counted 4 (4 * a) ≡ Some a
counted_4 a h = grind (arith, nat_tests)

halved_short : (a : ℕ) → a < 256 → halved 256 (signed_offset 8 a) ≡ Some a
halved_short a h = grind (arith, nat_tests)

halved_near : (a : ℕ) → a < 2048 → halved 2048 (signed_offset 11 a) ≡ Some a
halved_near a h = grind (arith, nat_tests)

halved_far : (a : ℕ) → a < 16777216 → halved 16777216 (signed_offset 24 a) ≡ Some a
halved_far a h = grind (arith, nat_tests)

there_and_back : (from by : ℕ) → from < 2 ^ 32 → by < 2 ^ 32 → distance from ((from + by) % 2 ^ 32) ≡ by
there_and_back from by h k = omega arith

-- ---- each instruction is the row of its form

moved_by : (b : Bool) (d m a : ℕ) (at : ℕ) → nat_eq a 0 ≡ b → a < 32
    → row_of (if b then Plain mnemonic.Movs (operands.Two d m) else Plain mnemonic.Lsls (operands.TwoImmediate d m a)) at
    ≡ Some (instr.Alu (LslsImmediate d m a))
moved_by true d m a at is h = let none : 0 ≡ a = grind (arith, nat_tests) in ap (λ (x : ℕ). Some (instr.Alu (LslsImmediate d m x))) none
moved_by false d m a at is h = ap (with_field (λ i. Some (instr.Alu (LslsImmediate d m i)))) (counted_1 a (omega arith))

compared : (n m : ℕ) → IsTrue (not (nat_lt n 8 && nat_lt m 8)) → row_two mnemonic.Cmp n m ≡ Some (instr.Alu (CmpHigh n m))
compared n m h = grind (arith, nat_tests)

compared_low : (d m : ℕ) → IsTrue (nat_lt d 8 && nat_lt m 8) → row_two mnemonic.Cmp d m ≡ Some (instr.Alu (CmpRegister d m))
compared_low d m h = grind (arith, nat_tests)

shifted_right : (d m a : ℕ) → a < 32
    → with_field (row_two_immediate mnemonic.Lsrs d m) (counted 1 (right_shift a)) ≡ Some (instr.Alu (LsrsImmediate d m a))
shifted_right d m a h = grind (arith, nat_tests)

shifted_right_signed : (d m a : ℕ) → a < 32
    → with_field (row_two_immediate mnemonic.Asrs d m) (counted 1 (right_shift a)) ≡ Some (instr.Alu (AsrsImmediate d m a))
shifted_right_signed d m a h = grind (arith, nat_tests)

stored_low : (t n a : ℕ) → IsTrue (nat_lt t 8 && nat_lt n 8 && nat_lt a 32)
    → with_field (row_by_offset mnemonic.Str t n) (counted 4 (4 * a)) ≡ Some (instr.Memory (StrImmediate t n a))
stored_low t n a h = grind (arith, nat_tests)

loaded_low : (t n a : ℕ) → IsTrue (nat_lt t 8 && nat_lt n 8 && nat_lt a 32)
    → with_field (row_by_offset mnemonic.Ldr t n) (counted 4 (4 * a)) ≡ Some (instr.Memory (LdrImmediate t n a))
loaded_low t n a h = grind (arith, nat_tests)

pushed : (lr : Bool) (list : ℕ) → IsTrue (nat_lt list 256) → row_list mnemonic.Push (with_register lr LR list) ≡ Some (instr.Many (Push lr list))
pushed true list h = grind (arith, nat_tests)
pushed false list h = grind (arith, nat_tests)

popped : (to_pc : Bool) (list : ℕ) → IsTrue (nat_lt list 256) → row_list mnemonic.Pop (with_register to_pc PC list) ≡ Some (instr.Many (Pop to_pc list))
popped true list h = grind (arith, nat_tests)
popped false list h = grind (arith, nat_tests)

of_zero : (make : ℕ → Instr) (a : ℕ) → IsTrue (nat_eq a 0) → Some (make 0) ≡ Some (make a)
of_zero make a h = let none : 0 ≡ a = grind (arith, nat_tests) in ap (λ (x : ℕ). Some (make x)) none

aimed_literal : (make : ℕ → Instr) (at a : ℕ) → a < 256
    → with_field (λ i. Some (make i)) (counted 4 (distance (pc_read at / 4 * 4) (literal_target at a))) ≡ Some (make a)
aimed_literal make at a h =
    let there : distance (pc_read at / 4 * 4) (literal_target at a) ≡ 4 * a = there_and_back (pc_read at / 4 * 4) (4 * a) (omega arith) (omega arith) in
    ap (λ (x : ℕ). with_field (λ i. Some (make i)) (counted 4 x)) there ∙ ap (with_field (λ i. Some (make i))) (counted_4 a h)

aimed_short : (condition : Condition) (at a : ℕ) → a < 256 → row_aimed (BranchIf condition) at (branch_target 8 at a) ≡ Some (instr.Branch (Bcc condition a))
aimed_short condition at a h =
    let small : a % 2 ^ 8 ≡ a = omega arith in
    let there : distance (pc_read at) (branch_target 8 at a) ≡ signed_offset 8 (a % 2 ^ 8) =
    there_and_back (pc_read at) (signed_offset 8 (a % 2 ^ 8)) (omega arith) (grind (arith, nat_tests)) in
    ap (λ (x : ℕ). with_field (λ i. Some (instr.Branch (Bcc condition i))) (halved 256 x)) (there ∙ ap (signed_offset 8) small)
    ∙ ap (with_field (λ i. Some (instr.Branch (Bcc condition i)))) (halved_short a h)

aimed_near : (at a : ℕ) → a < 2048 → row_aimed Branch at (branch_target 11 at a) ≡ Some (instr.Branch (B a))
aimed_near at a h =
    let small : a % 2 ^ 11 ≡ a = omega arith in
    let there : distance (pc_read at) (branch_target 11 at a) ≡ signed_offset 11 (a % 2 ^ 11) =
    there_and_back (pc_read at) (signed_offset 11 (a % 2 ^ 11)) (omega arith) (grind (arith, nat_tests)) in
    ap (λ (x : ℕ). with_field (λ i. Some (instr.Branch (B i))) (halved 2048 x)) (there ∙ ap (signed_offset 11) small)
    ∙ ap (with_field (λ i. Some (instr.Branch (B i)))) (halved_near a h)

aimed_far : (at a : ℕ) → a < 16777216 → row_aimed BranchLink at (branch_target 24 at a) ≡ Some (instr.Branch (Bl a))
aimed_far at a h =
    let small : a % 2 ^ 24 ≡ a = omega arith in
    let there : distance (pc_read at) (branch_target 24 at a) ≡ signed_offset 24 (a % 2 ^ 24) =
    there_and_back (pc_read at) (signed_offset 24 (a % 2 ^ 24)) (omega arith) (grind (arith, nat_tests)) in
    ap (λ (x : ℕ). with_field (λ i. Some (instr.Branch (Bl i))) (halved 16777216 x)) (there ∙ ap (signed_offset 24) small)
    ∙ ap (with_field (λ i. Some (instr.Branch (Bl i)))) (halved_far a h)

found : (i : Instr) (at : ℕ) → IsTrue (fields_fit i) → IsTrue (is_made i) → row_of (form_of i at) at ≡ Some i
unfolding form_of
found (instr.Alu (LslsImmediate d m immediate)) at fields made =
    moved_by (nat_eq immediate 0) d m immediate at refl (third_of_three d m immediate 8 8 32 fields)
found (instr.Alu (LsrsImmediate d m immediate)) at fields made = shifted_right d m immediate (third_of_three d m immediate 8 8 32 fields)
found (instr.Alu (AsrsImmediate d m immediate)) at fields made = shifted_right_signed d m immediate (third_of_three d m immediate 8 8 32 fields)
found (instr.Alu (AddsImmediate3 d n immediate)) at fields made =
    ap (with_field (λ i. Some (instr.Alu (AddsImmediate3 d n i)))) (counted_1 immediate (omega (arith, third_of_three d n immediate 8 8 8 fields)))
found (instr.Alu (SubsImmediate3 d n immediate)) at fields made =
    ap (with_field (λ i. Some (instr.Alu (SubsImmediate3 d n i)))) (counted_1 immediate (omega (arith, third_of_three d n immediate 8 8 8 fields)))
found (instr.Alu (MovsImmediate d immediate)) at fields made =
    ap (with_field (λ i. Some (instr.Alu (MovsImmediate d i)))) (counted_1 immediate (second_of_two d immediate 8 256 fields))
found (instr.Alu (CmpImmediate n immediate)) at fields made =
    ap (with_field (λ i. Some (instr.Alu (CmpImmediate n i)))) (counted_1 immediate (second_of_two n immediate 8 256 fields))
found (instr.Alu (AddsImmediate8 d immediate)) at fields made =
    ap (with_field (λ i. Some (instr.Alu (AddsImmediate8 d i)))) (counted_1 immediate (second_of_two d immediate 8 256 fields))
found (instr.Alu (SubsImmediate8 d immediate)) at fields made =
    ap (with_field (λ i. Some (instr.Alu (SubsImmediate8 d i)))) (counted_1 immediate (second_of_two d immediate 8 256 fields))
found (instr.Alu (CmpRegister d m)) at fields made = compared_low d m fields
found (instr.Alu (CmpHigh n m)) at fields made = compared n m made
found (instr.Memory (LdrLiteral t immediate)) at fields made = aimed_literal (λ i. instr.Memory (LdrLiteral t i)) at immediate
    (second_of_two t immediate 8 256 fields)
found (instr.Memory (StrImmediate t n immediate)) at fields made = stored_low t n immediate fields
found (instr.Memory (LdrImmediate t n immediate)) at fields made = loaded_low t n immediate fields
found (instr.Memory (StrbImmediate t n immediate)) at fields made = ap (with_field (λ i. Some (instr.Memory (StrbImmediate t n i))))
    (counted_1 immediate (omega (arith, third_of_three t n immediate 8 8 32 fields)))
found (instr.Memory (LdrbImmediate t n immediate)) at fields made = ap (with_field (λ i. Some (instr.Memory (LdrbImmediate t n i))))
    (counted_1 immediate (omega (arith, third_of_three t n immediate 8 8 32 fields)))
found (instr.Memory (StrhImmediate t n immediate)) at fields made = ap (with_field (λ i. Some (instr.Memory (StrhImmediate t n i))))
    (counted_2 immediate (omega (arith, third_of_three t n immediate 8 8 32 fields)))
found (instr.Memory (LdrhImmediate t n immediate)) at fields made = ap (with_field (λ i. Some (instr.Memory (LdrhImmediate t n i))))
    (counted_2 immediate (omega (arith, third_of_three t n immediate 8 8 32 fields)))
found (instr.Memory (StrSp t immediate)) at fields made = ap (with_field (λ i. Some (instr.Memory (StrSp t i))))
    (counted_4 immediate (second_of_two t immediate 8 256 fields))
found (instr.Memory (LdrSp t immediate)) at fields made = ap (with_field (λ i. Some (instr.Memory (LdrSp t i))))
    (counted_4 immediate (second_of_two t immediate 8 256 fields))
found (instr.Other (Adr d immediate)) at fields made = aimed_literal (λ i. instr.Other (Adr d i)) at immediate (second_of_two d immediate 8 256 fields)
found (instr.Other (AddFromSp d immediate)) at fields made =
    ap (with_field (λ i. Some (instr.Other (AddFromSp d i)))) (counted_4 immediate (second_of_two d immediate 8 256 fields))
found (instr.Other (AddToSp immediate)) at fields made = ap (with_field (λ i. Some (instr.Other (AddToSp i))))
    (counted_4 immediate (omega (arith, one_below immediate 128 fields)))
found (instr.Other (SubFromSp immediate)) at fields made = ap (with_field (λ i. Some (instr.Other (SubFromSp i))))
    (counted_4 immediate (omega (arith, one_below immediate 128 fields)))
found (instr.Many (Push lr list)) at fields made = pushed lr list fields
found (instr.Many (Pop to_pc list)) at fields made = popped to_pc list fields
found (instr.Other (Bkpt immediate)) at fields made = ap (with_field (λ i. Some (instr.Other (Bkpt i)))) (counted_1 immediate (one_below immediate 256 fields))
found (instr.Many (Stm n list)) at fields made = ap (with_field (λ i. Some (instr.Many (Stm n i)))) (counted_1 list (second_of_two n list 8 256 fields))
found (instr.Many (Ldm n list)) at fields made = ap (with_field (λ i. Some (instr.Many (Ldm n i)))) (counted_1 list (second_of_two n list 8 256 fields))
found (instr.Branch (Bcc condition immediate)) at fields made = aimed_short condition at immediate (one_below immediate 256 fields)
found (instr.Other (Udf immediate)) at fields made = of_zero (λ i. instr.Other (Udf i)) immediate made
found (instr.Other (Svc immediate)) at fields made = of_zero (λ i. instr.Other (Svc i)) immediate made
found (instr.Branch (B immediate)) at fields made = aimed_near at immediate (one_below immediate 2048 fields)
found (instr.Branch (Bl immediate)) at fields made = aimed_far at immediate (one_below immediate 16777216 fields)
found i at fields made = refl

read_too : (i : Instr) (at : ℕ) (form : Form) → IsReadToo i form → row_of form at ≡ Some i
read_too (instr.Alu (LslsImmediate d m immediate)) at form h =
    ap (λ (f : Form). row_of f at) h.1 ∙ ap (λ (x : ℕ). Some (instr.Alu (LslsImmediate d m x))) (sym h.0)
read_too _ at form h = absurd h

pub row_is : (i : Instr) (at : ℕ) (form : Form) → StandsFor i at form → row_of form at ≡ Some i
row_is i at form s = ⊎_elim
    (λ (e : form_of i at ≡ form). ap (λ (f : Form). row_of f at) (sym e) ∙ found i at s.fields s.made)
    (λ e. read_too i at form e) s.written

pub some_is : (a b : Instr) → Some a ≡ Some b → a ≡ b
some_is a b e = cc

pub one_for_each : OneInstructionForEach
one_for_each first second at form one two = some_is first second (sym (row_is first at form one) ∙ row_is second at form two)
