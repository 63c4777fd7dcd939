-- The halfwords of each arm of a quick step: the table gives each arm the right ones, and each arm has one row of the instruction table.
use Rattle.std.proofs.Common.{◌≡◌, ℕ, zero, suc, ◌+◌, ◌*◌, ◌/◌, ◌%◌, ◌^◌, ◌<◌, ◌≤◌, Bool, true, ◌&&◌, cond, leb, List, [], ◌∷◌, length, get_or, Some, None}
use Rattle.std.proofs.Common.{refl, ap, ◌∙◌, arith, lit<, eq-eqb}
use Rattle.std.proofs.lemmas.Bool.{leb-true}
use Rattle.armv6m_alu.specs.Bits.{is_bit_set}
use Rattle.armv6m_decode.specs.declared.instr.Instr.{Instr}
use Rattle.armv6m_decode.specs.declared.instr.Instr.TheVariants as instr
use Rattle.armv6m_decode.specs.declared.instr.Alu.TheVariants.{Adcs, AddsImmediate3, AddsImmediate8, AddsRegister, Ands, AsrsImmediate}
use Rattle.armv6m_decode.specs.declared.instr.Alu.TheVariants.{CmpImmediate, CmpRegister, Eors, LslsImmediate, LsrsImmediate, MovHigh}
use Rattle.armv6m_decode.specs.declared.instr.Alu.TheVariants.{MovsImmediate, Muls, Orrs, Rors, Rsbs, SubsImmediate3, SubsImmediate8}
use Rattle.armv6m_decode.specs.declared.instr.Alu.TheVariants.{SubsRegister, Tst}
use Rattle.armv6m_decode.specs.declared.instr.Memory.TheVariants.{LdrImmediate, LdrLiteral, LdrSp, LdrbImmediate, LdrhImmediate, StrImmediate, StrSp}
use Rattle.armv6m_decode.specs.declared.instr.Memory.TheVariants.{LdrRegister, StrbImmediate, StrRegister}
use Rattle.armv6m_decode.specs.declared.instr.Memory.TheVariants.{StrhImmediate}
use Rattle.armv6m_decode.specs.declared.instr.Many.TheVariants.{Pop, Push}
use Rattle.armv6m_decode.specs.declared.instr.Branch.TheVariants.{Bx, Bcc, B}
use Rattle.armv6m_decode.specs.declared.instr.Other.TheVariants.{AddFromSp, Rev}
use Rattle.armv6m_decode.specs.declared.condition.Condition.{Condition}
use Rattle.armv6m_decode.specs.declared.condition.Condition.TheVariants.{Equal, NotEqual, CarrySet, CarryClear, Higher}
use Rattle.armv6m_decode.specs.declared.instr.Decoded.TheVariants.{Op, NeedsSecond}
use Rattle.armv6m_decode.specs.Rows.{Row, row, bits, fits, first_fit}
use Rattle.armv6m_decode.specs.Conditions.{condition_code, condition_of}
use Rattle.armv6m_decode.specs.Table.{rows, decoded, high_register, op_or_undefined}
use Rattle.armv6m_decode.proofs.ConditionLemmas.{with_its_code}
use Rattle.armv6m_decode.proofs.Masks.{under_f800, under_fc00, under_fe00, under_ff00, under_ff87, under_ffc0}
use Rattle.armv6m_decode.proofs.RowsLemmas.{near}
use Rattle.armv6m_decode.proofs.TableLemmas.{decoded_near, begins_pair}
use Rattle.armv6m_step.specs.declared.arms.Arm.{Arm}
use Rattle.armv6m_step.specs.declared.arms.Arm.TheVariants as arm
use Rattle.armv6m_step.specs.declared.arms.TheConstants.{ARMS}
use Rattle.armv6m_step.specs.Arms.{range_of, InArm}
use Rattle.armv6m_step.proofs.ListLemmas.{both}

-- ---- the table of arms

-- all 64 halfwords of a table entry are among those of its arm
abbrev entry_fits : Arm → ℕ → Bool
entry_fits a index = leb (range_of a).0 (64 * index) && leb (64 * index + 63) (range_of a).1

abbrev all_fit : List Arm → ℕ → Bool
all_fit [] index = true
all_fit (a ∷ arms) index = entry_fits a index && all_fit arms (index + 1)

table_fits : all_fit ARMS 0 ≡ true
unfolding range_of
table_fits = refl

fits_at : (arms : List Arm) (from i : ℕ) → all_fit arms from ≡ true → i < length arms → entry_fits (get_or arms i arm.LslsImmediate) (from + i) ≡ true
fits_at [] from i all lt = absurd (omega (arith, lt))
fits_at (a ∷ arms) from zero all lt = let same : from + 0 ≡ from = omega arith in rw same (both _ _ all).0
fits_at (a ∷ arms) from (suc i) all lt =
    let same : from + suc i ≡ from + 1 + i = omega arith in
    rw same (fits_at arms (from + 1) i (both _ _ all).1 (omega (arith, lt)))

within : (first last index half : ℕ) → (leb first (64 * index) && leb (64 * index + 63) last) ≡ true → index ≡ half / 64 → (first ≤ half) × (half ≤ last)
within first last index half fit is =
    let two : (leb first (64 * index) ≡ true) × (leb (64 * index + 63) last ≡ true) = both _ _ fit in
    (omega (arith, is, leb-true _ _ two.0), omega (arith, is, leb-true _ _ two.1))

pub in_arm : (half : ℕ) → half < 2 ^ 16 → InArm (get_or ARMS (half / 64) arm.LslsImmediate) half
in_arm half small = within _ _ (0 + half / 64) half (fits_at ARMS 0 (half / 64) table_fits (omega (arith, small))) (omega arith)

-- ---- the halfwords of each arm

one_near : (low high half : ℕ) (r : Row) → half < 2 ^ 16 → low ≤ half → half ≤ high → high < 0xE800 → near low high rows ≡ r ∷ [] → fits r half ≡ true
    → decoded half ≡ Op (r.form half)
one_near low high half r small above below short alone fit =
    decoded_near low high half small above below short
    ∙ ap (λ (rs : List Row). op_or_undefined (first_fit rs half)) alone
    ∙ ap (λ (b : Bool). op_or_undefined (cond b (Some (r.form half)) None)) fit

-- no other row is near the halfwords from `low` to `high`
abbrev IsAlone : ℕ → ℕ → Row → Type 0
IsAlone low high r = near low high rows ≡ r ∷ []

by_f800 : (value low high half : ℕ) (form : ℕ → Instr) → half < 2 ^ 16 → (low ≤ half) × (half ≤ high) → high < 0xE800 → half / 2048 * 2048 ≡ value
    → IsAlone low high (row value 0xF800 form) → decoded half ≡ Op (form half)
by_f800 value low high half form small in' short is alone =
    one_near low high half (row value 0xF800 form) small in'.0 in'.1 short alone (eq-eqb _ _ (under_f800 half small ∙ is))

by_fe00 : (value low high half : ℕ) (form : ℕ → Instr) → half < 2 ^ 16 → (low ≤ half) × (half ≤ high) → high < 0xE800 → half / 512 * 512 ≡ value
    → IsAlone low high (row value 0xFE00 form) → decoded half ≡ Op (form half)
by_fe00 value low high half form small in' short is alone =
    one_near low high half (row value 0xFE00 form) small in'.0 in'.1 short alone (eq-eqb _ _ (under_fe00 half small ∙ is))

by_ffc0 : (value low high half : ℕ) (form : ℕ → Instr) → half < 2 ^ 16 → (low ≤ half) × (half ≤ high) → high < 0xE800 → half / 64 * 64 ≡ value
    → IsAlone low high (row value 0xFFC0 form) → decoded half ≡ Op (form half)
by_ffc0 value low high half form small in' short is alone =
    one_near low high half (row value 0xFFC0 form) small in'.0 in'.1 short alone (eq-eqb _ _ (under_ffc0 half small ∙ is))

by_ff00 : (value low high half : ℕ) (form : ℕ → Instr) → half < 2 ^ 16 → (low ≤ half) × (half ≤ high) → high < 0xE800 → half / 256 * 256 ≡ value
    → IsAlone low high (row value 0xFF00 form) → decoded half ≡ Op (form half)
by_ff00 value low high half form small in' short is alone =
    one_near low high half (row value 0xFF00 form) small in'.0 in'.1 short alone (eq-eqb _ _ (under_ff00 half small ∙ is))

by_fc00 : (value low high half : ℕ) (form : ℕ → Instr) → half < 2 ^ 16 → (low ≤ half) × (half ≤ high) → high < 0xE800 → half / 1024 * 1024 ≡ value
    → IsAlone low high (row value 0xFC00 form) → decoded half ≡ Op (form half)
by_fc00 value low high half form small in' short is alone =
    one_near low high half (row value 0xFC00 form) small in'.0 in'.1 short alone (eq-eqb _ _ (under_fc00 half small ∙ is))

pub lsls_immediate : (half : ℕ) → half < 2 ^ 16 → InArm arm.LslsImmediate half
    → decoded half ≡ Op (instr.Alu (LslsImmediate (bits 2 0 half) (bits 5 3 half) (bits 10 6 half)))
unfolding rows range_of
lsls_immediate half small in' =
    by_f800 0x0000 0x0000 0x07FF half (λ half. instr.Alu (LslsImmediate (bits 2 0 half) (bits 5 3 half) (bits 10 6 half)))
    small in' (lit< tt) (omega (arith, in'.0, in'.1)) refl

pub lsrs_immediate : (half : ℕ) → half < 2 ^ 16 → InArm arm.LsrsImmediate half
    → decoded half ≡ Op (instr.Alu (LsrsImmediate (bits 2 0 half) (bits 5 3 half) (bits 10 6 half)))
unfolding rows range_of
lsrs_immediate half small in' =
    by_f800 0x0800 0x0800 0x0FFF half (λ half. instr.Alu (LsrsImmediate (bits 2 0 half) (bits 5 3 half) (bits 10 6 half)))
    small in' (lit< tt) (omega (arith, in'.0, in'.1)) refl

pub asrs_immediate : (half : ℕ) → half < 2 ^ 16 → InArm arm.AsrsImmediate half
    → decoded half ≡ Op (instr.Alu (AsrsImmediate (bits 2 0 half) (bits 5 3 half) (bits 10 6 half)))
unfolding rows range_of
asrs_immediate half small in' =
    by_f800 0x1000 0x1000 0x17FF half (λ half. instr.Alu (AsrsImmediate (bits 2 0 half) (bits 5 3 half) (bits 10 6 half)))
    small in' (lit< tt) (omega (arith, in'.0, in'.1)) refl

pub adds_register : (half : ℕ) → half < 2 ^ 16 → InArm arm.AddsRegister half
    → decoded half ≡ Op (instr.Alu (AddsRegister (bits 2 0 half) (bits 5 3 half) (bits 8 6 half)))
unfolding rows range_of
adds_register half small in' =
    by_fe00 0x1800 0x1800 0x19FF half (λ half. instr.Alu (AddsRegister (bits 2 0 half) (bits 5 3 half) (bits 8 6 half)))
    small in' (lit< tt) (omega (arith, in'.0, in'.1)) refl

pub subs_register : (half : ℕ) → half < 2 ^ 16 → InArm arm.SubsRegister half
    → decoded half ≡ Op (instr.Alu (SubsRegister (bits 2 0 half) (bits 5 3 half) (bits 8 6 half)))
unfolding rows range_of
subs_register half small in' =
    by_fe00 0x1A00 0x1A00 0x1BFF half (λ half. instr.Alu (SubsRegister (bits 2 0 half) (bits 5 3 half) (bits 8 6 half)))
    small in' (lit< tt) (omega (arith, in'.0, in'.1)) refl

pub adds_immediate3 : (half : ℕ) → half < 2 ^ 16 → InArm arm.AddsImmediate3 half
    → decoded half ≡ Op (instr.Alu (AddsImmediate3 (bits 2 0 half) (bits 5 3 half) (bits 8 6 half)))
unfolding rows range_of
adds_immediate3 half small in' =
    by_fe00 0x1C00 0x1C00 0x1DFF half (λ half. instr.Alu (AddsImmediate3 (bits 2 0 half) (bits 5 3 half) (bits 8 6 half)))
    small in' (lit< tt) (omega (arith, in'.0, in'.1)) refl

pub subs_immediate3 : (half : ℕ) → half < 2 ^ 16 → InArm arm.SubsImmediate3 half
    → decoded half ≡ Op (instr.Alu (SubsImmediate3 (bits 2 0 half) (bits 5 3 half) (bits 8 6 half)))
unfolding rows range_of
subs_immediate3 half small in' =
    by_fe00 0x1E00 0x1E00 0x1FFF half (λ half. instr.Alu (SubsImmediate3 (bits 2 0 half) (bits 5 3 half) (bits 8 6 half)))
    small in' (lit< tt) (omega (arith, in'.0, in'.1)) refl

pub movs_immediate : (half : ℕ) → half < 2 ^ 16 → InArm arm.MovsImmediate half → decoded half ≡ Op (instr.Alu (MovsImmediate (bits 10 8 half) (bits 7 0 half)))
unfolding rows range_of
movs_immediate half small in' =
    by_f800 0x2000 0x2000 0x27FF half (λ half. instr.Alu (MovsImmediate (bits 10 8 half) (bits 7 0 half)))
    small in' (lit< tt) (omega (arith, in'.0, in'.1)) refl

pub cmp_immediate : (half : ℕ) → half < 2 ^ 16 → InArm arm.CmpImmediate half → decoded half ≡ Op (instr.Alu (CmpImmediate (bits 10 8 half) (bits 7 0 half)))
unfolding rows range_of
cmp_immediate half small in' =
    by_f800 0x2800 0x2800 0x2FFF half (λ half. instr.Alu (CmpImmediate (bits 10 8 half) (bits 7 0 half)))
    small in' (lit< tt) (omega (arith, in'.0, in'.1)) refl

pub adds_immediate : (half : ℕ) → half < 2 ^ 16 → InArm arm.AddsImmediate half → decoded half ≡ Op (instr.Alu (AddsImmediate8 (bits 10 8 half) (bits 7 0 half)))
unfolding rows range_of
adds_immediate half small in' =
    by_f800 0x3000 0x3000 0x37FF half (λ half. instr.Alu (AddsImmediate8 (bits 10 8 half) (bits 7 0 half)))
    small in' (lit< tt) (omega (arith, in'.0, in'.1)) refl

pub subs_immediate : (half : ℕ) → half < 2 ^ 16 → InArm arm.SubsImmediate half → decoded half ≡ Op (instr.Alu (SubsImmediate8 (bits 10 8 half) (bits 7 0 half)))
unfolding rows range_of
subs_immediate half small in' =
    by_f800 0x3800 0x3800 0x3FFF half (λ half. instr.Alu (SubsImmediate8 (bits 10 8 half) (bits 7 0 half)))
    small in' (lit< tt) (omega (arith, in'.0, in'.1)) refl

pub ands : (half : ℕ) → half < 2 ^ 16 → InArm arm.Ands half → decoded half ≡ Op (instr.Alu (Ands (bits 2 0 half) (bits 5 3 half)))
unfolding rows range_of
ands half small in' =
    by_ffc0 0x4000 0x4000 0x403F half (λ half. instr.Alu (Ands (bits 2 0 half) (bits 5 3 half)))
    small in' (lit< tt) (omega (arith, in'.0, in'.1)) refl

pub eors : (half : ℕ) → half < 2 ^ 16 → InArm arm.Eors half → decoded half ≡ Op (instr.Alu (Eors (bits 2 0 half) (bits 5 3 half)))
unfolding rows range_of
eors half small in' =
    by_ffc0 0x4040 0x4040 0x407F half (λ half. instr.Alu (Eors (bits 2 0 half) (bits 5 3 half)))
    small in' (lit< tt) (omega (arith, in'.0, in'.1)) refl

pub adcs : (half : ℕ) → half < 2 ^ 16 → InArm arm.Adcs half → decoded half ≡ Op (instr.Alu (Adcs (bits 2 0 half) (bits 5 3 half)))
unfolding rows range_of
adcs half small in' =
    by_ffc0 0x4140 0x4140 0x417F half (λ half. instr.Alu (Adcs (bits 2 0 half) (bits 5 3 half)))
    small in' (lit< tt) (omega (arith, in'.0, in'.1)) refl

pub rors : (half : ℕ) → half < 2 ^ 16 → InArm arm.Rors half → decoded half ≡ Op (instr.Alu (Rors (bits 2 0 half) (bits 5 3 half)))
unfolding rows range_of
rors half small in' =
    by_ffc0 0x41C0 0x41C0 0x41FF half (λ half. instr.Alu (Rors (bits 2 0 half) (bits 5 3 half)))
    small in' (lit< tt) (omega (arith, in'.0, in'.1)) refl

pub tst : (half : ℕ) → half < 2 ^ 16 → InArm arm.Tst half → decoded half ≡ Op (instr.Alu (Tst (bits 2 0 half) (bits 5 3 half)))
unfolding rows range_of
tst half small in' =
    by_ffc0 0x4200 0x4200 0x423F half (λ half. instr.Alu (Tst (bits 2 0 half) (bits 5 3 half)))
    small in' (lit< tt) (omega (arith, in'.0, in'.1)) refl

pub rsbs : (half : ℕ) → half < 2 ^ 16 → InArm arm.Rsbs half → decoded half ≡ Op (instr.Alu (Rsbs (bits 2 0 half) (bits 5 3 half)))
unfolding rows range_of
rsbs half small in' =
    by_ffc0 0x4240 0x4240 0x427F half (λ half. instr.Alu (Rsbs (bits 2 0 half) (bits 5 3 half)))
    small in' (lit< tt) (omega (arith, in'.0, in'.1)) refl

pub cmp_register : (half : ℕ) → half < 2 ^ 16 → InArm arm.CmpRegister half → decoded half ≡ Op (instr.Alu (CmpRegister (bits 2 0 half) (bits 5 3 half)))
unfolding rows range_of
cmp_register half small in' =
    by_ffc0 0x4280 0x4280 0x42BF half (λ half. instr.Alu (CmpRegister (bits 2 0 half) (bits 5 3 half)))
    small in' (lit< tt) (omega (arith, in'.0, in'.1)) refl

pub orrs : (half : ℕ) → half < 2 ^ 16 → InArm arm.Orrs half → decoded half ≡ Op (instr.Alu (Orrs (bits 2 0 half) (bits 5 3 half)))
unfolding rows range_of
orrs half small in' =
    by_ffc0 0x4300 0x4300 0x433F half (λ half. instr.Alu (Orrs (bits 2 0 half) (bits 5 3 half)))
    small in' (lit< tt) (omega (arith, in'.0, in'.1)) refl

pub muls : (half : ℕ) → half < 2 ^ 16 → InArm arm.Muls half → decoded half ≡ Op (instr.Alu (Muls (bits 2 0 half) (bits 5 3 half)))
unfolding rows range_of
muls half small in' =
    by_ffc0 0x4340 0x4340 0x437F half (λ half. instr.Alu (Muls (bits 2 0 half) (bits 5 3 half)))
    small in' (lit< tt) (omega (arith, in'.0, in'.1)) refl

pub mov_high : (half : ℕ) → half < 2 ^ 16 → InArm arm.MovHigh half → decoded half ≡ Op (instr.Alu (MovHigh (high_register half) (bits 6 3 half)))
unfolding rows range_of
mov_high half small in' =
    by_ff00 0x4600 0x4600 0x46FF half (λ half. instr.Alu (MovHigh (high_register half) (bits 6 3 half)))
    small in' (lit< tt) (omega (arith, in'.0, in'.1)) refl

-- the low three bits of a BX are 0
pub exchange : (half : ℕ) → half < 2 ^ 16 → InArm arm.Exchange half → half % 8 ≡ 0 → decoded half ≡ Op (instr.Branch (Bx (bits 6 3 half)))
unfolding rows range_of
exchange half small in' zeros =
    let is : half / 128 * 128 + half % 8 ≡ 0x4700 = omega (arith, in'.0, in'.1, zeros) in
    one_near 0x4700 0x477F half (row 0x4700 0xFF87 (λ half. instr.Branch (Bx (bits 6 3 half))))
    small in'.0 in'.1 (lit< tt) refl (eq-eqb _ _ (under_ff87 half small ∙ is))

pub ldr_literal : (half : ℕ) → half < 2 ^ 16 → InArm arm.LdrLiteral half → decoded half ≡ Op (instr.Memory (LdrLiteral (bits 10 8 half) (bits 7 0 half)))
unfolding rows range_of
ldr_literal half small in' =
    by_f800 0x4800 0x4800 0x4FFF half (λ half. instr.Memory (LdrLiteral (bits 10 8 half) (bits 7 0 half)))
    small in' (lit< tt) (omega (arith, in'.0, in'.1)) refl

pub str_register : (half : ℕ) → half < 2 ^ 16 → InArm arm.StrRegister half
    → decoded half ≡ Op (instr.Memory (StrRegister (bits 2 0 half) (bits 5 3 half) (bits 8 6 half)))
unfolding rows range_of
str_register half small in' =
    by_fe00 0x5000 0x5000 0x51FF half (λ half. instr.Memory (StrRegister (bits 2 0 half) (bits 5 3 half) (bits 8 6 half)))
    small in' (lit< tt) (omega (arith, in'.0, in'.1)) refl

pub ldr_register : (half : ℕ) → half < 2 ^ 16 → InArm arm.LdrRegister half
    → decoded half ≡ Op (instr.Memory (LdrRegister (bits 2 0 half) (bits 5 3 half) (bits 8 6 half)))
unfolding rows range_of
ldr_register half small in' =
    by_fe00 0x5800 0x5800 0x59FF half (λ half. instr.Memory (LdrRegister (bits 2 0 half) (bits 5 3 half) (bits 8 6 half)))
    small in' (lit< tt) (omega (arith, in'.0, in'.1)) refl

pub str_immediate : (half : ℕ) → half < 2 ^ 16 → InArm arm.StrImmediate half →
    decoded half ≡ Op (instr.Memory (StrImmediate (bits 2 0 half) (bits 5 3 half) (bits 10 6 half)))
unfolding rows range_of
str_immediate half small in' =
    by_f800 0x6000 0x6000 0x67FF half (λ half. instr.Memory (StrImmediate (bits 2 0 half) (bits 5 3 half) (bits 10 6 half)))
    small in' (lit< tt) (omega (arith, in'.0, in'.1)) refl

pub ldr_immediate : (half : ℕ) → half < 2 ^ 16 → InArm arm.LdrImmediate half →
    decoded half ≡ Op (instr.Memory (LdrImmediate (bits 2 0 half) (bits 5 3 half) (bits 10 6 half)))
unfolding rows range_of
ldr_immediate half small in' =
    by_f800 0x6800 0x6800 0x6FFF half (λ half. instr.Memory (LdrImmediate (bits 2 0 half) (bits 5 3 half) (bits 10 6 half)))
    small in' (lit< tt) (omega (arith, in'.0, in'.1)) refl

pub strb_immediate : (half : ℕ) → half < 2 ^ 16 → InArm arm.StrbImmediate half →
    decoded half ≡ Op (instr.Memory (StrbImmediate (bits 2 0 half) (bits 5 3 half) (bits 10 6 half)))
unfolding rows range_of
strb_immediate half small in' =
    by_f800 0x7000 0x7000 0x77FF half (λ half. instr.Memory (StrbImmediate (bits 2 0 half) (bits 5 3 half) (bits 10 6 half)))
    small in' (lit< tt) (omega (arith, in'.0, in'.1)) refl

pub ldrb_immediate : (half : ℕ) → half < 2 ^ 16 → InArm arm.LdrbImmediate half →
    decoded half ≡ Op (instr.Memory (LdrbImmediate (bits 2 0 half) (bits 5 3 half) (bits 10 6 half)))
unfolding rows range_of
ldrb_immediate half small in' =
    by_f800 0x7800 0x7800 0x7FFF half (λ half. instr.Memory (LdrbImmediate (bits 2 0 half) (bits 5 3 half) (bits 10 6 half)))
    small in' (lit< tt) (omega (arith, in'.0, in'.1)) refl

pub strh_immediate : (half : ℕ) → half < 2 ^ 16 → InArm arm.StrhImmediate half →
    decoded half ≡ Op (instr.Memory (StrhImmediate (bits 2 0 half) (bits 5 3 half) (bits 10 6 half)))
unfolding rows range_of
strh_immediate half small in' =
    by_f800 0x8000 0x8000 0x87FF half (λ half. instr.Memory (StrhImmediate (bits 2 0 half) (bits 5 3 half) (bits 10 6 half)))
    small in' (lit< tt) (omega (arith, in'.0, in'.1)) refl

pub ldrh_immediate : (half : ℕ) → half < 2 ^ 16 → InArm arm.LdrhImmediate half →
    decoded half ≡ Op (instr.Memory (LdrhImmediate (bits 2 0 half) (bits 5 3 half) (bits 10 6 half)))
unfolding rows range_of
ldrh_immediate half small in' =
    by_f800 0x8800 0x8800 0x8FFF half (λ half. instr.Memory (LdrhImmediate (bits 2 0 half) (bits 5 3 half) (bits 10 6 half)))
    small in' (lit< tt) (omega (arith, in'.0, in'.1)) refl

pub str_sp : (half : ℕ) → half < 2 ^ 16 → InArm arm.StrSp half → decoded half ≡ Op (instr.Memory (StrSp (bits 10 8 half) (bits 7 0 half)))
unfolding rows range_of
str_sp half small in' =
    by_f800 0x9000 0x9000 0x97FF half (λ half. instr.Memory (StrSp (bits 10 8 half) (bits 7 0 half)))
    small in' (lit< tt) (omega (arith, in'.0, in'.1)) refl

pub ldr_sp : (half : ℕ) → half < 2 ^ 16 → InArm arm.LdrSp half → decoded half ≡ Op (instr.Memory (LdrSp (bits 10 8 half) (bits 7 0 half)))
unfolding rows range_of
ldr_sp half small in' =
    by_f800 0x9800 0x9800 0x9FFF half (λ half. instr.Memory (LdrSp (bits 10 8 half) (bits 7 0 half)))
    small in' (lit< tt) (omega (arith, in'.0, in'.1)) refl

pub add_from_sp : (half : ℕ) → half < 2 ^ 16 → InArm arm.AddFromSp half → decoded half ≡ Op (instr.Other (AddFromSp (bits 10 8 half) (bits 7 0 half)))
unfolding rows range_of
add_from_sp half small in' =
    by_f800 0xA800 0xA800 0xAFFF half (λ half. instr.Other (AddFromSp (bits 10 8 half) (bits 7 0 half)))
    small in' (lit< tt) (omega (arith, in'.0, in'.1)) refl

pub push : (half : ℕ) → half < 2 ^ 16 → InArm arm.Push half → decoded half ≡ Op (instr.Many (Push (is_bit_set half 8) (bits 7 0 half)))
unfolding rows range_of
push half small in' =
    by_fe00 0xB400 0xB400 0xB5FF half (λ half. instr.Many (Push (is_bit_set half 8) (bits 7 0 half)))
    small in' (lit< tt) (omega (arith, in'.0, in'.1)) refl

pub reverse : (half : ℕ) → half < 2 ^ 16 → InArm arm.Reverse half → decoded half ≡ Op (instr.Other (Rev (bits 2 0 half) (bits 5 3 half)))
unfolding rows range_of
reverse half small in' =
    by_ffc0 0xBA00 0xBA00 0xBA3F half (λ half. instr.Other (Rev (bits 2 0 half) (bits 5 3 half)))
    small in' (lit< tt) (omega (arith, in'.0, in'.1)) refl

pub pop : (half : ℕ) → half < 2 ^ 16 → InArm arm.Pop half → decoded half ≡ Op (instr.Many (Pop (is_bit_set half 8) (bits 7 0 half)))
unfolding rows range_of
pop half small in' =
    by_fe00 0xBC00 0xBC00 0xBDFF half (λ half. instr.Many (Pop (is_bit_set half 8) (bits 7 0 half)))
    small in' (lit< tt) (omega (arith, in'.0, in'.1)) refl

abbrev branch_form : ℕ → Instr
branch_form half = instr.Branch (Bcc (condition_of (bits 11 8 half)) (bits 7 0 half))

on_condition : (c : Condition) (half : ℕ) → bits 11 8 half ≡ condition_code c → Op (branch_form half) ≡ Op (instr.Branch (Bcc c (bits 7 0 half)))
on_condition c half is = ap (λ (x : Condition). Op (instr.Branch (Bcc x (bits 7 0 half)))) (with_its_code c (bits 11 8 half) is)

pub branch_equal : (half : ℕ) → half < 2 ^ 16 → InArm arm.BranchEqual half → decoded half ≡ Op (instr.Branch (Bcc Equal (bits 7 0 half)))
unfolding rows range_of
branch_equal half small in' =
    by_f800 0xD000 0xD000 0xD0FF half branch_form small in' (lit< tt) (omega (arith, in'.0, in'.1)) refl ∙ on_condition Equal half (omega (arith, in'.0, in'.1))

pub branch_not_equal : (half : ℕ) → half < 2 ^ 16 → InArm arm.BranchNotEqual half → decoded half ≡ Op (instr.Branch (Bcc NotEqual (bits 7 0 half)))
unfolding rows range_of
branch_not_equal half small in' =
    by_f800 0xD000 0xD100 0xD1FF half branch_form small in' (lit< tt) (omega (arith, in'.0, in'.1)) refl ∙
    on_condition NotEqual half (omega (arith, in'.0, in'.1))

pub branch_carry_set : (half : ℕ) → half < 2 ^ 16 → InArm arm.BranchCarrySet half → decoded half ≡ Op (instr.Branch (Bcc CarrySet (bits 7 0 half)))
unfolding rows range_of
branch_carry_set half small in' =
    by_f800 0xD000 0xD200 0xD2FF half branch_form small in' (lit< tt) (omega (arith, in'.0, in'.1)) refl ∙
    on_condition CarrySet half (omega (arith, in'.0, in'.1))

pub branch_carry_clear : (half : ℕ) → half < 2 ^ 16 → InArm arm.BranchCarryClear half → decoded half ≡ Op (instr.Branch (Bcc CarryClear (bits 7 0 half)))
unfolding rows range_of
branch_carry_clear half small in' =
    by_f800 0xD000 0xD300 0xD3FF half branch_form small in' (lit< tt) (omega (arith, in'.0, in'.1)) refl ∙
    on_condition CarryClear half (omega (arith, in'.0, in'.1))

pub branch_higher : (half : ℕ) → half < 2 ^ 16 → InArm arm.BranchHigher half → decoded half ≡ Op (instr.Branch (Bcc Higher (bits 7 0 half)))
unfolding rows range_of
branch_higher half small in' =
    by_fc00 0xD800 0xD800 0xD8FF half branch_form small in' (lit< tt) (omega (arith, in'.0, in'.1)) refl ∙
    on_condition Higher half (omega (arith, in'.0, in'.1))

pub branch : (half : ℕ) → half < 2 ^ 16 → InArm arm.Branch half → decoded half ≡ Op (instr.Branch (B (bits 10 0 half)))
unfolding rows range_of
branch half small in' =
    by_f800 0xE000 0xE000 0xE7FF half (λ half. instr.Branch (B (bits 10 0 half)))
    small in' (lit< tt) (omega (arith, in'.0, in'.1)) refl

pub call : (half : ℕ) → InArm arm.Call half → decoded half ≡ NeedsSecond
unfolding range_of
call half in' = begins_pair half (omega (arith, in'.0))
