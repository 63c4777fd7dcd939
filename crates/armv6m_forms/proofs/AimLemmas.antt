-- The instruction that reaches a target.
use Rattle.std.proofs.Common.{refl, ap, ◌∙◌, sym, arith, inl, subst}
use Rattle.std.proofs.lemmas.Bool.Decides.{nat_tests}
use Rattle.std.specs.Prelude.{◌≡◌, ℕ, ◌+◌, ◌*◌, ◌/◌, ◌%◌, ◌^◌, ◌<◌, Bool, true, false, IsTrue, if◌then◌else◌, Option, Some, None}
use Rattle.armv6m_decode.specs.declared.instr.Instr.{Instr}
use Rattle.armv6m_decode.specs.declared.instr.Instr.TheVariants as instr
use Rattle.armv6m_decode.specs.declared.instr.Memory.TheVariants.{LdrLiteral}
use Rattle.armv6m_decode.specs.declared.instr.Branch.TheVariants.{Bcc, B, Bl}
use Rattle.armv6m_decode.specs.declared.instr.Other.TheVariants.{Adr}
use Rattle.armv6m_encode.specs.Encoding.{fields_fit}
use Rattle.armv6m_forms.specs.declared.form.Aim.{Aim}
use Rattle.armv6m_forms.specs.declared.form.Aim.TheVariants.{Branch, BranchIf, BranchLink, Load, Address}
use Rattle.armv6m_forms.specs.declared.form.Form.{Form}
use Rattle.armv6m_forms.specs.declared.form.Form.TheVariants.{Aimed}
use Rattle.armv6m_decode.specs.Targets.{pc_read, literal_target, signed_offset, branch_target}
use Rattle.armv6m_decode.specs.declared.condition.Condition.{Condition}
use Rattle.armv6m_forms.specs.Form.{form_of, StandsFor}
use Rattle.armv6m_forms.specs.Row.{IsReadAt, counted, halved}
use Rattle.armv6m_forms.proofs.RowLemmas.{with_field, distance, row_of}
use Rattle.armv6m_forms.proofs.ReadLemmas.{no_row, not_fit}

fits_or_not : (b : Bool) (i : Instr) (at : ℕ) (form : Form) → fields_fit i ≡ b → Some i ≡ row_of form at
    → (IsTrue (fields_fit i) → StandsFor i at form) → IsReadAt at form (if b then Some i else None)
fits_or_not true i at form is row h = h is
fits_or_not false i at form is row h = not_fit form i at row is

reading : (i : Instr) (at : ℕ) (form : Form) (result : Option Instr) → Some i ≡ row_of form at → result ≡ (if fields_fit i then Some i else None)
    → (IsTrue (fields_fit i) → StandsFor i at form) → IsReadAt at form result
reading i at form result row is h = subst (λ (r : Option Instr). IsReadAt at form r) (sym is) (fits_or_not (fields_fit i) i at form refl row h)

no_reading : (at : ℕ) (form : Form) (result : Option Instr) → None ≡ row_of form at → result ≡ None → IsReadAt at form result
no_reading at form result row is = subst (λ (r : Option Instr). IsReadAt at form r) (sym is) (no_row form at row)

back : (from target d : ℕ) → from < 2 ^ 32 → target < 2 ^ 32 → d ≡ distance from target → (from + d) % 2 ^ 32 ≡ target
back from target d h k is = omega arith

whole_4 : (d a : ℕ) → Some a ≡ counted 4 d → 4 * a ≡ d
whole_4 d a h = grind (arith, nat_tests)

short_offset : (d a : ℕ) → d < 2 ^ 32 → Some a ≡ halved 256 d → signed_offset 8 (a % 2 ^ 8) ≡ d
short_offset d a within h = grind (arith, nat_tests)

short_target : (at target d a : ℕ) → target < 2 ^ 32 → d ≡ distance (pc_read at) target → Some a ≡ halved 256 d → branch_target 8 at a ≡ target
short_target at target d a within is h =
    ap (λ (x : ℕ). (pc_read at + x) % 2 ^ 32) (short_offset d a (omega arith) h) ∙ back (pc_read at) target d (omega arith) within is

near_offset : (d a : ℕ) → d < 2 ^ 32 → Some a ≡ halved 2048 d → signed_offset 11 (a % 2 ^ 11) ≡ d
near_offset d a within h = grind (arith, nat_tests)

near_target : (at target d a : ℕ) → target < 2 ^ 32 → d ≡ distance (pc_read at) target → Some a ≡ halved 2048 d → branch_target 11 at a ≡ target
near_target at target d a within is h =
    ap (λ (x : ℕ). (pc_read at + x) % 2 ^ 32) (near_offset d a (omega arith) h) ∙ back (pc_read at) target d (omega arith) within is

far_offset : (d a : ℕ) → d < 2 ^ 32 → Some a ≡ halved 16777216 d → signed_offset 24 (a % 2 ^ 24) ≡ d
far_offset d a within h = grind (arith, nat_tests)

far_target : (at target d a : ℕ) → target < 2 ^ 32 → d ≡ distance (pc_read at) target → Some a ≡ halved 16777216 d → branch_target 24 at a ≡ target
far_target at target d a within is h =
    ap (λ (x : ℕ). (pc_read at + x) % 2 ^ 32) (far_offset d a (omega arith) h) ∙ back (pc_read at) target d (omega arith) within is

word_target : (at target d a : ℕ) → target < 2 ^ 32 → d ≡ distance (pc_read at / 4 * 4) target → Some a ≡ counted 4 d → literal_target at a ≡ target
word_target at target d a within is h =
    ap (λ (x : ℕ). (pc_read at / 4 * 4 + x) % 2 ^ 32) (whole_4 d a h) ∙ back (pc_read at / 4 * 4) target d (omega arith) within is

pub read_near : (at target by a : ℕ) (result : Option Instr) → target < 2 ^ 32 → by ≡ distance (pc_read at) target → Some a ≡ halved 2048 by
    → result ≡ (if fields_fit (instr.Branch (B a)) then Some (instr.Branch (B a)) else None) → IsReadAt at (Aimed Branch target) result
unfolding form_of
read_near at target by a result within is h fits =
    let there : branch_target 11 at a ≡ target = near_target at target by a within is h in
    reading (instr.Branch (B a)) at (Aimed Branch target) result
    (ap (with_field (λ i. Some (instr.Branch (B i)))) (h ∙ ap (λ (x : ℕ). halved 2048 x) is)) fits
    (λ fields. record { fields = fields; made = refl; written = inl (ap (λ (x : ℕ). Aimed Branch x) there) })

pub unread_near : (at target by : ℕ) (result : Option Instr) → by ≡ distance (pc_read at) target → None ≡ halved 2048 by → result ≡ None
    → IsReadAt at (Aimed Branch target) result
unread_near at target by result is h none =
    no_reading at (Aimed Branch target) result (ap (with_field (λ i. Some (instr.Branch (B i)))) (h ∙ ap (λ (x : ℕ). halved 2048 x) is)) none

pub read_short : (condition : Condition) (at target by a : ℕ) (result : Option Instr) → target < 2 ^ 32 → by ≡ distance (pc_read at) target →
    Some a ≡ halved 256 by
    → result ≡ (if fields_fit (instr.Branch (Bcc condition a)) then Some (instr.Branch (Bcc condition a)) else None) →
    IsReadAt at (Aimed (BranchIf condition) target) result
unfolding form_of
read_short condition at target by a result within is h fits =
    let there : branch_target 8 at a ≡ target = short_target at target by a within is h in
    reading (instr.Branch (Bcc condition a)) at (Aimed (BranchIf condition) target) result
    (ap (with_field (λ i. Some (instr.Branch (Bcc condition i)))) (h ∙ ap (λ (x : ℕ). halved 256 x) is)) fits
    (λ fields. record { fields = fields; made = refl; written = inl (ap (λ (x : ℕ). Aimed (BranchIf condition) x) there) })

pub unread_short : (condition : Condition) (at target by : ℕ) (result : Option Instr) → by ≡ distance (pc_read at) target → None ≡ halved 256 by → result ≡ None
    → IsReadAt at (Aimed (BranchIf condition) target) result
unread_short condition at target by result is h none =
    no_reading at (Aimed (BranchIf condition) target) result
    (ap (with_field (λ i. Some (instr.Branch (Bcc condition i)))) (h ∙ ap (λ (x : ℕ). halved 256 x) is)) none

pub read_far : (at target by a : ℕ) (result : Option Instr) → target < 2 ^ 32 → by ≡ distance (pc_read at) target → Some a ≡ halved 16777216 by
    → result ≡ (if fields_fit (instr.Branch (Bl a)) then Some (instr.Branch (Bl a)) else None) → IsReadAt at (Aimed BranchLink target) result
unfolding form_of
read_far at target by a result within is h fits =
    let there : branch_target 24 at a ≡ target = far_target at target by a within is h in
    reading (instr.Branch (Bl a)) at (Aimed BranchLink target) result
    (ap (with_field (λ i. Some (instr.Branch (Bl i)))) (h ∙ ap (λ (x : ℕ). halved 16777216 x) is)) fits
    (λ fields. record { fields = fields; made = refl; written = inl (ap (λ (x : ℕ). Aimed BranchLink x) there) })

pub unread_far : (at target by : ℕ) (result : Option Instr) → by ≡ distance (pc_read at) target → None ≡ halved 16777216 by → result ≡ None
    → IsReadAt at (Aimed BranchLink target) result
unread_far at target by result is h none =
    no_reading at (Aimed BranchLink target) result (ap (with_field (λ i. Some (instr.Branch (Bl i)))) (h ∙ ap (λ (x : ℕ). halved 16777216 x) is)) none

pub read_load : (t at target by a : ℕ) (result : Option Instr) → target < 2 ^ 32 → by ≡ distance (pc_read at / 4 * 4) target → Some a ≡ counted 4 by
    → result ≡ (if fields_fit (instr.Memory (LdrLiteral t a)) then Some (instr.Memory (LdrLiteral t a)) else None) → IsReadAt at (Aimed (Load t) target) result
unfolding form_of
read_load t at target by a result within is h fits =
    let there : literal_target at a ≡ target = word_target at target by a within is h in
    reading (instr.Memory (LdrLiteral t a)) at (Aimed (Load t) target) result
    (ap (with_field (λ i. Some (instr.Memory (LdrLiteral t i)))) (h ∙ ap (λ (x : ℕ). counted 4 x) is)) fits
    (λ fields. record { fields = fields; made = refl; written = inl (ap (λ (x : ℕ). Aimed (Load t) x) there) })

pub unread_load : (t at target by : ℕ) (result : Option Instr) → by ≡ distance (pc_read at / 4 * 4) target → None ≡ counted 4 by → result ≡ None
    → IsReadAt at (Aimed (Load t) target) result
unread_load t at target by result is h none =
    no_reading at (Aimed (Load t) target) result (ap (with_field (λ i. Some (instr.Memory (LdrLiteral t i)))) (h ∙ ap (λ (x : ℕ). counted 4 x) is)) none

pub read_address : (d at target by a : ℕ) (result : Option Instr) → target < 2 ^ 32 → by ≡ distance (pc_read at / 4 * 4) target → Some a ≡ counted 4 by
    → result ≡ (if fields_fit (instr.Other (Adr d a)) then Some (instr.Other (Adr d a)) else None) → IsReadAt at (Aimed (Address d) target) result
unfolding form_of
read_address d at target by a result within is h fits =
    let there : literal_target at a ≡ target = word_target at target by a within is h in
    reading (instr.Other (Adr d a)) at (Aimed (Address d) target) result
    (ap (with_field (λ i. Some (instr.Other (Adr d i)))) (h ∙ ap (λ (x : ℕ). counted 4 x) is)) fits
    (λ fields. record { fields = fields; made = refl; written = inl (ap (λ (x : ℕ). Aimed (Address d) x) there) })

pub unread_address : (d at target by : ℕ) (result : Option Instr) → by ≡ distance (pc_read at / 4 * 4) target → None ≡ counted 4 by → result ≡ None
    → IsReadAt at (Aimed (Address d) target) result
unread_address d at target by result is h none =
    no_reading at (Aimed (Address d) target) result (ap (with_field (λ i. Some (instr.Other (Adr d i)))) (h ∙ ap (λ (x : ℕ). counted 4 x) is)) none

pub as_aimed : (at target : ℕ) (aim other : Aim) (result : Option Instr) → aim ≡ other → IsReadAt at (Aimed other target) result →
    IsReadAt at (Aimed aim target) result
as_aimed at target aim other result is h = subst (λ (a : Aim). IsReadAt at (Aimed a target) result) (sym is) h
