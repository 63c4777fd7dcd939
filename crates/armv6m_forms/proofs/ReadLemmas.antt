-- Each row stands for the form that names it, if its fields fit.
use Rattle.std.proofs.Common.{refl, ap, ◌∙◌, sym, arith, inl, inr, subst}
use Rattle.std.proofs.lemmas.Bool.Decides.{nat_tests}
use Rattle.std.specs.Prelude.{◌≡◌, ◌⊎◌, ℕ, ◌+◌, ◌*◌, ◌/◌, ◌%◌, ◌^◌, ◌&&◌, Bool, true, false, not, IsTrue, nat_eq, nat_lt, if◌then◌else◌, Option, Some, None}
use Rattle.std.specs.Prelude.{IfSome}
use Rattle.armv6m_decode.specs.declared.instr.Instr.{Instr}
use Rattle.armv6m_decode.specs.declared.instr.Instr.TheVariants as instr
use Rattle.armv6m_decode.specs.declared.instr.Alu.TheVariants.{LslsImmediate, CmpRegister, CmpHigh}
use Rattle.armv6m_encode.specs.Encoding.{fields_fit}
use Rattle.armv6m_decode.specs.declared.registers.TheConstants.{SP, LR, PC}
use Rattle.armv6m_forms.specs.declared.mnemonic.Mnemonic.{Mnemonic}
use Rattle.armv6m_forms.specs.declared.mnemonic.Mnemonic.TheVariants as mnemonic
use Rattle.armv6m_forms.specs.declared.form.Operands.{Operands}
use Rattle.armv6m_forms.specs.declared.form.Operands.TheVariants as operands
use Rattle.armv6m_forms.specs.declared.form.Form.{Form}
use Rattle.armv6m_forms.specs.declared.form.Form.TheVariants.{Plain}
use Rattle.armv6m_forms.specs.Form.{form_of, right_shift, IsReadToo, StandsFor, HasNoInstruction}
use Rattle.armv6m_forms.specs.Row.{IsReadAs, scale_of, counted}
use Rattle.armv6m_forms.proofs.RowLemmas.{with_field, row_of, row_is, some_is, row_none, row_one, row_two, row_three, row_immediate, row_one_immediate}
use Rattle.armv6m_forms.proofs.RowLemmas.{row_two_immediate, row_by_register, row_by_offset, row_list, row_base_list, row_updated_list, row_interrupts}
use Rattle.armv6m_forms.proofs.RowLemmas.{row_from_special, row_to_special}

-- ---- a row that is read as its form

-- an instruction stands for a form at every address, if its fields fit
abbrev Stands : Instr → Form → Type 0
Stands i form = IsTrue (fields_fit i) → (at : ℕ) → StandsFor i at form

unfit : (a b : Instr) → a ≡ b → fields_fit a ≡ false → IsTrue (fields_fit b) → ⊥
unfit a b e f t = let same : fields_fit a ≡ fields_fit b = ap (λ x. fields_fit x) e in absurd (cc)

pub no_row : (form : Form) (at : ℕ) → None ≡ row_of form at → HasNoInstruction at form
no_row form at none i s = let e = row_is i at form s in absurd (cc)

-- if the fields of a form's row don't fit, no instruction stands for the form
pub not_fit : (form : Form) (i : Instr) (at : ℕ) → Some i ≡ row_of form at → fields_fit i ≡ false → HasNoInstruction at form
not_fit form i at row is j s = unfit i j (some_is i j (row ∙ row_is j at form s)) is s.fields

fits_or_not : (b : Bool) (i : Instr) (form : Form) → fields_fit i ≡ b → ((at : ℕ) → Some i ≡ row_of form at)
    → Stands i form → IsReadAs form (if b then Some i else None)
fits_or_not true i form is row h = h is
fits_or_not false i form is row h = λ at. not_fit form i at (row at) is

reading : (form : Form) (i : Instr) (result : Option Instr) → ((at : ℕ) → Some i ≡ row_of form at) → result ≡ (if fields_fit i then Some i else None)
    → Stands i form → IsReadAs form result
reading form i result row is h = subst (λ (r : Option Instr). IsReadAs form r) (sym is) (fits_or_not (fields_fit i) i form refl row h)

pub unread : (form : Form) (result : Option Instr) → ((at : ℕ) → None ≡ row_of form at) → result ≡ None → IsReadAs form result
unread form result row is = subst (λ (r : Option Instr). IsReadAs form r) (sym is) (λ at. no_row form at (row at))

-- ---- what tests of numbers say

is_zero : (a : ℕ) → nat_eq a 0 ≡ true → a ≡ 0
is_zero a h = grind (arith, nat_tests)

is_sp : (a : ℕ) → nat_eq a SP ≡ true → a ≡ SP
is_sp a h = grind (arith, nat_tests)

low_list : (list : ℕ) → nat_eq (list / 256) 0 ≡ true → list % 256 ≡ list
low_list list h = grind (arith, nat_tests)

with_lr_bit : (list : ℕ) → nat_eq (list / 256) 64 ≡ true → list % 256 + 2 ^ LR ≡ list
with_lr_bit list h = grind (arith, nat_tests)

with_pc_bit : (list : ℕ) → nat_eq (list / 256) 128 ≡ true → list % 256 + 2 ^ PC ≡ list
with_pc_bit list h = grind (arith, nat_tests)

not_true : (b : Bool) → b ≡ false → IsTrue (not b)
not_true b h = ap not h

shift_is : (field : ℕ) → nat_eq field 0 ≡ false → right_shift (if nat_eq field 32 then 0 else field) ≡ field
shift_is field h = grind (arith, nat_tests)

whole_1 : (n : ℕ) → (nat_eq (n % 1) 0 && nat_lt (n / 1) 256) ≡ true → n ≡ 1 * (n / 1)
whole_1 n h = omega arith

whole_2 : (n : ℕ) → (nat_eq (n % 2) 0 && nat_lt (n / 2) 256) ≡ true → n ≡ 2 * (n / 2)
whole_2 n h = grind (arith, nat_tests)

whole_4 : (n : ℕ) → (nat_eq (n % 4) 0 && nat_lt (n / 4) 256) ≡ true → n ≡ 4 * (n / 4)
whole_4 n h = grind (arith, nat_tests)

if_true : (b : Bool) (row : Option Instr) (P : Instr → Type 0) → (b ≡ true → IfSome row P) → IfSome (if b then row else None) P
if_true true row P h = h refl
if_true false row P h = tt

if_false : (b : Bool) (row : Option Instr) (P : Instr → Type 0) → (b ≡ false → IfSome row P) → IfSome (if b then None else row) P
if_false true row P h = tt
if_false false row P h = h refl

if_either : (b : Bool) (x y : Option Instr) (P : Instr → Type 0) → (b ≡ true → IfSome x P) → (b ≡ false → IfSome y P) → IfSome (if b then x else y) P
if_either true x y P h k = h refl
if_either false x y P h k = k refl

one_of : (b : Bool) (x y : Instr) (P : Instr → Type 0) → (b ≡ true → P x) → (b ≡ false → P y) → P (if b then x else y)
one_of true x y P h k = h refl
one_of false x y P h k = k refl

tested : (b : Bool) (a : ℕ) (f : ℕ → Option Instr) (P : Instr → Type 0) → (b ≡ true → IfSome (f a) P) → IfSome (with_field f (if b then Some a else None)) P
tested true a f P h = h refl
tested false a f P h = tt

of_units : (unit n : ℕ) (f : ℕ → Option Instr) (P : Instr → Type 0) → ((nat_eq (n % unit) 0 && nat_lt (n / unit) 256) ≡ true → n ≡ unit * (n / unit))
    → ((a : ℕ) → n ≡ unit * a → IfSome (f a) P) → IfSome (with_field f (counted unit n)) P
of_units unit n f P whole h = tested (nat_eq (n % unit) 0 && nat_lt (n / unit) 256) (n / unit) f P (λ is. h (n / unit) (whole is))

whole_of : (mnemonic : Mnemonic) (n : ℕ) → (nat_eq (n % scale_of mnemonic) 0 && nat_lt (n / scale_of mnemonic) 256) ≡ true →
    n ≡ scale_of mnemonic * (n / scale_of mnemonic)
whole_of mnemonic.Add n h = whole_4 n h
whole_of mnemonic.Sub n h = whole_4 n h
whole_of mnemonic.Str n h = whole_4 n h
whole_of mnemonic.Ldr n h = whole_4 n h
whole_of mnemonic.Strh n h = whole_2 n h
whole_of mnemonic.Ldrh n h = whole_2 n h
whole_of _ n h = whole_1 n h

whole_field : {n field : ℕ} → n ≡ 1 * field → n ≡ field
whole_field e = omega arith

lsls_by : (b : Bool) (d m a n : ℕ) → nat_eq a 0 ≡ b → n ≡ a
    → ((if b then Plain mnemonic.Movs (operands.Two d m) else Plain mnemonic.Lsls (operands.TwoImmediate d m a)) ≡ Plain mnemonic.Lsls
    (operands.TwoImmediate d m n))
    ⊎ IsReadToo (instr.Alu (LslsImmediate d m a)) (Plain mnemonic.Lsls (operands.TwoImmediate d m n))
lsls_by true d m a n is e = let none : a ≡ 0 = is_zero a is in inr (none, cc)
lsls_by false d m a n is e = inl (cc)

lsls_written : (d m a n at : ℕ) → n ≡ a → (form_of (instr.Alu (LslsImmediate d m a)) at ≡ Plain mnemonic.Lsls (operands.TwoImmediate d m n))
    ⊎ IsReadToo (instr.Alu (LslsImmediate d m a)) (Plain mnemonic.Lsls (operands.TwoImmediate d m n))
unfolding form_of
lsls_written d m a n at e = lsls_by (nat_eq a 0) d m a n refl e

-- ---- rows by the shape of their operands

stands_none : (mnemonic : Mnemonic) → IfSome (row_none mnemonic) (λ i. Stands i (Plain mnemonic operands.None))
unfolding form_of
stands_none mnemonic.Nop = λ fields at. record { fields = fields; made = refl; written = inl refl }
stands_none mnemonic.Yield = λ fields at. record { fields = fields; made = refl; written = inl refl }
stands_none mnemonic.Wfe = λ fields at. record { fields = fields; made = refl; written = inl refl }
stands_none mnemonic.Wfi = λ fields at. record { fields = fields; made = refl; written = inl refl }
stands_none mnemonic.Sev = λ fields at. record { fields = fields; made = refl; written = inl refl }
stands_none mnemonic.Dsb = λ fields at. record { fields = fields; made = refl; written = inl refl }
stands_none mnemonic.Dmb = λ fields at. record { fields = fields; made = refl; written = inl refl }
stands_none mnemonic.Isb = λ fields at. record { fields = fields; made = refl; written = inl refl }
stands_none mnemonic.Udf = λ fields at. record { fields = fields; made = refl; written = inl refl }
stands_none mnemonic.Svc = λ fields at. record { fields = fields; made = refl; written = inl refl }
stands_none _ = tt

pub read_none : (mnemonic : Mnemonic) (i : Instr) (result : Option Instr) → Some i ≡ row_none mnemonic → result ≡ (if fields_fit i then Some i else None) →
    IsReadAs (Plain mnemonic operands.None) result
read_none mnemonic i result row is = reading (Plain mnemonic operands.None) i result (λ at. row) is
    (subst (λ (r : Option Instr). IfSome r (λ i. Stands i (Plain mnemonic operands.None))) (sym row) (stands_none mnemonic))

pub unread_none : (mnemonic : Mnemonic) (result : Option Instr) → None ≡ row_none mnemonic → result ≡ None → IsReadAs (Plain mnemonic operands.None) result
unread_none mnemonic result row is = unread (Plain mnemonic operands.None) result (λ at. row) is

stands_one : (mnemonic : Mnemonic) (m : ℕ) → IfSome (row_one mnemonic m) (λ i. Stands i (Plain mnemonic (operands.One m)))
unfolding form_of
stands_one mnemonic.Bx m = λ fields at. record { fields = fields; made = refl; written = inl refl }
stands_one mnemonic.Blx m = λ fields at. record { fields = fields; made = refl; written = inl refl }
stands_one _ m = tt

pub read_one : (mnemonic : Mnemonic) (m : ℕ) (i : Instr) (result : Option Instr) → Some i ≡ row_one mnemonic m →
    result ≡ (if fields_fit i then Some i else None) → IsReadAs (Plain mnemonic (operands.One m)) result
read_one mnemonic m i result row is = reading (Plain mnemonic (operands.One m)) i result (λ at. row) is
    (subst (λ (r : Option Instr). IfSome r (λ i. Stands i (Plain mnemonic (operands.One m)))) (sym row) (stands_one mnemonic m))

pub unread_one : (mnemonic : Mnemonic) (m : ℕ) (result : Option Instr) → None ≡ row_one mnemonic m → result ≡ None →
    IsReadAs (Plain mnemonic (operands.One m)) result
unread_one mnemonic m result row is = unread (Plain mnemonic (operands.One m)) result (λ at. row) is

stands_two : (mnemonic : Mnemonic) (d m : ℕ) → IfSome (row_two mnemonic d m) (λ i. Stands i (Plain mnemonic (operands.Two d m)))
unfolding form_of
stands_two mnemonic.Movs d m = λ fields at. record { fields = fields; made = refl; written = inl refl }
stands_two mnemonic.Lsls d m = λ fields at. record { fields = fields; made = refl; written = inl refl }
stands_two mnemonic.Lsrs d m = λ fields at. record { fields = fields; made = refl; written = inl refl }
stands_two mnemonic.Asrs d m = λ fields at. record { fields = fields; made = refl; written = inl refl }
stands_two mnemonic.Ands d m = λ fields at. record { fields = fields; made = refl; written = inl refl }
stands_two mnemonic.Eors d m = λ fields at. record { fields = fields; made = refl; written = inl refl }
stands_two mnemonic.Adcs d m = λ fields at. record { fields = fields; made = refl; written = inl refl }
stands_two mnemonic.Sbcs d m = λ fields at. record { fields = fields; made = refl; written = inl refl }
stands_two mnemonic.Rors d m = λ fields at. record { fields = fields; made = refl; written = inl refl }
stands_two mnemonic.Tst d m = λ fields at. record { fields = fields; made = refl; written = inl refl }
stands_two mnemonic.Cmn d m = λ fields at. record { fields = fields; made = refl; written = inl refl }
stands_two mnemonic.Orrs d m = λ fields at. record { fields = fields; made = refl; written = inl refl }
stands_two mnemonic.Muls d m = λ fields at. record { fields = fields; made = refl; written = inl refl }
stands_two mnemonic.Bics d m = λ fields at. record { fields = fields; made = refl; written = inl refl }
stands_two mnemonic.Mvns d m = λ fields at. record { fields = fields; made = refl; written = inl refl }
stands_two mnemonic.Add d m = λ fields at. record { fields = fields; made = refl; written = inl refl }
stands_two mnemonic.Mov d m = λ fields at. record { fields = fields; made = refl; written = inl refl }
stands_two mnemonic.Sxth d m = λ fields at. record { fields = fields; made = refl; written = inl refl }
stands_two mnemonic.Sxtb d m = λ fields at. record { fields = fields; made = refl; written = inl refl }
stands_two mnemonic.Uxth d m = λ fields at. record { fields = fields; made = refl; written = inl refl }
stands_two mnemonic.Uxtb d m = λ fields at. record { fields = fields; made = refl; written = inl refl }
stands_two mnemonic.Rev d m = λ fields at. record { fields = fields; made = refl; written = inl refl }
stands_two mnemonic.Rev16 d m = λ fields at. record { fields = fields; made = refl; written = inl refl }
stands_two mnemonic.Revsh d m = λ fields at. record { fields = fields; made = refl; written = inl refl }
stands_two mnemonic.Cmp d m = one_of (nat_lt d 8 && nat_lt m 8) (instr.Alu (CmpRegister d m)) (instr.Alu (CmpHigh d m))
    (λ i. Stands i (Plain mnemonic.Cmp (operands.Two d m))) (λ is fields at. record { fields = fields; made = refl; written = inl refl })
    (λ is fields at. record { fields = fields; made = not_true _ is; written = inl refl })
stands_two _ d m = tt

pub read_two : (mnemonic : Mnemonic) (d m : ℕ) (i : Instr) (result : Option Instr) → Some i ≡ row_two mnemonic d m →
    result ≡ (if fields_fit i then Some i else None) → IsReadAs (Plain mnemonic (operands.Two d m)) result
read_two mnemonic d m i result row is = reading (Plain mnemonic (operands.Two d m)) i result (λ at. row) is
    (subst (λ (r : Option Instr). IfSome r (λ i. Stands i (Plain mnemonic (operands.Two d m)))) (sym row) (stands_two mnemonic d m))

pub unread_two : (mnemonic : Mnemonic) (d m : ℕ) (result : Option Instr) → None ≡ row_two mnemonic d m → result ≡ None →
    IsReadAs (Plain mnemonic (operands.Two d m)) result
unread_two mnemonic d m result row is = unread (Plain mnemonic (operands.Two d m)) result (λ at. row) is

stands_three : (mnemonic : Mnemonic) (d n m : ℕ) → IfSome (row_three mnemonic d n m) (λ i. Stands i (Plain mnemonic (operands.Three d n m)))
unfolding form_of
stands_three mnemonic.Adds d n m = λ fields at. record { fields = fields; made = refl; written = inl refl }
stands_three mnemonic.Subs d n m = λ fields at. record { fields = fields; made = refl; written = inl refl }
stands_three _ d n m = tt

pub read_three : (mnemonic : Mnemonic) (d n m : ℕ) (i : Instr) (result : Option Instr) → Some i ≡ row_three mnemonic d n m →
    result ≡ (if fields_fit i then Some i else None) → IsReadAs (Plain mnemonic (operands.Three d n m)) result
read_three mnemonic d n m i result row is = reading (Plain mnemonic (operands.Three d n m)) i result (λ at. row) is
    (subst (λ (r : Option Instr). IfSome r (λ i. Stands i (Plain mnemonic (operands.Three d n m)))) (sym row) (stands_three mnemonic d n m))

pub unread_three : (mnemonic : Mnemonic) (d n m : ℕ) (result : Option Instr) → None ≡ row_three mnemonic d n m → result ≡ None →
    IsReadAs (Plain mnemonic (operands.Three d n m)) result
unread_three mnemonic d n m result row is = unread (Plain mnemonic (operands.Three d n m)) result (λ at. row) is

stands_immediate : (mnemonic : Mnemonic) (immediate field : ℕ) → immediate ≡ scale_of mnemonic * field →
    IfSome (row_immediate mnemonic field) (λ i. Stands i (Plain mnemonic (operands.Immediate immediate)))
unfolding form_of
stands_immediate mnemonic.Bkpt immediate field e = λ fields at. let same : immediate ≡ field = whole_field e in
    record { fields = fields; made = refl; written = inl (cc) }
stands_immediate _ immediate field e = tt

pub read_immediate : (mnemonic : Mnemonic) (immediate : ℕ) (i : Instr) (result : Option Instr) →
    Some i ≡ with_field (row_immediate mnemonic) (counted (scale_of mnemonic) immediate) → result ≡ (if fields_fit i then Some i else None) →
    IsReadAs (Plain mnemonic (operands.Immediate immediate)) result
read_immediate mnemonic immediate i result row is = reading (Plain mnemonic (operands.Immediate immediate)) i result (λ at. row) is
    (subst (λ (r : Option Instr). IfSome r (λ i. Stands i (Plain mnemonic (operands.Immediate immediate)))) (sym row)
    (of_units (scale_of mnemonic) immediate (row_immediate mnemonic) (λ i. Stands i (Plain mnemonic (operands.Immediate immediate)))
    (whole_of mnemonic immediate) (stands_immediate mnemonic immediate)))

pub unread_immediate : (mnemonic : Mnemonic) (immediate : ℕ) (result : Option Instr) →
    None ≡ with_field (row_immediate mnemonic) (counted (scale_of mnemonic) immediate) → result ≡ None →
    IsReadAs (Plain mnemonic (operands.Immediate immediate)) result
unread_immediate mnemonic immediate result row is = unread (Plain mnemonic (operands.Immediate immediate)) result (λ at. row) is

stands_one_immediate : (mnemonic : Mnemonic) (d immediate field : ℕ) → immediate ≡ scale_of mnemonic * field →
    IfSome (row_one_immediate mnemonic d field) (λ i. Stands i (Plain mnemonic (operands.OneImmediate d immediate)))
unfolding form_of
stands_one_immediate mnemonic.Movs d immediate field e = λ fields at. let same : immediate ≡ field = whole_field e in
    record { fields = fields; made = refl; written = inl (cc) }
stands_one_immediate mnemonic.Cmp d immediate field e = λ fields at. let same : immediate ≡ field = whole_field e in
    record { fields = fields; made = refl; written = inl (cc) }
stands_one_immediate mnemonic.Adds d immediate field e = λ fields at. let same : immediate ≡ field = whole_field e in
    record { fields = fields; made = refl; written = inl (cc) }
stands_one_immediate mnemonic.Subs d immediate field e = λ fields at. let same : immediate ≡ field = whole_field e in
    record { fields = fields; made = refl; written = inl (cc) }
stands_one_immediate mnemonic.Add d immediate field e = if_true (nat_eq d SP) _ (λ i. Stands i (Plain mnemonic.Add (operands.OneImmediate d immediate)))
    (λ is fields at. let sp : d ≡ SP = is_sp d is in record { fields = fields; made = refl; written = inl (cc) })
stands_one_immediate mnemonic.Sub d immediate field e = if_true (nat_eq d SP) _ (λ i. Stands i (Plain mnemonic.Sub (operands.OneImmediate d immediate)))
    (λ is fields at. let sp : d ≡ SP = is_sp d is in record { fields = fields; made = refl; written = inl (cc) })
stands_one_immediate _ d immediate field e = tt

pub read_one_immediate : (mnemonic : Mnemonic) (d immediate : ℕ) (i : Instr) (result : Option Instr) →
    Some i ≡ with_field (row_one_immediate mnemonic d) (counted (scale_of mnemonic) immediate) → result ≡ (if fields_fit i then Some i else None) →
    IsReadAs (Plain mnemonic (operands.OneImmediate d immediate)) result
read_one_immediate mnemonic d immediate i result row is = reading (Plain mnemonic (operands.OneImmediate d immediate)) i result (λ at. row) is
    (subst (λ (r : Option Instr). IfSome r (λ i. Stands i (Plain mnemonic (operands.OneImmediate d immediate)))) (sym row)
    (of_units (scale_of mnemonic) immediate (row_one_immediate mnemonic d) (λ i. Stands i (Plain mnemonic (operands.OneImmediate d immediate)))
    (whole_of mnemonic immediate) (stands_one_immediate mnemonic d immediate)))

pub unread_one_immediate : (mnemonic : Mnemonic) (d immediate : ℕ) (result : Option Instr) →
    None ≡ with_field (row_one_immediate mnemonic d) (counted (scale_of mnemonic) immediate) → result ≡ None →
    IsReadAs (Plain mnemonic (operands.OneImmediate d immediate)) result
unread_one_immediate mnemonic d immediate result row is = unread (Plain mnemonic (operands.OneImmediate d immediate)) result (λ at. row) is

stands_two_immediate : (mnemonic : Mnemonic) (d n immediate field : ℕ) → immediate ≡ scale_of mnemonic * field →
    IfSome (row_two_immediate mnemonic d n field) (λ i. Stands i (Plain mnemonic (operands.TwoImmediate d n immediate)))
unfolding form_of
stands_two_immediate mnemonic.Lsls d n immediate field e = λ fields at. record
    { fields = fields; made = refl; written = lsls_written d n field immediate at (whole_field e) }
stands_two_immediate mnemonic.Lsrs d n immediate field e = if_false (nat_eq field 0) _
    (λ i. Stands i (Plain mnemonic.Lsrs (operands.TwoImmediate d n immediate)))
    (λ is fields at. let shift : right_shift (if nat_eq field 32 then 0 else field) ≡ field = shift_is field is in
    let same : immediate ≡ field = whole_field e in record { fields = fields; made = refl; written = inl (cc) })
stands_two_immediate mnemonic.Asrs d n immediate field e = if_false (nat_eq field 0) _
    (λ i. Stands i (Plain mnemonic.Asrs (operands.TwoImmediate d n immediate)))
    (λ is fields at. let shift : right_shift (if nat_eq field 32 then 0 else field) ≡ field = shift_is field is in
    let same : immediate ≡ field = whole_field e in record { fields = fields; made = refl; written = inl (cc) })
stands_two_immediate mnemonic.Adds d n immediate field e = λ fields at. let same : immediate ≡ field = whole_field e in
    record { fields = fields; made = refl; written = inl (cc) }
stands_two_immediate mnemonic.Subs d n immediate field e = λ fields at. let same : immediate ≡ field = whole_field e in
    record { fields = fields; made = refl; written = inl (cc) }
stands_two_immediate mnemonic.Rsbs d n immediate field e = if_true (nat_eq field 0) _
    (λ i. Stands i (Plain mnemonic.Rsbs (operands.TwoImmediate d n immediate)))
    (λ is fields at. let none : field ≡ 0 = is_zero field is in let same : immediate ≡ field = whole_field e in
    record { fields = fields; made = refl; written = inl (cc) })
stands_two_immediate mnemonic.Add d n immediate field e = if_true (nat_eq n SP) _ (λ i. Stands i (Plain mnemonic.Add (operands.TwoImmediate d n immediate)))
    (λ is fields at. let sp : n ≡ SP = is_sp n is in record { fields = fields; made = refl; written = inl (cc) })
stands_two_immediate _ d n immediate field e = tt

pub read_two_immediate : (mnemonic : Mnemonic) (d n immediate : ℕ) (i : Instr) (result : Option Instr) →
    Some i ≡ with_field (row_two_immediate mnemonic d n) (counted (scale_of mnemonic) immediate) → result ≡ (if fields_fit i then Some i else None) →
    IsReadAs (Plain mnemonic (operands.TwoImmediate d n immediate)) result
read_two_immediate mnemonic d n immediate i result row is = reading (Plain mnemonic (operands.TwoImmediate d n immediate)) i result (λ at. row) is
    (subst (λ (r : Option Instr). IfSome r (λ i. Stands i (Plain mnemonic (operands.TwoImmediate d n immediate)))) (sym row)
    (of_units (scale_of mnemonic) immediate (row_two_immediate mnemonic d n) (λ i. Stands i (Plain mnemonic (operands.TwoImmediate d n immediate)))
    (whole_of mnemonic immediate) (stands_two_immediate mnemonic d n immediate)))

pub unread_two_immediate : (mnemonic : Mnemonic) (d n immediate : ℕ) (result : Option Instr) →
    None ≡ with_field (row_two_immediate mnemonic d n) (counted (scale_of mnemonic) immediate) → result ≡ None →
    IsReadAs (Plain mnemonic (operands.TwoImmediate d n immediate)) result
unread_two_immediate mnemonic d n immediate result row is = unread (Plain mnemonic (operands.TwoImmediate d n immediate)) result (λ at. row) is

stands_by_register : (mnemonic : Mnemonic) (t n m : ℕ) → IfSome (row_by_register mnemonic t n m) (λ i. Stands i (Plain mnemonic (operands.ByRegister t n m)))
unfolding form_of
stands_by_register mnemonic.Str t n m = λ fields at. record { fields = fields; made = refl; written = inl refl }
stands_by_register mnemonic.Strh t n m = λ fields at. record { fields = fields; made = refl; written = inl refl }
stands_by_register mnemonic.Strb t n m = λ fields at. record { fields = fields; made = refl; written = inl refl }
stands_by_register mnemonic.Ldrsb t n m = λ fields at. record { fields = fields; made = refl; written = inl refl }
stands_by_register mnemonic.Ldr t n m = λ fields at. record { fields = fields; made = refl; written = inl refl }
stands_by_register mnemonic.Ldrh t n m = λ fields at. record { fields = fields; made = refl; written = inl refl }
stands_by_register mnemonic.Ldrb t n m = λ fields at. record { fields = fields; made = refl; written = inl refl }
stands_by_register mnemonic.Ldrsh t n m = λ fields at. record { fields = fields; made = refl; written = inl refl }
stands_by_register _ t n m = tt

pub read_by_register : (mnemonic : Mnemonic) (t n m : ℕ) (i : Instr) (result : Option Instr) → Some i ≡ row_by_register mnemonic t n m →
    result ≡ (if fields_fit i then Some i else None) → IsReadAs (Plain mnemonic (operands.ByRegister t n m)) result
read_by_register mnemonic t n m i result row is = reading (Plain mnemonic (operands.ByRegister t n m)) i result (λ at. row) is
    (subst (λ (r : Option Instr). IfSome r (λ i. Stands i (Plain mnemonic (operands.ByRegister t n m)))) (sym row) (stands_by_register mnemonic t n m))

pub unread_by_register : (mnemonic : Mnemonic) (t n m : ℕ) (result : Option Instr) → None ≡ row_by_register mnemonic t n m → result ≡ None →
    IsReadAs (Plain mnemonic (operands.ByRegister t n m)) result
unread_by_register mnemonic t n m result row is = unread (Plain mnemonic (operands.ByRegister t n m)) result (λ at. row) is

stands_by_offset : (mnemonic : Mnemonic) (t n offset field : ℕ) → offset ≡ scale_of mnemonic * field →
    IfSome (row_by_offset mnemonic t n field) (λ i. Stands i (Plain mnemonic (operands.ByOffset t n offset)))
unfolding form_of
stands_by_offset mnemonic.Str t n offset field e = if_either (nat_eq n SP) _ _ (λ i. Stands i (Plain mnemonic.Str (operands.ByOffset t n offset)))
    (λ is fields at. let sp : n ≡ SP = is_sp n is in record { fields = fields; made = refl; written = inl (cc) })
    (λ is fields at. record { fields = fields; made = refl; written = inl (cc) })
stands_by_offset mnemonic.Ldr t n offset field e = if_either (nat_eq n SP) _ _ (λ i. Stands i (Plain mnemonic.Ldr (operands.ByOffset t n offset)))
    (λ is fields at. let sp : n ≡ SP = is_sp n is in record { fields = fields; made = refl; written = inl (cc) })
    (λ is fields at. record { fields = fields; made = refl; written = inl (cc) })
stands_by_offset mnemonic.Strh t n offset field e = λ fields at. record { fields = fields; made = refl; written = inl (cc) }
stands_by_offset mnemonic.Ldrh t n offset field e = λ fields at. record { fields = fields; made = refl; written = inl (cc) }
stands_by_offset mnemonic.Strb t n offset field e = λ fields at. let same : offset ≡ field = whole_field e in
    record { fields = fields; made = refl; written = inl (cc) }
stands_by_offset mnemonic.Ldrb t n offset field e = λ fields at. let same : offset ≡ field = whole_field e in
    record { fields = fields; made = refl; written = inl (cc) }
stands_by_offset _ t n offset field e = tt

pub read_by_offset : (mnemonic : Mnemonic) (t n offset : ℕ) (i : Instr) (result : Option Instr) →
    Some i ≡ with_field (row_by_offset mnemonic t n) (counted (scale_of mnemonic) offset) → result ≡ (if fields_fit i then Some i else None) →
    IsReadAs (Plain mnemonic (operands.ByOffset t n offset)) result
read_by_offset mnemonic t n offset i result row is = reading (Plain mnemonic (operands.ByOffset t n offset)) i result (λ at. row) is
    (subst (λ (r : Option Instr). IfSome r (λ i. Stands i (Plain mnemonic (operands.ByOffset t n offset)))) (sym row)
    (of_units (scale_of mnemonic) offset (row_by_offset mnemonic t n) (λ i. Stands i (Plain mnemonic (operands.ByOffset t n offset))) (whole_of mnemonic offset)
    (stands_by_offset mnemonic t n offset)))

pub unread_by_offset : (mnemonic : Mnemonic) (t n offset : ℕ) (result : Option Instr) →
    None ≡ with_field (row_by_offset mnemonic t n) (counted (scale_of mnemonic) offset) → result ≡ None →
    IsReadAs (Plain mnemonic (operands.ByOffset t n offset)) result
unread_by_offset mnemonic t n offset result row is = unread (Plain mnemonic (operands.ByOffset t n offset)) result (λ at. row) is

stands_list : (mnemonic : Mnemonic) (list : ℕ) → IfSome (row_list mnemonic list) (λ i. Stands i (Plain mnemonic (operands.List list)))
unfolding form_of
stands_list mnemonic.Push list = if_either (nat_eq (list / 256) 0) _ _ (λ i. Stands i (Plain mnemonic.Push (operands.List list)))
    (λ is fields at. let same : list % 256 ≡ list = low_list list is in record { fields = fields; made = refl; written = inl (cc) })
    (λ no. if_true (nat_eq (list / 256) 64) _ (λ i. Stands i (Plain mnemonic.Push (operands.List list)))
    (λ is fields at. let same : list % 256 + 2 ^ LR ≡ list = with_lr_bit list is in record { fields = fields; made = refl; written = inl (cc) }))
stands_list mnemonic.Pop list = if_either (nat_eq (list / 256) 0) _ _ (λ i. Stands i (Plain mnemonic.Pop (operands.List list)))
    (λ is fields at. let same : list % 256 ≡ list = low_list list is in record { fields = fields; made = refl; written = inl (cc) })
    (λ no. if_true (nat_eq (list / 256) 128) _ (λ i. Stands i (Plain mnemonic.Pop (operands.List list)))
    (λ is fields at. let same : list % 256 + 2 ^ PC ≡ list = with_pc_bit list is in record { fields = fields; made = refl; written = inl (cc) }))
stands_list _ list = tt

pub read_list : (mnemonic : Mnemonic) (list : ℕ) (i : Instr) (result : Option Instr) → Some i ≡ row_list mnemonic list →
    result ≡ (if fields_fit i then Some i else None) → IsReadAs (Plain mnemonic (operands.List list)) result
read_list mnemonic list i result row is = reading (Plain mnemonic (operands.List list)) i result (λ at. row) is
    (subst (λ (r : Option Instr). IfSome r (λ i. Stands i (Plain mnemonic (operands.List list)))) (sym row) (stands_list mnemonic list))

pub unread_list : (mnemonic : Mnemonic) (list : ℕ) (result : Option Instr) → None ≡ row_list mnemonic list → result ≡ None →
    IsReadAs (Plain mnemonic (operands.List list)) result
unread_list mnemonic list result row is = unread (Plain mnemonic (operands.List list)) result (λ at. row) is

stands_base_list : (mnemonic : Mnemonic) (n list field : ℕ) → list ≡ 1 * field →
    IfSome (row_base_list mnemonic n field) (λ i. Stands i (Plain mnemonic (operands.BaseList n list)))
unfolding form_of
stands_base_list mnemonic.Ldm n list field e = λ fields at. let same : list ≡ field = whole_field e in
    record { fields = fields; made = refl; written = inl (cc) }
stands_base_list _ n list field e = tt

pub read_base_list : (mnemonic : Mnemonic) (n list : ℕ) (i : Instr) (result : Option Instr) → Some i ≡ with_field (row_base_list mnemonic n) (counted 1 list) →
    result ≡ (if fields_fit i then Some i else None) → IsReadAs (Plain mnemonic (operands.BaseList n list)) result
read_base_list mnemonic n list i result row is = reading (Plain mnemonic (operands.BaseList n list)) i result (λ at. row) is
    (subst (λ (r : Option Instr). IfSome r (λ i. Stands i (Plain mnemonic (operands.BaseList n list)))) (sym row)
    (of_units (1) list (row_base_list mnemonic n) (λ i. Stands i (Plain mnemonic (operands.BaseList n list))) (whole_1 list)
    (stands_base_list mnemonic n list)))

pub unread_base_list : (mnemonic : Mnemonic) (n list : ℕ) (result : Option Instr) → None ≡ with_field (row_base_list mnemonic n) (counted 1 list) →
    result ≡ None → IsReadAs (Plain mnemonic (operands.BaseList n list)) result
unread_base_list mnemonic n list result row is = unread (Plain mnemonic (operands.BaseList n list)) result (λ at. row) is

stands_updated_list : (mnemonic : Mnemonic) (n list field : ℕ) → list ≡ 1 * field →
    IfSome (row_updated_list mnemonic n field) (λ i. Stands i (Plain mnemonic (operands.UpdatedList n list)))
unfolding form_of
stands_updated_list mnemonic.Stm n list field e = λ fields at. let same : list ≡ field = whole_field e in
    record { fields = fields; made = refl; written = inl (cc) }
stands_updated_list _ n list field e = tt

pub read_updated_list : (mnemonic : Mnemonic) (n list : ℕ) (i : Instr) (result : Option Instr) →
    Some i ≡ with_field (row_updated_list mnemonic n) (counted 1 list) → result ≡ (if fields_fit i then Some i else None) →
    IsReadAs (Plain mnemonic (operands.UpdatedList n list)) result
read_updated_list mnemonic n list i result row is = reading (Plain mnemonic (operands.UpdatedList n list)) i result (λ at. row) is
    (subst (λ (r : Option Instr). IfSome r (λ i. Stands i (Plain mnemonic (operands.UpdatedList n list)))) (sym row)
    (of_units (1) list (row_updated_list mnemonic n) (λ i. Stands i (Plain mnemonic (operands.UpdatedList n list))) (whole_1 list)
    (stands_updated_list mnemonic n list)))

pub unread_updated_list : (mnemonic : Mnemonic) (n list : ℕ) (result : Option Instr) → None ≡ with_field (row_updated_list mnemonic n) (counted 1 list) →
    result ≡ None → IsReadAs (Plain mnemonic (operands.UpdatedList n list)) result
unread_updated_list mnemonic n list result row is = unread (Plain mnemonic (operands.UpdatedList n list)) result (λ at. row) is

stands_interrupts : (mnemonic : Mnemonic) → IfSome (row_interrupts mnemonic) (λ i. Stands i (Plain mnemonic operands.Interrupts))
unfolding form_of
stands_interrupts mnemonic.Cpsie = λ fields at. record { fields = fields; made = refl; written = inl refl }
stands_interrupts mnemonic.Cpsid = λ fields at. record { fields = fields; made = refl; written = inl refl }
stands_interrupts _ = tt

pub read_interrupts : (mnemonic : Mnemonic) (i : Instr) (result : Option Instr) → Some i ≡ row_interrupts mnemonic →
    result ≡ (if fields_fit i then Some i else None) → IsReadAs (Plain mnemonic operands.Interrupts) result
read_interrupts mnemonic i result row is = reading (Plain mnemonic operands.Interrupts) i result (λ at. row) is
    (subst (λ (r : Option Instr). IfSome r (λ i. Stands i (Plain mnemonic operands.Interrupts))) (sym row) (stands_interrupts mnemonic))

pub unread_interrupts : (mnemonic : Mnemonic) (result : Option Instr) → None ≡ row_interrupts mnemonic → result ≡ None →
    IsReadAs (Plain mnemonic operands.Interrupts) result
unread_interrupts mnemonic result row is = unread (Plain mnemonic operands.Interrupts) result (λ at. row) is

stands_from_special : (mnemonic : Mnemonic) (d special : ℕ) →
    IfSome (row_from_special mnemonic d special) (λ i. Stands i (Plain mnemonic (operands.FromSpecial d special)))
unfolding form_of
stands_from_special mnemonic.Mrs d special = λ fields at. record { fields = fields; made = refl; written = inl refl }
stands_from_special _ d special = tt

pub read_from_special : (mnemonic : Mnemonic) (d special : ℕ) (i : Instr) (result : Option Instr) → Some i ≡ row_from_special mnemonic d special →
    result ≡ (if fields_fit i then Some i else None) → IsReadAs (Plain mnemonic (operands.FromSpecial d special)) result
read_from_special mnemonic d special i result row is = reading (Plain mnemonic (operands.FromSpecial d special)) i result (λ at. row) is
    (subst (λ (r : Option Instr). IfSome r (λ i. Stands i (Plain mnemonic (operands.FromSpecial d special)))) (sym row)
    (stands_from_special mnemonic d special))

pub unread_from_special : (mnemonic : Mnemonic) (d special : ℕ) (result : Option Instr) → None ≡ row_from_special mnemonic d special → result ≡ None →
    IsReadAs (Plain mnemonic (operands.FromSpecial d special)) result
unread_from_special mnemonic d special result row is = unread (Plain mnemonic (operands.FromSpecial d special)) result (λ at. row) is

stands_to_special : (mnemonic : Mnemonic) (special n : ℕ) → IfSome (row_to_special mnemonic special n)
    (λ i. Stands i (Plain mnemonic (operands.ToSpecial special n)))
unfolding form_of
stands_to_special mnemonic.Msr special n = λ fields at. record { fields = fields; made = refl; written = inl refl }
stands_to_special _ special n = tt

pub read_to_special : (mnemonic : Mnemonic) (special n : ℕ) (i : Instr) (result : Option Instr) → Some i ≡ row_to_special mnemonic special n →
    result ≡ (if fields_fit i then Some i else None) → IsReadAs (Plain mnemonic (operands.ToSpecial special n)) result
read_to_special mnemonic special n i result row is = reading (Plain mnemonic (operands.ToSpecial special n)) i result (λ at. row) is
    (subst (λ (r : Option Instr). IfSome r (λ i. Stands i (Plain mnemonic (operands.ToSpecial special n)))) (sym row) (stands_to_special mnemonic special n))

pub unread_to_special : (mnemonic : Mnemonic) (special n : ℕ) (result : Option Instr) → None ≡ row_to_special mnemonic special n → result ≡ None →
    IsReadAs (Plain mnemonic (operands.ToSpecial special n)) result
unread_to_special mnemonic special n result row is = unread (Plain mnemonic (operands.ToSpecial special n)) result (λ at. row) is

-- ---- operands of a known shape
pub as_written : (mnemonic : Mnemonic) (written other : Operands) (result : Option Instr) → written ≡ other
    → IsReadAs (Plain mnemonic other) result → IsReadAs (Plain mnemonic written) result
as_written mnemonic written other result is h = subst (λ (o : Operands). IsReadAs (Plain mnemonic o) result) (sym is) h
