-- An instruction without accesses does in another run what its row of the marks says.
use Rattle.std.proofs.Common.{◌≡◌, ◌<◌, ◌+◌, ◌*◌, ◌/◌, ◌%◌, ◌^◌, ◌&&◌, ◌||◌, ℕ, Bool, true, false, nat_eq, nat_lt, if◌then◌else◌, Option, Some}
use Rattle.std.proofs.Common.{None, Ok, Err, refl, sym, ap, ap₂, subst, ◌∙◌, ⊎_elim, arith, bit_and, bit_or, bit_xor, List, slice_index, eqb-true}
use Rattle.std.proofs.lemmas.Bool.{and_parts, or_cases}
use Rattle.std.proofs.lemmas.Bool.Decides.{nat_tests}
use Rattle.std.proofs.lemmas.Int.{ints}
use Rattle.std.specs.Int.{w32, bit_not}
use Rattle.armv6m_alu.specs.declared.Sum.{Sum}
use Rattle.armv6m_alu.specs.declared.Shifted.{Shifted}
use Rattle.armv6m_alu.specs.Sums.{sum_with_carry}
use Rattle.armv6m_alu.specs.Shifts.{shifted_left, shifted_right, shifted_right_signed, rotated_right}
use Rattle.armv6m_decode.specs.declared.instr.Alu.{Alu}
use Rattle.armv6m_decode.specs.declared.instr.Alu.TheVariants.{LslsImmediate, LsrsImmediate, AsrsImmediate, AddsRegister, SubsRegister, AddsImmediate3}
use Rattle.armv6m_decode.specs.declared.instr.Alu.TheVariants.{SubsImmediate3, MovsImmediate, CmpImmediate, AddsImmediate8, SubsImmediate8, Ands, Eors}
use Rattle.armv6m_decode.specs.declared.instr.Alu.TheVariants.{LslsRegister, LsrsRegister, AsrsRegister, Adcs, Sbcs, Rors, Tst, Rsbs, CmpRegister, Cmn, Orrs}
use Rattle.armv6m_decode.specs.declared.instr.Alu.TheVariants.{Muls, Bics, Mvns, AddHigh, CmpHigh, MovHigh}
use Rattle.armv6m_decode.specs.declared.registers.TheConstants.{PC}
use Rattle.armv6m_step.specs.declared.core_state.Core.{Core}
use Rattle.armv6m_step.specs.Ends.{Outcome, OwnEnd}
use Rattle.armv6m_step.specs.Registers.{reg, written, moved}
use Rattle.armv6m_step.specs.Numbers.{sum}
use Rattle.armv6m_step.specs.Ram.{value_at}
use Rattle.armv6m_step.specs.DataRows.{alu, value_into, shift_into, sum_into, compared, tested, plain_into, subtraction, shift_amount, low_byte}
use Rattle.shadow_step.specs.declared.marks.Mark.{Mark}
use Rattle.shadow_step.specs.declared.marks.Mark.TheVariants.{Page}
use Rattle.shadow_step.specs.declared.marks.CoreMarks.{CoreMarks}
use Rattle.shadow_step.specs.Marks.{Pages, ArePages, Says, CoreAgrees, is_known, same_part, known_if, operand, put, gone}
use Rattle.shadow_step.specs.Rows.{Lockstep, known, both, comparable, value_marks, shift_marks, move_marks, sum_marks, compare_marks, test_marks, plain_marks}
use Rattle.shadow_step.specs.Rows.{alu_marks}
use Rattle.shadow_step.proofs.MarkLemmas.{known_same, says_if, operand_says, operand_same, put_agrees, gone_agrees, nz_agrees, carry_agrees, nzcv_agrees}

-- a number of at most four bytes of a page is below 2^32
part_small : (bytes : List ℕ) (w i : ℕ) → ((k : ℕ) → slice_index bytes k < 2 ^ 8) → value_at bytes w i < 2 ^ 32
part_small bytes w i small =
    let a : slice_index bytes i < 2 ^ 8 = small i in
    let b : slice_index bytes (i + 1) < 2 ^ 8 = small (i + 1) in
    let c : slice_index bytes (i + 2) < 2 ^ 8 = small (i + 2) in
    let d : slice_index bytes (i + 3) < 2 ^ 8 = small (i + 3) in
    elim (nat_eq w 1) as (λ one. (if one then slice_index bytes i else
    if nat_eq w 2 then slice_index bytes i + 0x100 * slice_index bytes (i + 1) else
    slice_index bytes i + 0x100 * slice_index bytes (i + 1) + 0x10000 * slice_index bytes (i + 2) + 0x1000000 * slice_index bytes (i + 3)) < 2 ^ 32) [
      | true ↦ omega arith
      | false ↦ elim (nat_eq w 2) as (λ two. (if two then slice_index bytes i + 0x100 * slice_index bytes (i + 1) else
          slice_index bytes i + 0x100 * slice_index bytes (i + 1) + 0x10000 * slice_index bytes (i + 2) + 0x1000000 * slice_index bytes (i + 3)) < 2 ^ 32) [
            | true ↦ omega arith
            | false ↦ omega arith
          ]
    ]

-- the difference of a number and itself
no_difference : (x : ℕ) → x < 2 ^ 32 → subtraction x x ≡ subtraction 0 0
unfolding sum_with_carry
no_difference x small = grind (arith, nat_tests, ints)

-- a shift by an amount other than 0 doesn't look at the carry
free_left : (v a : ℕ) (c c' : Bool) → nat_eq a 0 ≡ false → shifted_left v a c' ≡ shifted_left v a c
unfolding shifted_left
free_left v a c c' e = rw e refl

free_right : (v a : ℕ) (c c' : Bool) → nat_eq a 0 ≡ false → shifted_right v a c' ≡ shifted_right v a c
unfolding shifted_right
free_right v a c c' e = rw e refl

free_signed : (v a : ℕ) (c c' : Bool) → nat_eq a 0 ≡ false → shifted_right_signed v a c' ≡ shifted_right_signed v a c
unfolding shifted_right_signed
free_signed v a c c' e = rw e refl

some_by : (i : ℕ) (none : Bool) → nat_eq i 0 ≡ none → nat_eq (if none then 32 else i) 0 ≡ false
some_by i true e = refl
some_by i false e = e

some_amount : (i : ℕ) → nat_eq (shift_amount i) 0 ≡ false
some_amount i = some_by i (nat_eq i 0) refl

module _ (p : Pages) (t : CoreMarks) (core core' : Core) (next next' : ℕ) (agrees : CoreAgrees p t core core') (follows : next' ≡ next) where
  -- each form of row keeps both runs in lockstep

  value_agrees : (d : ℕ) (k : Bool) (v v' : ℕ) → (k ≡ true → v' ≡ v) → Lockstep p (value_marks t d k) (value_into core next d v) (value_into core' next' d v')
  value_agrees d k v v' same = gone_agrees p _ _ _ (nz_agrees p _ _ _ (put_agrees p t core core' agrees d _ v v' (says_if p k v v' same)) k v v' same) next
      next' follows

  shift_agrees : (d : ℕ) (k : Bool) (s s' : Shifted) → (k ≡ true → s' ≡ s) →
      Lockstep p (shift_marks t d k) (shift_into core next d s) (shift_into core' next' d s')
  shift_agrees d k s s' same =
      let value : k ≡ true → s'.value ≡ s.value = λ h. ap (λ (x : Shifted). x.value) (same h) in
      gone_agrees p _ _ _ (carry_agrees p _ _ _
      (nz_agrees p _ _ _ (put_agrees p t core core' agrees d _ s.value s'.value (says_if p k s.value s'.value value)) k s.value s'.value value)
      k s.carry s'.carry (λ h. ap (λ (x : Shifted). x.carry) (same h))) next next' follows

  move_agrees : (d : ℕ) (m : Mark) (v v' : ℕ) → Says p m v v' →
      Lockstep p (move_marks t d m) (shift_into core next d (shifted_left v 0 core.c)) (shift_into core' next' d (shifted_left v' 0 core'.c))
  unfolding shifted_left
  move_agrees d m v v' says = gone_agrees p _ _ _ (carry_agrees p _ _ _
      (nz_agrees p _ _ _ (put_agrees p t core core' agrees d m v v' says) (is_known m) v v' (λ h. known_same p m v v' says h))
      t.c core.c core'.c agrees.c) next next' follows

  sum_agrees : (d : ℕ) (k : Bool) (s s' : Sum) → (k ≡ true → s' ≡ s) → Lockstep p (sum_marks t d k) (sum_into core next d s) (sum_into core' next' d s')
  sum_agrees d k s s' same = gone_agrees p _ _ _ (nzcv_agrees p _ _ _
      (put_agrees p t core core' agrees d _ s.value s'.value (says_if p k s.value s'.value (λ h. ap (λ (x : Sum). x.value)
      (same h)))) k s s' same) next next' follows

  compare_agrees : (k : Bool) (s s' : Sum) → (k ≡ true → s' ≡ s) → Lockstep p (compare_marks t k) (compared core next s) (compared core' next' s')
  compare_agrees k s s' same = gone_agrees p _ _ _ (nzcv_agrees p _ _ _ agrees k s s' same) next next' follows

  test_agrees : (k : Bool) (v v' : ℕ) → (k ≡ true → v' ≡ v) → Lockstep p (test_marks t k) (tested core next v) (tested core' next' v')
  test_agrees k v v' same = gone_agrees p _ _ _ (nz_agrees p _ _ _ agrees k v v' same) next next' follows

  -- a move into the PC is a branch, and may end in another instruction set
  plain_by : (pc k : Bool) (d : ℕ) (m : Mark) (v v' : ℕ) → Says p m v v' → (k ≡ true → v' ≡ v) →
      Lockstep p (if pc then (if k then Some (gone t) else None) else Some (gone (put t d m)))
      (if pc then Ok (moved core (v / 2 * 2)) else Ok (moved (written core d v) next))
      (if pc then Ok (moved core' (v' / 2 * 2)) else Ok (moved (written core' d v') next'))
  plain_by true true d m v v' says same = gone_agrees p t core core' agrees _ _ (ap (λ (x : ℕ). x / 2 * 2) (same refl))
  plain_by true false d m v v' says same = tt
  plain_by false k d m v v' says same = gone_agrees p _ _ _ (put_agrees p t core core' agrees d m v v' says) next next' follows

  plain_agrees : (d : ℕ) (m : Mark) (v v' : ℕ) → Says p m v v' → Lockstep p (plain_marks t d m) (plain_into core next d v) (plain_into core' next' d v')
  plain_agrees d m v v' says = plain_by (nat_eq d PC) (is_known m) d m v v' says (λ k. known_same p m v v' says k)

  -- nothing is said of an instruction that ends the run at hand
  ends : (mt : Option CoreMarks) (e : OwnEnd) (o : Outcome) → Lockstep p mt (Err e) o
  ends None e o = tt
  ends (Some x) e o = tt

  unless_ended : (stop : Bool) (mt : Option CoreMarks) (e e' : OwnEnd) (o o' : Outcome) → Lockstep p mt o o' →
      Lockstep p mt (if stop then Err e else o) (if stop then Err e' else o')
  unless_ended true mt e e' o o' step = ends mt e (Err e')
  unless_ended false mt e e' o o' step = step

  -- functions of known operands are the same in both runs

  one : {X : Type 0} (f : ℕ → X) (n : ℕ) → known t n ≡ true → f (reg core' n) ≡ f (reg core n)
  one f n k = ap f (operand_same p t core core' agrees n k)

  two : {X : Type 0} (f : ℕ → ℕ → X) (n m : ℕ) → both t n m ≡ true → f (reg core' n) (reg core' m) ≡ f (reg core n) (reg core m)
  two f n m k =
      let parts : (known t n ≡ true) × (known t m ≡ true) = and_parts _ _ k in
      ap₂ f (operand_same p t core core' agrees n parts.0) (operand_same p t core core' agrees m parts.1)

  two_carry : {X : Type 0} (f : ℕ → ℕ → Bool → X) (n m : ℕ) → (both t n m && t.c) ≡ true →
      f (reg core' n) (reg core' m) core'.c ≡ f (reg core n) (reg core m) core.c
  two_carry f n m k =
      let parts : (both t n m ≡ true) × (t.c ≡ true) = and_parts _ _ k in
      two (λ x y. f x y core'.c) n m parts.0 ∙ ap (λ (b : Bool). f (reg core n) (reg core m) b) (agrees.c parts.1)

  -- the difference of two operands is known if each is known, or if they are the same bytes of the page
  parts_same : ArePages p → (a b : Mark) (v v' u u' : ℕ) → same_part a b ≡ true → Says p a v v' → Says p b u u' → subtraction v' u' ≡ subtraction v u
  parts_same bytes (Page w i) (Page x j) v v' u u' same l r =
      let e : (nat_eq w x ≡ true) × (nat_eq i j ≡ true) = and_parts _ _ same in
      let widths : w ≡ x = eqb-true _ _ e.0 in
      let places : i ≡ j = eqb-true _ _ e.1 in
      let here : v ≡ u = cc in
      let there : v' ≡ u' = cc in
      let small : v < 2 ^ 32 = subst (λ (n : ℕ). n < 2 ^ 32) (sym l.0) (part_small p.here w i bytes.here) in
      let small' : v' < 2 ^ 32 = subst (λ (n : ℕ). n < 2 ^ 32) (sym l.1) (part_small p.there w i bytes.there) in
      ap (subtraction v') (sym there) ∙ no_difference v' small' ∙ sym (no_difference v small) ∙ ap (subtraction v) here
  parts_same bytes a b v v' u u' same l r = cc

  differs_same : ArePages p → (n m : ℕ) → comparable t n m ≡ true → subtraction (reg core' n) (reg core' m) ≡ subtraction (reg core n) (reg core m)
  differs_same bytes n m k = ⊎_elim
      (λ (each : both t n m ≡ true). two subtraction n m each)
      (λ (part : same_part (operand t n) (operand t m) ≡ true). parts_same bytes (operand t n) (operand t m) _ _ _ _ part
      (operand_says p t core core' agrees n) (operand_says p t core core' agrees m))
      (or_cases _ _ k)

  -- the shifts by an immediate

  left_agrees : (d m i : ℕ) (zero' : Bool) → nat_eq i 0 ≡ zero' →
      Lockstep p (if zero' then move_marks t d (operand t m) else shift_marks t d (known t m))
      (shift_into core next d (shifted_left (reg core m) i core.c)) (shift_into core' next' d (shifted_left (reg core' m) i core'.c))
  left_agrees d m i true e =
      let none : i ≡ 0 = eqb-true _ _ e in
      rw none (move_agrees d (operand t m) (reg core m) (reg core' m) (operand_says p t core core' agrees m))
  left_agrees d m i false e = shift_agrees d (known t m) _ _ (λ k. one (λ x. shifted_left x i core'.c) m k ∙ free_left (reg core m) i core.c core'.c e)

  pub alu_agrees : ArePages p → (op : Alu) → Lockstep p (alu_marks t op) (alu core next op) (alu core' next' op)
  alu_agrees bytes (LslsImmediate d m i) = left_agrees d m i (nat_eq i 0) refl
  alu_agrees bytes (LsrsImmediate d m i) = shift_agrees d (known t m) _ _
      (λ k. one (λ x. shifted_right x (shift_amount i) core'.c) m k ∙ free_right (reg core m) (shift_amount i) core.c core'.c (some_amount i))
  alu_agrees bytes (AsrsImmediate d m i) = shift_agrees d (known t m) _ _
      (λ k. one (λ x. shifted_right_signed x (shift_amount i) core'.c) m k ∙ free_signed (reg core m) (shift_amount i) core.c core'.c (some_amount i))
  alu_agrees bytes (AddsRegister d n m) = sum_agrees d (both t n m) _ _ (two (λ x y. sum_with_carry x y false) n m)
  alu_agrees bytes (SubsRegister d n m) = sum_agrees d (comparable t n m) _ _ (differs_same bytes n m)
  alu_agrees bytes (AddsImmediate3 d n i) = sum_agrees d (known t n) _ _ (one (λ x. sum_with_carry x i false) n)
  alu_agrees bytes (SubsImmediate3 d n i) = sum_agrees d (known t n) _ _ (one (λ x. subtraction x i) n)
  alu_agrees bytes (MovsImmediate d i) = value_agrees d true i i (λ k. refl)
  alu_agrees bytes (CmpImmediate n i) = compare_agrees (known t n) _ _ (one (λ x. subtraction x i) n)
  alu_agrees bytes (AddsImmediate8 d i) = sum_agrees d (known t d) _ _ (one (λ x. sum_with_carry x i false) d)
  alu_agrees bytes (SubsImmediate8 d i) = sum_agrees d (known t d) _ _ (one (λ x. subtraction x i) d)
  alu_agrees bytes (Ands d m) = value_agrees d (both t d m) _ _ (two bit_and d m)
  alu_agrees bytes (Eors d m) = value_agrees d (both t d m) _ _ (two bit_xor d m)
  alu_agrees bytes (LslsRegister d m) = shift_agrees d (both t d m && t.c) _ _ (two_carry (λ x y c. shifted_left x (low_byte y) c) d m)
  alu_agrees bytes (LsrsRegister d m) = shift_agrees d (both t d m && t.c) _ _ (two_carry (λ x y c. shifted_right x (low_byte y) c) d m)
  alu_agrees bytes (AsrsRegister d m) = shift_agrees d (both t d m && t.c) _ _ (two_carry (λ x y c. shifted_right_signed x (low_byte y) c) d m)
  alu_agrees bytes (Adcs d m) = sum_agrees d (both t d m && t.c) _ _ (two_carry sum_with_carry d m)
  alu_agrees bytes (Sbcs d m) = sum_agrees d (both t d m && t.c) _ _ (two_carry (λ x y c. sum_with_carry x (bit_not w32 y) c) d m)
  alu_agrees bytes (Rors d m) = shift_agrees d (both t d m && t.c) _ _ (two_carry (λ x y c. rotated_right x (low_byte y) c) d m)
  alu_agrees bytes (Tst d m) = test_agrees (both t d m) _ _ (two bit_and d m)
  alu_agrees bytes (Rsbs d n) = sum_agrees d (known t n) _ _ (one (λ x. subtraction 0 x) n)
  alu_agrees bytes (CmpRegister d m) = compare_agrees (comparable t d m) _ _ (differs_same bytes d m)
  alu_agrees bytes (Cmn d m) = compare_agrees (both t d m) _ _ (two (λ x y. sum_with_carry x y false) d m)
  alu_agrees bytes (Orrs d m) = value_agrees d (both t d m) _ _ (two bit_or d m)
  alu_agrees bytes (Muls d m) = value_agrees d (both t d m) _ _ (two (λ x y. x * y % 2 ^ 32) d m)
  alu_agrees bytes (Bics d m) = value_agrees d (both t d m) _ _ (two (λ x y. bit_and x (bit_not w32 y)) d m)
  alu_agrees bytes (Mvns d m) = value_agrees d (known t m) _ _ (one (λ x. bit_not w32 x) m)
  alu_agrees bytes (AddHigh d m) = unless_ended (nat_eq d PC && nat_eq m PC) (plain_marks t d (known_if (both t d m))) _ _ _ _
      (plain_agrees d (known_if (both t d m)) _ _ (says_if p (both t d m) _ _ (two sum d m)))
  alu_agrees bytes (CmpHigh n m) = unless_ended ((nat_lt n 8 && nat_lt m 8) || (nat_eq n PC || nat_eq m PC)) (compare_marks t (comparable t n m)) _ _ _ _
      (compare_agrees (comparable t n m) _ _ (differs_same bytes n m))
  alu_agrees bytes (MovHigh d m) = plain_agrees d (operand t m) _ _ (operand_says p t core core' agrees m)
