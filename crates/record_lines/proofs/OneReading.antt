-- A text of records has one image or one fault. The laws of both formats, and of files of any form, rest on it.
use Rattle.std.proofs.Common.{◌≡◌, ◌<◌, ◌≤◌, ◌+◌, ◌^◌, ◌∙◌, sym, ap, subst, arith, ⊎_elim, ℕ, true, List, length, Some}
use Rattle.std.proofs.lemmas.Bool.{cases_lt}
use Rattle.byte_map.specs.Image.{Run}
use Rattle.byte_map.proofs.OneList.{one_list}
use Rattle.record_lines.specs.Cells.{held}
use Rattle.record_lines.specs.Format.{Format, fault_at, ends_at, cells_before, AreRight, IsImageOfText, line_number, IsFaultOfLine, HasNoEnd, IsTextFault}
use Rattle.record_lines.specs.Format.{IsMemoryFault}
use Rattle.record_lines.specs.declared.fault.TextFault.{TextFault}
use Rattle.record_lines.specs.declared.fault.TextFault.TheVariants.{Line, NoEnd, OutOfMemory}

module _ {C R F : Type 0} (f : Format C R F) (lines : List (List ℕ)) where
  -- no line before a place ends the text, where all lines before it are right
  no_earlier_end : (p q : ℕ) → AreRight f lines q → ends_at f lines p ≡ true → p < q → ⊥
  no_earlier_end p q right ends less = let goes_on = right.goes_on p less in cc

  -- no line is at fault before a place up to which all lines are right
  no_earlier_fault : (p q : ℕ) (fault : F) → AreRight f lines q → fault_at f lines p ≡ Some fault → p < q → ⊥
  no_earlier_fault p q fault right is less = let none = right.right p less in cc

  one_end : (a b : List Run) → (one : IsImageOfText f lines a) → (two : IsImageOfText f lines b) → one.place ≡ two.place
  one_end a b one two = ⊎_elim
      (λ less. absurd (no_earlier_end one.place two.place two.before one.ends less))
      (λ most. ⊎_elim (λ less. absurd (no_earlier_end two.place one.place one.before two.ends less)) (λ least. omega (arith, most, least))
      (cases_lt two.place one.place))
      (cases_lt one.place two.place)

  pub one_text_image : (a b : List Run) → IsImageOfText f lines a → IsImageOfText f lines b → a ≡ b
  one_text_image a b one two =
      let place = one_end a b one two in
      one_list 0 (2 ^ 32) a b one.image_is.maximal two.image_is.maximal (λ x. one.image_is.same x
      ∙ ap (λ (n : ℕ). held (cells_before f lines n) x) place ∙ sym (two.image_is.same x))

  pub image_or_fault : (image : List Run) (line : ℕ) (fault : F) → IsImageOfText f lines image → IsFaultOfLine f lines line fault → ⊥
  image_or_fault image line fault one two = ⊎_elim
      (λ less. no_earlier_end one.place two.place two.before one.ends less)
      (λ most. ⊎_elim
      (λ (less : two.place < one.place). no_earlier_fault two.place one.place fault one.before two.fault_is less)
      (λ (least : one.place ≤ two.place).
      let same : two.place ≡ one.place = omega (arith, most, least) in
      let is : fault_at f lines one.place ≡ Some fault = subst (λ (n : ℕ). fault_at f lines n ≡ Some fault) same two.fault_is in
      let none = one.right in
      cc)
      (cases_lt two.place one.place))
      (cases_lt one.place two.place)

  pub image_or_no_end : (image : List Run) (line : ℕ) → IsImageOfText f lines image → HasNoEnd f lines line → ⊥
  image_or_no_end image line one two = no_earlier_end one.place (length lines) two.all one.ends one.inside

  pub fault_or_no_end : (line other : ℕ) (fault : F) → IsFaultOfLine f lines line fault → HasNoEnd f lines other → ⊥
  fault_or_no_end line other fault one two = no_earlier_fault one.place (length lines) fault two.all one.fault_is one.inside

  pub record IsSameFault (line other : ℕ) (a b : F) : Type 0 where
    pub line_is : line ≡ other
    pub fault_is : a ≡ b

  pub one_line_fault : (line other : ℕ) (a b : F) → IsFaultOfLine f lines line a → IsFaultOfLine f lines other b → IsSameFault line other a b
  one_line_fault line other a b one two =
      let place : one.place ≡ two.place = ⊎_elim
      (λ less. absurd (no_earlier_fault one.place two.place a two.before one.fault_is less))
      (λ most. ⊎_elim (λ less. absurd (no_earlier_fault two.place one.place b one.before two.fault_is less)) (λ least. omega (arith, most, least))
      (cases_lt two.place one.place))
      (cases_lt one.place two.place) in
      let is : fault_at f lines two.place ≡ Some a = subst (λ (n : ℕ). fault_at f lines n ≡ Some a) place one.fault_is in
      let other_is = two.fault_is in
      record { line_is = one.line_is ∙ ap (λ (n : ℕ). line_number (n + 1)) place ∙ sym two.line_is; fault_is = cc }

  pub one_no_end : (line other : ℕ) → HasNoEnd f lines line → HasNoEnd f lines other → line ≡ other
  one_no_end line other one two = one.line_is ∙ sym two.line_is

  -- a text that has an image has no fault but out of memory
  pub image_or_text_fault : (image : List Run) (fault : TextFault F) → IsImageOfText f lines image → IsTextFault f lines fault → IsMemoryFault fault
  image_or_text_fault image (Line line fault) one two = image_or_fault image line fault one two
  image_or_text_fault image (NoEnd line) one two = image_or_no_end image line one two
  image_or_text_fault image OutOfMemory one two = tt

  -- a text has at most one fault besides out of memory
  pub one_text_fault : (a b : TextFault F) → IsTextFault f lines a → IsTextFault f lines b → (IsMemoryFault a → ⊥) → (IsMemoryFault b → ⊥) → a ≡ b
  one_text_fault (Line line a) (Line other b) one two no_a no_b =
      let same = one_line_fault line other a b one two in
      ap (λ (n : ℕ). Line n a) same.line_is ∙ ap (λ (x : F). Line other x) same.fault_is
  one_text_fault (Line line a) (NoEnd other) one two no_a no_b = absurd (fault_or_no_end line other a one two)
  one_text_fault (NoEnd line) (Line other b) one two no_a no_b = absurd (fault_or_no_end other line b two one)
  one_text_fault (NoEnd line) (NoEnd other) one two no_a no_b = ap NoEnd (one_no_end line other one two)
  one_text_fault OutOfMemory b one two no_a no_b = absurd (no_a tt)
  one_text_fault a OutOfMemory one two no_a no_b = absurd (no_b tt)
