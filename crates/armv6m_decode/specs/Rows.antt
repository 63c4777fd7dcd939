-- Rows of an instruction table, and which row fits a halfword or a pair of halfwords.
use Rattle.std.specs.Prelude.{◌≡◌, ℕ, ◌+◌, ◌-◌, ◌/◌, ◌%◌, ◌^◌, Bool, IsTrue, nat_eq, ◌&&◌, List, [], ◌∷◌, Option, Some, None, slice_get, bit_and, if◌then◌else◌}
use Rattle.armv6m_decode.specs.declared.instr.Instr.{Instr}

-- A halfword fits a row if its bits under the mask are the row's value. The row's form makes the instruction from the halfword.
pub record Row : Type 0 where
  pub value : ℕ
  pub mask : ℕ
  pub form : ℕ → Instr

abbrev pub row : ℕ → ℕ → (ℕ → Instr) → Row
row value mask form = record { value = value; mask = mask; form = form }

abbrev pub fits : Row → ℕ → Bool
fits r half = nat_eq (bit_and half r.mask) r.value

-- the bits of a halfword from `high` down to `low`, as a number: the manual's half<high:low>
abbrev pub bits : ℕ → ℕ → ℕ → ℕ
bits high low half = half / 2 ^ low % 2 ^ (high - low + 1)

-- the instruction of the first row that fits a halfword
abbrev pub first_fit : List Row → ℕ → Option Instr
first_fit [] half = None
first_fit (r ∷ rs) half = if fits r half then Some (r.form half) else first_fit rs half

-- no two rows fit one halfword, so the first row that fits is the only one
abbrev pub AtMostOneFits : List Row → Type 0
AtMostOneFits rows = (i j half : ℕ) (r s : Row) → slice_get rows i ≡ Some r → slice_get rows j ≡ Some s → IsTrue (fits r half) → IsTrue (fits s half) → i ≡ j

-- ---- pairs of halfwords

-- A pair of halfwords fits a row if each halfword fits its own value and mask.
pub record PairRow : Type 0 where
  pub value : ℕ
  pub mask : ℕ
  pub second_value : ℕ
  pub second_mask : ℕ
  pub form : ℕ → ℕ → Instr

abbrev pub pair_row : ℕ → ℕ → ℕ → ℕ → (ℕ → ℕ → Instr) → PairRow
pair_row value mask second_value second_mask form = record { value = value; mask = mask; second_value = second_value; second_mask = second_mask; form = form }

abbrev pub fits_pair : PairRow → ℕ → ℕ → Bool
fits_pair r first second = nat_eq (bit_and first r.mask) r.value && nat_eq (bit_and second r.second_mask) r.second_value

abbrev pub first_fit_pair : List PairRow → ℕ → ℕ → Option Instr
first_fit_pair [] first second = None
first_fit_pair (r ∷ rs) first second = if fits_pair r first second then Some (r.form first second) else first_fit_pair rs first second

abbrev pub AtMostOneFitsPair : List PairRow → Type 0
AtMostOneFitsPair rows = (i j first second : ℕ) (r s : PairRow) → slice_get rows i ≡ Some r → slice_get rows j ≡ Some s → IsTrue (fits_pair r first second)
    → IsTrue (fits_pair s first second) → i ≡ j
