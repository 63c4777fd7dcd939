-- One comparison decides whether an access lies in the RAM: below the RAM, the subtraction gives a number past the end of the remaining addresses.
use Rattle.std.proofs.Common.{◌≡◌, ◌<◌, ◌≤◌, ◌+◌, ◌-◌, ◌%◌, ◌^◌, min, ℕ, Bool, true, false, ◌||◌, nat_eq, nat_lt, if◌then◌else◌, Option, Some, None, refl, sym}
use Rattle.std.proofs.Common.{ap, arith, ⊎_elim, ◌*◌, ◌/◌, bit_or, eqb-true}
use Rattle.std.specs.Int.{w32, rotate_right}
use Rattle.std.specs.Int.Bits.{or_add_and, and_le_l, and_zero_r}
use Rattle.std.proofs.lemmas.Bool.{cases_lt, lt-ltb, le-ltb}
use Rattle.armv6m_step.specs.Ram.{place_of}
use Rattle.target_core.specs.Windows.{LiesApart}

first_of : (a b : Bool) (n : ℕ) → a ≡ true → ◌≡◌ {A = Option ℕ} None (if a || b then None else Some n)
first_of true b n is = refl
first_of false b n is = cc

second_of : (a b : Bool) (n : ℕ) → b ≡ true → ◌≡◌ {A = Option ℕ} None (if a || b then None else Some n)
second_of true b n is = refl
second_of false true n is = refl
second_of false false n is = cc

neither : (a b : Bool) (n m : ℕ) → a ≡ false → b ≡ false → m ≡ n → ◌≡◌ {A = Option ℕ} (Some m) (if a || b then None else Some n)
neither false false n m one two same = ap (λ (x : ℕ). let o : Option ℕ = Some x in o) same
neither false true n m one two same = cc
neither true b n m one two same = cc

pub outside : (base size reach at width offset : ℕ) → base < 2 ^ 32 → at < 2 ^ 32 → offset ≡ (at + (2 ^ 32 - base)) % 2 ^ 32 →
    reach ≡ min size (2 ^ 32 - base) → at + width ≤ 2 ^ 32 → reach < offset + width
    → None ≡ place_of base size at width
outside base size reach at width offset small fits is reaches ends past = ⊎_elim
    (λ (low : at < base). first_of (nat_lt at base) (nat_lt (base + size) (at + width)) (at - base) (lt-ltb at base low))
    (λ (high : base ≤ at).
    let place : offset ≡ at - base = omega (arith, is, high, fits, small) in
    let over : base + size < at + width = omega (arith, place, reaches, ends, past, high, small) in
    second_of (nat_lt at base) (nat_lt (base + size) (at + width)) (at - base) (lt-ltb (base + size) (at + width) over))
    (cases_lt at base)

pub inside : (base size reach at width offset : ℕ) → base < 2 ^ 32 → at < 2 ^ 32 → offset ≡ (at + (2 ^ 32 - base)) % 2 ^ 32 → reach ≡ min size (2 ^ 32 - base) →
    1 ≤ width → at + width ≤ 2 ^ 32 → offset + width ≤ reach
    → Some offset ≡ place_of base size at width
inside base size reach at width offset small fits is reaches some ends within = ⊎_elim
    (λ (low : at < base).
    let below : offset ≡ at + (2 ^ 32 - base) = omega (arith, is, low, small) in
    absurd (omega (arith, below, reaches, within, some, small)))
    (λ (high : base ≤ at).
    let place : offset ≡ at - base = omega (arith, is, high, fits, small) in
    let in_ram : at + width ≤ base + size = omega (arith, place, reaches, within, high) in
    neither (nat_lt at base) (nat_lt (base + size) (at + width)) (at - base) offset (le-ltb at base high) (le-ltb (base + size) (at + width) in_ram) place)
    (cases_lt at base)

pub apart_there : (base size block bytes at offset : ℕ) → LiesApart base size block bytes → block < 2 ^ 32 → at < 2 ^ 32 →
    offset ≡ (at + (2 ^ 32 - block)) % 2 ^ 32 → offset < bytes → (at ≡ block + offset) × (block % 4 ≡ 0) × (None ≡ place_of base size at 4)
apart_there base size block bytes at offset apart small fits is within =
    let lies = apart (omega (arith, within)) in
    let place : at ≡ block + offset = omega (arith, is, within, lies.1, small, fits) in (
      place,
      lies.0,
      ⊎_elim
          (λ (below : block < base + size).
          first_of (nat_lt at base) (nat_lt (base + size) (at + 4)) (at - base) (lt-ltb at base (omega (arith, place, within, lies.2 below))))
          (λ (above : base + size ≤ block).
          second_of (nat_lt at base) (nat_lt (base + size) (at + 4)) (at - base) (lt-ltb (base + size) (at + 4) (omega (arith, place, above))))
          (cases_lt block (base + size)),
    )

-- If a number rotated right by one bit is below 2^31, it was even. If a number rotated right by two bits is below 2^30, it was a multiple of 4.

above : (a b : ℕ) → b ≤ bit_or a b
above a b = omega (arith, or_add_and a b, and_le_l a b)

same_or : (a b : ℕ) → b ≡ 0 → bit_or a b ≡ a
same_or a b none = let e : bit_or a b ≡ bit_or a 0 = ap (bit_or a) none in omega (arith, e, or_add_and a 0, and_zero_r a)

by_one : (x limit : ℕ) → bit_or (x / 2) (x * 2 ^ 31 % 2 ^ 32) < limit → limit ≤ 2 ^ 31 → (x % 2 ≡ 0) × (bit_or (x / 2) (x * 2 ^ 31 % 2 ^ 32) ≡ x / 2)
by_one x limit below most =
    let high : x * 2 ^ 31 % 2 ^ 32 < 2 ^ 31 = omega (arith, above (x / 2) (x * 2 ^ 31 % 2 ^ 32), below, most) in
    let none : x * 2 ^ 31 % 2 ^ 32 ≡ 0 = omega (arith, high) in
    (omega (arith, none), same_or (x / 2) (x * 2 ^ 31 % 2 ^ 32) none)

by_two : (x limit : ℕ) → bit_or (x / 4) (x * 2 ^ 30 % 2 ^ 32) < limit → limit ≤ 2 ^ 30 → (x % 4 ≡ 0) × (bit_or (x / 4) (x * 2 ^ 30 % 2 ^ 32) ≡ x / 4)
by_two x limit below most =
    let high : x * 2 ^ 30 % 2 ^ 32 < 2 ^ 30 = omega (arith, above (x / 4) (x * 2 ^ 30 % 2 ^ 32), below, most) in
    let none : x * 2 ^ 30 % 2 ^ 32 ≡ 0 = omega (arith, high) in
    (omega (arith, none), same_or (x / 4) (x * 2 ^ 30 % 2 ^ 32) none)

-- an index below the count of steps is below the steps in reach, and the base is a multiple of a step
some_step : (fits : Bool) (steps count : ℕ) (i : ℕ) → count ≡ (if fits then steps else 0) → i < count → (fits ≡ true) × (i < steps)
some_step true steps count i is some = (refl, omega (arith, is, some))
some_step false steps count i is some = absurd (omega (arith, is, some))

pub half_inside : (base size reach halves at index : ℕ) → base < 2 ^ 32 → at < 2 ^ 32 → size < 2 ^ 32 → reach ≡ min size (2 ^ 32 - base) →
    halves ≡ (if nat_eq (base % 2) 0 then reach / 2 else 0)
    → index ≡ rotate_right w32 ((at + (2 ^ 32 - base)) % 2 ^ 32) 1 → index < halves → (at % 2 ≡ 0) × (Some (2 * index) ≡ place_of base size at 2) ×
    (2 * index + 2 ≤ size)
half_inside base size reach halves at index small fits short reaches counts is below =
    let x : ℕ = (at + (2 ^ 32 - base)) % 2 ^ 32 in
    let some = some_step (nat_eq (base % 2) 0) (reach / 2) halves index counts below in
    let even : base % 2 ≡ 0 = eqb-true _ _ some.0 in
    let turned = by_one x (reach / 2) (omega (arith, is, some.1)) (omega (arith, reaches, short)) in
    let place : x ≡ 2 * index = omega (arith, turned.0, turned.1, is) in (
      omega (arith, turned.0, even, fits, small),
      inside base size reach at 2 (2 * index) small fits (sym place) reaches (omega arith) (omega (arith, turned.0, even, fits, small)) (omega (arith, some.1)),
      omega (arith, some.1, reaches),
    )

pub word_inside : (base size reach words at index : ℕ) → base < 2 ^ 32 → at < 2 ^ 32 → size < 2 ^ 32 → reach ≡ min size (2 ^ 32 - base) →
    words ≡ (if nat_eq (base % 4) 0 then reach / 4 else 0)
    → index ≡ rotate_right w32 ((at + (2 ^ 32 - base)) % 2 ^ 32) 2 → index < words → (at % 4 ≡ 0) × (Some (4 * index) ≡ place_of base size at 4) ×
    (4 * index + 4 ≤ size)
word_inside base size reach words at index small fits short reaches counts is below =
    let x : ℕ = (at + (2 ^ 32 - base)) % 2 ^ 32 in
    let some = some_step (nat_eq (base % 4) 0) (reach / 4) words index counts below in
    let even : base % 4 ≡ 0 = eqb-true _ _ some.0 in
    let turned = by_two x (reach / 4) (omega (arith, is, some.1)) (omega (arith, reaches, short)) in
    let place : x ≡ 4 * index = omega (arith, turned.0, turned.1, is) in (
      omega (arith, turned.0, even, fits, small),
      inside base size reach at 4 (4 * index) small fits (sym place) reaches (omega arith) (omega (arith, turned.0, even, fits, small)) (omega (arith, some.1)),
      omega (arith, some.1, reaches),
    )
