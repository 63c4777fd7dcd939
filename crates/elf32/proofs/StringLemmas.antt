-- Laws of strings in tables. A name is the bytes up to the first zero.
use Rattle.std.proofs.Common.{◌≡◌, ℕ, ◌+◌, ◌-◌, ◌<◌, ◌≤◌, Bool, true, false, List, length, take, drop, get_or, Option, Some, None, refl, sym, ap, ◌∙◌, arith}
use Rattle.std.proofs.Common.{cond, min, ltb, ⊎_elim}
use Rattle.std.specs.Prelude.{position, MatchOption}
use Rattle.std.specs.Borrow.{Bor}
use Rattle.std.specs.List.{before_first, position_or_len}
use Rattle.std.proofs.lemmas.Bool.{ltb-true, ltb-false, eqb-true, lt-ltb, cases_lt}
use Rattle.std.proofs.lemmas.Bool.Decides.{nat_tests}
use Rattle.std.proofs.lemmas.List.{take-take, length-take, length-drop, get_or-drop, get_or-take}
use Rattle.std.proofs.lemmas.List.Sums.{position_or_len_is, fails_before_first, passes_at_first}
use Rattle.elf32.specs.Strings.{is_zero, string_at, EndsAt, IsWithin}

-- the first place that passes in the first n bytes
position_or_len-take : (p : ℕ → Bool) (xs : List ℕ) (n : ℕ) → n ≤ length xs → position_or_len p (take n xs) ≡ min n (position_or_len p xs)
position_or_len-take p xs n within = position_or_len_is p (take n xs) (min n (position_or_len p xs)) 0
    (omega (arith, length-take n xs))
    (λ k below. rw (get_or-take n xs k 0 (omega arith)) (fails_before_first p xs k 0 (omega arith)))
    (λ inside.
    let short : position_or_len p xs < n = omega (arith, length-take n xs) in
    let z : min n (position_or_len p xs) ≡ position_or_len p xs = omega arith in
    rw (z, get_or-take n xs (position_or_len p xs) 0 short) (passes_at_first p xs 0 (omega arith)))

some_is : (b : Bool) (a x : ℕ) → cond b (Some a) None ≡ Some x → (b ≡ true) × (a ≡ x)
some_is true a x same = (refl, cc)
some_is false a x same = cc

none_is : (b : Bool) (a : ℕ) → cond b (Some a) None ≡ None → b ≡ false
none_is true a same = cc
none_is false a same = refl

-- a zero byte within the limit is found
pub found_within : (rest : List ℕ) (limit len : ℕ) → position_or_len is_zero rest < length rest
    → position is_zero (take (min (length rest) (limit + 1)) rest) ≡ Some len
    → (take len (take (min (length rest) (limit + 1)) rest) ≡ before_first is_zero rest) × (position_or_len is_zero rest ≤ limit)
found_within rest limit len ends found =
    let n = min (length rest) (limit + 1) in
    let z = position_or_len is_zero rest in
    let here : position_or_len is_zero (take n rest) ≡ min n z = position_or_len-take is_zero rest n (omega arith) in
    let long : length (take n rest) ≡ n = omega (arith, length-take n rest) in
    let parts = some_is (ltb (position_or_len is_zero (take n rest)) (length (take n rest))) (position_or_len is_zero (take n rest)) len found in
    let low : position_or_len is_zero (take n rest) < length (take n rest) = ltb-true _ _ parts.0 in
    let is : len ≡ z = omega (arith, here, long, low, parts.1) in
    (rw is (take-take z n rest (omega (arith, here, long, low))), omega (arith, here, long, low))

-- if no zero byte is found within the limit, the string is longer
pub missed_within : (rest : List ℕ) (limit : ℕ) → position_or_len is_zero rest < length rest
    → position is_zero (take (min (length rest) (limit + 1)) rest) ≡ None → limit < position_or_len is_zero rest
missed_within rest limit ends missed =
    let n = min (length rest) (limit + 1) in
    let here : position_or_len is_zero (take n rest) ≡ min n (position_or_len is_zero rest) = position_or_len-take is_zero rest n (omega arith) in
    let long : length (take n rest) ≡ n = omega (arith, length-take n rest) in
    let high = none_is (ltb (position_or_len is_zero (take n rest)) (length (take n rest))) (position_or_len is_zero (take n rest)) missed in
    omega (arith, here, long, ltb-false _ _ high)

not_below : (a b : ℕ) → b ≤ a → ltb a b ≡ false
not_below a b h = grind (arith, nat_tests)

-- a string begins before the last zero byte of its table
pub ends_before : (table : List ℕ) (ended at : ℕ) → EndsAt table ended → at < ended → position_or_len is_zero (drop at table) < length (drop at table)
ends_before table ended at ends before = ⊎_elim
    (λ inside. inside)
    (λ past.
    let k = ended - 1 - at in
    let there : at + k ≡ ended - 1 = omega arith in
    let short : k < position_or_len is_zero (drop at table) = omega (arith, past, length-drop at table, ends.within) in
    let zero_byte : get_or (drop at table) k 0 ≡ 0 = get_or-drop at table k 0 ∙ rw there (ends.zero (omega arith)) in
    let other = fails_before_first is_zero (drop at table) k 0 short in
    let no : true ≡ false = rw zero_byte at other in cc)
    (cases_lt (position_or_len is_zero (drop at table)) (length (drop at table)))

-- no string begins at or after the end of the last zero byte of its table
pub none_behind : (table : List ℕ) (ended at : ℕ) → EndsAt table ended → ended ≤ at → string_at table at ≡ None
unfolding string_at
none_behind table ended at ends behind = ⊎_elim
    (λ inside.
    let z = position_or_len is_zero (drop at table) in
    let here : is_zero (get_or (drop at table) z 0) ≡ true = passes_at_first is_zero (drop at table) 0 inside in
    let byte : get_or table (at + z) 0 ≡ 0 = sym (get_or-drop at table z 0) ∙ eqb-true _ _ here in
    absurd (ends.beyond (at + z) (omega arith) (omega (arith, inside, length-drop at table)) byte))
    (λ past. rw (not_below (position_or_len is_zero (drop at table)) (length (drop at table)) past) refl)
    (cases_lt (position_or_len is_zero (drop at table)) (length (drop at table)))

-- the string at a place that a zero byte follows
pub string_at-some : (table : List ℕ) (at : ℕ) → position_or_len is_zero (drop at table) < length (drop at table)
    → string_at table at ≡ Some (before_first is_zero (drop at table))
unfolding string_at
string_at-some table at inside = rw (lt-ltb (position_or_len is_zero (drop at table)) (length (drop at table)) inside) refl

-- what is lent for the string at a place
pub lent_within : (table rest : List ℕ) (at limit : ℕ) (lent : Option (Bor (List ℕ))) → rest ≡ drop at table
    → position_or_len is_zero rest < length rest
    → MatchOption lent (limit < position_or_len is_zero rest) (λ text. (text.now ≡ before_first is_zero rest) × (position_or_len is_zero rest ≤ limit))
    → IsWithin limit (string_at table at) lent
lent_within table rest at limit None from inside lent =
    rw (string_at-some table at (rw from at inside)) (omega (
      arith,
      length-take (position_or_len is_zero (drop at table)) (drop at table),
      rw from at inside,
      rw from at lent,
    ))
lent_within table rest at limit (Some text) from inside lent = (
  string_at-some table at (rw from at inside) ∙ ap Some (rw (← from) (sym lent.0)),
  rw lent.0 (omega (arith, length-take (position_or_len is_zero rest) rest, lent.1)),
)
