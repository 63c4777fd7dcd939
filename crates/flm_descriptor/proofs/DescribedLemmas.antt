-- Laws of a description in memory.
use Rattle.std.proofs.Common.{◌≡◌, ℕ, ◌+◌, ◌-◌, List, ◌++◌, ◌∷◌, [], take, drop, refl, arith, zero-add}
use Rattle.std.specs.Prelude.{map}
use Rattle.std.specs.List.{range_with_len}
use Rattle.std.proofs.lemmas.List.FromFn.{map-range_with_len_more}
use Rattle.flm_descriptor.specs.Described.{item_at}

-- the items with one more
pub items_more : (bytes : List ℕ) (at n : ℕ) → map (item_at bytes at) (range_with_len 0 (n + 1)) ≡ map (item_at bytes at) (range_with_len 0 n) ++ item_at bytes
    at n ∷ []
items_more bytes at n = map-range_with_len_more (item_at bytes at) 0 n n (zero-add n)

-- the 128 bytes of the name
pub name_part : (bytes : List ℕ) (at : ℕ) → take (at + 130 - (at + 2)) (drop (at + 2) bytes) ≡ take 128 (drop (at + 2) bytes)
name_part bytes at = let e : at + 130 - (at + 2) ≡ 128 = omega arith in rw e refl
