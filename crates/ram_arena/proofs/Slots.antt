-- A full list of slots: the byte at a place, and the bytes after a store.
use Rattle.std.proofs.Common.{◌≡◌, ◌<◌, ◌+◌, ◌-◌, ℕ, zero, suc, List, [], ◌∷◌, map, length, get_or, set, replicate, slice_index, Option, Some, None, refl, sym}
use Rattle.std.proofs.Common.{ap, subst, ◌∙◌, arith, length-set}
use lib.ListN.{length-map, length-replicate}
use Rattle.ram_arena.specs.Slots.{somes, IsFull}

somes_map : (xs : List ℕ) → somes (map Some xs) ≡ xs
somes_map [] = refl
somes_map (x ∷ xs) = ap (λ (l : List ℕ). x ∷ l) (somes_map xs)

map_at : (xs : List ℕ) (i : ℕ) → i < length (map Some xs) → get_or (map Some xs) i None ≡ Some (get_or xs i 0)
map_at [] i lt = absurd (omega arith)
map_at (x ∷ xs) zero lt = refl
map_at (x ∷ xs) (suc i) lt = map_at xs i (omega arith)

map_set : (xs : List ℕ) (i v : ℕ) → set (map Some xs) i (Some v) ≡ map Some (set xs i v)
map_set [] i v = refl
map_set (x ∷ xs) zero v = refl
map_set (x ∷ xs) (suc i) v = ap (λ (l : List (Option ℕ)). Some x ∷ l) (map_set xs i v)

-- the byte at a place
pub full_at : (cs : List (Option ℕ)) → IsFull cs → (i : ℕ) → i < length cs → get_or cs i None ≡ Some (slice_index (somes cs) i)
full_at cs full i lt = ap (λ (l : List (Option ℕ)). get_or l i None) full ∙ map_at (somes cs) i (subst (λ (l : List (Option ℕ)). i < length l) full lt)

pub full_length : (cs : List (Option ℕ)) → IsFull cs → length (somes cs) ≡ length cs
full_length cs full = sym (length-map (somes cs) Some) ∙ ap length (sym full)

-- the bytes after a store
pub somes_set : (cs : List (Option ℕ)) → IsFull cs → (i v : ℕ) → somes (set cs i (Some v)) ≡ set (somes cs) i v
somes_set cs full i v = ap (λ (l : List (Option ℕ)). somes (set l i (Some v))) full ∙ ap somes (map_set (somes cs) i v) ∙ somes_map (set (somes cs) i v)

pub full_set : (cs : List (Option ℕ)) → IsFull cs → (i v : ℕ) → IsFull (set cs i (Some v))
full_set cs full i v = ap (λ (l : List (Option ℕ)). set l i (Some v)) full ∙ map_set (somes cs) i v ∙ ap (map Some) (sym (somes_set cs full i v))

-- a number of zero bytes, then a number of slots that aren't written yet
abbrev pub zeros_to : ℕ → ℕ → List (Option ℕ)
zeros_to zero rest = replicate rest None
zeros_to (suc at) rest = Some 0 ∷ zeros_to at rest

set_next : (at rest : ℕ) → set (zeros_to at (suc rest)) at (Some 0) ≡ zeros_to (suc at) rest
set_next zero rest = refl
set_next (suc at) rest = ap (λ (l : List (Option ℕ)). Some 0 ∷ l) (set_next at rest)

pub zeros_on : (at size : ℕ) → at < size → set (zeros_to at (size - at)) at (Some 0) ≡ zeros_to (at + 1) (size - (at + 1))
zeros_on at size lt =
    let more : size - at ≡ suc (size - (at + 1)) = omega (arith, lt) in
    let next : at + 1 ≡ suc at = omega arith in
    rw (more, next) (set_next at (size - suc at))

pub zeros_length : (at rest : ℕ) → length (zeros_to at rest) ≡ at + rest
zeros_length zero rest = length-replicate rest None ∙ omega arith
zeros_length (suc at) rest = ap suc (zeros_length at rest) ∙ omega arith

pub zeros_end : (at size : ℕ) (cs : List (Option ℕ)) → at ≡ size → cs ≡ zeros_to at (size - at) → cs ≡ zeros_to size 0
zeros_end at size cs same is =
    let none : size - at ≡ 0 = omega (arith, same) in
    is ∙ ap (λ (n : ℕ). zeros_to at n) none ∙ ap (λ (n : ℕ). zeros_to n 0) same

pub zeros_somes : (size : ℕ) → somes (zeros_to size 0) ≡ replicate size 0
zeros_somes zero = refl
zeros_somes (suc size) = ap (λ (l : List ℕ). 0 ∷ l) (zeros_somes size)

pub zeros_full : (size : ℕ) → IsFull (zeros_to size 0)
zeros_full zero = refl
zeros_full (suc size) = ap (λ (l : List (Option ℕ)). Some 0 ∷ l) (zeros_full size)

-- what stores keep of a full list of slots: its length, and that it is full; and the bytes it then has
pub record Kept (cs ds : List (Option ℕ)) (xs : List ℕ) : Type 0 where
  pub long : length ds ≡ length cs
  pub full : IsFull ds
  pub bytes : somes ds ≡ xs

pub start : (cs : List (Option ℕ)) → IsFull cs → Kept cs cs (somes cs)
start cs full = record { long = refl; full = full; bytes = refl }

pub on : {cs ds : List (Option ℕ)} {xs : List ℕ} → Kept cs ds xs → (i v : ℕ) → Kept cs (set ds i (Some v)) (set xs i v)
on {cs} {ds} {xs} kept i v = record {
  long = length-set ds i (Some v) ∙ kept.long;
  full = full_set ds kept.full i v;
  bytes = somes_set ds kept.full i v ∙ ap (λ (l : List ℕ). set l i v) kept.bytes;
}

pub by_name : {cs ds : List (Option ℕ)} {xs : List ℕ} (new : List (Option ℕ)) → new ≡ ds → Kept cs ds xs → Kept cs new xs
by_name {cs} {ds} {xs} new is kept = subst (λ (l : List (Option ℕ)). Kept cs l xs) (sym is) kept
