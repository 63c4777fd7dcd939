-- A window that is written byte by byte.
use Rattle.std.proofs.Common.{◌≡◌, ◌<◌, ◌≤◌, ◌+◌, ℕ, zero, suc, List, [], ◌∷◌, ◌++◌, length, get_or, set, take, replicate, refl, sym, ap, ◌∙◌, arith}
use Rattle.std.proofs.Common.{append-nil, get_or-set_same, set-set, take-suc, length-take-le, drop_of_length-le}
use lib.ListN.{length-replicate}
use lib.Seq.{sets, sets-eq, length-sets, set-get_or, take-length}
use Rattle.ram_arena.specs.Windows.{laid}

-- a window after one more byte is stored
pub step : (ws : List (List ℕ)) (i : ℕ) (w : List ℕ) (o v : ℕ) → i < length ws → set (set ws i w) i (set (get_or (set ws i w) i []) o v) ≡ set ws i (set w o v)
step ws i w o v lt = ap (λ (l : List ℕ). set (set ws i w) i (set l o v)) (get_or-set_same ws i w [] lt) ∙ set-set ws i w (set w o v)

sets_more : (l : List ℕ) (i : ℕ) (us : List ℕ) (a : ℕ) → sets l i (us ++ a ∷ []) ≡ set (sets l i us) (i + length us) a
sets_more l i [] a = ap (λ (k : ℕ). set l k a) (omega arith)
sets_more l i (u ∷ us) a = sets_more (set l i u) (suc i) us a ∙ ap (λ (k : ℕ). set (sets (set l i u) (suc i) us) k a) (omega arith)

replicate_more : (k v : ℕ) → replicate (k + 1) v ≡ replicate k v ++ v ∷ []
replicate_more zero v = refl
replicate_more (suc k) v = let e : suc k + 1 ≡ suc (k + 1) = omega arith in rw e (ap (λ (l : List ℕ). v ∷ l) (replicate_more k v))

-- a window whose first `k` bytes were set to `v`
abbrev pub filled : ℕ → ℕ → List ℕ → List ℕ
filled k v w = sets w 0 (replicate k v)

abbrev pub copied : ℕ → ℕ → List ℕ → List ℕ → List ℕ
copied k at bytes w = sets w at (take k bytes)

pub fill_on : (ws : List (List ℕ)) (i k v : ℕ) (w : List ℕ) → i < length ws →
    set (set ws i (filled k v w)) i (set (get_or (set ws i (filled k v w)) i []) k v) ≡ set ws i (filled (k + 1) v w)
fill_on ws i k v w lt =
    let long : 0 + length (replicate {A = ℕ} k v) ≡ k = omega (arith, length-replicate {A = ℕ} k v) in
    step ws i (filled k v w) k v lt
    ∙ ap (λ (l : List ℕ). set ws i l) (ap (λ (n : ℕ). set (filled k v w) n v) (sym long) ∙ sym (sets_more w 0 (replicate k v) v) ∙
    ap (λ (l : List ℕ). sets w 0 l) (sym (replicate_more k v)))

pub fill_done : (v : ℕ) (w : List ℕ) → filled (length w) v w ≡ replicate (length w) v
fill_done v w =
    let long : length (replicate {A = ℕ} (length w) v) ≡ length w = length-replicate {A = ℕ} (length w) v in
    sets-eq (replicate (length w) v) w 0 (omega (arith, long))
    ∙ ap (λ (l : List ℕ). replicate (length w) v ++ l) (drop_of_length-le w (omega (arith, long)))
    ∙ append-nil (replicate (length w) v)

pub copy_on : (ws : List (List ℕ)) (i k at : ℕ) (bytes w : List ℕ) → i < length ws → k < length bytes
    → set (set ws i (copied k at bytes w)) i (set (get_or (set ws i (copied k at bytes w)) i []) (at + k) (get_or bytes k 0)) ≡ set ws i
    (copied (k + 1) at bytes w)
copy_on ws i k at bytes w lt more =
    let long : length (take k bytes) ≡ k = length-take-le k bytes (omega (arith, more)) in
    let next : k + 1 ≡ suc k = omega arith in
    step ws i (copied k at bytes w) (at + k) (get_or bytes k 0) lt
    ∙ ap (λ (l : List ℕ). set ws i l) (ap (λ (n : ℕ). set (copied k at bytes w) (at + n) (get_or bytes k 0)) (sym long) ∙
    sym (sets_more w at (take k bytes) (get_or bytes k 0)) ∙
    ap (λ (l : List ℕ). sets w at l) (sym (take-suc bytes k 0 more) ∙ ap (λ (n : ℕ). take n bytes) (sym next)))

pub copy_done : (at : ℕ) (bytes w : List ℕ) → at + length bytes ≤ length w → copied (length bytes) at bytes w ≡ laid at bytes w
copy_done at bytes w le = ap (λ (l : List ℕ). sets w at l) (take-length bytes) ∙ sets-eq bytes w at le

pub nothing_yet : (ws : List (List ℕ)) (i : ℕ) → set ws i (get_or ws i []) ≡ ws
nothing_yet ws i = set-get_or ws i []

pub still_long : (k v : ℕ) (w : List ℕ) → length (filled k v w) ≡ length w
still_long k v w = length-sets w 0 (replicate k v)

pub copy_long : (k at : ℕ) (bytes w : List ℕ) → length (copied k at bytes w) ≡ length w
copy_long k at bytes w = length-sets w at (take k bytes)

pub fill_room : (ws ws' : List (List ℕ)) (i k v : ℕ) → ws' ≡ set ws i (filled k v (get_or ws i [])) → i < length ws →
    length (get_or ws' i []) ≡ length (get_or ws i [])
fill_room ws ws' i k v is lt = ap (λ (l : List (List ℕ)). length (get_or l i [])) is ∙
    ap (λ (l : List ℕ). length l) (get_or-set_same ws i (filled k v (get_or ws i [])) [] lt) ∙ still_long k v (get_or ws i [])

pub copy_room : (ws ws' : List (List ℕ)) (i k at : ℕ) (bytes : List ℕ) → ws' ≡ set ws i (copied k at bytes (get_or ws i [])) → i < length ws →
    length (get_or ws' i []) ≡ length (get_or ws i [])
copy_room ws ws' i k at bytes is lt = ap (λ (l : List (List ℕ)). length (get_or l i [])) is ∙
    ap (λ (l : List ℕ). length l) (get_or-set_same ws i (copied k at bytes (get_or ws i [])) [] lt) ∙ copy_long k at bytes (get_or ws i [])
