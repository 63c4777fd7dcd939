-- The RAM as a window of an arena. All lemmas about loads, stores and clearing of a target's RAM use these.
use Rattle.std.proofs.Common.{◌≡◌, ◌≢◌, ◌<◌, ◌+◌, ℕ, zero, suc, List, [], ◌∷◌, ◌++◌, take, drop, length, get_or, set, append-nil, drop_of_length-le, refl, sym}
use Rattle.std.proofs.Common.{ap, subst, ◌∙◌, arith, length-set, get_or-set_same, get_or-set_other, set-set}
use lib.Seq.{set-get_or}
use Rattle.target_core.specs.Windows.{window_of, IsRam, OnlyIn}

pub window_set : (ws : List (List ℕ)) (i : ℕ) (x : List ℕ) → i < length ws → window_of (set ws i x) i ≡ x
window_set ws i x lt = get_or-set_same ws i x [] lt

pub ram_is : (ws ws' : List (List ℕ)) (i : ℕ) (x : List ℕ) → ws' ≡ set ws i x → i < length ws → window_of ws' i ≡ x
ram_is ws ws' i x is lt = ap (λ (l : List (List ℕ)). window_of l i) is ∙ window_set ws i x lt

none : (i : ℕ) → i < 0 → ⊥
none i lt = omega (arith, lt)

-- one window was set, and no other changed
pub only_set : (ws ws' : List (List ℕ)) (i : ℕ) (x : List ℕ) → ws' ≡ set ws i x → i < length ws → OnlyIn i ws ws'
only_set ws ws' i x is lt = is ∙ ap (λ (l : List ℕ). set ws i l) (sym (ram_is ws ws' i x is lt))

pub only_here : (ws : List (List ℕ)) (i : ℕ) → OnlyIn i ws ws
only_here ws i = sym (set-get_or ws i [])

pub only_same : (ws ws' : List (List ℕ)) (i : ℕ) → ws' ≡ ws → OnlyIn i ws ws'
only_same ws ws' i is = subst (λ (l : List (List ℕ)). OnlyIn i ws l) (sym is) (only_here ws i)

pub only_then : (ws ws' ws'' : List (List ℕ)) (i : ℕ) → OnlyIn i ws ws' → OnlyIn i ws' ws'' → OnlyIn i ws ws''
only_then ws ws' ws'' i one two = two ∙ ap (λ (l : List (List ℕ)). set l i (window_of ws'' i)) one ∙ set-set ws i (window_of ws' i) (window_of ws'' i)

pub ram_set : (ws ws' : List (List ℕ)) (i size : ℕ) (x : List ℕ) → ws' ≡ set ws i x → IsRam ws i size → length x ≡ size → IsRam ws' i size
ram_set ws ws' i size x is ram long = (
  omega (arith, ap (λ (l : List (List ℕ)). length l) is, length-set ws i x, ram.0),
  ap (λ (l : List ℕ). length l) (ram_is ws ws' i x is ram.0) ∙ long,
)

-- every other window stays
pub other_stays : (ws ws' : List (List ℕ)) (i j : ℕ) → OnlyIn i ws ws' → j ≢ i → window_of ws' j ≡ window_of ws j
other_stays ws ws' i j only other = ap (λ (l : List (List ℕ)). window_of l j) only ∙ get_or-set_other ws i j (window_of ws' i) [] other

pub other_ram : (ws ws' : List (List ℕ)) (i j size : ℕ) → OnlyIn i ws ws' → j ≢ i → IsRam ws j size → IsRam ws' j size
other_ram ws ws' i j size only other ram = (
  omega (arith, ap (λ (l : List (List ℕ)). length l) only, length-set ws i (window_of ws' i), ram.0),
  ap (λ (l : List ℕ). length l) (other_stays ws ws' i j only other) ∙ ram.1,
)

-- bytes that are read one by one
pub read_on : (d o : List ℕ) (i : ℕ) → i < length o → i < length d → set (take i d ++ drop i o) i (get_or d i 0) ≡ take (i + 1) d ++ drop (i + 1) o
read_on d [] i lt in' = absurd (none i lt)
read_on [] (x ∷ o) i lt in' = absurd (none i in')
read_on (y ∷ d) (x ∷ o) zero lt in' = refl
read_on (y ∷ d) (x ∷ o) (suc i) lt in' =
    let next : suc i + 1 ≡ suc (i + 1) = omega arith in
    rw next (ap (λ (l : List ℕ). y ∷ l) (read_on d o i (omega (arith, lt)) (omega (arith, in'))))

pub read_all : (d o : List ℕ) (i : ℕ) → i ≡ length o → take i d ++ drop i o ≡ take (length o) d
read_all d o i all = ap (λ (k : ℕ). take k d ++ drop k o) all ∙ ap (λ (l : List ℕ). take (length o) d ++ l) (drop_of_length-le o (omega arith)) ∙
    append-nil (take (length o) d)
