-- The places of statements that follow each other.
use Rattle.std.proofs.Common.{◌≡◌, ◌≤◌, ◌<◌, ◌+◌, ℕ, suc, List, [], ◌∷◌, ◌++◌, length, get_or, take, drop, refl, sym, ap, ◌∙◌, arith, append_assoc}
use Rattle.std.proofs.lemmas.List.{append-nil, take_more, drop_more, take-append-drop}
use Rattle.armv6m_asm.specs.declared.statement.Statement.{Statement}
use Rattle.armv6m_asm.specs.declared.labels.Label.{Label}
use Rattle.armv6m_asm.specs.Assembly.{size_of, place_after, label_at, labels_of, named_by, destinations_of, IsRight, AreRead, AreBytesOf, AreBytes}

pub place_after-append : (from : ℕ) (first second : List Statement) → place_after from (first ++ second) ≡ place_after (place_after from first) second
place_after-append from [] second = refl
place_after-append from (s ∷ first) second = place_after-append (from + size_of s.operation from) first second

pub end_above : (from : ℕ) (statements : List Statement) → from ≤ place_after from statements
end_above from [] = omega arith
end_above from (s ∷ statements) = let later = end_above (from + size_of s.operation from) statements in omega (arith, later)

pub labels_of-append : (from : ℕ) (first second : List Statement) →
    labels_of from (first ++ second) ≡ labels_of from first ++ labels_of (place_after from first) second
labels_of-append from [] second = refl
labels_of-append from (s ∷ first) second =
    let next = from + size_of s.operation from in
    ap (λ (ls : List Label). label_at s.label from ++ ls) (labels_of-append next first second) ∙
    sym (append_assoc (label_at s.label from) (labels_of next first) (labels_of (place_after next first) second))

pub destinations_of-append : (first second : List Statement) → destinations_of (first ++ second) ≡ destinations_of first ++ destinations_of second
destinations_of-append [] second = refl
destinations_of-append (s ∷ first) second = ap (λ (ns : List (List ℕ)). named_by s.operation ++ ns) (destinations_of-append first second) ∙
    sym (append_assoc (named_by s.operation) (destinations_of first) (destinations_of second))

pub read_append : (from : ℕ) (lines : List (List ℕ)) (statements : List Statement) (line : List ℕ) (s : Statement) → AreRead from lines statements →
    IsRight line (place_after from statements) s → AreRead from (lines ++ line ∷ []) (statements ++ s ∷ [])
read_append from [] [] line s read right = (right, tt)
read_append from [] (t ∷ statements) line s read right = absurd read
read_append from (l ∷ lines) [] line s read right = absurd read
read_append from (l ∷ lines) (t ∷ statements) line s read right = (read.0, read_append (from + size_of t.operation from) lines statements line s read.1 right)

pub read_long : (from : ℕ) (lines : List (List ℕ)) (statements : List Statement) → AreRead from lines statements → length statements ≡ length lines
read_long from [] [] read = refl
read_long from [] (t ∷ statements) read = absurd read
read_long from (l ∷ lines) [] read = absurd read
read_long from (l ∷ lines) (t ∷ statements) read = ap suc (read_long (from + size_of t.operation from) lines statements read.1)

pub bytes_append : (labels : List Label) (from : ℕ) (statements : List Statement) (bytes : List ℕ) (s : Statement) (own : List ℕ) →
    AreBytes labels from statements bytes → length own ≡ size_of s.operation (place_after from statements) →
    AreBytesOf labels s.operation (place_after from statements) own
    → AreBytes labels from (statements ++ s ∷ []) (bytes ++ own)
bytes_append labels from [] bytes s own before long are = (own, [], ap (λ (bs : List ℕ). bs ++ own) before ∙ sym (append-nil own), long, are, refl)
bytes_append labels from (t ∷ statements) bytes s own before long are = (
  before.0,
  before.1 ++ own,
  ap (λ (bs : List ℕ). bs ++ own) before.2 ∙ append_assoc before.0 before.1 own,
  before.3,
  before.4,
  bytes_append labels (from + size_of t.operation from) statements before.1 s own before.5 long are,
)

-- a list is its part before a place, the element there, and its part after
pub split_at : {X : Type 0} (xs : List X) (k : ℕ) (d : X) → k < length xs → xs ≡ take k xs ++ get_or xs k d ∷ drop (k + 1) xs
split_at xs k d lt = sym (take-append-drop k xs) ∙ ap (λ ys. take k xs ++ ys) (drop_more xs k d lt)

-- the place after one statement more
pub end_more : (statements : List Statement) (k : ℕ) (d : Statement) → k < length statements →
    place_after 0 (take (k + 1) statements) ≡ place_after 0 (take k statements) + size_of (get_or statements k d).operation (place_after 0 (take k statements))
end_more statements k d lt = ap (place_after 0) (take_more statements k d lt) ∙ place_after-append 0 (take k statements) (get_or statements k d ∷ [])

-- the place after some of the statements is no higher than the end
pub place_after-take : (statements : List Statement) (k : ℕ) → place_after 0 (take k statements) ≤ place_after 0 statements
place_after-take statements k =
    let whole : place_after 0 statements ≡ place_after (place_after 0 (take k statements)) (drop k statements) =
    ap (place_after 0) (sym (take-append-drop k statements)) ∙ place_after-append 0 (take k statements) (drop k statements) in
    let above = end_above (place_after 0 (take k statements)) (drop k statements) in
    omega (arith, whole, above)
