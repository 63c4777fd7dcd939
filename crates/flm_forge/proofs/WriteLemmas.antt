-- Bytes that are added one after the other.
use Rattle.std.proofs.Common.{◌≡◌, ℕ, ◌+◌, ◌-◌, ◌<◌, ◌≤◌, List, [], ◌∷◌, ◌++◌, take, min, get_or, length, sym, ap, ◌∙◌, append_assoc, arith, ⊎_elim}
use Rattle.std.specs.Prelude.{replicate}
use Rattle.std.specs.List.{flat_map}
use Rattle.std.proofs.lemmas.Bool.{cases_lt}
use Rattle.std.proofs.lemmas.List.{append-nil, replicate_more, take_all, take_more}
use Rattle.std.proofs.lemmas.Grind.{flat_map-append}
use Rattle.flm_forge.specs.Device.{name_field}

-- the bytes after one item more
pub one_more : {X : Type 0} (f : X → List ℕ) (xs : List X) (i : ℕ) (d : X) (out new start : List ℕ)
    → i < length xs → out ≡ start ++ flat_map f (take i xs) → new ≡ out ++ f (get_or xs i d)
    → new ≡ start ++ flat_map f (take (i + 1) xs)
one_more f xs i d out new start less before added =
    let x = get_or xs i d in
    let g : flat_map f (take (i + 1) xs) ≡ flat_map f (take i xs) ++ f x =
    ap (flat_map f) (take_more xs i d less) ∙ flat_map-append f (take i xs) (x ∷ []) ∙ ap (λ (r : List ℕ). flat_map f (take i xs) ++ r) (append-nil (f x)) in
    added ∙ ap (λ (r : List ℕ). r ++ f x) before ∙ append_assoc start (flat_map f (take i xs)) (f x)
    ∙ ap (λ (r : List ℕ). start ++ r) (sym g)

-- parts that are added one after the other
pub six_parts : (start p1 p2 p3 p4 p5 p6 o1 o2 o3 o4 o5 o6 : List ℕ)
    → o1 ≡ start ++ p1 → o2 ≡ o1 ++ p2 → o3 ≡ o2 ++ p3 → o4 ≡ o3 ++ p4 → o5 ≡ o4 ++ p5 → o6 ≡ o5 ++ p6
    → o6 ≡ start ++ (p1 ++ (p2 ++ (p3 ++ (p4 ++ (p5 ++ (p6))))))
six_parts start p1 p2 p3 p4 p5 p6 o1 o2 o3 o4 o5 o6 e1 e2 e3 e4 e5 e6 =
    rw (e6, e5, e4, e3, e2, e1) (simp append_assoc)

pub eleven_parts : (start p1 p2 p3 p4 p5 p6 p7 p8 p9 p10 p11 o1 o2 o3 o4 o5 o6 o7 o8 o9 o10 o11 : List ℕ)
    → o1 ≡ start ++ p1 → o2 ≡ o1 ++ p2 → o3 ≡ o2 ++ p3 → o4 ≡ o3 ++ p4 → o5 ≡ o4 ++ p5 → o6 ≡ o5 ++ p6 → o7 ≡ o6 ++ p7 → o8 ≡ o7 ++ p8 → o9 ≡ o8 ++ p9 →
    o10 ≡ o9 ++ p10 → o11 ≡ o10 ++ p11
    → o11 ≡ start ++ (p1 ++ (p2 ++ (p3 ++ (p4 ++ (p5 ++ (p6 ++ (p7 ++ (p8 ++ (p9 ++ (p10 ++ (p11)))))))))))
eleven_parts start p1 p2 p3 p4 p5 p6 p7 p8 p9 p10 p11 o1 o2 o3 o4 o5 o6 o7 o8 o9 o10 o11 e1 e2 e3 e4 e5 e6 e7 e8 e9 e10 e11 =
    rw (e11, e10, e9, e8, e7, e6, e5, e4, e3, e2, e1) (simp append_assoc)

pub ten_parts : (p1 p2 p3 p4 p5 p6 p7 p8 p9 p10 o1 o2 o3 o4 o5 o6 o7 o8 o9 o10 : List ℕ)
    → o1 ≡ p1 → o2 ≡ o1 ++ p2 → o3 ≡ o2 ++ p3 → o4 ≡ o3 ++ p4 → o5 ≡ o4 ++ p5 → o6 ≡ o5 ++ p6 → o7 ≡ o6 ++ p7 → o8 ≡ o7 ++ p8 → o9 ≡ o8 ++ p9 → o10 ≡ o9 ++ p10
    → o10 ≡ p1 ++ (p2 ++ (p3 ++ ((p4 ++ (p5 ++ p6)) ++ (p7 ++ (p8 ++ (p9 ++ p10))))))
ten_parts p1 p2 p3 p4 p5 p6 p7 p8 p9 p10 o1 o2 o3 o4 o5 o6 o7 o8 o9 o10 e1 e2 e3 e4 e5 e6 e7 e8 e9 e10 =
    rw (e10, e9, e8, e7, e6, e5, e4, e3, e2, e1) (simp append_assoc)

-- the part of a name that is written: all of it, or its first 128 bytes
name_taken : (text : List ℕ) (len : ℕ) → len ≡ min (length text) 128 → take len text ≡ take 128 text
name_taken text len short = ⊎_elim
    (λ (below : length text < 128).
    let whole : len ≡ length text = omega arith in
    ap (λ (n : ℕ). take n text) whole ∙ take_all (length text) text (omega arith) ∙ sym (take_all 128 text (omega arith)))
    (λ (above : 128 ≤ length text). let most : len ≡ 128 = omega arith in ap (λ (n : ℕ). take n text) most)
    (cases_lt (length text) 128)

pub name_parts : (text : List ℕ) (len : ℕ) (start middle new : List ℕ) → len ≡ min (length text) 128 → middle ≡ start ++ take len text
    → new ≡ middle ++ replicate (128 - len) 0 → new ≡ start ++ name_field text
name_parts text len start middle new short first last =
    let left : 128 - len ≡ 128 - length text = omega arith in
    let named = name_taken text len short in
    rw (last, first, left, named) (append_assoc start (take 128 text) (replicate (128 - length text) 0))

-- the bytes after one zero more
pub zeros_more : (count : ℕ) (start out new : List ℕ) → out ≡ start ++ replicate count 0 → new ≡ out ++ 0 ∷ [] → new ≡ start ++ replicate (count + 1) 0
zeros_more count start out new before added =
    added ∙ ap (λ (r : List ℕ). r ++ 0 ∷ []) before ∙ append_assoc start (replicate count 0) (0 ∷ []) ∙ ap (λ (r : List ℕ). start ++ r) (replicate_more count 0)
