-- Parts at a place of some bytes, and what a reader finds there.
use Rattle.std.proofs.Common.{◌≡◌, ℕ, ◌+◌, ◌*◌, ◌<◌, ◌≤◌, List, [], ◌∷◌, ◌++◌, take, drop, get_or, length, refl, sym, ap, ◌∙◌, append_assoc, arith}
use Rattle.std.specs.List.{flat_map}
use Rattle.std.specs.Int.{w16, w32, from_le_bytes}
use Rattle.std.proofs.lemmas.List.{append-nil, length-append, length-take, take-append-drop, drop_more}
use Rattle.std.proofs.lemmas.Grind.{flat_map-append}
use Rattle.std.proofs.Math.Nat.{mul-suc, mul-zero}
use Rattle.std.proofs.Math.Seq.{drop-append_seam, drop-append-add, take-append_seam}
use Rattle.elf32.specs.Fields.{half, word}

pub record Stands (bytes part : List ℕ) (at : ℕ) : Type 0 where
  pub front : List ℕ
  pub rest : List ℕ
  pub bytes_are : bytes ≡ front ++ (part ++ rest)
  pub here : length front ≡ at

pub stands_whole : (bytes : List ℕ) → Stands bytes bytes 0
stands_whole bytes = record { front = []; rest = []; bytes_are = sym (append-nil bytes); here = refl }

pub stands_moved : (bytes part : List ℕ) (a b : ℕ) → Stands bytes part a → a ≡ b → Stands bytes part b
stands_moved bytes part a b s e = record { front = s.front; rest = s.rest; bytes_are = s.bytes_are; here = s.here ∙ e }

pub stands_same : (bytes part other : List ℕ) (at : ℕ) → Stands bytes part at → part ≡ other → Stands bytes other at
stands_same bytes part other at s e =
    record { front = s.front; rest = s.rest; bytes_are = s.bytes_are ∙ ap (λ (r : List ℕ). s.front ++ (r ++ s.rest)) e; here = s.here }

pub stands_left : (bytes a b : List ℕ) (at : ℕ) → Stands bytes (a ++ b) at → Stands bytes a at
stands_left bytes a b at s = record {
  front = s.front;
  rest = b ++ s.rest;
  bytes_are = s.bytes_are ∙ ap (λ (r : List ℕ). s.front ++ r) (append_assoc a b s.rest);
  here = s.here;
}

pub stands_right : (bytes a b : List ℕ) (at : ℕ) → Stands bytes (a ++ b) at → Stands bytes b (at + length a)
stands_right bytes a b at s = record {
  front = s.front ++ a;
  rest = s.rest;
  bytes_are = s.bytes_are ∙ ap (λ (r : List ℕ). s.front ++ r) (append_assoc a b s.rest) ∙ sym (append_assoc s.front a (b ++ s.rest));
  here = length-append s.front a ∙ ap (λ (n : ℕ). n + length a) s.here;
}

pub stands_drop : (bytes part : List ℕ) (at : ℕ) (s : Stands bytes part at) → drop at bytes ≡ part ++ s.rest
stands_drop bytes part at s =
    ap (λ (n : ℕ). drop n bytes) (sym s.here) ∙ ap (drop (length s.front)) s.bytes_are ∙ drop-append_seam s.front (part ++ s.rest)

pub stands_drop_more : (bytes part : List ℕ) (at j : ℕ) (s : Stands bytes part at) → drop (at + j) bytes ≡ drop j (part ++ s.rest)
stands_drop_more bytes part at j s =
    ap (λ (n : ℕ). drop (n + j) bytes) (sym s.here) ∙ ap (drop (length s.front + j)) s.bytes_are ∙ drop-append-add s.front (part ++ s.rest) j

-- the bytes of a part at its place are the part
pub stands_part : (bytes part : List ℕ) (at : ℕ) → Stands bytes part at → take (length part) (drop at bytes) ≡ part
stands_part bytes part at s = ap (take (length part)) (stands_drop bytes part at s) ∙ take-append_seam part s.rest

pub stands_inside : (bytes part : List ℕ) (at : ℕ) → Stands bytes part at → at + length part ≤ length bytes
stands_inside bytes part at s =
    omega (arith, s.here, ap length s.bytes_are, length-append s.front (part ++ s.rest), length-append part s.rest)

-- a field of a part is the same field of the whole bytes
pub stands_word : (bytes part : List ℕ) (at j : ℕ) (s : Stands bytes part at) → word bytes (at + j) ≡ word (part ++ s.rest) j
unfolding word
stands_word bytes part at j s = ap (λ (r : List ℕ). from_le_bytes w32 (take 4 r)) (stands_drop_more bytes part at j s)

pub stands_first : (bytes part : List ℕ) (at : ℕ) (s : Stands bytes part at) → word bytes at ≡ word (part ++ s.rest) 0
unfolding word
stands_first bytes part at s = ap (λ (r : List ℕ). from_le_bytes w32 (take 4 r)) (stands_drop bytes part at s)

pub stands_half : (bytes part : List ℕ) (at j : ℕ) (s : Stands bytes part at) → half bytes (at + j) ≡ half (part ++ s.rest) j
unfolding half
stands_half bytes part at j s = ap (λ (r : List ℕ). from_le_bytes w16 (take 2 r)) (stands_drop_more bytes part at j s)

-- one item among others of the same length
flat_map_split : {X : Type 0} (f : X → List ℕ) (xs : List X) (k : ℕ) (d : X) → k < length xs
    → flat_map f xs ≡ flat_map f (take k xs) ++ (f (get_or xs k d) ++ flat_map f (drop (k + 1) xs))
flat_map_split f xs k d less =
    ap (flat_map f) (sym (take-append-drop k xs)) ∙ flat_map-append f (take k xs) (drop k xs)
    ∙ ap (λ (r : List _). flat_map f (take k xs) ++ flat_map f r) (drop_more xs k d less)

pub length-items : {X : Type 0} (f : X → List ℕ) (width : ℕ) → ((x : X) → length (f x) ≡ width) → (xs : List X)
    → length (flat_map f xs) ≡ width * length xs
length-items f width wide [] = sym (mul-zero width)
length-items f width wide (x ∷ xs) =
    length-append (f x) (flat_map f xs) ∙ omega (arith, wide x, length-items f width wide xs, mul-suc width (length xs))

pub stands_item : {X : Type 0} (f : X → List ℕ) (width : ℕ) → ((x : X) → length (f x) ≡ width)
    → (bytes : List ℕ) (at : ℕ) (xs : List X) (k : ℕ) (d : X) → Stands bytes (flat_map f xs) at → k < length xs
    → Stands bytes (f (get_or xs k d)) (at + width * k)
stands_item f width wide bytes at xs k d s less =
    let before = flat_map f (take k xs) in
    let behind = flat_map f (drop (k + 1) xs) in
    let long : length before ≡ width * k =
    length-items f width wide (take k xs) ∙ ap (λ (n : ℕ). width * n) (omega (arith, length-take k xs)) in
    stands_moved bytes (f (get_or xs k d)) (at + length before) (at + width * k)
    (stands_left bytes (f (get_or xs k d)) behind (at + length before)
    (stands_right bytes before (f (get_or xs k d) ++ behind) at
    (stands_same bytes (flat_map f xs) (before ++ (f (get_or xs k d) ++ behind)) at s (flat_map_split f xs k d less))))
    (ap (λ (n : ℕ). at + n) long)
