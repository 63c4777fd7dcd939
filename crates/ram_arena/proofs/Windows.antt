-- Windows of one list of bytes: where they begin, how long they are, and what a store leaves.
use Rattle.std.proofs.Common.{◌≡◌, ◌<◌, ◌≤◌, ◌+◌, ◌/◌, ◌%◌, ℕ, zero, suc, List, [], ◌∷◌, ◌++◌, map, length, get_or, set, take, drop, replicate, slice_index}
use Rattle.std.proofs.Common.{refl, sym, ap, ◌∙◌, arith, length-take, length-drop, get_or-take, get_or-drop, get_or-set_same, set-set, drop-drop, drop-set-lt}
use Rattle.std.proofs.Common.{take-suc}
use lib.ListN.{length-map}
use lib.Seq.{take-set-le, take-set-lt, drop-set-add}
use Rattle.ram_arena.specs.Windows.{round_up, total, cut, sizes_of, LieFrom, begins, begin_of, blank}
use Rattle.ram_arena.specs.Words.{word16, word32, with16, with32}
use Rattle.ram_arena.specs.declared.window.Window.{Window}

up : (n : ℕ) → n ≤ round_up n
up n = omega arith

none : (i : ℕ) → i < 0 → ⊥
none i lt = omega (arith, lt)

pub within : (ns : List ℕ) (i : ℕ) → i < length ns → begins ns i + get_or ns i 0 ≤ total ns
within [] i lt = absurd (none i lt)
within (n ∷ ns) zero lt = omega (arith, up n)
within (n ∷ ns) (suc i) lt = omega (arith, within ns i (omega (arith, lt)))

pub cut_length : (ns bytes : List ℕ) → length (cut ns bytes) ≡ length ns
cut_length [] bytes = refl
cut_length (n ∷ ns) bytes = ap suc (cut_length ns (drop (round_up n) bytes))

pub cut_at : (ns : List ℕ) (i : ℕ) (bytes : List ℕ) → i < length ns → get_or (cut ns bytes) i [] ≡ take (get_or ns i 0) (drop (begins ns i) bytes)
cut_at [] i bytes lt = absurd (none i lt)
cut_at (n ∷ ns) zero bytes lt = refl
cut_at (n ∷ ns) (suc i) bytes lt = cut_at ns i (drop (round_up n) bytes) (omega (arith, lt)) ∙
    ap (take (get_or ns i 0)) (drop-drop (begins ns i) (round_up n) bytes)

pub window_length : (ns : List ℕ) (i : ℕ) (bytes : List ℕ) → i < length ns → total ns ≤ length bytes → length (get_or (cut ns bytes) i []) ≡ get_or ns i 0
window_length ns i bytes lt le = omega (
  arith,
  ap length (cut_at ns i bytes lt),
  length-take (get_or ns i 0) (drop (begins ns i) bytes),
  length-drop (begins ns i) bytes,
  within ns i lt,
  le,
)

-- a byte of a window
pub byte_in : (ns : List ℕ) (i : ℕ) (bytes : List ℕ) (o : ℕ) → i < length ns → o < get_or ns i 0 →
    slice_index (get_or (cut ns bytes) i []) o ≡ slice_index bytes (begins ns i + o)
byte_in ns i bytes o lt at = ap (λ (l : List ℕ). get_or l o 0) (cut_at ns i bytes lt) ∙ get_or-take (get_or ns i 0) (drop (begins ns i) bytes) o 0 at ∙
    get_or-drop (begins ns i) bytes o 0

-- the windows after a store
pub set_in : (ns : List ℕ) (i : ℕ) (bytes : List ℕ) (o v : ℕ) → i < length ns → o < get_or ns i 0 →
    cut ns (set bytes (begins ns i + o) v) ≡ set (cut ns bytes) i (set (get_or (cut ns bytes) i []) o v)
set_in [] i bytes o v lt at = absurd (none i lt)
set_in (n ∷ ns) zero bytes o v lt at =
    let far : o < round_up n = omega (arith, at, up n) in
    let same : 0 + o ≡ o = omega arith in
    rw (same, take-set-lt n bytes o v at, drop-set-lt (round_up n) bytes o v far) refl
set_in (n ∷ ns) (suc i) bytes o v lt at =
    let r : ℕ = round_up n in let p : ℕ = begins ns i + o in
    let same : r + begins ns i + o ≡ r + p = omega arith in
    let near : n ≤ r + p = omega (arith, up n) in
    let rest : cut ns (set (drop r bytes) p v) ≡ set (cut ns (drop r bytes)) i (set (get_or (cut ns (drop r bytes)) i []) o v) =
    set_in ns i (drop r bytes) o v (omega (arith, lt)) at in
    rw (same, take-set-le n bytes (r + p) v near, drop-set-add r bytes p v) (ap (λ (l : List (List ℕ)). take n bytes ∷ l) rest)

module _ (ns : List ℕ) (i : ℕ) (bytes : List ℕ) (lt : i < length ns) where
  abbrev pub b : ℕ
  b = begins ns i

  abbrev pub w : List ℕ
  w = get_or (cut ns bytes) i []

  there : i < length (cut ns bytes)
  there = omega (arith, lt, cut_length ns bytes)

  -- one store after another
  again : (bytes' w' : List ℕ) (o v : ℕ) → cut ns bytes' ≡ set (cut ns bytes) i w' → o < get_or ns i 0 →
      cut ns (set bytes' (b + o) v) ≡ set (cut ns bytes) i (set w' o v)
  again bytes' w' o v is at =
      set_in ns i bytes' o v lt at
      ∙ ap (λ (l : List (List ℕ)). set l i (set (get_or l i []) o v)) is
      ∙ ap (λ (l : List ℕ). set (set (cut ns bytes) i w') i (set l o v)) (get_or-set_same (cut ns bytes) i w' [] there)
      ∙ set-set (cut ns bytes) i w' (set w' o v)

  first : (o v : ℕ) → o < get_or ns i 0 → cut ns (set bytes (b + o) v) ≡ set (cut ns bytes) i (set w o v)
  first o v at = set_in ns i bytes o v lt at

  pub store16_in : (o v : ℕ) → o + 2 ≤ get_or ns i 0 → cut ns (with16 bytes (b + o) v) ≡ set (cut ns bytes) i (with16 w o v)
  store16_in o v at =
      let next : b + o + 1 ≡ b + (o + 1) = omega arith in
      rw next (again (set bytes (b + o) (v % 0x100)) (set w o (v % 0x100)) (o + 1) (v / 0x100) (first o (v % 0x100) (omega (arith, at))) (omega (arith, at)))

  pub store32_in : (o v : ℕ) → o + 4 ≤ get_or ns i 0 → cut ns (with32 bytes (b + o) v) ≡ set (cut ns bytes) i (with32 w o v)
  store32_in o v at =
      let one : b + o + 1 ≡ b + (o + 1) = omega arith in
      let two : b + o + 2 ≡ b + (o + 2) = omega arith in
      let three : b + o + 3 ≡ b + (o + 3) = omega arith in
      let v0 : ℕ = v % 0x100 in let v1 : ℕ = v / 0x100 % 0x100 in let v2 : ℕ = v / 0x10000 % 0x100 in let v3 : ℕ = v / 0x1000000 in
      let b0 : List ℕ = set bytes (b + o) v0 in let b1 : List ℕ = set b0 (b + (o + 1)) v1 in let b2 : List ℕ = set b1 (b + (o + 2)) v2 in
      let w0 : List ℕ = set w o v0 in let w1 : List ℕ = set w0 (o + 1) v1 in let w2 : List ℕ = set w1 (o + 2) v2 in
      rw (one, two, three) (again b2 w2 (o + 3) v3 (again b1 w1 (o + 2) v2 (again b0 w0 (o + 1) v1 (first o v0 (omega (arith, at))) (omega (arith, at)))
      (omega (arith, at))) (omega (arith, at)))

  pub load16_in : (o : ℕ) → o + 2 ≤ get_or ns i 0 → word16 w o ≡ word16 bytes (b + o)
  load16_in o at =
      let next : b + o + 1 ≡ b + (o + 1) = omega arith in
      rw (next, byte_in ns i bytes o lt (omega (arith, at)), byte_in ns i bytes (o + 1) lt (omega (arith, at))) refl

  pub load32_in : (o : ℕ) → o + 4 ≤ get_or ns i 0 → word32 w o ≡ word32 bytes (b + o)
  load32_in o at =
      let one : b + o + 1 ≡ b + (o + 1) = omega arith in
      let two : b + o + 2 ≡ b + (o + 2) = omega arith in
      let three : b + o + 3 ≡ b + (o + 3) = omega arith in
      rw (
        one,
        two,
        three,
        byte_in ns i bytes o lt (omega (arith, at)),
        byte_in ns i bytes (o + 1) lt (omega (arith, at)),
        byte_in ns i bytes (o + 2) lt (omega (arith, at)),
        byte_in ns i bytes (o + 3) lt (omega (arith, at)),
      ) refl

-- the places that are kept are the ones where the windows begin
pub from_is : (ws : List Window) (at i : ℕ) (x : Window) → LieFrom at ws → i < length ws → (get_or ws i x).from ≡ at + begins (sizes_of ws) i
from_is [] at i x lie lt = absurd (none i lt)
from_is (w ∷ ws) at zero x lie lt = lie.0 ∙ omega arith
from_is (w ∷ ws) at (suc i) x lie lt = from_is ws (at + round_up w.size) i x lie.1 (omega (arith, lt)) ∙ omega arith

pub size_is : (ws : List Window) (i : ℕ) (x : Window) → i < length ws → (get_or ws i x).size ≡ get_or (sizes_of ws) i 0
size_is [] i x lt = absurd (none i lt)
size_is (w ∷ ws) zero x lt = refl
size_is (w ∷ ws) (suc i) x lt = size_is ws i x (omega (arith, lt))

-- windows of zeros
zeros_take : (n m : ℕ) → n ≤ m → take n (replicate {A = ℕ} m 0) ≡ replicate n 0
zeros_take zero m le = refl
zeros_take (suc n) zero le = absurd (none n (omega (arith, le)))
zeros_take (suc n) (suc m) le = ap (λ (l : List ℕ). 0 ∷ l) (zeros_take n m (omega (arith, le)))

zeros_drop : (n m : ℕ) → drop n (replicate {A = ℕ} (n + m) 0) ≡ replicate m 0
zeros_drop zero m = ap (λ (k : ℕ). replicate {A = ℕ} k 0) (omega arith)
zeros_drop (suc n) m =
    let e : suc n + m ≡ suc (n + m) = omega arith in
    rw e (zeros_drop n m)

pub blank_is : (ns : List ℕ) → cut ns (replicate (total ns) 0) ≡ blank ns
blank_is [] = refl
blank_is (n ∷ ns) =
    let le : n ≤ round_up n + total ns = omega (arith, up n) in
    rw (zeros_take n (round_up n + total ns) le, zeros_drop (round_up n) (total ns)) (ap (λ (l : List (List ℕ)). replicate n 0 ∷ l) (blank_is ns))

-- one more window after the others
pub lie_more : (ws : List Window) (at : ℕ) (w : Window) → LieFrom at ws → w.from ≡ at + total (sizes_of ws) → LieFrom at (ws ++ w ∷ [])
lie_more [] at w lie is = (is ∙ omega arith, tt)
lie_more (v ∷ ws) at w lie is = (lie.0, lie_more ws (at + round_up v.size) w lie.1 (is ∙ omega arith))

pub total_more : (ns : List ℕ) (n : ℕ) → total (ns ++ n ∷ []) ≡ total ns + round_up n
total_more [] n = omega arith
total_more (m ∷ ns) n = omega (arith, total_more ns n)

pub sizes_more : (ws : List Window) (w : Window) → sizes_of (ws ++ w ∷ []) ≡ sizes_of ws ++ w.size ∷ []
sizes_more [] w = refl
sizes_more (v ∷ ws) w = ap (λ (l : List ℕ). v.size ∷ l) (sizes_more ws w)

-- the first windows take no more bytes than all windows
pub total_take : (i : ℕ) (ns : List ℕ) → total (take i ns) ≤ total ns
total_take zero ns = omega arith
total_take (suc i) [] = omega arith
total_take (suc i) (n ∷ ns) = omega (arith, total_take i ns)

pub total_next : (ns : List ℕ) (i : ℕ) → i < length ns → total (take (i + 1) ns) ≡ total (take i ns) + round_up (get_or ns i 0)
total_next ns i lt =
    let e : i + 1 ≡ suc i = omega arith in
    ap (λ (k : ℕ). total (take k ns)) e ∙ ap total (take-suc ns i 0 lt) ∙ total_more (take i ns) (get_or ns i 0)

pub begin_cut : (ns bytes : List ℕ) (i : ℕ) → total ns ≤ length bytes → begins (map length (cut ns bytes)) i ≡ begins ns i
begin_cut [] bytes i le = refl
begin_cut (n ∷ ns) bytes zero le = refl
begin_cut (n ∷ ns) bytes (suc i) le =
    let r : ℕ = round_up n in
    let long : length (take n bytes) ≡ n = omega (arith, length-take n bytes, up n, le) in
    let rest : begins (map length (cut ns (drop r bytes))) i ≡ begins ns i = begin_cut ns (drop r bytes) i (omega (arith, length-drop r bytes, le)) in
    ap (λ (k : ℕ). round_up k + begins (map length (cut ns (drop r bytes))) i) long ∙ ap (λ (k : ℕ). r + k) rest

pub begin_set : (ws : List (List ℕ)) (i : ℕ) (x : List ℕ) → begin_of (set ws i x) i ≡ begin_of ws i
begin_set [] zero x = refl
begin_set [] (suc i) x = refl
begin_set (w ∷ ws) zero x = refl
begin_set (w ∷ ws) (suc i) x = ap (λ (k : ℕ). round_up (length w) + k) (begin_set ws i x)

-- the window of an arena, by what the arena holds
module _ (ws : List Window) (bytes : List ℕ) (now : List (List ℕ)) (view : cut (sizes_of ws) bytes ≡ now) (all : total (sizes_of ws) ≡ length bytes)
    (lie : LieFrom 0 ws) (i : ℕ) (lt : i < length now) where
  abbrev ns : List ℕ
  ns = sizes_of ws

  pub is_there : i < length ws
  is_there = omega (arith, lt, ap (λ (l : List (List ℕ)). length l) view, cut_length ns bytes, length-map ws (λ (w : Window). w.size))

  at : i < length ns
  at = omega (arith, is_there, length-map ws (λ (w : Window). w.size))

  pub long : length (get_or now i []) ≡ get_or ns i 0
  long = ap (λ (l : List (List ℕ)). length (get_or l i [])) (sym view) ∙ window_length ns i bytes at (omega (arith, all))

  pub ends : begins ns i + length (get_or now i []) ≤ length bytes
  ends = omega (arith, within ns i at, all, long)

  module _ (w : Window) (is : w ≡ get_or ws i w) where
    pub from : w.from ≡ begins ns i
    from = ap (λ (x : Window). x.from) is ∙ from_is ws 0 i w lie is_there ∙ omega arith

    pub size : w.size ≡ length (get_or now i [])
    size = ap (λ (x : Window). x.size) is ∙ size_is ws i w is_there ∙ sym long

    pub load8_is : (o : ℕ) → o < length (get_or now i []) → slice_index bytes (w.from + o) ≡ slice_index (get_or now i []) o
    load8_is o in' = ap (λ (k : ℕ). slice_index bytes (k + o)) from ∙ sym (byte_in ns i bytes o at (omega (arith, in', long))) ∙
        ap (λ (l : List (List ℕ)). slice_index (get_or l i []) o) view

    pub load16_is : (o : ℕ) → o + 2 ≤ length (get_or now i []) → word16 bytes (w.from + o) ≡ word16 (get_or now i []) o
    load16_is o in' = ap (λ (k : ℕ). word16 bytes (k + o)) from ∙ sym (load16_in ns i bytes at o (omega (arith, in', long))) ∙
        ap (λ (l : List (List ℕ)). word16 (get_or l i []) o) view

    pub load32_is : (o : ℕ) → o + 4 ≤ length (get_or now i []) → word32 bytes (w.from + o) ≡ word32 (get_or now i []) o
    load32_is o in' = ap (λ (k : ℕ). word32 bytes (k + o)) from ∙ sym (load32_in ns i bytes at o (omega (arith, in', long))) ∙
        ap (λ (l : List (List ℕ)). word32 (get_or l i []) o) view

    pub store8_is : (o v : ℕ) (new : List ℕ) → new ≡ set bytes (w.from + o) v → o < length (get_or now i []) →
        cut ns new ≡ set now i (set (get_or now i []) o v)
    store8_is o v new is' in' = ap (cut ns) (is' ∙ ap (λ (k : ℕ). set bytes (k + o) v) from) ∙ set_in ns i bytes o v at (omega (arith, in', long)) ∙
        ap (λ (l : List (List ℕ)). set l i (set (get_or l i []) o v)) view

    pub store16_is : (o v : ℕ) (new : List ℕ) → new ≡ with16 bytes (w.from + o) v → o + 2 ≤ length (get_or now i []) →
        cut ns new ≡ set now i (with16 (get_or now i []) o v)
    store16_is o v new is' in' = ap (cut ns) (is' ∙ ap (λ (k : ℕ). with16 bytes (k + o) v) from) ∙ store16_in ns i bytes at o v (omega (arith, in', long)) ∙
        ap (λ (l : List (List ℕ)). set l i (with16 (get_or l i []) o v)) view

    pub store32_is : (o v : ℕ) (new : List ℕ) → new ≡ with32 bytes (w.from + o) v → o + 4 ≤ length (get_or now i []) →
        cut ns new ≡ set now i (with32 (get_or now i []) o v)
    store32_is o v new is' in' = ap (cut ns) (is' ∙ ap (λ (k : ℕ). with32 bytes (k + o) v) from) ∙ store32_in ns i bytes at o v (omega (arith, in', long)) ∙
        ap (λ (l : List (List ℕ)). set l i (with32 (get_or l i []) o v)) view

  pub begin_is : begin_of now i ≡ begins ns i
  begin_is = ap (λ (l : List (List ℕ)). begin_of l i) (sym view) ∙ begin_cut ns bytes i (omega (arith, all))

  module _ (b : ℕ) (is : b ≡ begin_of now i) where
    pub is_from : b ≡ begins ns i
    is_from = is ∙ begin_is

    pub load8_at : (o : ℕ) → o < length (get_or now i []) → slice_index bytes (b + o) ≡ slice_index (get_or now i []) o
    load8_at o in' = ap (λ (k : ℕ). slice_index bytes (k + o)) is_from ∙ sym (byte_in ns i bytes o at (omega (arith, in', long))) ∙
        ap (λ (l : List (List ℕ)). slice_index (get_or l i []) o) view

    pub load16_at : (o : ℕ) → o + 2 ≤ length (get_or now i []) → word16 bytes (b + o) ≡ word16 (get_or now i []) o
    load16_at o in' = ap (λ (k : ℕ). word16 bytes (k + o)) is_from ∙ sym (load16_in ns i bytes at o (omega (arith, in', long))) ∙
        ap (λ (l : List (List ℕ)). word16 (get_or l i []) o) view

    pub load32_at : (o : ℕ) → o + 4 ≤ length (get_or now i []) → word32 bytes (b + o) ≡ word32 (get_or now i []) o
    load32_at o in' = ap (λ (k : ℕ). word32 bytes (k + o)) is_from ∙ sym (load32_in ns i bytes at o (omega (arith, in', long))) ∙
        ap (λ (l : List (List ℕ)). word32 (get_or l i []) o) view

    pub store8_at : (o v : ℕ) (new : List ℕ) → new ≡ set bytes (b + o) v → o < length (get_or now i []) → cut ns new ≡ set now i (set (get_or now i []) o v)
    store8_at o v new is' in' = ap (cut ns) (is' ∙ ap (λ (k : ℕ). set bytes (k + o) v) is_from) ∙ set_in ns i bytes o v at (omega (arith, in', long)) ∙
        ap (λ (l : List (List ℕ)). set l i (set (get_or l i []) o v)) view

    pub store16_at : (o v : ℕ) (new : List ℕ) → new ≡ with16 bytes (b + o) v → o + 2 ≤ length (get_or now i []) →
        cut ns new ≡ set now i (with16 (get_or now i []) o v)
    store16_at o v new is' in' = ap (cut ns) (is' ∙ ap (λ (k : ℕ). with16 bytes (k + o) v) is_from) ∙ store16_in ns i bytes at o v (omega (arith, in', long)) ∙
        ap (λ (l : List (List ℕ)). set l i (with16 (get_or l i []) o v)) view

    pub store32_at : (o v : ℕ) (new : List ℕ) → new ≡ with32 bytes (b + o) v → o + 4 ≤ length (get_or now i []) →
        cut ns new ≡ set now i (with32 (get_or now i []) o v)
    store32_at o v new is' in' = ap (cut ns) (is' ∙ ap (λ (k : ℕ). with32 bytes (k + o) v) is_from) ∙ store32_in ns i bytes at o v (omega (arith, in', long)) ∙
        ap (λ (l : List (List ℕ)). set l i (with32 (get_or l i []) o v)) view
