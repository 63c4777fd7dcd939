-- An image laid over the cells of regions, part by part, as `want_into` does. Each window or page of a goal is a part of what it lays.
use Rattle.std.proofs.Common.{◌≡◌, ◌<◌, ◌≤◌, ◌+◌, ◌-◌, ◌++◌, ◌∙◌, ⊎_elim, min, ℕ, zero, suc, All, List, [], ◌∷◌, length, take, drop, refl, sym}
use Rattle.std.proofs.Common.{ap, subst, arith, length-take, length-drop}
use Rattle.std.proofs.lemmas.Bool.{cases_lt}
use Rattle.std.proofs.lemmas.List.{append-nil, drop-append-le, drop-drop, drop-take, drop_all, take-append-le, take-take, take_all}
use Rattle.std.proofs.Math.Seq.{drop-append-add, take-append-add}
use Rattle.board_file.specs.declared.region.Region.{Region}
use Rattle.board_file.specs.Table.{addresses}
use Rattle.byte_map.specs.Image.{Run, byte_at, over}
use Rattle.byte_map.proofs.Overlays.{length-over}
use Rattle.std.specs.Prelude.{unwrap_or}
use Rattle.job_text.specs.Laid.{overlaid}
use Rattle.flash_session.proofs.PartLemmas.{part_at}

over_take : (image : List Run) (base n : ℕ) (cells : List ℕ) → take n (over image base cells) ≡ over image base (take n cells)
over_take image base (suc n) (c ∷ cells) = ap (λ (l : List ℕ). unwrap_or (byte_at image base) c ∷ l) (over_take image (base + 1) n cells)
over_take image base n cells = refl

over_drop : (image : List Run) (base n : ℕ) (cells : List ℕ) → drop n (over image base cells) ≡ over image (base + n) (drop n cells)
over_drop image base zero cells = let z : base ≡ base + 0 = omega arith in ap (λ (k : ℕ). over image k cells) z
over_drop image base (suc n) [] = refl
over_drop image base (suc n) (c ∷ cells) = let e : base + 1 + n ≡ base + suc n = omega arith in over_drop image (base + 1) n cells
    ∙ ap (λ (k : ℕ). over image k (drop n cells)) e

-- an image laid over cells followed by more cells is the image over each of the two parts
pub over_append : (image : List Run) (base : ℕ) (cells more : List ℕ)
    → over image base (cells ++ more) ≡ over image base cells ++ over image (base + length cells) more
over_append image base [] more = let z : base ≡ base + 0 = omega arith in ap (λ (k : ℕ). over image k more) z
over_append image base (c ∷ cells) more =
    let e : base + 1 + length cells ≡ base + length (c ∷ cells) = omega arith in
    ap (λ (l : List ℕ). unwrap_or (byte_at image base) c ∷ l)
    (over_append image (base + 1) cells more ∙ ap (λ (k : ℕ). over image (base + 1) cells ++ over image k more) e)

-- ---- cells of regions, from a place on

-- regions that each end within the 32-bit addresses
pub fit_rest : (regions : List Region) (r : Region) (rest : List Region) → regions ≡ r ∷ rest → All (λ q. q.base + q.size ≤ addresses) regions
    → All (λ q. q.base + q.size ≤ addresses) rest
fit_rest regions r rest is fit = λ k d less. (subst (λ (l : List Region). All (λ q. q.base + q.size ≤ addresses) l) is fit) (suc k) d (omega (arith, less))

-- a part of the cells that begins after the first region
past : (n at size : ℕ) (front behind : List ℕ) → size ≤ at → length front ≡ size → take n (drop (at - size) behind) ≡ take n (drop at (front ++ behind))
past n at size front behind le long =
    let e : length front + (at - size) ≡ at = omega (arith, le, long) in
    ap (λ (l : List ℕ). take n l) (sym (drop-append-add front behind (at - size)) ∙ ap (λ (k : ℕ). drop k (front ++ behind)) e)

pub lay_past : (image : List Run) (r : Region) (rest : List Region) (snapshot : List ℕ) (at n : ℕ) → r.size ≤ at → r.size ≤ length snapshot
    → take n (drop (at - r.size) (overlaid image rest (drop r.size snapshot))) ≡ take n (drop at (overlaid image (r ∷ rest) snapshot))
lay_past image r rest snapshot at n le long =
    past n at r.size (over image r.base (take r.size snapshot)) (overlaid image rest (drop r.size snapshot)) le
    (omega (arith, length-over image r.base (take r.size snapshot), length-take r.size snapshot, long))

pub old_past : (size at n : ℕ) (snapshot : List ℕ) → size ≤ at → take n (drop at snapshot) ≡ take n (drop (at - size) (drop size snapshot))
old_past size at n snapshot le =
    let e : size + (at - size) ≡ at = omega (arith, le) in
    ap (λ (l : List ℕ). take n l) (ap (λ (k : ℕ). drop k snapshot) (sym e) ∙ sym (drop-drop (at - size) size snapshot))

-- a place inside the region: the cells from it up to the region's end, and the cells after the region
module _ (n at size here : ℕ) (front behind : List ℕ) (inside : at < size) (long : length front ≡ size) where
  pub both_parts : here ≡ n → n ≤ size - at → take here (drop at front) ++ take (n - here) behind ≡ take n (drop at (front ++ behind))
  both_parts is le =
      let none : n - here ≡ 0 = omega (arith, is) in
      ap (λ (k : ℕ). take here (drop at front) ++ take k behind) none ∙ append-nil (take here (drop at front)) ∙ ap (λ (k : ℕ). take k (drop at front)) is
      ∙ sym (take-append-le n (drop at front) behind (omega (arith, length-drop at front, long, le)))
      ∙ ap (λ (l : List ℕ). take n l) (sym (drop-append-le at front behind (omega (arith, inside, long))))

  pub first_part : here ≡ size - at → size - at ≤ n → take here (drop at front) ++ take (n - here) behind ≡ take n (drop at (front ++ behind))
  first_part is le =
      let len : length (drop at front) ≡ here = omega (arith, length-drop at front, long, is, inside) in
      let e : length (drop at front) + (n - here) ≡ n = omega (arith, len, is, le) in
      ap (λ (l : List ℕ). l ++ take (n - here) behind) (take_all here (drop at front) (omega (arith, len)))
      ∙ sym (take-append-add (drop at front) behind (n - here)) ∙ ap (λ (k : ℕ). take k (drop at front ++ behind)) e
      ∙ ap (λ (l : List ℕ). take n l) (sym (drop-append-le at front behind (omega (arith, inside, long))))

  pub parts_of : here ≡ min n (size - at) → take here (drop at front) ++ take (n - here) behind ≡ take n (drop at (front ++ behind))
  parts_of is = ⊎_elim
      (λ (less : n < size - at). both_parts (omega (arith, is, less)) (omega (arith, less)))
      (λ (le : size - at ≤ n). first_part (omega (arith, is, le)) le)
      (cases_lt n (size - at))

-- an image laid over the part of a region's cells from a place on
pub over_from : (image : List Run) (base size at here : ℕ) (snapshot : List ℕ) → at + here ≤ size
    → over image (base + at) (take here (drop at snapshot)) ≡ take here (drop at (over image base (take size snapshot)))
over_from image base size at here snapshot inside =
    let z : at ≡ 0 + at = omega arith in
    ap (λ (l : List ℕ). over image (base + at) l) (ap (λ (k : ℕ). take here (drop k snapshot)) z ∙ part_at 0 size at here snapshot inside)
    ∙ sym (over_take image (base + at) here (drop at (take size snapshot)))
    ∙ ap (λ (l : List ℕ). take here l) (sym (over_drop image base at (take size snapshot)))

-- what lies after the region is the front of the cells that follow it
pub old_behind : (size at here n : ℕ) (snapshot : List ℕ) → at < size → here ≡ min n (size - at)
    → drop here (take n (drop at snapshot)) ≡ take (n - here) (drop 0 (drop size snapshot))
old_behind size at here n snapshot inside is = ⊎_elim
    (λ (less : n < size - at).
    let none : n - here ≡ 0 = omega (arith, is, less) in
    drop_all here (take n (drop at snapshot)) (omega (arith, length-take n (drop at snapshot), is, less))
    ∙ ap (λ (k : ℕ). take k (drop size snapshot)) (sym none))
    (λ (le : size - at ≤ n).
    let e : here + (n - here) ≡ n = omega (arith, is, le) in
    let whole : at + here ≡ size = omega (arith, is, le, inside) in
    ap (λ (k : ℕ). drop here (take k (drop at snapshot))) (sym e) ∙ drop-take here (n - here) (drop at snapshot)
    ∙ ap (λ (l : List ℕ). take (n - here) l) (drop-drop here at snapshot ∙ ap (λ (k : ℕ). drop k snapshot) whole))
    (cases_lt n (size - at))

pub lay_here : (image : List Run) (r : Region) (rest : List Region) (snapshot cells front back : List ℕ) (at here n : ℕ) → at < r.size
    → r.size ≤ length snapshot → here ≡ min n (r.size - at) → cells ≡ take n (drop at snapshot)
    → front ≡ over image (r.base + at) (take here cells) → back ≡ take (n - here) (drop 0 (overlaid image rest (drop r.size snapshot)))
    → front ++ back ≡ take n (drop at (overlaid image (r ∷ rest) snapshot))
lay_here image r rest snapshot cells front back at here n inside long is held front_is back_is =
    let whole = over image r.base (take r.size snapshot) in
    let behind = overlaid image rest (drop r.size snapshot) in
    let less : here ≤ n = omega (arith, is) in
    let within : at + here ≤ r.size = omega (arith, is, inside) in
    ap (λ (l : List ℕ). l ++ back) (front_is ∙ ap (λ (l : List ℕ). over image (r.base + at) l) (ap (take here) held ∙ take-take here n (drop at snapshot) less)
    ∙ over_from image r.base r.size at here snapshot within)
    ∙ ap (λ (l : List ℕ). take here (drop at whole) ++ l) back_is
    ∙ parts_of n at r.size here whole behind inside (omega (arith, length-over image r.base (take r.size snapshot), length-take r.size snapshot, long)) is
