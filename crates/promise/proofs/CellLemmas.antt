-- An image laid over cells, cell by cell.
use Rattle.std.proofs.Common.{◌≡◌, ⊎_elim, ◌∙◌, sym, ap, ◌+◌, ◌-◌, ◌<◌, ◌≤◌, arith, cond, Bool, ℕ, List, [], ◌∷◌, length, get_or, take, drop, Some}
use Rattle.std.specs.Prelude.{unwrap_or}
use Rattle.std.proofs.lemmas.Bool.{cases_lt, lt-ltb, le-ltb}
use Rattle.std.proofs.lemmas.List.{length-take, length-drop, get_or_append_left, get_or-append_right, get_or-take, get_or-drop}
use Rattle.byte_map.specs.Image.{Run, byte_at, over}
use Rattle.byte_map.proofs.Overlays.{length-over, get_or-over}
use Rattle.board_file.specs.declared.region.Region.{Region}
use Rattle.job_text.specs.Laid.{address_at, overlaid}

some_same : (a b : ℕ) → Some a ≡ Some b → a ≡ b
some_same a b is = cc

address_in : (r : Region) (rest : List Region) (place : ℕ) → place < r.size → address_at (r ∷ rest) place ≡ Some (r.base + place)
address_in r rest place less = ap (λ (b : Bool). cond b (Some (r.base + place)) (address_at rest (place - r.size))) (lt-ltb place r.size less)

address_past : (r : Region) (rest : List Region) (place : ℕ) → r.size ≤ place → address_at (r ∷ rest) place ≡ address_at rest (place - r.size)
address_past r rest place past = ap (λ (b : Bool). cond b (Some (r.base + place)) (address_at rest (place - r.size))) (le-ltb place r.size past)

pub laid_at : (image : List Run) (regions : List Region) (cells : List ℕ) (place at : ℕ) → place < length cells → address_at regions place ≡ Some at
    → get_or (overlaid image regions cells) place 0 ≡ unwrap_or (byte_at image at) (get_or cells place 0)
laid_at image [] cells place at less is = absurd (cc)
laid_at image (r ∷ rest) cells place at less is = ⊎_elim
    (λ (here : place < r.size).
    let long : place < length (take r.size cells) = omega (arith, length-take r.size cells, less, here) in
    let inside : place < length (over image r.base (take r.size cells)) = omega (arith, length-over image r.base (take r.size cells), long) in
    let its : r.base + place ≡ at = some_same (r.base + place) at (sym (address_in r rest place here) ∙ is) in
    let front : get_or (take r.size cells) place 0 ≡ get_or cells place 0 = get_or-take r.size cells place 0 here in
    get_or_append_left (over image r.base (take r.size cells)) (overlaid image rest (drop r.size cells)) 0 place inside
    ∙ get_or-over image r.base (take r.size cells) place long
    ∙ ap (λ (a : ℕ). unwrap_or (byte_at image a) (get_or (take r.size cells) place 0)) its
    ∙ ap (λ (c : ℕ). unwrap_or (byte_at image at) c) front)
    (λ (past : r.size ≤ place).
    let long : length (over image r.base (take r.size cells)) ≡ r.size =
    omega (arith, length-over image r.base (take r.size cells), length-take r.size cells, past, less) in
    let rest_less : place - r.size < length (drop r.size cells) = omega (arith, length-drop r.size cells, less, past) in
    let there : r.size + (place - r.size) ≡ place = omega (arith, past) in
    let back : get_or (drop r.size cells) (place - r.size) 0 ≡ get_or cells place 0 = get_or-drop r.size cells (place - r.size) 0
    ∙ ap (λ (k : ℕ). get_or cells k 0) there in
    get_or-append_right (over image r.base (take r.size cells)) (overlaid image rest (drop r.size cells)) r.size place 0 long past
    ∙ laid_at image rest (drop r.size cells) (place - r.size) at rest_less (sym (address_past r rest place past) ∙ is)
    ∙ ap (λ (c : ℕ). unwrap_or (byte_at image at) c) back)
    (cases_lt place r.size)
