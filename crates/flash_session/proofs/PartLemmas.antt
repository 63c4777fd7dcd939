-- A region's part of all cells: its bytes are bytes of all cells, and the parts of all regions together are all cells.
-- Surveys and plans are made for each region; the goal and the comparison are for all cells. These lemmas join the two.
use Rattle.std.proofs.Common.{◌≡◌, ◌≤◌, ◌+◌, ◌-◌, ◌++◌, ◌∙◌, ℕ, List, length, take, drop, sym, ap, arith}
use Rattle.std.proofs.lemmas.List.{drop-drop, drop-take, take-take, take-append-drop, take_all}

pub part_at : (start size at n : ℕ) (goal : List ℕ) → at + n ≤ size → take n (drop (start + at) goal) ≡ take n (drop at (take size (drop start goal)))
part_at start size at n goal inside =
    let rest : ℕ = size - at in
    let all : at + rest ≡ size = omega (arith, inside) in
    ap (λ (l : List ℕ). take n l) (sym (drop-drop at start goal))
    ∙ sym (take-take n rest (drop at (drop start goal)) (omega (arith, inside)))
    ∙ ap (λ (l : List ℕ). take n l) (sym (drop-take at rest (drop start goal)) ∙ ap (λ (k : ℕ). drop at (take k (drop start goal))) all)

-- two parts make all cells
pub two_parts : (first second : ℕ) (cells : List ℕ) → length cells ≡ first + second → cells ≡ take first cells ++ take second (drop first cells)
two_parts first second cells long =
    sym (take-append-drop first cells) ∙ ap (λ (l : List ℕ). take first cells ++ l)
    (sym (take_all second (drop first cells) (omega (arith, long, Rattle.std.proofs.lemmas.List.length-drop first cells))))
