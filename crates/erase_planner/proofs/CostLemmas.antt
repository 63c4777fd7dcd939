-- The cost of the chosen plan as a list of actions. `LawLemmas` compares it with any other list.
use Rattle.std.proofs.Common.{◌≡◌, ℕ, zero, suc, ◌+◌, ◌*◌, Bool, true, false, nat_lt, cond, refl, ap, subst, arith, ◌∙◌, List, [], ◌∷◌, ◌++◌, map, length, inl}
use Rattle.std.proofs.Common.{inr, zero-add}
use Rattle.std.proofs.lemmas.Bool.{cases_Bool, and_parts}
use Rattle.std.proofs.lemmas.List.FromFn.{map-range_with_len_more}
use Rattle.std.specs.List.{range_with_len}
use Rattle.page_geometry.specs.Geometry.{Geometry}
use Rattle.page_geometry.specs.Cells.{count_below}
use Rattle.page_geometry.specs.Ideal.{Action, EraseChip, erasures, writes}
use Rattle.board_file.specs.declared.board.Weights.{Weights}
use Rattle.erase_planner.specs.Plans.{price, cost, must_erase, must_program, is_wanted, sectors_cost, chip_cost, takes_chip, by_sectors, by_chip, chosen, tests}
use Rattle.erase_planner.specs.Plans.{actions_of}

cost_append : (w : Weights) (xs ys : List Action) → cost w (xs ++ ys) ≡ cost w xs + cost w ys
unfolding cost
cost_append w [] ys = omega arith
cost_append w (a ∷ xs) ys = let rest = cost_append w xs ys in omega (arith, rest)

unfoldable pub count_true : List Bool → ℕ
count_true [] = 0
count_true (true ∷ rest) = 1 + count_true rest
count_true (false ∷ rest) = count_true rest

count_true_append : (xs ys : List Bool) → count_true (xs ++ ys) ≡ count_true xs + count_true ys
unfolding count_true
count_true_append [] ys = omega arith
count_true_append (true ∷ xs) ys = let rest = count_true_append xs ys in omega (arith, rest)
count_true_append (false ∷ xs) ys = count_true_append xs ys

count_one : (b : Bool) → count_true (b ∷ []) ≡ cond b 1 0
unfolding count_true
count_one true = refl
count_one false = refl

pub count_tests : (n : ℕ) (t : ℕ → Bool) → count_true (tests n t) ≡ count_below n t
unfolding count_below count_true
count_tests zero t = refl
count_tests (suc n) t =
    let next : n + 1 ≡ suc n = omega arith in
    ap count_true (subst (λ (m : ℕ). map t (range_with_len 0 m) ≡ map t (range_with_len 0 n) ++ t n ∷ []) next (map-range_with_len_more t 0 n n (zero-add n)))
    ∙ count_true_append (map t (range_with_len 0 n)) (t n ∷ [])
    ∙ (let rest = count_tests n t in let last = count_one (t n) in omega (arith, rest, last))

erasures_cost : (w : Weights) (bs : List Bool) (s : ℕ) → cost w (erasures s bs) ≡ w.sector * count_true bs
unfolding cost price erasures count_true
erasures_cost w [] s = omega arith
erasures_cost w (true ∷ bs) s = let rest = erasures_cost w bs (s + 1) in omega (arith, rest)
erasures_cost w (false ∷ bs) s = erasures_cost w bs (s + 1)

writes_cost : (l : Geometry) (w : Weights) (want : List ℕ) (bs : List Bool) (p : ℕ) → cost w (writes l want p bs) ≡ w.page * count_true bs
unfolding cost price writes count_true
writes_cost l w want [] p = omega arith
writes_cost l w want (true ∷ bs) p = let rest = writes_cost l w want bs (p + 1) in omega (arith, rest)
writes_cost l w want (false ∷ bs) p = writes_cost l w want bs (p + 1)

chip_alone : (w : Weights) → cost w (EraseChip ∷ []) ≡ w.chip
unfolding cost price
chip_alone w = omega arith

-- the cost of the chosen plan as a list of actions
pub chosen_cost : (l : Geometry) (w : Weights) (has_chip : Bool) (empty : ℕ) (cells want : List ℕ) →
    cost w (actions_of l want (chosen l w has_chip empty cells want)) ≡ (chosen l w has_chip empty cells want).cost
unfolding chosen takes_chip by_chip by_sectors actions_of sectors_cost chip_cost
chosen_cost l w has_chip empty cells want =
    elim (cases_Bool (takes_chip l w has_chip empty cells want)) [
      | inl takes ↦
          (let both = and_parts has_chip (nat_lt (chip_cost l w empty want) (sectors_cost l w empty cells want)) takes in
          rw (both.0, both.1)
          (cost_append w (EraseChip ∷ []) (writes l want 0 (tests (length l.pages) (is_wanted l empty want)))
          ∙ (let a = chip_alone w in
          let b = writes_cost l w want (tests (length l.pages) (is_wanted l empty want)) 0 in
          let c = ap (λ (n : ℕ). w.page * n) (count_tests (length l.pages) (is_wanted l empty want)) in omega (arith, a, b, c))))
      | inr not_chip ↦
          rw not_chip
          (cost_append w (erasures 0 (tests (length l.sectors) (must_erase l empty cells want)))
          (writes l want 0 (tests (length l.pages) (must_program l empty cells want)))
          ∙ (let a = erasures_cost w (tests (length l.sectors) (must_erase l empty cells want)) 0 in
          let b = writes_cost l w want (tests (length l.pages) (must_program l empty cells want)) 0 in
          let c = ap (λ (n : ℕ). w.sector * n) (count_tests (length l.sectors) (must_erase l empty cells want)) in
          let d = ap (λ (n : ℕ). w.page * n) (count_tests (length l.pages) (must_program l empty cells want)) in omega (arith, a, b, c, d)))
    ]
