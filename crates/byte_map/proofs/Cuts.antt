-- Where a number falls among the runs of a tree, by a measure that rises with the runs.
use Rattle.std.proofs.Common.{◌≡◌, ⊎_elim, ◌≤◌, ◌<◌, ◌+◌, ◌-◌, ℕ, List, [], ◌∷◌, ◌++◌, length, sym, ap, subst, arith, length-append}
use Rattle.std.proofs.lemmas.Bool.{cases_lt}
use Rattle.byte_map.specs.Image.{Run, run_at, end_of, AreMaximal}
use Rattle.byte_map.specs.Tree.{IsCut}
use Rattle.byte_map.proofs.Runs.{rising, maximal_from}
use Rattle.byte_map.proofs.Sides.{at_left, at_right}

-- each part of a maximal list is maximal
pub maximal_left : (low end : ℕ) (xs ys : List Run) → AreMaximal low end (xs ++ ys) → AreMaximal low end xs
maximal_left low end [] ys m = tt
maximal_left low end (x ∷ xs) ys m = (m.0, m.1, m.2, maximal_left (end_of x + 1) end xs ys m.3)

pub maximal_right : (low end : ℕ) (xs ys : List Run) → AreMaximal low end (xs ++ ys) → AreMaximal 0 end ys
maximal_right low end [] ys m = maximal_from low 0 end ys m (λ k lt. omega arith)
maximal_right low end (x ∷ xs) ys m = maximal_right (end_of x + 1) end xs ys m.3

pub maximal_middle : (low end : ℕ) (xs ys zs : List Run) → AreMaximal low end (xs ++ (ys ++ zs)) → AreMaximal 0 end ys
maximal_middle low end xs ys zs m = maximal_left 0 end ys zs (maximal_right low end xs (ys ++ zs) m)

pub maximal_last : (low end : ℕ) (xs ys zs : List Run) → AreMaximal low end (xs ++ (ys ++ zs)) → AreMaximal 0 end zs
maximal_last low end xs ys zs m = maximal_right 0 end ys zs (maximal_right low end xs (ys ++ zs) m)

-- the runs of the first part end before those of the second
pub ends_before : (end : ℕ) (xs ys : List Run) (k : ℕ) → AreMaximal 0 end (xs ++ ys) → 1 ≤ length ys → k < length xs → end_of (run_at xs k) < (run_at ys 0).at
ends_before end xs ys k m some lt =
    let up = rising 0 end (xs ++ ys) k (length xs) m lt (omega (arith, length-append xs ys)) in
    let left = ap (λ (r : Run). end_of r) (at_left xs ys k lt) in
    let right = ap (λ (r : Run). r.at) (at_right xs ys (length xs) (omega arith)) in
    let is = ap (λ (n : ℕ). (run_at ys n).at) (let e : length xs - length xs ≡ 0 = omega arith in e) in
    omega (arith, up, left, right, is)

-- the measure rises with the runs of a list
abbrev pub Rises : (Run → ℕ) → List Run → Type 0
Rises f runs = (i j : ℕ) → i ≤ j → j < length runs → f (run_at runs i) ≤ f (run_at runs j)

pub rises_right : (f : Run → ℕ) (xs ys : List Run) → Rises f (xs ++ ys) → Rises f ys
rises_right f xs ys rises i j le lt =
    let up = rises (length xs + i) (length xs + j) (omega arith) (omega (arith, length-append xs ys)) in
    let at_i = ap f (at_right xs ys (length xs + i) (omega arith)) in
    let at_j = ap f (at_right xs ys (length xs + j) (omega arith)) in
    let is_i = ap (λ (n : ℕ). f (run_at ys n)) (let e : length xs + i - length xs ≡ i = omega arith in e) in
    let is_j = ap (λ (n : ℕ). f (run_at ys n)) (let e : length xs + j - length xs ≡ j = omega arith in e) in
    omega (arith, up, at_i, at_j, is_i, is_j)

-- the measure of a run of the first part is at most that of one of the second
pub no_higher : (f : Run → ℕ) (xs ys : List Run) (i j : ℕ) → Rises f (xs ++ ys) → i < length xs → j < length ys → f (run_at xs i) ≤ f (run_at ys j)
no_higher f xs ys i j rises lt within =
    let up = rises i (length xs + j) (omega arith) (omega (arith, length-append xs ys)) in
    let at_i = ap f (at_left xs ys i lt) in
    let at_j = ap f (at_right xs ys (length xs + j) (omega arith)) in
    let is_j = ap (λ (n : ℕ). f (run_at ys n)) (let e : length xs + j - length xs ≡ j = omega arith in e) in
    omega (arith, up, at_i, at_j, is_j)

-- where a number falls that is at most the measure of each run of the second part, or above that of each run of the first
pub cut_left : (f : Run → ℕ) (xs ys : List Run) (limit count : ℕ) → ((k : ℕ) → k < length ys → limit ≤ f (run_at ys k)) → IsCut f xs limit count →
    IsCut f (xs ++ ys) limit count
cut_left f xs ys limit count high cut =
    let long = length-append xs ys in
    record {
      within = omega (arith, long, cut.within);
      below = λ k lt. let first = cut.below k lt in let same = ap f (at_left xs ys k (omega (arith, cut.within))) in omega (arith, first, same);
      others = λ k from within. ⊎_elim
          (λ (before : k < length xs). let later = cut.others k from before in let same = ap f (at_left xs ys k before) in omega (arith, later, same))
          (λ (ge : length xs ≤ k). let later = high (k - length xs) (omega (arith, long)) in let same = ap f (at_right xs ys k ge) in
          omega (arith, later, same))
          (cases_lt k (length xs));
    }

pub cut_right : (f : Run → ℕ) (xs ys : List Run) (limit count : ℕ) → ((k : ℕ) → k < length xs → f (run_at xs k) < limit) → IsCut f ys limit count →
    IsCut f (xs ++ ys) limit (length xs + count)
cut_right f xs ys limit count low cut =
    let long = length-append xs ys in
    record {
      within = omega (arith, long, cut.within);
      below = λ k less. ⊎_elim
          (λ (before : k < length xs). let first = low k before in let same = ap f (at_left xs ys k before) in omega (arith, first, same))
          (λ (ge : length xs ≤ k). let first = cut.below (k - length xs) (omega arith) in let same = ap f (at_right xs ys k ge) in omega (arith, first, same))
          (cases_lt k (length xs));
      others = λ k from within. let later = cut.others (k - length xs) (omega arith) (omega (arith, long)) in
          let same = ap f (at_right xs ys k (omega arith)) in omega (arith, later, same);
    }

-- where a number falls in a list of two parts
pub cut_both : (f : Run → ℕ) (xs ys : List Run) (limit count count' : ℕ) → Rises f (xs ++ ys) → IsCut f xs limit count → IsCut f ys limit count' →
    IsCut f (xs ++ ys) limit (count + count')
cut_both f xs ys limit count count' rises cut cut' =
    let long = length-append xs ys in
    record {
      within = omega (arith, long, cut.within, cut'.within);
      below = λ k less. ⊎_elim
          (λ (before : k < length xs). let same = ap f (at_left xs ys k before) in ⊎_elim
          (λ (lt : k < count). let first = cut.below k lt in omega (arith, first, same))
          (λ (ge : count ≤ k). let first = cut'.below 0 (omega arith) in let up = no_higher f xs ys k 0 rises before (omega (arith, cut'.within)) in
          omega (arith, first, up, same))
          (cases_lt k count))
          (λ (ge : length xs ≤ k). let first = cut'.below (k - length xs) (omega (arith, cut.within)) in let same = ap f (at_right xs ys k ge) in
          omega (arith, first, same))
          (cases_lt k (length xs));
      others = λ k from within. ⊎_elim
          (λ (before : k < length xs). let later = cut.others k (omega arith) before in let same = ap f (at_left xs ys k before) in omega (arith, later, same))
          (λ (ge : length xs ≤ k). let same = ap f (at_right xs ys k ge) in ⊎_elim
          (λ (lt : k - length xs < count'). let later = cut.others count (omega arith) (omega arith) in
          let up = no_higher f xs ys count (k - length xs) rises (omega arith) (omega (arith, long)) in omega (arith, later, up, same))
          (λ (past : count' ≤ k - length xs). let later = cut'.others (k - length xs) past (omega (arith, long)) in omega (arith, later, same))
          (cases_lt (k - length xs) count'))
          (cases_lt k (length xs));
    }

-- where a number falls: after the runs of a node, before them, or among them
pub cut_behind : (f : Run → ℕ) (left chunk right : List Run) (limit count : ℕ) → Rises f (left ++ (chunk ++ right)) → 1 ≤ length chunk →
    f (run_at chunk (length chunk - 1)) < limit → IsCut f right limit count → IsCut f (left ++ (chunk ++ right)) limit (length left + (length chunk + count))
cut_behind f left chunk right limit count rises some lt cut =
    let rest = rises_right f left (chunk ++ right) rises in
    let long = length-append chunk right in
    let last = ap f (at_left chunk right (length chunk - 1) (omega arith)) in
    cut_right f left (chunk ++ right) limit (length chunk + count)
    (λ k before. let up = no_higher f left (chunk ++ right) k (length chunk - 1) rises before (omega (arith, long)) in omega (arith, up, last))
    (cut_right f chunk right limit count
    (λ k before. let up = rest k (length chunk - 1) (omega arith) (omega (arith, long)) in let same = ap f (at_left chunk right k before) in
    omega (arith, up, same, last))
    cut)

pub cut_before : (f : Run → ℕ) (left chunk right : List Run) (limit count : ℕ) → Rises f (left ++ (chunk ++ right)) → 1 ≤ length chunk →
    limit ≤ f (run_at chunk 0) → IsCut f left limit count → IsCut f (left ++ (chunk ++ right)) limit count
cut_before f left chunk right limit count rises some le cut =
    let rest = rises_right f left (chunk ++ right) rises in
    let first = ap f (at_left chunk right 0 (omega arith)) in
    cut_left f left (chunk ++ right) limit count (λ k lt. let up = rest 0 k (omega arith) lt in omega (arith, up, first)) cut

pub cut_within : (f : Run → ℕ) (left chunk right : List Run) (limit count : ℕ) → Rises f (left ++ (chunk ++ right)) → 1 ≤ length chunk →
    f (run_at chunk 0) < limit → limit ≤ f (run_at chunk (length chunk - 1)) → IsCut f chunk limit count →
    IsCut f (left ++ (chunk ++ right)) limit (length left + count)
cut_within f left chunk right limit count rises some lt le cut =
    let rest = rises_right f left (chunk ++ right) rises in
    let first = ap f (at_left chunk right 0 (omega arith)) in
    cut_right f left (chunk ++ right) limit count
    (λ k before. let up = no_higher f left (chunk ++ right) k 0 rises before (omega (arith, length-append chunk right)) in omega (arith, up, first))
    (cut_left f chunk right limit count (λ k within. let up = no_higher f chunk right (length chunk - 1) k rest (omega arith) within in omega (arith, up)) cut)

-- where a number falls in a node without runs of its own
pub cut_empty : (f : Run → ℕ) (left chunk right : List Run) (limit count count' : ℕ) → Rises f (left ++ (chunk ++ right)) → length chunk ≡ 0 →
    IsCut f left limit count → IsCut f right limit count' → IsCut f (left ++ (chunk ++ right)) limit (count + count')
cut_empty f left [] right limit count count' rises none cut cut' = cut_both f left right limit count count' rises cut cut'
cut_empty f left (r ∷ chunk) right limit count count' rises none cut cut' = absurd (omega arith)

-- where a number falls in a list, by a binary search
pub cut_of : (f : Run → ℕ) (runs runs' : List Run) (limit count : ℕ) → runs' ≡ runs → count ≤ length runs' →
    ((k : ℕ) → k < count → f (run_at runs' k) < limit) → ((k : ℕ) → count ≤ k → k < length runs' → limit ≤ f (run_at runs' k)) → IsCut f runs limit count
cut_of f runs runs' limit count is within below others = subst (λ (rs : List Run). IsCut f rs limit count) is
    (record { within = within; below = below; others = others })

pub recut : (f : Run → ℕ) (runs runs' : List Run) (limit count count' : ℕ) → runs' ≡ runs → count' ≡ count → IsCut f runs limit count →
    IsCut f runs' limit count'
recut f runs runs' limit count count' same is cut = subst (λ (rs : List Run). IsCut f rs limit count') (sym same)
    (subst (λ (n : ℕ). IsCut f runs limit n) (sym is) cut)

pub ruleset cuts = (maximal_left, maximal_right, maximal_middle, maximal_last, length-append)
