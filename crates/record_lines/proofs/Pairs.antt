-- Pairs of digits by their places, for `decode`.
use Rattle.std.proofs.Common.{◌≡◌, ◌<◌, ◌+◌, ◌-◌, ◌*◌, ◌∙◌, ℕ, zero, suc, List, [], ◌∷◌, length, get_or, refl, sym, ap, arith}
use Rattle.std.specs.Prelude.{unwrap_or}
use Rattle.octets.specs.Digit.{pair_value}
use Rattle.record_lines.specs.Digits.{pairs}

pub length-pairs : (digits : List ℕ) (n : ℕ) → length digits ≡ 2 * n → length (pairs digits) ≡ n
length-pairs [] n long = omega arith
length-pairs (last ∷ []) n long = omega arith
length-pairs (high ∷ low ∷ rest) n long = let later = length-pairs rest (n - 1) (omega arith) in omega (arith, later)

pub get_or-pairs : (digits : List ℕ) (k : ℕ) → 2 * k + 1 < length digits →
    get_or (pairs digits) k 0 ≡ unwrap_or (pair_value (get_or digits (2 * k) 0) (get_or digits (2 * k + 1) 0)) 0
get_or-pairs [] k lt = absurd (omega arith)
get_or-pairs (last ∷ []) k lt = absurd (omega arith)
get_or-pairs (high ∷ low ∷ rest) zero lt = refl
get_or-pairs (high ∷ low ∷ rest) (suc k) lt =
    let even : 2 * suc k ≡ suc (suc (2 * k)) = omega arith in
    let odd : 2 * suc k + 1 ≡ suc (suc (2 * k + 1)) = omega arith in
    get_or-pairs rest k (omega arith)
    ∙ ap (λ (n : ℕ). unwrap_or (pair_value (get_or (high ∷ low ∷ rest) n 0) (get_or rest (2 * k + 1) 0)) 0) (sym even)
    ∙ ap (λ (n : ℕ). unwrap_or (pair_value (get_or (high ∷ low ∷ rest) (2 * suc k) 0) (get_or (high ∷ low ∷ rest) n 0)) 0) (sym odd)
