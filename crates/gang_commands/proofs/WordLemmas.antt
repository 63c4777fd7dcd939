-- Words that are pairs for benches.
use Rattle.std.proofs.Common.{zero, suc, ◌↔◌, ◌⊎◌, ⊎_elim, inl, inr, ◌∙◌, sym, subst, Bool, true, false, ◌≡◌, ◌≢◌, ◌<◌, ◌≤◌, ◌*◌, ◌/◌, ◌%◌, arith, ℕ}
use Rattle.std.proofs.lemmas.Bool.{cases_eq, cases_lt}
use Rattle.gang_commands.specs.Words.{DoFit}

pub pairs_fit : (words benches : ℕ) → words ≢ 0 → words ≤ 32 → words % 2 ≡ 0 → words / 2 ≡ benches → DoFit words benches
pairs_fit words benches some few even half = record { some = some; even = even; few = few; twice = omega (arith, even, half) }

pub half_fits : (words benches : ℕ) → DoFit words benches → words / 2 ≡ benches
half_fits words benches fit = omega (arith, fit.even, fit.twice)

pub some_benches : (words benches : ℕ) → DoFit words benches → 1 ≤ benches
some_benches words zero fit = absurd (fit.some (omega (arith, fit.twice)))
some_benches words (suc n) fit = omega arith

pub few_benches : (words benches : ℕ) → DoFit words benches → benches ≤ 16
few_benches words benches fit = omega (arith, fit.few, fit.twice)

-- words fit the benches or don't
pub fits_or_not : (words benches : ℕ) → DoFit words benches ⊎ (DoFit words benches → ⊥)
fits_or_not words benches = ⊎_elim
    (λ (none : words ≡ 0). inr (λ (fit : DoFit words benches). fit.some none))
    (λ (some : words ≢ 0). ⊎_elim
    (λ (even : words % 2 ≡ 0). ⊎_elim
    (λ (twice : words ≡ 2 * benches). ⊎_elim
    (λ (many : 32 < words). inr (λ (fit : DoFit words benches). omega (arith, many, fit.few)))
    (λ (few : words ≤ 32). inl (record { some = some; even = even; few = few; twice = twice }))
    (cases_lt 32 words))
    (λ (other : words ≢ 2 * benches). inr (λ (fit : DoFit words benches). other fit.twice))
    (cases_eq words (2 * benches)))
    (λ (odd : words % 2 ≢ 0). inr (λ (fit : DoFit words benches). odd fit.even))
    (cases_eq (words % 2) 0))
    (cases_eq words 0)

-- ---- whether the words were found to fit

pub not_fit : (words benches w n : ℕ) (b : Bool) → b ≡ false → (b ≡ true) ↔ DoFit w n → w ≡ words → n ≡ benches → DoFit words benches → ⊥
not_fit words benches w n b isn't found same_words same_benches fit =
    let e : false ≡ true = sym isn't ∙ found.1 (subst (λ (m : ℕ). DoFit m n) (sym same_words) (subst (λ (m : ℕ). DoFit words m) (sym same_benches) fit)) in cc

pub does_fit : (words benches w n : ℕ) (b : Bool) → b ≡ true → (b ≡ true) ↔ DoFit w n → w ≡ words → n ≡ benches → DoFit words benches
does_fit words benches w n b is found same_words same_benches =
    subst (λ (m : ℕ). DoFit m benches) same_words (subst (λ (m : ℕ). DoFit w m) same_benches (found.0 is))
