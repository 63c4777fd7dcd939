-- What the steps of `put_job` leave: a stop at any of them leaves the file free or whole.
use Rattle.std.proofs.Common.{◌≡◌, ◌≢◌, inl, inr, ◌≤◌, ◌+◌, ℕ, List, [], ◌∷◌, ◌++◌, length, take, refl, sym, ◌∙◌, ap, arith}
use Rattle.std.proofs.lemmas.List.{drop_all, append-nil}
use Rattle.std.proofs.lemmas.Bool.{cases_eq}
use Rattle.bench_model.specs.Calls.{written, Torn}
use Rattle.job_text.specs.Files.{IsFree}
use Rattle.job_file.specs.Stops.{IsFreeOrWhole}

pub free_short : (f : List ℕ) → length f ≤ 1 → IsFree f
free_short [] le = tt
free_short (gate ∷ []) le = tt
free_short (gate ∷ next ∷ rest) le = absurd (omega arith)

pub free_closed : (f rest : List ℕ) (gate : ℕ) → gate ≢ 165 → take 1 f ≡ gate ∷ rest → IsFree f
free_closed [] rest gate shut is = tt
free_closed (b ∷ []) rest gate shut is = tt
free_closed (b ∷ next ∷ f) rest gate shut is = let e : b ≡ gate = cc in λ same. shut (sym e ∙ same)

-- a torn write of byte 0 leaves a file of at most one byte free
pub closing_free : (d f : List ℕ) → length d ≤ 1 → Torn 0 1 d f → IsFree f
closing_free d f short torn = free_short f (omega (arith, torn.no_longer))

pub closed : (d : List ℕ) → length d ≤ 1 → written 0 (0 ∷ []) d ≡ 0 ∷ []
closed [] le = refl
closed (b ∷ []) le = refl
closed (b ∷ next ∷ d) le = absurd (omega arith)

-- a torn write from byte 1 on leaves the file free while the gate is closed
pub behind_free : (n : ℕ) (f : List ℕ) → Torn 1 n (0 ∷ []) f → IsFree f
behind_free n f torn = free_closed f [] 0 (λ e. absurd (omega (arith, e))) torn.before

pub behind : (body : List ℕ) → written 1 body (0 ∷ []) ≡ 0 ∷ body
behind body = ap (λ (l : List ℕ). 0 ∷ body ++ l) (drop_all (1 + length body) (0 ∷ []) (omega arith)) ∙ append-nil (0 ∷ body)

-- a torn write that opens the gate leaves the file free or whole
pub opening : (body f : List ℕ) → Torn 0 1 (0 ∷ body) f → IsFreeOrWhole body f
opening body [] torn = inl tt
opening body (gate ∷ f) torn = elim (cases_eq gate 165) [
  | inl is ↦ inr ((λ i. is i ∷ f) ∙ ap (λ (l : List ℕ). 165 ∷ l) torn.after)
  | inr shut ↦ inl (free_closed (gate ∷ f) [] gate shut refl)
]
