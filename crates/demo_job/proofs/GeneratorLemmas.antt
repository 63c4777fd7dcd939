-- One more draw. The made cells and the made image are draws, one after the other.
use Rattle.std.proofs.Common.{◌≡◌, refl, sym, ap, ◌∙◌, arith, append-nil, append_assoc, ◌+◌, ℕ, zero, suc, List, [], ◌∷◌, ◌++◌, length}
use Rattle.demo_job.specs.Generator.{next, byte_of, draws, after}

pub draws_step : (n state : ℕ) → draws (suc n) state ≡ draws n state ++ byte_of (after n state) ∷ []
unfolding draws after
draws_step zero state = refl
draws_step (suc n) state = ap (λ (l : List ℕ). byte_of state ∷ l) (draws_step n (next state))

pub after_step : (n state : ℕ) → after (suc n) state ≡ next (after n state)
unfolding after
after_step zero state = refl
after_step (suc n) state = after_step n (next state)

pub no_draws : (state : ℕ) → draws 0 state ≡ []
unfolding draws
no_draws state = refl

pub not_after : (state : ℕ) → after 0 state ≡ state
unfolding after
not_after state = refl

pub length-draws : (n state : ℕ) → length (draws n state) ≡ n
unfolding draws
length-draws zero state = refl
length-draws (suc n) state = ap (λ (k : ℕ). suc k) (length-draws n (next state))

pub begin_bytes : (start : List ℕ) (state : ℕ) → start ≡ start ++ draws 0 state
begin_bytes start state = sym (ap (λ (l : List ℕ). start ++ l) (no_draws state) ∙ append-nil start)

pub more_bytes : (i first state : ℕ) (start old new : List ℕ) (byte : ℕ) → state ≡ after i first → old ≡ start ++ draws i first → byte ≡ byte_of state
    → new ≡ old ++ byte ∷ [] → new ≡ start ++ draws (i + 1) first
more_bytes i first state start old new byte state_is old_is byte_is new_is =
    let next : suc i ≡ i + 1 = omega arith in
    new_is
    ∙ ap (λ (b : ℕ). old ++ b ∷ []) (byte_is ∙ ap byte_of state_is)
    ∙ ap (λ (l : List ℕ). l ++ byte_of (after i first) ∷ []) old_is
    ∙ append_assoc start (draws i first) (byte_of (after i first) ∷ [])
    ∙ ap (λ (l : List ℕ). start ++ l) (sym (draws_step i first))
    ∙ ap (λ (n : ℕ). start ++ draws n first) next

pub more_state : (i first state new : ℕ) → state ≡ after i first → new ≡ next state → new ≡ after (i + 1) first
more_state i first state new state_is new_is =
    let more : suc i ≡ i + 1 = omega arith in
    new_is ∙ ap next state_is ∙ sym (after_step i first) ∙ ap (λ (n : ℕ). after n first) more

-- a number of draws appended to an empty list
pub long_draws : (front : List ℕ) (n state : ℕ) (out lent : List ℕ) → front ≡ [] → out ≡ front ++ draws n state → lent ≡ out → length lent ≡ n
long_draws front n state out lent none out_is lent_is =
    ap (λ (l : List ℕ). length l) (lent_is ∙ out_is ∙ ap (λ (l : List ℕ). l ++ draws n state) none) ∙ length-draws n state
