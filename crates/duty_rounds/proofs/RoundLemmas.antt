-- What lists that were tried say of one algorithm, and of several.
use Rattle.std.proofs.Common.{◌≡◌, ◌<◌, ◌≤◌, ◌+◌, ◌∙◌, inl, inr, ℕ, zero, suc, Bool, List, [], ◌∷◌, length, map, get_or, slice_get, Some, refl, sym, ap, subst}
use Rattle.std.proofs.Common.{arith}
use Rattle.std.proofs.lemmas.Bool.{cases_lt}
use Rattle.std.proofs.lemmas.List.{length-map}
use Rattle.board_file.specs.Shown.{Shown as BoardShown}
use Rattle.flm_descriptor.specs.Shown.{Shown as AlgorithmShown, shown as algorithm_of}
use Rattle.flm_descriptor.specs.declared.algorithm.Algorithm.{Algorithm}
use Rattle.serve_law.specs.Table.{IsA1On}
use Rattle.algo_calls.specs.Setups.{setup_of}
use Rattle.algo_calls.specs.Duties.{Serves, device_of, site_of, part}
use Rattle.duty_trials.specs.declared.list.Work.{Work}
use Rattle.duty_trials.specs.declared.list.Turn.{Turn}
use Rattle.duty_trials.specs.declared.list.Ended.{Ended}
use Rattle.duty_trials.specs.declared.list.Ended.TheVariants as ended
use Rattle.duty_trials.specs.declared.subject.Subject.{Subject}
use Rattle.duty_trials.specs.Ended.{BreaksAt, IfBroken}
use Rattle.duty_trials.specs.Subjects.{board_in, algorithm_in}
use Rattle.duty_trials.specs.Lists.{phase_of, before_turn, duty_at}
use Rattle.duty_trials.proofs.TrialLemmas.{refutes}
use Rattle.duty_rounds.specs.declared.verdict.Broken.{Broken}
use Rattle.duty_rounds.specs.declared.verdict.Verdict.{Verdict}
use Rattle.duty_rounds.specs.declared.verdict.Verdict.TheVariants as verdict
use Rattle.duty_rounds.specs.Verdicts.{Breaks, IsBreach, IsBroken, SaysTried, Says, beside, BreaksOne, IsTrueOf}

-- an algorithm with a list that broke doesn't keep its duties
pub breaks_refutes : (b : BoardShown) (a : AlgorithmShown) (region : ℕ) (w : Work) (turn : Turn) → Breaks b a region w turn → Serves b a region → ⊥
breaks_refutes b a region w turn x =
    let held : List ℕ = part (site_of b a region) x.ideal in
    refutes b a region x.before (phase_of w x.set held) (before_turn (setup_of a b) (device_of a) w x.set held turn)
    (duty_at (setup_of a b) (device_of a) w held turn)
    x.breaks

-- lists that were tried without a breach have the verdict Tried
pub still_tried : (b : BoardShown) (a : AlgorithmShown) (region : ℕ) (v : Verdict) → SaysTried b a region v → (IsBroken v → ⊥) → v ≡ verdict.Tried
still_tried b a region verdict.Proved says whole = absurd says
still_tried b a region verdict.Tried says whole = refl
still_tried b a region (verdict.Broken broken) says whole = absurd (whole tt)

pub tried_says : (b : BoardShown) (a : AlgorithmShown) (region : ℕ) (v : Verdict) → SaysTried b a region v → Says b a region v
tried_says b a region verdict.Proved says = absurd says
tried_says b a region verdict.Tried says = tt
tried_says b a region (verdict.Broken broken) says = says

-- ---- several algorithms, one after the other

-- what is known of the first `count` algorithms, if none of them broke a duty
abbrev pub SoFar : BoardShown → List AlgorithmShown → ℕ → Verdict → Type 0
SoFar b algorithms count verdict.Proved = (k : ℕ) (other : AlgorithmShown) → k < count → Serves b (get_or algorithms k other) k
SoFar b algorithms count verdict.Tried = Unit {0}
SoFar b algorithms count (verdict.Broken broken) = ⊥

pub so_far_none : (b : BoardShown) (algorithms : List AlgorithmShown) → SoFar b algorithms 0 verdict.Proved
so_far_none b algorithms = λ k other less. absurd (omega (arith, less))

-- the verdict of several algorithms after one more
pub so_far_more : (b : BoardShown) (algorithms : List AlgorithmShown) (count : ℕ) (a : AlgorithmShown) (v own : Verdict) → SoFar b algorithms count v
    → ((other : AlgorithmShown) → get_or algorithms count other ≡ a) → Says b a count own → (IsBroken (beside v own) → ⊥) →
    SoFar b algorithms (count + 1) (beside v own)
so_far_more b algorithms count a verdict.Proved verdict.Proved so is says whole = λ k other less. elim (cases_lt k count) [
  | inl below ↦ so k other below
  | inr above ↦
      let here : k ≡ count = omega (arith, less, above) in
      subst (λ (n : ℕ). Serves b (get_or algorithms n other) n) (sym here) (subst (λ (x : AlgorithmShown). Serves b x count) (sym (is other)) says)
]
so_far_more b algorithms count a verdict.Proved verdict.Tried so is says whole = tt
so_far_more b algorithms count a verdict.Proved (verdict.Broken broken) so is says whole = whole tt
so_far_more b algorithms count a verdict.Tried verdict.Proved so is says whole = tt
so_far_more b algorithms count a verdict.Tried verdict.Tried so is says whole = tt
so_far_more b algorithms count a verdict.Tried (verdict.Broken broken) so is says whole = whole tt
so_far_more b algorithms count a (verdict.Broken broken) own so is says whole = so

its_breach : (b : BoardShown) (algorithms : List AlgorithmShown) (count : ℕ) (a : AlgorithmShown) (broken : Broken) → slice_get algorithms count ≡ Some a
    → IsBreach b a count broken → BreaksOne b algorithms broken
its_breach b algorithms count a broken is breach = record {
  algorithm = a;
  is = ap (λ (n : ℕ). slice_get algorithms n) breach.region_is ∙ is;
  breach = subst (λ (n : ℕ). IsBreach b a n broken) (sym breach.region_is) breach;
}

-- the verdict of several algorithms after one more, which broke a duty
pub broken_says : (b : BoardShown) (algorithms : List AlgorithmShown) (count : ℕ) (a : AlgorithmShown) (v own : Verdict) → SoFar b algorithms count v
    → slice_get algorithms count ≡ Some a → Says b a count own → IsBroken (beside v own) → IsTrueOf b algorithms (beside v own)
broken_says b algorithms count a verdict.Proved verdict.Proved so is says broke = absurd broke
broken_says b algorithms count a verdict.Proved verdict.Tried so is says broke = absurd broke
broken_says b algorithms count a verdict.Proved (verdict.Broken broken) so is says broke = its_breach b algorithms count a broken is says
broken_says b algorithms count a verdict.Tried verdict.Proved so is says broke = absurd broke
broken_says b algorithms count a verdict.Tried verdict.Tried so is says broke = absurd broke
broken_says b algorithms count a verdict.Tried (verdict.Broken broken) so is says broke = its_breach b algorithms count a broken is says
broken_says b algorithms count a (verdict.Broken broken) own so is says broke = absurd so

-- the verdict of all algorithms
pub so_far_all : (b : BoardShown) (algorithms : List AlgorithmShown) (count : ℕ) (v : Verdict) → length algorithms ≤ count → SoFar b algorithms count v →
    IsTrueOf b algorithms v
so_far_all b algorithms count verdict.Proved all so = record { serves = λ region other less. so region other (omega (arith, less, all)) }
so_far_all b algorithms count verdict.Tried all so = tt
so_far_all b algorithms count (verdict.Broken broken) all so = absurd so

-- ---- one algorithm, by the names in the code

-- what the trial of a list says of the algorithm
pub breaks_as : (b : BoardShown) (a : AlgorithmShown) (region : ℕ) (w : Work) (set : List Bool) (before ideal : List ℕ) (e : Ended)
    → IfBroken e (BreaksAt b a region w set before ideal) → IfBroken e (Breaks b a region w)
breaks_as b a region w set before ideal ended.Kept is = tt
breaks_as b a region w set before ideal (ended.Broken turn breach) is = record { set = set; before = before; ideal = ideal; breaks = is }
breaks_as b a region w set before ideal ended.Fault is = tt

pub tried_is : (b : BoardShown) (a : AlgorithmShown) (region : ℕ) (v : Verdict) → v ≡ verdict.Tried → SaysTried b a region v
tried_is b a region v is = subst (λ (x : Verdict). SaysTried b a region x) (sym is) tt

pub says_as : (t : Subject) (b : BoardShown) (a : AlgorithmShown) (k : ℕ) (v : Verdict) → board_in t ≡ b → algorithm_in t ≡ a → t.region ≡ k
    → Says (board_in t) (algorithm_in t) t.region v → Says b a k v
says_as t b a k v board algorithm region says =
    subst (λ (n : ℕ). Says b a n v) region (subst (λ (y : AlgorithmShown). Says b y t.region v) algorithm
    (subst (λ (x : BoardShown). Says x (algorithm_in t) t.region v) board says))

-- an element of a list after a function is mapped over it
pub got_map : {A B : Type 0} (f : A → B) (xs : List A) (k : ℕ) (x : A) → k < length xs → x ≡ get_or xs k x → slice_get (map f xs) k ≡ Some (f x)
got_map f [] k x less is = absurd (omega (arith, less))
got_map f (y ∷ ys) zero x less is = ap (λ z. Some (f z)) (sym is)
got_map f (y ∷ ys) (suc k) x less is = got_map f ys k x (omega (arith, less)) is

pub at_map : {A B : Type 0} (f : A → B) (xs : List A) (k : ℕ) (x : A) → k < length xs → x ≡ get_or xs k x → (other : B) → get_or (map f xs) k other ≡ f x
at_map f [] k x less is other = absurd (omega (arith, less))
at_map f (y ∷ ys) zero x less is other = ap (λ z. f z) (sym is)
at_map f (y ∷ ys) (suc k) x less is other = at_map f ys k x (omega (arith, less)) is other

-- after A1 on a board that it serves the verdict stays Proved
pub proved_more : (b : BoardShown) (algorithms : List AlgorithmShown) (count : ℕ) (a : AlgorithmShown) (v own : Verdict) → count < length algorithms
    → slice_get algorithms count ≡ Some a → (count ≡ 0 → IsA1On b a → own ≡ verdict.Proved)
    → ((x : AlgorithmShown) → algorithms ≡ x ∷ [] → IsA1On b x → v ≡ verdict.Proved)
    → (x : AlgorithmShown) → algorithms ≡ x ∷ [] → IsA1On b x → beside v own ≡ verdict.Proved
proved_more b algorithms count a v own less is now before x only on =
    let first : count ≡ 0 = omega (arith, less, ap (λ (l : List AlgorithmShown). length l) only) in
    let there : slice_get (x ∷ []) 0 ≡ Some a =
    sym (ap (λ (n : ℕ). slice_get (x ∷ []) n) first) ∙ sym (ap (λ (l : List AlgorithmShown). slice_get l count) only) ∙ is in
    let same : x ≡ a = cc in
    ap (λ (z : Verdict). beside z own) (before x only on) ∙ now first (subst (λ (y : AlgorithmShown). IsA1On b y) same on)

-- ---- the verdict of the algorithm at a place of a list

pub record Judged (b : BoardShown) (algorithms : List AlgorithmShown) (k : ℕ) (a : AlgorithmShown) (own : Verdict) : Type 0 where
  pub less : k < length algorithms
  pub got : slice_get algorithms k ≡ Some a
  pub at : (other : AlgorithmShown) → get_or algorithms k other ≡ a
  pub says : Says b a k own
  pub proved : k ≡ 0 → IsA1On b a → own ≡ verdict.Proved

pub judged : (t : Subject) (b : BoardShown) (xs : List Algorithm) (k : ℕ) (x : Algorithm) (own : Verdict) → k < length xs → x ≡ get_or xs k x
    → board_in t ≡ b → algorithm_in t ≡ algorithm_of x → t.region ≡ k → Says (board_in t) (algorithm_in t) t.region own
    → (t.region ≡ 0 → IsA1On (board_in t) (algorithm_in t) → own ≡ verdict.Proved) → Judged b (map algorithm_of xs) k (algorithm_of x) own
judged t b xs k x own less is board algorithm region says proved = record {
  less = omega (arith, less, length-map xs algorithm_of);
  got = got_map algorithm_of xs k x less is;
  at = at_map algorithm_of xs k x less is;
  says = says_as t b (algorithm_of x) k own board algorithm region says;
  proved = λ first on.
      proved (region ∙ first) (subst (λ (z : BoardShown). IsA1On z (algorithm_in t)) (sym board)
      (subst (λ (y : AlgorithmShown). IsA1On b y) (sym algorithm) on));
}
