-- The texts of the members of a set, one after another.
use Rattle.std.proofs.Common.{◌≡◌, ◌<◌, ◌≤◌, ◌+◌, ◌-◌, ◌++◌, ◌∙◌, sym, ap, refl, arith, ℕ, zero, suc, Bool, true, false, not, ◌&&◌, List, [], ◌∷◌, length}
use Rattle.std.proofs.Common.{get_or, append_assoc, append-nil, add-one, Ok, Err}
use Rattle.std.specs.Prelude.{codes}
use Rattle.outside_io.specs.State.{SinkState}
use Rattle.outside_io.specs.declared.sink.OutputFault.{OutputFault}
use Rattle.flm_descriptor.specs.Shape.{Range, range_at}
use Rattle.page_geometry.specs.Geometry.{Geometry, IsPartition, IsAt}
use Rattle.erase_planner.specs.Plans.{Chosen, IsEmptyPlan}
use Rattle.outside_io.specs.Gathers.{Gathers}
use Rattle.report_text.specs.Plan.{is_none, asks_nothing, kind_text, texts_below, action_text, member_text, set_text, erase_text}
use Rattle.outside_io.proofs.GatherLemmas.{gathers_nothing, gathers_as, gathers_then, gathers_stops}

module _ (text : ℕ → List ℕ) where
  below_next : (n : ℕ) → texts_below n text ++ text n ≡ texts_below (n + 1) text
  unfolding texts_below
  below_next n = sym (ap (λ (k : ℕ). texts_below k text) (add-one n))

  -- what follows the texts below a number
  pub rest_above : ℕ → ℕ → List ℕ
  rest_above m zero = []
  rest_above m (suc k) = rest_above m k ++ text (m + k)

  below_then : (m k : ℕ) → texts_below m text ++ rest_above m k ≡ texts_below (m + k) text
  unfolding rest_above texts_below
  below_then m zero = append-nil (texts_below m text) ∙ ap (λ (n : ℕ). texts_below n text) (let e : m ≡ m + 0 = omega arith in e)
  below_then m (suc k) =
      sym (append_assoc (texts_below m text) (rest_above m k) (text (m + k)))
      ∙ ap (λ (l : List ℕ). l ++ text (m + k)) (below_then m k)
      ∙ ap (λ (n : ℕ). texts_below n text) (let e : suc (m + k) ≡ m + suc k = omega arith in e)

  pub begins_below : (m n : ℕ) → m ≤ n → texts_below m text ++ rest_above m (n - m) ≡ texts_below n text
  begins_below m n less = below_then m (n - m) ∙ ap (λ (k : ℕ). texts_below k text) (let e : m + (n - m) ≡ n = omega arith in e)

  -- no text is gathered so far
  pub gathers_none : (tells : Bool) (a : SinkState) (w : List ℕ) (u : Unit {0}) → Gathers tells a a w w (texts_below 0 text) (Ok u)
  unfolding texts_below
  gathers_none tells a w u = gathers_nothing tells a w u

  -- the text of the next number was gathered
  pub gathers_next : {tells : Bool} {a b c : SinkState} {v w x : List ℕ} {i j : Unit {0}} (n : ℕ) → Gathers tells a b v w (texts_below n text) (Ok i)
      → Gathers tells b c w x (text n) (Ok j) → Gathers tells a c v x (texts_below (n + 1) text) (Ok j)
  gathers_next n one two = gathers_as (below_next n) (gathers_then _ one two)

  -- a fault broke off the text of the next number
  pub gathers_broken : {tells : Bool} {a b c : SinkState} {v w x : List ℕ} {i : Unit {0}} {e : OutputFault} (n all : ℕ) → n < all
      → Gathers tells a b v w (texts_below n text) (Ok i) → Gathers tells b c w x (text n) (Err e) → Gathers tells a c v x (texts_below all text) (Err e)
  gathers_broken n all less one two =
      gathers_as (begins_below (n + 1) all (omega (arith, less))) (gathers_stops _ (gathers_as (below_next n) (gathers_then _ one two)))

-- Members of a set.

pub not_in : (name : List ℕ) (base : ℕ) (ranges : List Range) (set : List Bool) (k : ℕ) → get_or set k false ≡ false
    → [] ≡ member_text name base ranges set k
unfolding member_text
not_in name base ranges set k out = rw out refl

pub is_in : (name : List ℕ) (base : ℕ) (ranges : List Range) (set : List Bool) (k place len : ℕ) → get_or set k false ≡ true
    → IsAt (range_at ranges k) place len
    → action_text name (base + place) len ≡ member_text name base ranges set k
unfolding member_text
is_in name base ranges set k place len member at =
    let start : place ≡ (range_at ranges k).start = at.0 in
    let length_is : len ≡ (range_at ranges k).stop - (range_at ranges k).start = omega (arith, at.0, at.1) in
    rw member (ap (λ (p : ℕ). action_text name (base + p) len) start
    ∙ ap (λ (l : ℕ). action_text name (base + (range_at ranges k).start) l) length_is)

-- the address of a range is a word
pub address_fits : (base size : ℕ) (ranges : List Range) (k place len : ℕ) → IsPartition size ranges → k < length ranges → base + size ≤ 4294967296
    → IsAt (range_at ranges k) place len → base + place < 4294967296
address_fits base size ranges k place len are less fits at =
    let some = are.some k less in
    let below = are.below k less in
    omega (arith, some, below, fits, at.0)

-- Plans that ask for nothing.

none_at : (set : List Bool) → is_none set ≡ true → (k : ℕ) → get_or set k false ≡ false
none_at [] none k = refl
none_at (true ∷ set) none k = absurd (cc)
none_at (false ∷ set) none zero = refl
none_at (false ∷ set) none (suc k) = none_at set none k

all_none : (set : List Bool) → ((k : ℕ) → get_or set k false ≡ false) → is_none set ≡ true
all_none [] none = refl
all_none (true ∷ set) none = let isn't : true ≡ false = none 0 in absurd (cc)
all_none (false ∷ set) none = all_none set (λ k. none (suc k))

all_three : (a b c : Bool) → (not a && (b && c)) ≡ true → (a ≡ false) × (b ≡ true) × (c ≡ true)
all_three false true true is = (refl, refl, refl)
all_three a b c is = absurd (cc)

three : (a b c : Bool) → a ≡ false → b ≡ true → c ≡ true → (not a && (b && c)) ≡ true
three a b c x y z = rw (x, y, z) refl

pub nothing_is : (plan : Chosen) → IsEmptyPlan plan → asks_nothing plan ≡ true
nothing_is plan none = three plan.chip (is_none plan.sectors) (is_none plan.pages) none.0 (all_none plan.sectors none.1) (all_none plan.pages none.2)

is_nothing : (plan : Chosen) → asks_nothing plan ≡ true → IsEmptyPlan plan
is_nothing plan is =
    let all = all_three plan.chip (is_none plan.sectors) (is_none plan.pages) is in
    (all.0, none_at plan.sectors all.1, none_at plan.pages all.2)

pub something_is : (plan : Chosen) → (IsEmptyPlan plan → ⊥) → asks_nothing plan ≡ false
something_is plan some = decided (asks_nothing plan) (λ is. some (is_nothing plan is)) where
  decided : (b : Bool) → (b ≡ true → ⊥) → b ≡ false
  decided true not_true = absurd (not_true refl)
  decided false not_true = refl

-- The first line, and what is erased.

pub kind_none : (plan : Chosen) → IsEmptyPlan plan → codes "plan none\n" ≡ kind_text plan
unfolding kind_text
kind_none plan none = rw (nothing_is plan none) refl

pub kind_chip : (plan : Chosen) → (IsEmptyPlan plan → ⊥) → plan.chip ≡ true → codes "plan chip\n" ≡ kind_text plan
unfolding kind_text
kind_chip plan some chip = rw (something_is plan some, chip) refl

pub kind_sectors : (plan : Chosen) → (IsEmptyPlan plan → ⊥) → plan.chip ≡ false → codes "plan sectors\n" ≡ kind_text plan
unfolding kind_text
kind_sectors plan some chip = rw (something_is plan some, chip) refl

pub erase_chip : (l : Geometry) (base : ℕ) (plan : Chosen) → plan.chip ≡ true → codes "erase chip\n" ≡ erase_text l base plan
unfolding erase_text
erase_chip l base plan chip = rw chip refl

pub erase_sectors : (l : Geometry) (base : ℕ) (plan : Chosen) → plan.chip ≡ false
    → set_text (codes "erase") base l.sectors plan.sectors ≡ erase_text l base plan
unfolding erase_text
erase_sectors l base plan chip = rw chip refl
