-- Stretches of moments before and after a turn: with them a command joins what a stop may leave in each of its steps.
use Rattle.std.proofs.Common.{◌≡◌, ◌∙◌, ⊎_elim, refl, sym, subst, ◌≤◌, ◌<◌, ◌+◌, ℕ, List, Option, Some, None, arith}
use Rattle.std.proofs.lemmas.Bool.{cases_lt}
use Rattle.bench_model.specs.History.{left, Leaves}
use Rattle.bench_model.specs.State.{BenchState, cells_half, SameOutside}
use Rattle.bench_model.specs.Pairs.{PairsLeave, PairsInTurn}
use Rattle.bench_model.proofs.Moments.{goes_then, leaves_here}
use Rattle.job_commands.specs.Carry.{CellsInTurn, BrokenOff}

pub turn_then : {a b c : BenchState} {turn : ℕ} (First Before Second : List ℕ → List ℕ → Type 0) → ((f x : List ℕ) → Before f x → First f x)
    → PairsLeave a b First → PairsInTurn b c turn Before Second
    → ((k : ℕ) (f : List ℕ) → k ≤ b.moment → c.files_at k f → b.files_at k f) → ((k : ℕ) (x : List ℕ) → k ≤ b.moment → c.cells_at k x → b.cells_at k x)
    → PairsInTurn a c turn First Second
turn_then {a} {b} {c} {turn} First Before Second to_first one two files cells = record {
  started = omega (arith, one.files.later, two.started);
  later = omega (arith, one.files.later, two.later);
  before = λ k f x from to less f_at x_at. ⊎_elim
      (λ (early : k < b.moment). one.each k f x from (omega (arith, early)) (files k f (omega (arith, early)) f_at) (cells k x (omega (arith, early)) x_at))
      (λ (late : b.moment ≤ k). to_first f x (two.before k f x late to less f_at x_at))
      (cases_lt k b.moment);
  from = λ k f x from to f_at x_at. two.from k f x from to f_at x_at;
}

-- cells that never come to their turn
pub cells_never : {a b : BenchState} (First Second : List ℕ → Type 0) → Leaves (cells_half a) (cells_half b) First → CellsInTurn a b (b.moment + 1) First Second
cells_never {a} {b} First Second one = record {
  started = omega (arith, one.goes_on.later);
  goes_on = one.goes_on;
  before = λ k x from to less x_at. one.each k x from to x_at;
  from = λ k x from to x_at. absurd (omega (arith, from, to));
}

-- two stretches of the call, with the turn between them
pub cells_in_turn : (a b c : BenchState) (First Second : List ℕ → Type 0) → Leaves (cells_half a) (cells_half b) First
    → Leaves (cells_half b) (cells_half c) Second → CellsInTurn a c b.moment First Second
cells_in_turn a b c First Second one two = record {
  started = one.goes_on.later;
  goes_on = goes_then one.goes_on two.goes_on;
  before = λ k x from to less x_at. one.each k x from (omega (arith, less)) ((two.goes_on.past k x (omega (arith, less))).0 x_at);
  from = λ k x from to x_at. two.each k x from to x_at;
}

-- The operation that was open at entry is broken off (a to x).

same_here_at : (o : Option (ℕ × ℕ)) (c : List ℕ) → SameOutside o c c
same_here_at None c = refl
same_here_at (Some range) c = (refl, refl, refl)

-- cells that did not change are the same everywhere
pub same_here : {b c : List ℕ} (o : Option (ℕ × ℕ)) → c ≡ b → SameOutside o b c
same_here {b} {c} o is = subst (λ (x : List ℕ). SameOutside o b x) (sym is) (same_here_at o b)

module _ (a x : BenchState) (surveyed : List ℕ) (same : SameOutside a.operation a.cells surveyed)
    (one : Leaves (cells_half a) (cells_half x) (λ c. SameOutside a.operation a.cells c)) where
  -- no operation was open at entry
  off_idle : a.operation ≡ None → BrokenOff a x surveyed
  off_idle idle = record {
    turn = a.moment;
    at_entry = λ is. refl;
    ended = λ is. one.goes_on.later;
    moments = record {
      started = omega arith;
      goes_on = one.goes_on;
      before = λ k c from to less at. absurd (omega (arith, from, less));
      from = λ k c from to at.
          let before : c ≡ a.cells = subst (λ (o : Option (ℕ × ℕ)). SameOutside o a.cells c) idle (one.each k c from to at) in
          let found : surveyed ≡ a.cells = subst (λ (o : Option (ℕ × ℕ)). SameOutside o a.cells surveyed) idle same in
          before ∙ sym found;
    };
  }

  other : {r : ℕ × ℕ} → a.operation ≡ Some r → a.operation ≡ None → ⊥
  other {r} some none = let e : Some r ≡ None = sym some ∙ none in cc

  -- an operation was open up to b, and was broken off there
  off_open : (r : ℕ × ℕ) (b : BenchState) → a.operation ≡ Some r → Leaves (cells_half a) (cells_half b) (λ c. SameOutside a.operation a.cells c)
      → Leaves (cells_half b) (cells_half x) (λ c. c ≡ surveyed) → BrokenOff a x surveyed
  off_open r b some first later = record {
    turn = b.moment;
    at_entry = λ none. absurd (other some none);
    ended = λ is. later.goes_on.later;
    moments = cells_in_turn a b x (λ c. SameOutside a.operation a.cells c) (λ c. c ≡ surveyed) first later;
  }

  off_by : (b : BenchState) → Leaves (cells_half a) (cells_half b) (λ c. SameOutside a.operation a.cells c)
      → Leaves (cells_half b) (cells_half x) (λ c. c ≡ surveyed) → (o : Option (ℕ × ℕ)) → a.operation ≡ o → BrokenOff a x surveyed
  off_by b first later None is = off_idle is
  off_by b first later (Some r) is = off_open r b is first later

  -- the operation was broken off at b, or none was open
  pub off_from : (b : BenchState) → Leaves (cells_half a) (cells_half b) (λ c. SameOutside a.operation a.cells c)
      → Leaves (cells_half b) (cells_half x) (λ c. c ≡ surveyed) → BrokenOff a x surveyed
  off_from b first later = off_by b first later a.operation refl

  module _ (here : x.cells ≡ surveyed) (exact : (c : List ℕ) → left (cells_half x) c → SameOutside x.operation x.cells c) where
    off_late : (r : ℕ × ℕ) → a.operation ≡ Some r → (q : Option (ℕ × ℕ)) → x.operation ≡ q → BrokenOff a x surveyed
    off_late r some None is = off_open r x some one
        (leaves_here (cells_half x) (λ c. c ≡ surveyed) (λ c at. subst (λ (o : Option (ℕ × ℕ)). SameOutside o x.cells c) is (exact c at) ∙ here))
    off_late r some (Some q) is = record {
      turn = x.moment + 1;
      at_entry = λ none. absurd (other some none);
      ended = λ none. absurd (let e : Some q ≡ None = sym is ∙ none in cc);
      moments = cells_never (λ c. SameOutside a.operation a.cells c) (λ c. c ≡ surveyed) one;
    }

    off_of : (o : Option (ℕ × ℕ)) → a.operation ≡ o → BrokenOff a x surveyed
    off_of None is = off_idle is
    off_of (Some r) is = off_late r is x.operation refl

    -- at x the operation is broken off, or still open
    pub off_at_end : BrokenOff a x surveyed
    off_at_end = off_of a.operation refl

-- the cells satisfy `P` from the turn on, where cells as surveyed satisfy it
pub off_as : {a x : BenchState} {surveyed : List ℕ} (off : BrokenOff a x surveyed) (P : List ℕ → Type 0) → P surveyed
    → CellsInTurn a x off.turn (λ c. SameOutside a.operation a.cells c) P
off_as {a} {x} {surveyed} off P start = record {
  started = off.moments.started;
  goes_on = off.moments.goes_on;
  before = off.moments.before;
  from = λ k c from to at. subst (λ (l : List ℕ). P l) (sym (off.moments.from k c from to at)) start;
}

module _ (a m d : BenchState) {surveyed : List ℕ} (off : BrokenOff a m surveyed) (idle : m.operation ≡ None) (P : List ℕ → Type 0)
    (two : Leaves (cells_half m) (cells_half d) P) where
  pub off_then : P surveyed → CellsInTurn a d off.turn (λ c. SameOutside a.operation a.cells c) P
  off_then start =
      let le : off.turn ≤ m.moment = off.ended idle in
      record {
        started = off.moments.started;
        goes_on = goes_then off.moments.goes_on two.goes_on;
        before = λ k c from to less at. off.moments.before k c from (omega (arith, less, le)) less ((two.goes_on.past k c (omega (arith, less, le))).0 at);
        from = λ k c from to at. ⊎_elim
            (λ (early : k < m.moment).
            subst (λ (l : List ℕ). P l) (sym (off.moments.from k c from (omega (arith, early)) ((two.goes_on.past k c (omega (arith, early))).0 at))) start)
            (λ (late : m.moment ≤ k). two.each k c late to at)
            (cases_lt k m.moment);
      }

  pub settled_then : (c : List ℕ) → d.cells_at off.turn c → c ≡ surveyed
  settled_then c at =
      let le : off.turn ≤ m.moment = off.ended idle in
      off.moments.from off.turn c (omega arith) le ((two.goes_on.past off.turn c le).0 at)

  pub ended_then : off.turn ≤ d.moment
  ended_then = let le : off.turn ≤ m.moment = off.ended idle in omega (arith, le, two.goes_on.later)
