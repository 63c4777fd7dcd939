-- How runs of calls are joined, for one half and for both. Crates that call a bench twice join by these lemmas what a stop may leave.
use Rattle.std.proofs.Common.{◌<◌, ◌≡◌, ◌↔◌, ◌+◌, ⊎_elim, ◌≤◌, ◌∙◌, subst, refl, ℕ, List, Bool, arith}
use Rattle.std.proofs.lemmas.Bool.{cases_lt}
use Rattle.bench_model.specs.History.{Half, left, GoesOn, Leaves, AddsNothing, Stays, LeftOnly}
use Rattle.bench_model.specs.State.{BenchState, file_half, cells_half, LeftSince}
use Rattle.bench_model.specs.Calls.{Follows, FileStays, CellsStay, OnlyReads}
use Rattle.bench_model.specs.Pairs.{PairsLeave, PairsInTurn}

-- Moments that have passed.

pub goes_here : (h : Half) → GoesOn h h
goes_here h = record { later = omega arith; past = λ k x le. ((λ at. at), (λ at. at)) }

pub goes_then : {a b c : Half} → GoesOn a b → GoesOn b c → GoesOn a c
goes_then one two = record {
  later = omega (arith, one.later, two.later);
  past = λ k x le. (
    (λ at. (one.past k x le).0 ((two.past k x (omega (arith, le, one.later))).0 at)),
    (λ at. (two.past k x (omega (arith, le, one.later))).1 ((one.past k x le).1 at)),
  );
}

at_now : (h : Half) (k : ℕ) (x : List ℕ) → h.now ≤ k → k ≤ h.now → h.at k x → left h x
at_now h k x from to at = let is : k ≡ h.now = omega arith in subst (λ (n : ℕ). h.at n x) is at

-- One half, where P holds of all that a stop leaves.

-- before the first call a stop leaves only what has P
pub leaves_here : (h : Half) (P : List ℕ → Type 0) → ((x : List ℕ) → left h x → P x) → Leaves h h P
leaves_here h P here = record { goes_on = goes_here h; each = λ k x from to at. here x (at_now h k x from to at) }

-- after one call more a stop still leaves only what has P
pub leaves_then : {a b c : Half} (P : List ℕ → Type 0) → Leaves a b P → Leaves b c P → Leaves a c P
leaves_then {a} {b} {c} P one two = record {
  goes_on = goes_then one.goes_on two.goes_on;
  each = λ k x from to at. ⊎_elim
      (λ before. one.each k x from (omega (arith, before)) ((two.goes_on.past k x (omega (arith, before))).0 at))
      (λ after. two.each k x after to at)
      (cases_lt k b.now);
}

-- if P implies Q, a stop leaves only what has Q
pub leaves_as : {a b : Half} (P Q : List ℕ → Type 0) → ((x : List ℕ) → P x → Q x) → Leaves a b P → Leaves a b Q
leaves_as P Q to_q one = record { goes_on = one.goes_on; each = λ k x from to at. to_q x (one.each k x from to at) }

-- what a stop may leave at the end has P
pub leaves_left : {a b : Half} (P : List ℕ → Type 0) → Leaves a b P → (x : List ℕ) → left b x → P x
leaves_left {a} {b} P one x at = one.each b.now x one.goes_on.later (omega arith) at

-- a call from a half that leaves one list: a stop leaves what a step makes of that list
pub leaves_step : {a b : Half} (step : List ℕ → List ℕ → Type 0) (P : List ℕ → Type 0) (is x : List ℕ)
    → LeftOnly is a → is ≡ x → ((y : List ℕ) → step x y → P y) → Leaves a b (Follows step a) → Leaves a b P
leaves_step {a} step P is x only same has one =
    leaves_as (Follows step a) P (λ y (d, before, steps). has y (subst (λ (l : List ℕ). step l y) (only d before ∙ same) steps)) one

-- A half to which nothing is added.

pub adds_nothing_here : (h : Half) → AddsNothing h h
adds_nothing_here h = leaves_here h (left h) (λ x at. at)

-- a call that adds nothing, after calls that leave only what has P
pub leaves_then_nothing : {a b c : Half} (P : List ℕ → Type 0) → Leaves a b P → AddsNothing b c → Leaves a c P
leaves_then_nothing {a} {b} P one two = leaves_then P one (leaves_as (left b) P (leaves_left P one) two)

pub adds_nothing_then : {a b c : Half} → AddsNothing a b → AddsNothing b c → AddsNothing a c
adds_nothing_then {a} one two = leaves_then_nothing (left a) one two

pub still_only : {a b : Half} (x : List ℕ) → AddsNothing a b → LeftOnly x a → LeftOnly x b
still_only {a} x one only y at = only y (leaves_left (left a) one y at)

-- A half that stays.

pub stays_here : (h : Half) → Stays h h
stays_here h = record {
  goes_on = goes_here h;
  same = λ k x from to. (
    (λ at. at_now h k x from to at),
    (λ at. let is : h.now ≡ k = omega arith in subst (λ (n : ℕ). h.at n x) is at),
  );
}

pub stays_left : {a b : Half} → Stays a b → (x : List ℕ) → left b x ↔ left a x
stays_left {a} {b} one x = one.same b.now x one.goes_on.later (omega arith)

pub stays_then : {a b c : Half} → Stays a b → Stays b c → Stays a c
stays_then {a} {b} {c} one two = record {
  goes_on = goes_then one.goes_on two.goes_on;
  same = λ k x from to. ⊎_elim
      (λ before. (
        (λ at. (one.same k x from (omega (arith, before))).0 ((two.goes_on.past k x (omega (arith, before))).0 at)),
        (λ at. (two.goes_on.past k x (omega (arith, before))).1 ((one.same k x from (omega (arith, before))).1 at)),
      ))
      (λ after. (
        (λ at. (stays_left one x).0 ((two.same k x after to).0 at)),
        (λ at. (two.same k x after to).1 ((stays_left one x).1 at)),
      ))
      (cases_lt k b.now);
}

-- a half that stays leaves only what it left at first
pub stays_leaves : {a b : Half} (P : List ℕ → Type 0) → ((x : List ℕ) → left a x → P x) → Stays a b → Leaves a b P
stays_leaves P here one = record { goes_on = one.goes_on; each = λ k x from to at. here x ((one.same k x from to).0 at) }

pub stays_adds_nothing : {a b : Half} → Stays a b → AddsNothing a b
stays_adds_nothing {a} one = stays_leaves (left a) (λ x at. at) one

pub only_then : {a b : Half} (x : List ℕ) → Stays a b → LeftOnly x a → LeftOnly x b
only_then x one only y at = only y ((stays_left one y).0 at)

-- The half of a bench that a run of calls doesn't touch.

pub file_stays_here : (b : BenchState) → FileStays b b
file_stays_here b = record { file = refl; faults = refl; half = stays_here (file_half b) }

pub file_stays_then : {a b c : BenchState} → FileStays a b → FileStays b c → FileStays a c
file_stays_then one two = record {
  file = two.file ∙ one.file;
  faults = two.faults ∙ one.faults;
  half = stays_then one.half two.half;
}

pub cells_stay_here : (b : BenchState) → CellsStay b b
cells_stay_here b = record { cells = refl; operation = refl; count = refl; faults = refl; half = stays_here (cells_half b) }

pub cells_stay_then : {a b c : BenchState} → CellsStay a b → CellsStay b c → CellsStay a c
cells_stay_then one two = record {
  cells = two.cells ∙ one.cells;
  operation = two.operation ∙ one.operation;
  count = two.count ∙ one.count;
  faults = two.faults ∙ one.faults;
  half = stays_then one.half two.half;
}

pub only_reads_here : (tells : Bool) (s : BenchState) → OnlyReads tells s s
only_reads_here tells s = record { file = λ told. refl; moments = adds_nothing_here (file_half s); cells = cells_stay_here s }

pub only_reads_then : {tells : Bool} {a b c : BenchState} → OnlyReads tells a b → OnlyReads tells b c → OnlyReads tells a c
only_reads_then one two = record {
  file = λ told. two.file told ∙ one.file told;
  moments = adds_nothing_then one.moments two.moments;
  cells = cells_stay_then one.cells two.cells;
}

-- Both halves.

-- if the files have P and the cells have Q at each moment, each pair has both
pub pairs_have : (a b : BenchState) (P Q : List ℕ → Type 0) → Leaves (file_half a) (file_half b) P → Leaves (cells_half a) (cells_half b) Q
    → (file cells : List ℕ) → LeftSince b a.moment file cells → P file × Q cells
pairs_have a b P Q files cells f c (k, from, to, f_at, c_at) = (files.each k f from to f_at, cells.each k c from to c_at)

-- a piece of a run where each half is known by itself
pub pairs_of : {a b : BenchState} (P Q : List ℕ → Type 0) (R : List ℕ → List ℕ → Type 0) → Leaves (file_half a) (file_half b) P →
    Leaves (cells_half a) (cells_half b) Q
    → ((f c : List ℕ) → P f → Q c → R f c) → PairsLeave a b R
pairs_of P Q R files cells both = record {
  files = files.goes_on;
  cells = cells.goes_on;
  each = λ k f c from to f_at c_at. both f c (files.each k f from to f_at) (cells.each k c from to c_at);
}

-- two pieces of a run, one after the other
pub pairs_then : {a b c : BenchState} (R : List ℕ → List ℕ → Type 0) → PairsLeave a b R → PairsLeave b c R → PairsLeave a c R
pairs_then {a} {b} {c} R one two = record {
  files = goes_then one.files two.files;
  cells = goes_then one.cells two.cells;
  each = λ k f x from to f_at x_at. ⊎_elim
      (λ (before : k < b.moment). one.each k f x from (omega (arith, before)) ((two.files.past k f (omega (arith, before))).0 f_at)
      ((two.cells.past k x (omega (arith, before))).0 x_at))
      (λ (after : b.moment ≤ k). two.each k f x after to f_at x_at)
      (cases_lt k b.moment);
}

-- if R implies S, each pair has S
pub pairs_as : {a b : BenchState} (R S : List ℕ → List ℕ → Type 0) → ((f c : List ℕ) → R f c → S f c) → PairsLeave a b R → PairsLeave a b S
pairs_as R S to_s one = record {
  files = one.files;
  cells = one.cells;
  each = λ k f c from to f_at c_at. to_s f c (one.each k f c from to f_at c_at);
}

pub pairs_left : {a b : BenchState} (R : List ℕ → List ℕ → Type 0) → PairsLeave a b R → (file cells : List ℕ) → LeftSince b a.moment file cells → R file cells
pairs_left R one f c (k, from, to, f_at, c_at) = one.each k f c from to f_at c_at

-- Two pieces of a run. The second begins at the turn.
pub in_turn : {a b c : BenchState} (First Second : List ℕ → List ℕ → Type 0) → PairsLeave a b First → PairsLeave b c Second →
    PairsInTurn a c b.moment First Second
in_turn First Second one two = record {
  started = one.files.later;
  later = omega (arith, one.files.later, two.files.later);
  before = λ k f x from to less f_at x_at. one.each k f x from (omega (arith, less)) ((two.files.past k f (omega (arith, less))).0 f_at)
      ((two.cells.past k x (omega (arith, less))).0 x_at);
  from = λ k f x from to f_at x_at. two.each k f x from to f_at x_at;
}

-- a run that doesn't reach its turn
pub never : {a b : BenchState} (First Second : List ℕ → List ℕ → Type 0) → PairsLeave a b First → PairsInTurn a b (b.moment + 1) First Second
never First Second one = record {
  started = omega (arith, one.files.later);
  later = one.files.later;
  before = λ k f x from to less f_at x_at. one.each k f x from to f_at x_at;
  from = λ k f x from to f_at x_at. absurd (omega (arith, from, to));
}
