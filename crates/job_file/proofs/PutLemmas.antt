-- A body is written while the gate is closed. Until the gate is opened, a stop leaves a free file.
use Rattle.std.proofs.Common.{◌≡◌, ◌≤◌, ◌+◌, ◌-◌, ◌++◌, ◌∷◌, ◌∙◌, ℕ, List, Bool, IsTrue, length, take, drop, refl, sym, ap, subst, arith, append_assoc}
use Rattle.std.proofs.Math.Seq.{take-add}
use Rattle.bench_model.specs.History.{Leaves}
use Rattle.bench_model.specs.State.{BenchState, file_half, cells_half}
use Rattle.bench_model.specs.Calls.{written, Torn, Follows, FileStays, CellsStay, CellsAreRead}
use Rattle.bench_model.proofs.Moments.{leaves_as, leaves_then, leaves_left, adds_nothing_here, adds_nothing_then, stays_leaves, stays_left, stays_adds_nothing}
use Rattle.sha2.specs.Sha256.{sha256}
use Rattle.sha2.specs.Hashers.{Holds256}
use Rattle.sha2.specs.declared.Sha256.{Sha256}
use Rattle.job_text.specs.Parts.{with_hash}
use Rattle.job_file.specs.Stops.{IsShut, KeepsGate}

pub cells_read_here : (tells : Bool) (s : BenchState) → CellsAreRead tells s s
cells_read_here tells s = record { cells = λ told. refl; operation = λ told. refl; count = refl; moments = adds_nothing_here (cells_half s) }

pub cells_read_then : {tells : Bool} {a b c : BenchState} → CellsAreRead tells a b → CellsAreRead tells b c → CellsAreRead tells a c
cells_read_then one two = record {
  cells = λ told. two.cells told ∙ one.cells told;
  operation = λ told. two.operation told ∙ one.operation told;
  count = two.count ∙ one.count;
  moments = adds_nothing_then one.moments two.moments;
}

pub cells_read_stay : (tells : Bool) (a b : BenchState) → CellsStay a b → CellsAreRead tells a b
cells_read_stay tells a b stay = record {
  cells = λ told. stay.cells;
  operation = λ told. stay.operation;
  count = stay.count;
  moments =
      stays_adds_nothing stay.half;
}

-- the front and the first `at` cells are written
pub record PutSoFar (tells : Bool) (start now : BenchState) (front window : List ℕ) (hasher : Sha256) (at : ℕ) : Type 0 where
  pub within : at ≤ start.cell_count
  pub room : length window ≡ 4096
  pub file : IsTrue tells → now.file ≡ 0 ∷ (front ++ take at start.cells)
  pub hash : IsTrue tells → Holds256 hasher (drop 39 front ++ take at start.cells)
  pub shut : IsTrue tells → Leaves (file_half start) (file_half now) IsShut
  pub cells : CellsAreRead tells start now
  pub store : now.store_faults ≡ start.store_faults
  pub device : now.device_faults ≡ start.device_faults

-- a step that keeps byte 0 keeps the gate closed
pub still_shut : (a b c : BenchState) → Leaves (file_half a) (file_half b) IsShut → Leaves (file_half b) (file_half c) (Follows KeepsGate (file_half b))
    → Leaves (file_half a) (file_half c) IsShut
still_shut a b c shut moments =
    leaves_then IsShut shut (leaves_as (Follows KeepsGate (file_half b)) IsShut (λ f (d, was, same). same ∙ leaves_left IsShut shut d was) moments)

-- more cells are appended
pub cells_more : (front cells file new : List ℕ) (at end : ℕ) → at ≤ end → file ≡ 0 ∷ (front ++ take at cells) → new ≡ file ++ take (end - at) (drop at cells)
    → new ≡ 0 ∷ (front ++ take end cells)
cells_more front cells file new at end le is more =
    let n : at + (end - at) ≡ end = omega (arith, le) in
    more ∙ ap (λ (l : List ℕ). l ++ take (end - at) (drop at cells)) is
    ∙ ap (λ (l : List ℕ). 0 ∷ l) (append_assoc front (take at cells) (take (end - at) (drop at cells))
    ∙ ap (λ (l : List ℕ). front ++ l) (sym (take-add at (end - at) cells)))
    ∙ ap (λ (k : ℕ). 0 ∷ (front ++ take k cells)) n

-- a hasher of the front and the first `at` cells is fed with more cells
pub hash_more : (front cells now : List ℕ) (old new : Sha256) (at end n : ℕ) → at ≤ end → n ≡ end - at → now ≡ cells → Holds256 old (front ++ take at cells)
    → ((m : List ℕ) → Holds256 old m → Holds256 new (m ++ take n (drop at now))) → Holds256 new (front ++ take end cells)
hash_more front cells now old new at end n le size same holds more =
    let m : at + (end - at) ≡ end = omega (arith, le) in
    let is : (front ++ take at cells) ++ take n (drop at now) ≡ front ++ take end cells =
    append_assoc front (take at cells) (take n (drop at now))
    ∙ ap (λ (l : List ℕ). front ++ l) (ap (λ (k : ℕ). take at cells ++ take k (drop at now)) size
    ∙ ap (λ (l : List ℕ). take at cells ++ take (end - at) (drop at l)) same
    ∙ sym (take-add at (end - at) cells) ∙ ap (λ (k : ℕ). take k cells) m) in
    subst (λ (l : List ℕ). Holds256 new l) is (more (front ++ take at cells) holds)

-- the hash is written into the body
pub hash_put : (body hash : List ℕ) → hash ≡ sha256 (drop 39 body) → length hash ≡ 32 → written 8 hash (0 ∷ body) ≡ 0 ∷ with_hash body
hash_put body hash is long =
    let end : 8 + length hash ≡ 40 = omega (arith, long) in
    ap (λ (n : ℕ). 0 ∷ (take 7 body ++ hash ++ drop n (0 ∷ body))) end
    ∙ ap (λ (l : List ℕ). 0 ∷ l) (append_assoc (take 7 body) hash (drop 39 body))
    ∙ ap (λ (l : List ℕ). 0 ∷ (take 7 body ++ (l ++ drop 39 body))) is

-- a torn write from byte 1 on, or later, keeps byte 0
pub gate_kept : (to n : ℕ) (d f : List ℕ) → 1 ≤ to → Torn to n d f → take 1 f ≡ take 1 d
gate_kept to n d f some torn = gate_in to d f some torn.before
  where
    gate_in : (to : ℕ) (d f : List ℕ) → 1 ≤ to → take to f ≡ take to d → take 1 f ≡ take 1 d
    gate_in to d f some same = sym (shorter f) ∙ ap (take 1) same ∙ shorter d
      where
        shorter : (l : List ℕ) → take 1 (take to l) ≡ take 1 l
        shorter l = Rattle.std.proofs.lemmas.List.take-take 1 to l some

-- a write after byte 0 keeps the gate, also where the cells were read before it
pub kept_by_write : (s m t : BenchState) (to n : ℕ) → 1 ≤ to → FileStays s m → Leaves (file_half m) (file_half t) (Follows (Torn to n) (file_half m))
    → Leaves (file_half s) (file_half t) (Follows KeepsGate (file_half s))
kept_by_write s m t to n some stay moments =
    let P : List ℕ → Type 0 = Follows KeepsGate (file_half s) in
    leaves_then P (stays_leaves P (λ f at. (f, at, refl)) stay.half)
    (leaves_as (Follows (Torn to n) (file_half m)) P (λ f (d, was, torn). (d, (stays_left stay.half d).0 was, gate_kept to n d f some torn)) moments)
