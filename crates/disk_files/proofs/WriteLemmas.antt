-- Whole writes, in as many calls as that takes, for `write_all` and all else that is written in pieces.
use Rattle.std.proofs.Common.{◌≡◌, ◌≤◌, ◌+◌, ◌-◌, ◌∙◌, ap, sym, subst, refl, ℕ, List, Bool, IsTrue, ◌++◌, length, take, drop, arith, append-nil, append_assoc}
use Rattle.std.proofs.Common.{length-take, length-drop, length-append}
use Rattle.std.proofs.Math.Seq.{take-add}
use Rattle.std.proofs.lemmas.List.{take-take, drop-drop, take-append-drop, take_all}
use Rattle.bench_model.specs.History.{Leaves}
use Rattle.bench_model.specs.Calls.{written, Torn, Follows}
use Rattle.bench_model.proofs.Moments.{leaves_then, leaves_as, leaves_here, leaves_left, stays_here, stays_then}
use Rattle.disk_files.specs.DiskState.{DiskState, job_half, range_half, CellsAsWere}
use Rattle.disk_files.specs.DiskDoes.{WritesJob}

pub torn_here : (at n : ℕ) (d : List ℕ) → Torn at n d d
torn_here at n d = record { before = refl; after = refl; no_shorter = omega arith; no_longer = omega arith }

-- a write inside the range of an earlier one
pub torn_then : (at n at' n' : ℕ) (d e f : List ℕ) → at ≤ at' → at' + n' ≤ at + n → Torn at n d e → Torn at' n' e f → Torn at n d f
torn_then at n at' n' d e f from to one two =
    let rest : at' + n' + (at + n - (at' + n')) ≡ at + n = omega (arith, to) in
    record {
      before = sym (take-take at at' f from) ∙ ap (λ (l : List ℕ). take at l) two.before ∙ take-take at at' e from ∙ one.before;
      after = ap (λ (m : ℕ). drop m f) (sym rest) ∙ sym (drop-drop (at + n - (at' + n')) (at' + n') f)
          ∙ ap (λ (l : List ℕ). drop (at + n - (at' + n')) l) two.after
          ∙ drop-drop (at + n - (at' + n')) (at' + n') e ∙ ap (λ (m : ℕ). drop m e) rest ∙ one.after;
      no_shorter = omega (arith, one.no_shorter, two.no_shorter);
      no_longer = omega (arith, one.no_longer, two.no_longer, to);
    }

-- ---- a list with its first `done` bytes written from a place on

pub stand_none : (at : ℕ) (bytes old : List ℕ) → take (at + 0) old ≡ take at old ++ take 0 bytes
stand_none at bytes old = let e : at + 0 ≡ at = omega arith in ap (λ (m : ℕ). take m old) e ∙ sym (append-nil (take at old))

-- the place where the next call begins is within the file
pub stand_place : (at : ℕ) (bytes : List ℕ) (done : ℕ) (old mid : List ℕ) → done ≤ length bytes → take (at + done) mid ≡ take at old ++ take done bytes
    → at ≤ length old → at + done ≤ length mid
stand_place at bytes done old mid within some inside =
    let same = ap length some in
    omega (
      arith,
      inside,
      same,
      length-take (at + done) mid,
      length-append (take at old) (take done bytes),
      length-take at old,
      length-take done bytes,
      within,
    )

-- some more bytes are in place
pub stand_more : (at : ℕ) (bytes : List ℕ) (done n : ℕ) (old mid new rest : List ℕ) → rest ≡ drop done bytes
    → take (at + done) mid ≡ take at old ++ take done bytes → take (at + done + n) new ≡ take (at + done) mid ++ take n rest
    → take (at + (done + n)) new ≡ take at old ++ take (done + n) bytes
stand_more at bytes done n old mid new rest is_rest some more =
    let e : at + (done + n) ≡ at + done + n = omega arith in ap (λ (m : ℕ). take m new) e ∙ more
    ∙ ap (λ (l : List ℕ). l ++ take n rest) some
    ∙ append_assoc (take at old) (take done bytes) (take n rest)
    ∙ ap (λ (l : List ℕ). take at old ++ (take done bytes ++ take n l)) is_rest
    ∙ ap (λ (l : List ℕ). take at old ++ l) (sym (take-add done n bytes))

-- the bytes in place after an error
pub stand_still : (at done : ℕ) (mid new rest : List ℕ) → take (at + done) new ≡ take (at + done) mid
    → take (at + done + 0) new ≡ take (at + done) mid ++ take 0 rest
stand_still at done mid new rest before =
    let z : at + done + 0 ≡ at + done = omega arith in
    ap (λ (m : ℕ). take m new) z ∙ before ∙ sym (append-nil (take (at + done) mid))

-- all bytes are in place
pub stand_all : (at : ℕ) (bytes : List ℕ) (done : ℕ) (old new : List ℕ) → done ≡ length bytes → take (at + done) new ≡ take at old ++ take done bytes
    → Torn at (length bytes) old new → new ≡ written at bytes old
stand_all at bytes done old new is some torn =
    let whole : take (at + length bytes) new ≡ take at old ++ bytes
    = ap (λ (m : ℕ). take (at + m) new) (sym is) ∙ some
    ∙ ap (λ (l : List ℕ). take at old ++ l) (take_all done bytes (omega (arith, is))) in
    sym (take-append-drop (at + length bytes) new)
    ∙ ap (λ (l : List ℕ). l ++ drop (at + length bytes) new) whole
    ∙ ap (λ (l : List ℕ). (take at old ++ bytes) ++ l) torn.after

pub cells_as_were_here : (d : DiskState) → CellsAsWere d d
cells_as_were_here d = record { bytes = refl; cells = refl; operation = refl; unsynced = refl; earlier = refl; whole = refl; half = stays_here (range_half d) }

pub cells_as_were_then : {a b c : DiskState} → CellsAsWere a b → CellsAsWere b c → CellsAsWere a c
cells_as_were_then one two = record {
  bytes = two.bytes ∙ one.bytes;
  cells = two.cells ∙ one.cells;
  operation = two.operation ∙ one.operation;
  unsynced = two.unsynced ∙ one.unsynced;
  earlier = two.earlier ∙ one.earlier;
  whole = two.whole ∙ one.whole;
  half = stays_then one.half two.half;
}

-- the first `done` bytes of a write to the job file are in place, and the rest of its range may hold anything
pub record IsWrittenTo (tells : Bool) (old new : DiskState) (at : ℕ) (bytes : List ℕ) (done : ℕ) : Type 0 where
  pub within : done ≤ length bytes
  pub some : IsTrue tells → take (at + done) new.file ≡ take at old.file ++ take done bytes
  pub torn : IsTrue tells → Torn at (length bytes) old.file new.file
  pub entry : IsTrue tells → new.entry ≡ old.entry
  pub moments : Leaves (job_half old) (job_half new) (Follows (Torn at (length bytes)) (job_half old))
  pub cells : CellsAsWere old new

pub written_none : (tells : Bool) (d : DiskState) (at : ℕ) (bytes : List ℕ) → IsWrittenTo tells d d at bytes 0
written_none tells d at bytes = record {
  within = omega arith;
  some = λ told. stand_none at bytes d.file;
  torn = λ told. torn_here at (length bytes) d.file;
  entry = λ told. refl;
  moments = leaves_here (job_half d) (Follows (Torn at (length bytes)) (job_half d)) (λ x is. (x, is, torn_here at (length bytes) x));
  cells = cells_as_were_here d;
}

module _ (tells : Bool) (old mid new : DiskState) (at : ℕ) (bytes : List ℕ) (done : ℕ) (so_far : IsWrittenTo tells old mid at bytes done) where
  -- where the next call begins
  pub place : IsTrue tells → at ≤ length old.file → at + done ≤ length mid.file
  place told inside = stand_place at bytes done old.file mid.file so_far.within (so_far.some told) inside

  module _ (rest : List ℕ) (is_rest : rest ≡ drop done bytes) (does : WritesJob tells mid new (at + done) (length rest))
      (torn : IsTrue tells → Torn (at + done) (length rest) mid.file new.file) where
    from : at ≤ at + done
    from = omega arith

    to : at + done + length rest ≤ at + length bytes
    to = omega (arith, ap length is_rest, length-drop done bytes, so_far.within)

    step : (x y : List ℕ) → Follows (Torn at (length bytes)) (job_half old) x → Torn (at + done) (length rest) x y →
        Follows (Torn at (length bytes)) (job_half old) y
    step x y (d, is, one) two = (d, is, torn_then at (length bytes) (at + done) (length rest) d x y from to one two)

    -- some more bytes of the write are in place
    pub written_more : (n : ℕ) → n ≤ length rest → (IsTrue tells → take (at + done + n) new.file ≡ take (at + done) mid.file ++ take n rest)
        → IsWrittenTo tells old new at bytes (done + n)
    written_more n le some = record {
      within = omega (arith, le, ap length is_rest, length-drop done bytes, so_far.within);
      some = λ told. stand_more at bytes done n old.file mid.file new.file rest is_rest (so_far.some told) (some told);
      torn = λ told. torn_then at (length bytes) (at + done) (length rest) old.file mid.file new.file from to (so_far.torn told) (torn told);
      entry = λ told. does.entry told ∙ so_far.entry told;
      moments = leaves_then (Follows (Torn at (length bytes)) (job_half old)) so_far.moments
          (leaves_as (Follows (Torn (at + done) (length rest)) (job_half mid)) (Follows (Torn at (length bytes)) (job_half old))
          (λ y (x, is, two). step x y (leaves_left (Follows (Torn at (length bytes)) (job_half old)) so_far.moments x is) two) does.moments);
      cells = cells_as_were_then so_far.cells does.cells;
    }

    -- a call of the write failed
    pub written_no_more : IsWrittenTo tells old new at bytes done
    written_no_more =
        let e : done + 0 ≡ done = omega arith in
        subst (λ (m : ℕ). IsWrittenTo tells old new at bytes m) e
        (written_more 0 (omega arith) (λ told. stand_still at done mid.file new.file rest (torn told).before))

-- all bytes of the write are in place
pub written_all : (tells : Bool) (old new : DiskState) (at : ℕ) (bytes : List ℕ) (done : ℕ) → IsWrittenTo tells old new at bytes done → done ≡ length bytes
    → IsTrue tells → new.file ≡ written at bytes old.file
written_all tells old new at bytes done so_far is told =
    stand_all at bytes done old.file new.file is (so_far.some told) (so_far.torn told)
