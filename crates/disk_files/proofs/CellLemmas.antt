-- Whole writes of cells, in as many calls as that takes, for `write_range` and `fill_range`.
use Rattle.std.proofs.Common.{replicate, ◌≡◌, ◌≤◌, ◌+◌, ◌∙◌, ap, sym, subst, refl, ℕ, List, Bool, IsTrue, ◌++◌, length, take, drop, arith, append_assoc}
use Rattle.std.proofs.Common.{length-take, length-drop, length-append, Option, Some, None}
use Rattle.std.proofs.lemmas.List.{take_at, drop_at, drop-drop, length-replicate, replicate-append-replicate}
use Rattle.bench_model.specs.Calls.{written, Torn}
use Rattle.bench_model.proofs.Moments.{adds_nothing_here, adds_nothing_then, stays_here, stays_then}
use Rattle.disk_files.specs.DiskState.{DiskState, job_half, range_half, JobAsWas}
use Rattle.disk_files.specs.DiskDoes.{WritesBytes, ReadsBytes, InRange}
use Rattle.disk_files.proofs.WriteLemmas.{torn_here, torn_then, stand_none, stand_place, stand_more, stand_still, stand_all}

pub job_as_was_here : (d : DiskState) → JobAsWas d d
job_as_was_here d = record { file = refl; entry = refl; whole = refl; half = stays_here (job_half d) }

pub job_as_was_then : {a b c : DiskState} → JobAsWas a b → JobAsWas b c → JobAsWas a c
job_as_was_then one two = record {
  file = two.file ∙ one.file;
  entry = two.entry ∙ one.entry;
  whole = two.whole ∙ one.whole;
  half =
      stays_then one.half two.half;
}

pub writes_here : (tells : Bool) (d : DiskState) → WritesBytes tells d d
writes_here tells d = record {
  cells = λ told. refl;
  operation = λ told. refl;
  earlier = λ told. refl;
  moments = adds_nothing_here (range_half d);
  job =
      job_as_was_here d;
}

pub writes_then : {tells : Bool} {a b c : DiskState} → WritesBytes tells a b → WritesBytes tells b c → WritesBytes tells a c
writes_then one two = record {
  cells = λ told. two.cells told ∙ one.cells told;
  operation = λ told. two.operation told ∙ one.operation told;
  earlier = λ told. two.earlier told ∙ one.earlier told;
  moments = adds_nothing_then one.moments two.moments;
  job = job_as_was_then one.job two.job;
}

pub looks_here : (tells : Bool) (d : DiskState) → ReadsBytes tells d d
looks_here tells d = record { bytes = λ told. refl; unsynced = λ told. refl; writes = writes_here tells d }

pub looks_then : {tells : Bool} {a b c : DiskState} → ReadsBytes tells a b → ReadsBytes tells b c → ReadsBytes tells a c
looks_then one two = record {
  bytes = λ told. two.bytes told ∙ one.bytes told;
  unsynced = λ told. two.unsynced told ∙ one.unsynced told;
  writes = writes_then one.writes two.writes;
}

-- the rest of a piece in the open range is in it too
pub rest_in_range : (operation : Option (ℕ × ℕ)) (at n done m : ℕ) → done + m ≤ n → InRange at n operation → InRange (at + done) m operation
rest_in_range None at n done m le inside = inside
rest_in_range (Some range) at n done m le inside = (omega (arith, inside.0), omega (arith, inside.1, le))

-- a piece within the open range, by equal numbers
pub piece_in_range : {now was : Option (ℕ × ℕ)} {place at m n : ℕ} → now ≡ was → place ≡ at → m ≡ n → InRange at n was → InRange place m now
piece_in_range {now = now} {was = was} {place = place} {at = at} {m = m} {n = n} same here long inside =
    subst (λ (o : Option (ℕ × ℕ)). InRange place m o) (sym same)
    (subst (λ (k : ℕ). InRange k m was) (sym here) (subst (λ (k : ℕ). InRange at k was) (sym long) inside))

-- the first `done` bytes of a write to the cells are in place, and the rest of its range may hold anything
pub record IsPutTo (tells : Bool) (old new : DiskState) (at : ℕ) (bytes : List ℕ) (done : ℕ) : Type 0 where
  pub within : done ≤ length bytes
  pub some : IsTrue tells → take (at + done) new.bytes ≡ take at old.bytes ++ take done bytes
  pub torn : IsTrue tells → Torn at (length bytes) old.bytes new.bytes
  pub does : WritesBytes tells old new

pub put_none : (tells : Bool) (d : DiskState) (at : ℕ) (bytes : List ℕ) → IsPutTo tells d d at bytes 0
put_none tells d at bytes = record {
  within = omega arith;
  some = λ told. stand_none at bytes d.bytes;
  torn = λ told. torn_here at (length bytes) d.bytes;
  does = writes_here tells d;
}

module _ (tells : Bool) (old mid new : DiskState) (at : ℕ) (bytes : List ℕ) (done : ℕ) (so_far : IsPutTo tells old mid at bytes done) where
  -- where the next call begins
  pub place_of : IsTrue tells → at ≤ length old.bytes → at + done ≤ length mid.bytes
  place_of told inside = stand_place at bytes done old.bytes mid.bytes so_far.within (so_far.some told) inside

  module _ (rest : List ℕ) (is_rest : rest ≡ drop done bytes) (does : WritesBytes tells mid new)
      (torn : IsTrue tells → Torn (at + done) (length rest) mid.bytes new.bytes) where
    from : at ≤ at + done
    from = omega arith

    to : at + done + length rest ≤ at + length bytes
    to = omega (arith, ap length is_rest, length-drop done bytes, so_far.within)

    -- some more bytes of the write are in place
    pub put_more : (n : ℕ) → n ≤ length rest → (IsTrue tells → take (at + done + n) new.bytes ≡ take (at + done) mid.bytes ++ take n rest)
        → IsPutTo tells old new at bytes (done + n)
    put_more n le some = record {
      within = omega (arith, le, ap length is_rest, length-drop done bytes, so_far.within);
      some = λ told. stand_more at bytes done n old.bytes mid.bytes new.bytes rest is_rest (so_far.some told) (some told);
      torn = λ told. torn_then at (length bytes) (at + done) (length rest) old.bytes mid.bytes new.bytes from to (so_far.torn told) (torn told);
      does = writes_then so_far.does does;
    }

    -- a call of the write failed
    pub put_no_more : IsPutTo tells old new at bytes done
    put_no_more =
        let e : done + 0 ≡ done = omega arith in
        subst (λ (m : ℕ). IsPutTo tells old new at bytes m) e
        (put_more 0 (omega arith) (λ told. stand_still at done mid.bytes new.bytes rest (torn told).before))

-- all bytes of the write are in place
pub put_all : (tells : Bool) (old new : DiskState) (at : ℕ) (bytes : List ℕ) (done : ℕ) → IsPutTo tells old new at bytes done → done ≡ length bytes
    → IsTrue tells → new.bytes ≡ written at bytes old.bytes
put_all tells old new at bytes done so_far is told =
    stand_all at bytes done old.bytes new.bytes is (so_far.some told) (so_far.torn told)

-- a fill after one more piece
pub filled_more : (at done size value place : ℕ) (piece mid old : List ℕ) → place ≡ at + done → at + done ≤ length old → piece ≡ replicate size value →
    mid ≡ written at (replicate done value) old
    → written place piece mid ≡ written at (replicate (done + size) value) old
filled_more at done size value place piece mid old here_is inside is so_far =
    let head = take at old ++ replicate done value in
    let here : length head ≡ at + done = omega (
      arith,
      length-append (take at old) (replicate done value),
      length-take at old,
      length-replicate done value,
      inside,
    ) in
    let behind : length head + size ≡ at + done + length piece = omega (arith, here, ap length is, length-replicate size value) in
    let whole : mid ≡ head ++ drop (at + length (replicate done value)) old = so_far in
    let front : take (at + done) mid ≡ head = ap (λ (l : List ℕ). take (at + done) l) whole ∙
    take_at head (drop (at + length (replicate done value)) old) (at + done) here in
    let rest : drop (at + done) mid ≡ drop (at + done) old
    = ap (λ (l : List ℕ). drop (at + done) l) whole ∙ drop_at head (drop (at + length (replicate done value)) old) (at + done) here
    ∙ ap (λ (m : ℕ). drop (at + m) old) (length-replicate done value) in
    let back : drop (at + done + length piece) mid ≡ drop (at + length (replicate (done + size) value)) old
    = sym (drop-drop (length piece) (at + done) mid) ∙ ap (λ (l : List ℕ). drop (length piece) l) rest ∙ drop-drop (length piece) (at + done) old
    ∙ (let e : at + done + length piece ≡ at + length (replicate (done + size) value) =
    omega (arith, ap length is, length-replicate size value, length-replicate (done + size) value) in ap (λ (m : ℕ). drop m old) e) in
    ap (λ (n : ℕ). written n piece mid) here_is
    ∙ ap (λ (l : List ℕ). l ++ piece ++ drop (at + done + length piece) mid) front
    ∙ ap (λ (l : List ℕ). head ++ l ++ drop (at + done + length piece) mid) is
    ∙ ap (λ (l : List ℕ). head ++ replicate size value ++ l) back
    ∙ ap (λ (l : List ℕ). l ++ drop (at + length (replicate (done + size) value)) old)
    (append_assoc (take at old) (replicate done value) (replicate size value) ∙
    ap (λ (l : List ℕ). take at old ++ l) (replicate-append-replicate done size value))
