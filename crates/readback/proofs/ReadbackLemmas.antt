-- A comparison of cells with bytes, window by window, for `first_difference`.
use Rattle.std.proofs.Common.{◌≡◌, ◌<◌, ◌≤◌, ◌+◌, ◌++◌, ◌∙◌, sym, ap, refl, arith, Bool, IsTrue, ℕ, List, length, take, drop, get_or, length-drop, Option, Some}
use Rattle.std.proofs.Common.{None, is_some, true, false}
use Rattle.std.proofs.Math.Seq.{take-add}
use Rattle.std.proofs.lemmas.List.{drop-drop, length-take-le, get_or-take, get_or-drop, take-take}
use Rattle.bench_model.specs.State.{BenchState, cells_half}
use Rattle.bench_model.proofs.Moments.{adds_nothing_here, adds_nothing_then, file_stays_here, file_stays_then}
use Rattle.readback.specs.Readback.{OnlyReadsCells, Finds}
use Rattle.readback.specs.declared.compare.Difference.{Difference}

pub only_reads_cells_here : (tells : Bool) (s : BenchState) → OnlyReadsCells tells s s
only_reads_cells_here tells s = record {
  cells = λ told. refl;
  operation = λ told. refl;
  count = refl;
  moments = adds_nothing_here (cells_half s);
  file = file_stays_here s;
}

pub only_reads_cells_then : {tells : Bool} {a b c : BenchState} → OnlyReadsCells tells a b → OnlyReadsCells tells b c → OnlyReadsCells tells a c
only_reads_cells_then one two = record {
  cells = λ told. two.cells told ∙ one.cells told;
  operation = λ told. two.operation told ∙ one.operation told;
  count = two.count ∙ one.count;
  moments = adds_nothing_then one.moments two.moments;
  file = file_stays_then one.file two.file;
}

-- the cells from a place on agree with the first `done` bytes, and the bench was only read so far
pub record SoFar (tells : Bool) (start now : BenchState) (from : ℕ) (bytes : List ℕ) (done : ℕ) : Type 0 where
  pub within : done ≤ length bytes
  pub same : IsTrue tells → take done (drop from start.cells) ≡ take done bytes
  pub bench : OnlyReadsCells tells start now
  pub faults : now.device_faults ≡ start.device_faults

pub SoFar-here : (tells : Bool) (s : BenchState) (from : ℕ) (bytes : List ℕ) → SoFar tells s s from bytes 0
SoFar-here tells s from bytes = record {
  within = omega arith;
  same = λ told. refl;
  bench = only_reads_cells_here tells s;
  faults = refl;
}

-- A window: the next `size` bytes, where there are that many left.
module _ (tells : Bool) (start mid : BenchState) (from : ℕ) (bytes : List ℕ) (done size k : ℕ)
    (so_far : SoFar tells start mid from bytes done) (fits : done + size ≤ length bytes) (whole : k ≡ size) where
  part : List ℕ
  part = take k (drop done bytes)

  length-part : length part ≡ size
  unfolding part
  length-part = length-take-le k (drop done bytes) (omega (arith, length-drop done bytes, fits, whole)) ∙ whole

  -- the cells of the window are those at the start
  same_cells : IsTrue tells → (n : ℕ) → take n (drop (from + done) mid.cells) ≡ take n (drop done (drop from start.cells))
  same_cells told n = ap (λ (l : List ℕ). take n (drop (from + done) l)) (so_far.bench.cells told)
      ∙ ap (λ (l : List ℕ). take n l) (sym (drop-drop done from start.cells))

  -- cells that agree so far and for n more agree for all of these
  goes_on : IsTrue tells → (n : ℕ) → take n (drop (from + done) mid.cells) ≡ take n (drop done bytes)
      → take (done + n) (drop from start.cells) ≡ take (done + n) bytes
  goes_on told n agrees =
      take-add done n (drop from start.cells)
      ∙ ap (λ (l : List ℕ). l ++ take n (drop done (drop from start.cells))) (so_far.same told)
      ∙ ap (λ (l : List ℕ). take done bytes ++ l) (sym (same_cells told n) ∙ agrees)
      ∙ sym (take-add done n bytes)

  -- the next window agrees
  pub SoFar-then : (new : BenchState) (found : Option Difference) → Finds tells mid.cells (from + done) (take k (drop done bytes)) found
      → is_some found ≡ false → OnlyReadsCells tells mid new → new.device_faults ≡ mid.device_faults
      → SoFar tells start new from bytes (done + size)
  unfolding part
  SoFar-then new None agrees none reads faults = record {
    within = fits;
    same = λ told. goes_on told size
        (ap (λ (n : ℕ). take n (drop (from + done) mid.cells)) (sym length-part) ∙ agrees told ∙ ap (λ (n : ℕ). take n (drop done bytes)) whole);
    bench = only_reads_cells_then so_far.bench reads;
    faults = faults ∙ so_far.faults;
  }
  SoFar-then new (Some d) differs none reads faults = absurd (cc)

  -- the next window differs
  pub SoFar-differs : (found : Option Difference) → Finds tells mid.cells (from + done) (take k (drop done bytes)) found
      → is_some found ≡ true → Finds tells start.cells from bytes found
  unfolding part
  SoFar-differs None agrees some = absurd (cc)
  SoFar-differs (Some d) differs some =
      let offset = differs.offset in
      let inside : offset < size = omega (arith, differs.first.within, length-part) in
      let short : offset < k = omega (arith, inside, whole) in
      let place : d.at ≡ from + (done + offset) = omega (arith, differs.place) in
      let sums : (from + done) + offset ≡ from + (done + offset) = omega arith in
      record {
        offset = done + offset;
        place = place;
        first = record {
          within = omega (arith, inside, fits);
          is_wanted = sym (get_or-drop done bytes offset 0) ∙ sym (get_or-take k (drop done bytes) offset 0 short) ∙ differs.first.is_wanted;
          unequal = differs.first.unequal;
          is_found = λ told. ap (λ (l : List ℕ). get_or l (from + (done + offset)) 0) (sym (so_far.bench.cells told))
              ∙ ap (λ (n : ℕ). get_or mid.cells n 0) (sym sums) ∙ differs.first.is_found told;
          least = λ told. goes_on told offset (differs.first.least told ∙ take-take offset k (drop done bytes) (omega (arith, short)));
        };
      }
