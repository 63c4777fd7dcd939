-- Reads one after another, and windows of cells and of the goal. Surveys read cells and goal in windows.
use Rattle.std.proofs.Common.{◌≡◌, ◌≤◌, ◌+◌, ◌-◌, ◌++◌, ◌∙◌, ℕ, Bool, true, List, length, take, drop, refl, subst, arith}
use Rattle.std.proofs.Common.{length-append}
use Rattle.std.proofs.lemmas.List.{length-take, length-drop}
use Rattle.faults.specs.Counts.{Rose}
use Rattle.bench_model.specs.Counted.{IsCounted}
use Rattle.bench_model.specs.History.{left}
use Rattle.bench_model.specs.Pairs.{PairsLeave}
use Rattle.bench_model.specs.State.{BenchState, Left, file_half, cells_half}
use Rattle.bench_model.specs.Calls.{FileStays, OnlyReads, IsRead}
use Rattle.bench_model.proofs.CountLemmas.{one_counted}
use Rattle.bench_model.proofs.Moments.{adds_nothing_here, adds_nothing_then, pairs_of, stays_adds_nothing}
use Rattle.readback.specs.Readback.{OnlyReadsCells}

pub read_here : (tells : Bool) (s : BenchState) → IsRead tells s s
read_here tells s = record {
  file = record { file = λ told. refl; moments = adds_nothing_here (file_half s) };
  cells = record { cells = λ told. refl; operation = λ told. refl; count = refl; moments = adds_nothing_here (cells_half s) };
}

pub read_then : {tells : Bool} {a b c : BenchState} → IsRead tells a b → IsRead tells b c → IsRead tells a c
read_then one two = record {
  file = record { file = λ told. two.file.file told ∙ one.file.file told; moments = adds_nothing_then one.file.moments two.file.moments };
  cells = record {
    cells = λ told. two.cells.cells told ∙ one.cells.cells told;
    operation = λ told. two.cells.operation told ∙ one.cells.operation told;
    count = two.cells.count ∙ one.cells.count;
    moments = adds_nothing_then one.cells.moments two.cells.moments;
  };
}

-- a bench on which only the file was read
pub read_file : (tells : Bool) (s t : BenchState) → OnlyReads tells s t → IsRead tells s t
read_file tells s t reads = record {
  file = record { file = reads.file; moments = reads.moments };
  cells = record {
    cells = λ told. reads.cells.cells;
    operation = λ told. reads.cells.operation;
    count = reads.cells.count;
    moments =
        stays_adds_nothing reads.cells.half;
  };
}

-- a bench on which only the cells were read
pub read_cells : (tells : Bool) (s t : BenchState) → OnlyReadsCells tells s t → IsRead tells s t
read_cells tells s t reads = record {
  file = record { file = λ told. reads.file.file; moments = stays_adds_nothing reads.file.half };
  cells = record { cells = reads.cells; operation = reads.operation; count = reads.count; moments = reads.moments };
}

-- while a bench is only read, a stop leaves no other pair of file and cells
pub read_pairs : {tells : Bool} {s t : BenchState} → IsRead tells s t → PairsLeave s t (Left s)
read_pairs {tells} {s} {t} reads =
    pairs_of (left (file_half s)) (left (cells_half s)) (Left s) reads.file.moments reads.cells.moments (λ f x of_file of_cells. (of_file, of_cells))

-- a fault that was counted after a call that counted none
pub one_since : (a b d : ℕ) → b ≡ a → b ≤ d → Rose b d → IsCounted a d true
one_since a b d same later rose = subst (λ (n : ℕ). IsCounted n d true) same (one_counted b d later rose)

-- a read that doesn't touch the file reads only the cells
pub only_cells : {tells : Bool} {s t : BenchState} → IsRead tells s t → FileStays s t → OnlyReadsCells tells s t
only_cells reads file = record {
  cells = reads.cells.cells;
  operation = reads.cells.operation;
  count = reads.cells.count;
  moments = reads.cells.moments;
  file =
      file;
}

-- a window keeps its length when its front is filled
pub kept_room : (n : ℕ) (window front : List ℕ) → length window ≡ 4096 → n ≤ 4096 → length front ≡ length (take n window)
    → length (front ++ drop n window) ≡ 4096
kept_room n window front room le long = omega (arith, length-append front (drop n window), length-drop n window, length-take n window, room, le, long)

-- a buffer that was lent as a whole keeps its length
pub kept_items : (len : ℕ) (new items : List ℕ) → len ≡ length items → length new ≡ length items
    → length (take len (new ++ drop (length new) items)) ≡ length items
kept_items len new items one two =
    omega (arith, length-take len (new ++ drop (length new) items), length-append new (drop (length new) items), length-drop (length new) items, one, two)
