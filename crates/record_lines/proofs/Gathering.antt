-- The runs of the lines of a text, and why their union is its image.
use Rattle.std.proofs.Common.{◌≡◌, ◌<◌, ◌∙◌, ℕ, zero, suc, List, [], ◌∷◌, ◌++◌, length, Option, Some, None, Result, Ok, Err, Bool, true, false, cond, refl, sym}
use Rattle.std.proofs.Common.{ap, arith, below_more}
use Rattle.std.specs.Prelude.{◌==◌}
use Rattle.std.specs.List.{All}
use Rattle.std.proofs.lemmas.Bool.Decides.{nat_tests}
use Rattle.std.proofs.lemmas.List.{append-nil}
use Rattle.std.proofs.lemmas.List.Elements.{All-nil, All-head, All-tail, All-append, All-weaker}
use Rattle.byte_map.specs.Image.{Run, holds, byte_at}
use Rattle.byte_map.proofs.Runs.{or_else}
use Rattle.record_lines.specs.Cells.{Cell, held, AreConsistent, Clash, first_clash, IsImageOf}
use Rattle.record_lines.specs.Format.{Format, line_at, context_before, line_cells, line_fault, or_clash, cells_before, ends_at, IsImageOfText}
use Rattle.record_lines.specs.Gathered.{HasRun, IsUnionOf, HasCell, cells_at, own_fault_at, AreRunsBefore, AreRunsOfText}
use Rattle.record_lines.proofs.CellLemmas.{held-append, clash-agreed}
use Rattle.record_lines.proofs.Unions.{All-back, All-front, none_holds, part_of}

-- two maps that have nothing at an address
neither : (o p : Option ℕ) → or_else o p ≡ None → (o ≡ None) × (p ≡ None)
neither None p none = (refl, none)
neither (Some x) p some = let nothing : Some x ≡ None = some in absurd (cc)

-- the runs of a line have its cells
line_has : (cells : List Cell) (runs image : List Run) → AreConsistent cells → IsImageOf (cells ++ []) runs → All (HasRun image) runs →
    All (HasCell image) cells
line_has cells runs image own is all =
    All-weaker (λ (cell : Cell). held cells cell.at ≡ Some cell.byte) (HasCell image)
    (λ cell same. part_of runs image cell.at cell.byte all (is.same cell.at ∙ ap (λ (cs : List Cell). held cs cell.at) (append-nil cells) ∙ same))
    cells own

-- the runs of a line have no address but those of its cells
line_only : (cells : List Cell) (runs : List Run) (a : ℕ) → IsImageOf (cells ++ []) runs → held cells a ≡ None → All (λ run. holds run a ≡ false) runs
line_only cells runs a is none = none_holds runs a (is.same a ∙ ap (λ (cs : List Cell). held cs a) (append-nil cells) ∙ none)

-- the runs after one more line
pub gathered_more : {C R F : Type 0} (f : Format C R F) (lines : List (List ℕ)) (n : ℕ) (runs own : List Run) → AreRunsBefore f lines n runs →
    n < length lines → own_fault_at f lines n ≡ None → ends_at f lines n ≡ false
    → AreConsistent (cells_at f lines n) → IsImageOf (cells_at f lines n ++ []) own → AreRunsBefore f lines (suc n) (runs ++ own)
gathered_more f lines n runs own before inside right goes_on consistent is =
    record {
      within = omega (arith, inside);
      right = λ k lt. below_more (λ (j : ℕ). own_fault_at f lines j ≡ None) n before.right right k (omega arith);
      goes_on = λ k lt. below_more (λ (j : ℕ). ends_at f lines j ≡ false) n before.goes_on goes_on k (omega arith);
      all = λ image all k lt. below_more (λ (j : ℕ). All (HasCell image) (cells_at f lines j)) n
          (before.all image (All-front (HasRun image) runs own all))
          (line_has (cells_at f lines n) own image consistent is (All-back (HasRun image) runs own all)) k (omega arith);
      only = λ a none.
          let both = neither (held (cells_at f lines n) a) (held (cells_before f lines n) a)
          (sym (held-append (cells_at f lines n) (cells_before f lines n) a) ∙ none) in
          All-append (λ (run : Run). holds run a ≡ false) runs own (before.only a both.1) (line_only (cells_at f lines n) own a is both.0);
    }

-- an image with the bytes of some cells has what they hold
held_first : (cell : Cell) (cells : List Cell) (image : List Run) (a byte : ℕ) (b : Bool) →
    (a == cell.at) ≡ b → cond b (Some cell.byte) (held cells a) ≡ Some byte → HasCell image cell → (held cells a ≡ Some byte → byte_at image a ≡ Some byte) →
    byte_at image a ≡ Some byte
held_first cell cells image a byte true same here has later = let at : a ≡ cell.at = grind (arith, nat_tests) in ap (byte_at image) at ∙ has ∙ here
held_first cell cells image a byte false other there has later = later there

held_in : (cells : List Cell) (image : List Run) (a byte : ℕ) → All (HasCell image) cells → held cells a ≡ Some byte → byte_at image a ≡ Some byte
held_in [] image a byte all is = let nothing : None ≡ Some byte = is in absurd (cc)
held_in (cell ∷ cells) image a byte all is =
    held_first cell cells image a byte (a == cell.at) refl is (All-head (HasCell image) cell cells all)
    (λ later. held_in cells image a byte (All-tail (HasCell image) cell cells all) later)

-- cells that one image has don't clash
no_clash_in : (before cells : List Cell) (image : List Run) → All (HasCell image) before → All (HasCell image) cells → first_clash before cells ≡ None
no_clash_in before [] image all some = refl
no_clash_in before (cell ∷ cells) image all some =
    clash-agreed (held before cell.at) cell (first_clash before cells)
    (λ old is.
    let here = held_in before image cell.at old all is in
    let has = All-head (HasCell image) cell cells some in
    let same : Some old ≡ Some cell.byte = sym here ∙ has in cc)
    ∙ no_clash_in before cells image all (All-tail (HasCell image) cell cells some)

or_clash_none : {C R F : Type 0} (f : Format C R F) (o : Option F) (clash other : Option Clash) → or_clash f o clash ≡ None → other ≡ None →
    or_clash f o other ≡ None
or_clash_none f (Some fault) clash other is none = is
or_clash_none f None clash other is none = ap (or_clash f None) none

-- a line that is right by itself and clashes with none before it is right
right_behind : {C R F : Type 0} (f : Format C R F) (c : C) (before : List Cell) (reading : Result (Option R) F) → line_fault f c [] reading ≡ None →
    first_clash before (line_cells f c reading) ≡ None → line_fault f c before reading ≡ None
right_behind f c before (Ok None) right none = refl
right_behind f c before (Ok (Some r)) right none = or_clash_none f (f.refused c r) (first_clash [] (f.cells c r)) (first_clash before (f.cells c r)) right none
right_behind f c before (Err fault) right none = right

module _ {C R F : Type 0} (f : Format C R F) (lines : List (List ℕ)) where
  all_before : (image : List Run) (n : ℕ) → ((k : ℕ) → k < n → All (HasCell image) (cells_at f lines k)) → All (HasCell image) (cells_before f lines n)
  all_before image zero each = All-nil (HasCell image)
  all_before image (suc n) each = All-append (HasCell image) (cells_at f lines n) (cells_before f lines n) (each n (omega arith))
      (all_before image n (λ k lt. each k (omega arith)))

  -- the union of the runs is the image
  pub union_is_image : (runs image : List Run) → AreRunsOfText f lines runs → IsUnionOf runs image → IsImageOfText f lines image
  union_is_image runs image text union =
      let n = text.place in
      let each = text.before.all image union.all in
      let whole = all_before image n each in
      record {
        place = n;
        before = record {
          within = text.before.within;
          right = λ k lt.
              right_behind f (context_before f lines k) (cells_before f lines k) (f.read (line_at lines k)) (text.before.right k lt)
              (no_clash_in (cells_before f lines k) (cells_at f lines k) image (all_before image k (λ j less. each j (omega arith))) (each k lt));
          goes_on = text.before.goes_on;
        };
        inside = text.inside;
        right = right_behind f (context_before f lines n) (cells_before f lines n) (f.read (line_at lines n)) text.right
            (ap (first_clash (cells_before f lines n)) text.no_cells);
        ends = text.ends;
        image_is = record { maximal = union.maximal; same = λ a. by image union whole a (held (cells_before f lines n) a) refl };
      }
    where
      by : (image : List Run) → IsUnionOf runs image → All (HasCell image) (cells_before f lines text.place) →
          (a : ℕ) (o : Option ℕ) → held (cells_before f lines text.place) a ≡ o → byte_at image a ≡ o
      by image union whole a None none = union.only a (text.before.only a none)
      by image union whole a (Some byte) is = held_in (cells_before f lines text.place) image a byte whole is
