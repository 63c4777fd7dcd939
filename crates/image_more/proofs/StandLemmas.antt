-- A text of records from its first line on.
use Rattle.std.proofs.Common.{◌≡◌, ◌<◌, ◌+◌, ◌++◌, ◌∙◌, sym, ap, subst, refl, arith, below_more, ℕ, suc, true, false, List, [], ◌∷◌, length, get_or}
use Rattle.std.proofs.Common.{drop, Option, None, Result}
use Rattle.std.proofs.lemmas.List.{length-drop, get_or-drop, drop-drop}
use Rattle.byte_map.specs.Image.{Run}
use Rattle.record_lines.specs.Cells.{Cell, IsImageOf}
use Rattle.record_lines.specs.Format.{Format, line_at, context_before, line_cells, line_ends, line_fault, cells_before, fault_at, ends_at, AreRight}
use Rattle.record_lines.specs.Format.{IsImageOfText}

-- the first n lines are right, c is known after them, they have these cells, and `rest` are the lines left
pub record Stands {C R F : Type 0} (f : Format C R F) (lines : List (List ℕ)) (n : ℕ) (rest : List (List ℕ)) (c : C) (cells : List Cell) : Type 0 where
  pub rest_is : drop n lines ≡ rest
  pub before : AreRight f lines n
  pub context_is : context_before f lines n ≡ c
  pub cells_are : cells_before f lines n ≡ cells

pub stands_first : {C R F : Type 0} (f : Format C R F) (lines : List (List ℕ)) → Stands f lines 0 lines f.start []
stands_first f lines = record {
  rest_is = refl;
  before = record { within = omega arith; right = λ k lt. absurd (omega arith); goes_on = λ k lt. absurd (omega arith) };
  context_is = refl;
  cells_are = refl;
}

module _ {C R F : Type 0} (f : Format C R F) (lines : List (List ℕ)) (n : ℕ) (line : List ℕ) (rest : List (List ℕ)) (c : C) (cells : List Cell)
    (h : Stands f lines n (line ∷ rest) c cells) (reading : Result (Option R) F) (read_is : f.read line ≡ reading) (right : line_fault f c cells reading ≡ None)
  where
    inside : n < length lines
    inside = omega (arith, ap length h.rest_is, length-drop n lines)

    reads : f.read (line_at lines n) ≡ reading
    reads =
        ap f.read
        (ap (λ (k : ℕ). get_or lines k []) (let z : n ≡ n + 0 = omega arith in z)
        ∙ sym (get_or-drop n lines 0 [])
        ∙ ap (λ (ls : List (List ℕ)). get_or ls 0 []) h.rest_is)
        ∙ read_is

    fault_is : fault_at f lines n ≡ None
    fault_is =
        ap (λ (k : C). line_fault f k (cells_before f lines n) (f.read (line_at lines n))) h.context_is
        ∙ ap (λ (before : List Cell). line_fault f c before (f.read (line_at lines n))) h.cells_are
        ∙ ap (λ (r : Result (Option R) F). line_fault f c cells r) reads
        ∙ right

    -- the next line is right and doesn't end the text
    pub stands_more : line_ends f reading ≡ false → Stands f lines (suc n) rest (f.behind reading c) (line_cells f c reading ++ cells)
    stands_more goes_on = record {
      rest_is = ap (λ (k : ℕ). drop k lines) (let more : suc n ≡ n + 1 = omega arith in more) ∙ sym (drop-drop 1 n lines) ∙ ap (drop 1) h.rest_is;
      before = record {
        within = omega (arith, inside);
        right = λ k lt. below_more (λ (j : ℕ). fault_at f lines j ≡ None) n h.before.right fault_is k (omega arith);
        goes_on = λ k lt. below_more (λ (j : ℕ). ends_at f lines j ≡ false) n h.before.goes_on (ap (line_ends f) reads ∙ goes_on) k (omega arith);
      };
      context_is = ap (λ (r : Result (Option R) F). f.behind r (context_before f lines n)) reads ∙ ap (f.behind reading) h.context_is;
      cells_are =
          ap (λ (k : C). line_cells f k (f.read (line_at lines n)) ++ cells_before f lines n) h.context_is
          ∙ ap (λ (r : Result (Option R) F). line_cells f c r ++ cells_before f lines n) reads
          ∙ ap (λ (before : List Cell). line_cells f c reading ++ before) h.cells_are;
    }

    -- the next line is the one that ends the text
    pub stands_end : (image : List Run) → line_ends f reading ≡ true → IsImageOf cells image → IsImageOfText f lines image
    stands_end image ends image_is = record {
      place = n;
      before = h.before;
      inside = inside;
      right = fault_is;
      ends = ap (line_ends f) reads ∙ ends;
      image_is = subst (λ (before : List Cell). IsImageOf before image) (sym h.cells_are) image_is;
    }
