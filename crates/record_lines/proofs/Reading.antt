-- A text read line by line: what holds after its first n lines, and how it ends.
use Rattle.std.proofs.Common.{◌≡◌, ◌≤◌, ◌<◌, ◌+◌, ℕ, suc, min, List, [], ◌∷◌, ◌++◌, length, get_or, drop, Some, None, refl, sym, ap, subst, ◌∙◌, true, false}
use Rattle.std.proofs.Common.{arith, below_more}
use Rattle.std.proofs.lemmas.List.{length-drop, get_or-drop, drop-drop, drop_all}
use Rattle.octets.specs.Lines.{lines_of, whole_lines}
use Rattle.byte_map.specs.Image.{Run}
use Rattle.record_lines.specs.Cells.{Cell, IsImageOf}
use Rattle.record_lines.specs.Format.{Format, line_at, context_before, line_cells, line_ends, line_fault, cells_before, fault_at, ends_at, AreRight}
use Rattle.record_lines.specs.Format.{IsImageOfText, line_number, IsFaultOfLine, HasNoEnd}
use Rattle.record_lines.specs.Gathered.{cells_at}

-- the first n lines end at `from`, and c is known after them
pub record IsBehind {C R F : Type 0} (f : Format C R F) (text : List ℕ) (from : ℕ) (c : C) (n : ℕ) : Type 0 where
  pub rest : lines_of (drop from text) ≡ drop n (lines_of text)
  pub context_is : c ≡ context_before f (lines_of text) n

-- the first n lines were read: they are right, and the image has their bytes
pub record HasRead {C R F : Type 0} (f : Format C R F) (text : List ℕ) (from line : ℕ) (c : C) (image : List Run) (n : ℕ) : Type 0 where
  pub behind : IsBehind f text from c n
  pub before : AreRight f (lines_of text) n
  pub image_is : IsImageOf (cells_before f (lines_of text) n) image
  pub line_is : line ≡ line_number n

pub empty_image : IsImageOf [] []
empty_image = record { maximal = tt; same = λ a. refl }

pub read_nothing : {C R F : Type 0} (f : Format C R F) (text : List ℕ) (c : C) → c ≡ f.start → HasRead f text 0 0 c [] 0
read_nothing f text c is =
    record {
      behind = record { rest = refl; context_is = is };
      before = record { within = omega arith; right = λ k lt. absurd (omega arith); goes_on = λ k lt. absurd (omega arith) };
      image_is = empty_image;
      line_is = refl;
    }

-- the line that comes next
module _ {C R F : Type 0} (f : Format C R F) (text : List ℕ) (from : ℕ) (c : C) (n next : ℕ) (here : List ℕ) (h : IsBehind f text from c n)
    (lines : lines_of (drop from text) ≡ here ∷ lines_of (drop next text)) where
  whole : drop n (lines_of text) ≡ here ∷ lines_of (drop next text)
  whole = sym h.rest ∙ lines

  next_is : line_at (lines_of text) n ≡ here
  next_is =
      ap (λ (k : ℕ). get_or (lines_of text) k []) (let is : n ≡ n + 0 = omega arith in is)
      ∙ sym (get_or-drop n (lines_of text) 0 [])
      ∙ ap (λ (ls : List (List ℕ)). get_or ls 0 []) whole

  pub next_inside : n < length (lines_of text)
  next_inside = omega (arith, ap length whole, length-drop n (lines_of text))

  -- what is said of the line at a place follows from its content
  pub next_fault : (before : List Cell) → line_fault f (context_before f (lines_of text) n) before (f.read (line_at (lines_of text) n)) ≡ line_fault f c before
      (f.read here)
  next_fault before =
      ap (λ (k : C). line_fault f k before (f.read (line_at (lines_of text) n))) (sym h.context_is)
      ∙ ap (λ (l : List ℕ). line_fault f c before (f.read l)) next_is

  pub next_ends : ends_at f (lines_of text) n ≡ line_ends f (f.read here)
  next_ends = ap (λ (l : List ℕ). line_ends f (f.read l)) next_is

  pub next_cells : cells_at f (lines_of text) n ≡ line_cells f c (f.read here)
  next_cells =
      ap (λ (k : C). line_cells f k (f.read (line_at (lines_of text) n))) (sym h.context_is)
      ∙ ap (λ (l : List ℕ). line_cells f c (f.read l)) next_is

  -- what is known after the next line
  pub behind_next : (c' : C) → c' ≡ f.behind (f.read here) c → IsBehind f text next c' (suc n)
  behind_next c' is =
      record {
        rest = sym (ap (λ (k : ℕ). drop k (lines_of text)) (let more : suc n ≡ n + 1 = omega arith in more) ∙ sym (drop-drop 1 n (lines_of text)) ∙
            ap (drop 1) whole);
        context_is = is ∙ ap (f.behind (f.read here)) h.context_is
            ∙ ap (λ (l : List ℕ). f.behind (f.read l) (context_before f (lines_of text) n)) (sym next_is);
      }

  -- the next line is right
  pub read_more : (line : ℕ) (image : List Run) (c' : C) (image' : List Run) → HasRead f text from line c image n
      → line_fault f c (cells_before f (lines_of text) n) (f.read here) ≡ None → line_ends f (f.read here) ≡ false → c' ≡ f.behind (f.read here) c
      → IsImageOf (line_cells f c (f.read here) ++ cells_before f (lines_of text) n) image' → HasRead f text next (min (line + 1) 4294967295) c' image' (suc n)
  read_more line image c' image' read right goes_on c_is image_is =
      record {
        behind = behind_next c' c_is;
        before = record {
          within = omega (arith, next_inside);
          right = λ k lt. below_more (λ (j : ℕ). fault_at f (lines_of text) j ≡ None) n read.before.right
              (next_fault (cells_before f (lines_of text) n) ∙ right) k (omega arith);
          goes_on = λ k lt. below_more (λ (j : ℕ). ends_at f (lines_of text) j ≡ false) n read.before.goes_on (next_ends ∙ goes_on) k (omega arith);
        };
        image_is = subst (λ (cells : List Cell). IsImageOf (cells ++ cells_before f (lines_of text) n) image') (sym next_cells) image_is;
        line_is = omega (arith, read.line_is);
      }

  -- the next line is the end record
  pub read_end : (line : ℕ) (image image' : List Run) → HasRead f text from line c image n
      → line_fault f c (cells_before f (lines_of text) n) (f.read here) ≡ None → line_ends f (f.read here) ≡ true →
      IsImageOf (cells_before f (lines_of text) n) image' → IsImageOfText f (lines_of text) image'
  read_end line image image' read right ends image_is =
      record {
        place = n;
        before = read.before;
        inside = next_inside;
        right = next_fault (cells_before f (lines_of text) n) ∙ right;
        ends = next_ends ∙ ends;
        image_is = image_is;
      }

  -- the next line is at fault
  pub read_fault : (line : ℕ) (image : List Run) (fault : F) → HasRead f text from line c image n
      → line_fault f c (cells_before f (lines_of text) n) (f.read here) ≡ Some fault → IsFaultOfLine f (lines_of text) (min (line + 1) 4294967295) fault
  read_fault line image fault read is =
      record {
        place = n;
        before = read.before;
        inside = next_inside;
        fault_is = next_fault (cells_before f (lines_of text) n) ∙ is;
        line_is = omega (arith, read.line_is);
      }

no_lines : lines_of [] ≡ []
unfolding whole_lines
no_lines = refl

-- no line is left, and none ended the text
pub read_all : {C R F : Type 0} (f : Format C R F) (text : List ℕ) (from line : ℕ) (c : C) (image : List Run) (n : ℕ) → HasRead f text from line c image n →
    length text ≤ from → HasNoEnd f (lines_of text) line
read_all f text from line c image n h past =
    let nothing : drop n (lines_of text) ≡ [] = sym h.behind.rest ∙ ap lines_of (drop_all from text past) ∙ no_lines in
    let none_left : length (lines_of text) ≡ n = omega (arith, ap length nothing, length-drop n (lines_of text), h.before.within) in
    record { all = subst (AreRight f (lines_of text)) (sym none_left) h.before; line_is = h.line_is ∙ ap line_number (sym none_left) }
