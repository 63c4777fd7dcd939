-- Rows, and the lines of rows that are put one after another.
use Rattle.std.proofs.Common.{◌≡◌, ◌⊎◌, ⊎_elim, ◌≤◌, ◌<◌, ◌+◌, ◌-◌, ◌%◌, ◌++◌, ◌∙◌, sym, ap, subst, refl, arith, Bool, true, false, min, ℕ, zero, suc, List, []}
use Rattle.std.proofs.Common.{◌∷◌, length, take, drop, append_assoc, append-nil, Ok, Err}
use Rattle.std.specs.Prelude.{◌==◌, slice_get, slice_range, Some}
use Rattle.std.proofs.lemmas.Bool.{cases_lt}
use Rattle.std.proofs.lemmas.Grind.{flat_map-append}
use Rattle.std.proofs.lemmas.List.{length-drop, drop-drop, drop_more}
use Rattle.std.proofs.lemmas.Option.{get_or_from_slice_get}
use Rattle.outside_io.specs.State.{SinkState}
use Rattle.outside_io.specs.declared.sink.OutputFault.{OutputFault}
use Rattle.byte_map.specs.Image.{Run}
use Rattle.record_lines.proofs.CellLemmas.{same_number, other_number}
use Rattle.image_more.specs.declared.form.RowForm.{RowForm}
use Rattle.image_more.specs.Rows.{with_byte, run_rows, rows_of}
use Rattle.image_more.specs.Texts.{row_lines, behind, rows_lines, text_of}
use Rattle.image_more.specs.Behind.{form_behind}
use Rattle.outside_io.specs.Gathers.{Gathers}
use Rattle.outside_io.proofs.GatherLemmas.{gathers_nothing, gathers_as, gathers_then, gathers_stops}

-- The rows of a run: the first one ends at a multiple of 16.

last_row : (at byte : ℕ) (bytes : List ℕ) (b : Bool) → length bytes < 1
    → with_byte at byte b (run_rows (at + 1) bytes) ≡ record { at = at; bytes = byte ∷ [] } ∷ run_rows (at + 1) bytes
last_row at byte [] true none = refl
last_row at byte [] false none = refl
last_row at byte (x ∷ xs) b none = absurd (omega (arith, none))

one_byte : (at byte : ℕ) (bytes : List ℕ) → 1 ≡ min (16 - at % 16) (length bytes + 1)
    → with_byte at byte ((at + 1) % 16 == 0) (run_rows (at + 1) bytes) ≡ record { at = at; bytes = byte ∷ [] } ∷ run_rows (at + 1) bytes
one_byte at byte bytes is = ⊎_elim
    (λ (none : length bytes < 1). last_row at byte bytes ((at + 1) % 16 == 0) none)
    (λ (some : 1 ≤ length bytes).
    let ends : (at + 1) % 16 ≡ 0 = omega (arith, is, some) in
    ap (λ (b : Bool). with_byte at byte b (run_rows (at + 1) bytes)) (same_number ((at + 1) % 16) 0 ends))
    (cases_lt (length bytes) 1)

pub first_row : (at : ℕ) (bytes : List ℕ) (count : ℕ) → 0 < length bytes → count ≡ min (16 - at % 16) (length bytes)
    → run_rows at bytes ≡ record { at = at; bytes = take count bytes } ∷ run_rows (at + count) (drop count bytes)
first_row at [] count some is = absurd (omega (arith, some))
first_row at (byte ∷ bytes) zero some is = absurd (omega (arith, is))
first_row at (byte ∷ bytes) (suc c) some is = ⊎_elim
    (λ (none : c < 1).
    let z : 0 ≡ c = omega (arith, none) in
    subst
    (λ (n : ℕ). with_byte at byte ((at + 1) % 16 == 0) (run_rows (at + 1) bytes) ≡ record { at = at; bytes = byte ∷ take n bytes } ∷ run_rows (at + suc n)
    (drop n bytes))
    z (one_byte at byte bytes (omega (arith, is, z))))
    (λ (more : 1 ≤ c).
    let apart : (at + 1) % 16 ≡ 0 → ⊥ = λ same. omega (arith, is, more, same) in
    let rest : c ≡ min (16 - (at + 1) % 16) (length bytes) = omega (arith, is, more) in
    ap (λ (b : Bool). with_byte at byte b (run_rows (at + 1) bytes)) (other_number ((at + 1) % 16) 0 apart)
    ∙ ap (with_byte at byte false) (first_row (at + 1) bytes c (omega (arith, rest, more)) rest)
    ∙ ap (λ (n : ℕ). record { at = at; bytes = byte ∷ take c bytes } ∷ run_rows n (drop c bytes)) (let n : at + 1 + c ≡ at + suc c = omega arith in n))
    (cases_lt c 1)

-- the row of a run at a place of it
pub row_next : (at from count : ℕ) (bytes : List ℕ) → from < length bytes → count ≡ min (16 - (at + from) % 16) (length bytes - from)
    → run_rows (at + from) (drop from bytes) ≡ (record { at = at + from; bytes = slice_range bytes from (from + count) } ∷ []) ++ run_rows (at + (from + count))
    (drop (from + count) bytes)
row_next at from count bytes less is =
    let long = length-drop from bytes in
    let row : List ℕ → Run = λ own. record { at = at + from; bytes = own } in
    first_row (at + from) (drop from bytes) count (omega (arith, long, less)) (omega (arith, long, is))
    ∙ ap (λ (n : ℕ). row (take n (drop from bytes)) ∷ run_rows (at + from + count) (drop count (drop from bytes)))
    (let n : count ≡ from + count - from = omega arith in n)
    ∙ ap (λ (later : List ℕ). row (slice_range bytes from (from + count)) ∷ run_rows (at + from + count) later) (drop-drop count from bytes)
    ∙ ap (λ (n : ℕ). row (slice_range bytes from (from + count)) ∷ run_rows n (drop (from + count) bytes))
    (let n : at + from + count ≡ at + (from + count) = omega arith in n)

-- The lines of rows.

pub rows-append : (form : RowForm) (xs ys : List Run) → rows_lines form (xs ++ ys) ≡ rows_lines form xs ++ rows_lines (form_behind form xs) ys
rows-append form [] ys = refl
rows-append form (x ∷ xs) ys =
    ap (λ (l : List (List ℕ)). row_lines form x ++ l) (rows-append (behind form x) xs ys)
    ∙ sym (append_assoc (row_lines form x) (rows_lines (behind form x) xs) (rows_lines (form_behind (behind form x) xs) ys))

pub text-append : (form : RowForm) (xs ys : List Run) → text_of (rows_lines form (xs ++ ys)) ≡ text_of (rows_lines form xs) ++
    text_of (rows_lines (form_behind form xs) ys)
text-append form xs ys = ap text_of (rows-append form xs ys) ∙ flat_map-append (λ (line : List ℕ). line ++ 10 ∷ []) (rows_lines form xs)
    (rows_lines (form_behind form xs) ys)

pub behind-append : (form : RowForm) (xs ys : List Run) → form_behind form (xs ++ ys) ≡ form_behind (form_behind form xs) ys
behind-append form [] ys = refl
behind-append form (x ∷ xs) ys = behind-append (behind form x) xs ys

pub one_row : (form : RowForm) (row : Run) → text_of (row_lines form row) ≡ text_of (rows_lines form (row ∷ []))
one_row form row = ap text_of (sym (append-nil (row_lines form row)))

pub text-both : (xs ys : List (List ℕ)) → text_of xs ++ text_of ys ≡ text_of (xs ++ ys)
text-both xs ys = sym (flat_map-append (λ (line : List ℕ). line ++ 10 ∷ []) xs ys)

-- the lines of some of the rows were gathered, and the rest are still to be written
pub record HasGathered (tells : Bool) (old now : SinkState) (waited waits : List ℕ) (first form : RowForm) (all rest : List Run) : Type 0 where
  pub part : List ℕ
  pub gathers : Gathers tells old now waited waits part (Ok tt)
  pub text_is : part ++ text_of (rows_lines form rest) ≡ text_of (rows_lines first all)
  pub form_is : form_behind form rest ≡ form_behind first all

-- no row was gathered so far
pub rows_none : (tells : Bool) (a : SinkState) (w : List ℕ) (first : RowForm) (all rest : List Run) → rest ≡ all →
    HasGathered tells a a w w first first all rest
rows_none tells a w first all rest is = record {
  part = [];
  gathers = gathers_nothing tells a w tt;
  text_is = ap (λ (rows : List Run). text_of (rows_lines first rows)) is;
  form_is = ap (form_behind first) is;
}

module _ {tells : Bool} {a b : SinkState} {v w : List ℕ} {first form : RowForm} {all rest : List Run} (h : HasGathered tells a b v w first form all rest)
    (rows later : List Run) (is : rest ≡ rows ++ later) where
  rest_text : text_of (rows_lines form rows) ++ text_of (rows_lines (form_behind form rows) later) ≡ text_of (rows_lines form rest)
  rest_text = sym (text-append form rows later) ∙ ap (λ (rs : List Run). text_of (rows_lines form rs)) (sym is)

  all_text : (h.part ++ text_of (rows_lines form rows)) ++ text_of (rows_lines (form_behind form rows) later) ≡ text_of (rows_lines first all)
  all_text =
      append_assoc h.part (text_of (rows_lines form rows)) (text_of (rows_lines (form_behind form rows) later))
      ∙ ap (λ (l : List ℕ). h.part ++ l) rest_text ∙ h.text_is

  -- more rows were gathered
  pub rows_more : {c : SinkState} {x : List ℕ} {u : Unit {0}} (next : RowForm) → next ≡ form_behind form rows →
      Gathers tells b c w x (text_of (rows_lines form rows)) (Ok u)
      → HasGathered tells a c v x first next all later
  rows_more {c} {x} {u} next next_is gathers = record {
    part = h.part ++ text_of (rows_lines form rows);
    gathers = gathers_then (Ok u) h.gathers gathers;
    text_is = ap (λ (f : RowForm). (h.part ++ text_of (rows_lines form rows)) ++ text_of (rows_lines f later)) next_is ∙ all_text;
    form_is = ap (λ (f : RowForm). form_behind f later) next_is ∙ sym (behind-append form rows later) ∙ ap (form_behind form) (sym is) ∙ h.form_is;
  }

  -- a fault broke off the gathering of rows
  pub rows_break : {c : SinkState} {x : List ℕ} {e : OutputFault} → Gathers tells b c w x (text_of (rows_lines form rows)) (Err e)
      → Gathers tells a c v x (text_of (rows_lines first all)) (Err e)
  rows_break {c} {x} {e} gathers = gathers_as all_text (gathers_stops (text_of (rows_lines (form_behind form rows) later))
      (gathers_then (Err e) h.gathers gathers))

-- all rows were gathered
pub rows_gathered : {tells : Bool} {a b : SinkState} {v w : List ℕ} {first form : RowForm} {all rest : List Run} → rest ≡ [] →
    HasGathered tells a b v w first form all rest
    → Gathers tells a b v w (text_of (rows_lines first all)) (Ok tt)
rows_gathered {tells} {a} {b} {v} {w} {first} {form} {all} {rest} none h =
    gathers_as (sym (append-nil h.part) ∙ ap (λ (rows : List Run). h.part ++ text_of (rows_lines form rows)) (sym none) ∙ h.text_is) h.gathers

-- the rows of a map from one of its runs on
pub rows_step : (map : List Run) (index : ℕ) (run : Run) → index < length map → slice_get map index ≡ Some run
    → rows_of (drop index map) ≡ run_rows run.at run.bytes ++ rows_of (drop (index + 1) map)
rows_step map index run less is =
    let none : Run = record { at = 0; bytes = [] } in
    ap rows_of (drop_more map index none less)
    ∙ ap (λ (r : Run). run_rows r.at r.bytes ++ rows_of (drop (index + 1) map)) (get_or_from_slice_get map index run none is)
