-- The rows of a map: where they are, and that they have the map's bytes and no other.
use Rattle.std.proofs.Common.{◌≡◌, ⊎_elim, ◌≤◌, ◌<◌, ◌+◌, ◌-◌, ◌%◌, ◌++◌, ◌∙◌, sym, ap, subst, refl, arith, ℕ, suc, Bool, true, false, cond, List, []}
use Rattle.std.proofs.Common.{◌∷◌, length, Option, Some, None}
use Rattle.std.specs.Prelude.{◌==◌}
use Rattle.std.specs.List.{All}
use Rattle.std.proofs.lemmas.Bool.{cases_lt}
use Rattle.std.proofs.lemmas.List.Elements.{All-nil, All-cons, All-head, All-tail}
use Rattle.byte_map.specs.Image.{addresses, Run, end_of, byte_of, byte_at, AreMaximal}
use Rattle.byte_map.proofs.Runs.{or_else, byte_at-append, holds_no_lower}
use Rattle.record_lines.specs.Cells.{Cell, held, cells_from}
use Rattle.record_lines.proofs.CellLemmas.{same_number, held-append, held-none_above, held-run}
use Rattle.image_more.specs.Rows.{with_byte, run_rows, rows_of}
use Rattle.image_more.proofs.DigitLemmas.{IsByte}

-- A row: some bytes, where only the first address may be a multiple of 16.
pub record IsRow (row : Run) : Type 0 where
  pub some : 1 ≤ length row.bytes
  pub fits : row.at % 16 + length row.bytes ≤ 16
  pub inside : end_of row ≤ 4294967296
  pub small : All IsByte row.bytes

-- rows at rising addresses, from `low` on
abbrev pub AreRows : ℕ → List Run → Type 0
AreRows low [] = Unit {0}
AreRows low (row ∷ rows) = (low ≤ row.at) × IsRow row × AreRows (end_of row) rows

rows_from : (low lower : ℕ) (rows : List Run) → AreRows low rows → lower ≤ low → AreRows lower rows
rows_from low lower [] are le = tt
rows_from low lower (row ∷ rows) are le = (omega (arith, are.0, le), are.1, are.2)

-- rows have no byte below the first of them
none_below : (low : ℕ) (rows : List Run) (a : ℕ) → AreRows low rows → a < low → byte_at rows a ≡ None
none_below low [] a are lt = refl
none_below low (row ∷ rows) a are lt =
    ap (λ (b : Bool). cond b (Some (byte_of row a)) (byte_at rows a)) (holds_no_lower row a (omega (arith, are.0, lt)))
    ∙ none_below (end_of row) rows a are.2 (omega (arith, are.0, lt))

-- The rows of a run begin at its address.
abbrev StartAt : ℕ → List Run → Type 0
StartAt at [] = Unit {0}
StartAt at (row ∷ rows) = row.at ≡ at

start_with : (at byte : ℕ) (b : Bool) (rows : List Run) → StartAt at (with_byte at byte b rows)
start_with at byte true rows = refl
start_with at byte false [] = refl
start_with at byte false (row ∷ rows) = refl

run_starts : (at : ℕ) (bytes : List ℕ) → StartAt at (run_rows at bytes)
run_starts at [] = tt
run_starts at (byte ∷ bytes) = start_with at byte ((at + 1) % 16 == 0) (run_rows (at + 1) bytes)

-- a single byte is a row
byte_row : (at byte : ℕ) → at < 4294967296 → byte < 256 → IsRow (record { at = at; bytes = byte ∷ [] })
byte_row at byte inside small = record {
  some = omega arith;
  fits = omega arith;
  inside = omega (arith, inside);
  small =
      All-cons IsByte byte [] small (All-nil IsByte);
}

with_rows : (at byte : ℕ) (b : Bool) (rows later : List Run) → (at + 1) % 16 == 0 ≡ b → at < 4294967296 → byte < 256 → StartAt (at + 1) rows →
    AreRows (at + 1) (rows ++ later)
    → AreRows at (with_byte at byte b rows ++ later)
with_rows at byte true rows later is inside small start are = (omega arith, byte_row at byte inside small, are)
with_rows at byte false [] later is inside small start are = (omega arith, byte_row at byte inside small, are)
with_rows at byte false (row ∷ rows) later is inside small start are =
    let own = are.1 in
    let no_end : (at + 1) % 16 ≡ 0 → ⊥ = λ same. let both : true ≡ false = sym (same_number ((at + 1) % 16) 0 same) ∙ is in cc in
    let more : (at + 1) % 16 ≡ at % 16 + 1 = ⊎_elim
    (λ (lt : at % 16 < 15). omega (arith, lt))
    (λ (ge : 15 ≤ at % 16). absurd (no_end (omega (arith, ge))))
    (cases_lt (at % 16) 15) in
    let fits : (at + 1) % 16 + length row.bytes ≤ 16 = subst (λ (n : ℕ). n % 16 + length row.bytes ≤ 16) start own.fits in (
      omega arith,
      record {
        some = omega arith;
        fits = omega (arith, fits, more);
        inside = omega (arith, own.inside, start);
        small = All-cons IsByte byte row.bytes small own.small;
      },
      rows_from (end_of row) (at + suc (length row.bytes)) (rows ++ later) are.2 (omega (arith, start)),
    )

run_rows_are : (at : ℕ) (bytes : List ℕ) (later : List Run) → at + length bytes ≤ 4294967296 → All IsByte bytes → AreRows (at + length bytes) later →
    AreRows at (run_rows at bytes ++ later)
run_rows_are at [] later fits small are = rows_from (at + 0) at later are (omega arith)
run_rows_are at (byte ∷ bytes) later fits small are =
    with_rows at byte ((at + 1) % 16 == 0) (run_rows (at + 1) bytes) later refl (omega (arith, fits)) (All-head IsByte byte bytes small)
    (run_starts (at + 1) bytes)
    (run_rows_are (at + 1) bytes later (omega (arith, fits)) (All-tail IsByte byte bytes small)
    (rows_from (at + suc (length bytes)) (at + 1 + length bytes) later are (omega arith)))

abbrev AreBytes : Run → Type 0
AreBytes run = All IsByte run.bytes

-- the rows of a map rise
pub rows_are : (low : ℕ) (map : List Run) → AreMaximal low addresses map → All AreBytes map → AreRows low (rows_of map)
rows_are low [] maximal small = tt
rows_are low (run ∷ map) maximal small =
    rows_from run.at low (run_rows run.at run.bytes ++ rows_of map)
    (run_rows_are run.at run.bytes (rows_of map) (omega (arith, maximal.2)) (All-head AreBytes run map small)
    (rows_from (end_of run + 1) (end_of run) (rows_of map) (rows_are (end_of run + 1) map maximal.3 (All-tail AreBytes run map small)) (omega arith)))
    maximal.0

-- The bytes of rows.

-- a byte of the first run's cells, or else of the other runs
as_cells : (run : Run) (runs : List Run) (a : ℕ) → byte_at (run ∷ runs) a ≡ or_else (held (cells_from run.at run.bytes) a) (byte_at runs a)
as_cells run runs a =
    byte_at-append (run ∷ []) runs a
    ∙ ap (λ (o : Option ℕ). or_else o (byte_at runs a)) (sym (held-run run.at run.bytes a))

or_cond : (b : Bool) (byte : ℕ) (x y : Option ℕ) → or_else (cond b (Some byte) x) y ≡ cond b (Some byte) (or_else x y)
or_cond true byte x y = refl
or_cond false byte x y = refl

with_bytes : (at byte : ℕ) (b : Bool) (rows : List Run) (a : ℕ) → StartAt (at + 1) rows → byte_at (with_byte at byte b rows) a ≡ cond (a == at) (Some byte)
    (byte_at rows a)
with_bytes at byte true rows a start = as_cells (record { at = at; bytes = byte ∷ [] }) rows a ∙ or_cond (a == at) byte None (byte_at rows a)
with_bytes at byte false [] a start = as_cells (record { at = at; bytes = byte ∷ [] }) [] a ∙ or_cond (a == at) byte None None
with_bytes at byte false (row ∷ rows) a start =
    as_cells (record { at = at; bytes = byte ∷ row.bytes }) rows a
    ∙ or_cond (a == at) byte (held (cells_from (at + 1) row.bytes) a) (byte_at rows a)
    ∙ ap (λ (n : ℕ). cond (a == at) (Some byte) (or_else (held (cells_from n row.bytes) a) (byte_at rows a))) (sym start)
    ∙ ap (λ (o : Option ℕ). cond (a == at) (Some byte) o) (sym (as_cells row rows a))

run_bytes : (at : ℕ) (bytes : List ℕ) (a : ℕ) → byte_at (run_rows at bytes) a ≡ held (cells_from at bytes) a
run_bytes at [] a = refl
run_bytes at (byte ∷ bytes) a =
    with_bytes at byte ((at + 1) % 16 == 0) (run_rows (at + 1) bytes) a (run_starts (at + 1) bytes)
    ∙ ap (λ (o : Option ℕ). cond (a == at) (Some byte) o) (run_bytes (at + 1) bytes a)

-- the rows of a map have its bytes and no other
pub rows_bytes : (map : List Run) (a : ℕ) → byte_at (rows_of map) a ≡ byte_at map a
rows_bytes [] a = refl
rows_bytes (run ∷ map) a =
    byte_at-append (run_rows run.at run.bytes) (rows_of map) a
    ∙ ap (λ (o : Option ℕ). or_else o (byte_at (rows_of map) a)) (run_bytes run.at run.bytes a)
    ∙ ap (or_else (held (cells_from run.at run.bytes) a)) (rows_bytes map a)
    ∙ sym (as_cells run map a)

-- What rows have, and cells of the rows before them.

or_none : (x y : Option ℕ) → or_else (or_else x None) y ≡ or_else x y
or_none None y = refl
or_none (Some byte) y = refl

-- the bytes of the rows to come and of the cells so far are the same once the next row is among these cells
pub row_moved : (row : Run) (rows : List Run) (cells : List Cell) (a : ℕ) → AreRows (end_of row) rows
    → or_else (byte_at (row ∷ rows) a) (held cells a) ≡ or_else (byte_at rows a) (held (cells_from row.at row.bytes ++ cells) a)
row_moved row rows cells a are =
    let own = held (cells_from row.at row.bytes) a in
    ap (λ (o : Option ℕ). or_else o (held cells a)) (as_cells row rows a)
    ∙ ⊎_elim
    (λ (low : a < end_of row).
    let none = none_below (end_of row) rows a are low in
    ap (λ (o : Option ℕ). or_else (or_else own o) (held cells a)) none
    ∙ or_none own (held cells a)
    ∙ ap (λ (o : Option ℕ). or_else o (or_else own (held cells a))) (sym none))
    (λ (high : end_of row ≤ a).
    let none = held-none_above row.at row.bytes a high in
    ap (λ (o : Option ℕ). or_else (or_else o (byte_at rows a)) (held cells a)) none
    ∙ ap (λ (o : Option ℕ). or_else (byte_at rows a) (or_else o (held cells a))) (sym none))
    (cases_lt a (end_of row))
    ∙ ap (or_else (byte_at rows a)) (sym (held-append (cells_from row.at row.bytes) cells a))

-- the rows that were read have no byte above their end
pub none_above : (low : ℕ) (row : Run) (cells : List Cell) → low ≤ row.at → ((a : ℕ) → low ≤ a → held cells a ≡ None) →
    (a : ℕ) → end_of row ≤ a → held (cells_from row.at row.bytes ++ cells) a ≡ None
none_above low row cells from none a high =
    held-append (cells_from row.at row.bytes) cells a
    ∙ ap (λ (o : Option ℕ). or_else o (held cells a)) (held-none_above row.at row.bytes a high)
    ∙ none a (omega (arith, from, high))
