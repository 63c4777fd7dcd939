-- The text of a map as Intel HEX is read as the map.
use Rattle.std.proofs.Common.{◌≡◌, ◌≤◌, ◌<◌, ◌+◌, ◌*◌, ◌/◌, ◌%◌, ◌++◌, ◌∙◌, sym, ap, subst, refl, arith, append_assoc, ℕ, suc, Bool, true, false, cond, List}
use Rattle.std.proofs.Common.{[], ◌∷◌, length, Option, Some, None, Ok}
use Rattle.std.specs.Prelude.{◌==◌, codes, nat_le}
use Rattle.std.specs.List.{All}
use Rattle.std.proofs.lemmas.Bool.{eqb-true}
use Rattle.std.proofs.lemmas.List.Elements.{All-nil, All-cons, All-append}
use Rattle.std.proofs.lemmas.List.Sums.{AllPass-from_list_all}
use Rattle.octets.specs.Digit.{hex_value}
use Rattle.octets.specs.Lines.{lines_of}
use Rattle.byte_map.specs.Image.{addresses, Run, end_of, byte_at, AreMaximal}
use Rattle.byte_map.proofs.Runs.{or_else}
use Rattle.record_lines.specs.Cells.{Cell, held, cells_from, first_clash}
use Rattle.record_lines.specs.Format.{or_clash, IsImageOfText}
use Rattle.record_lines.proofs.CellLemmas.{no_clash}
use Rattle.image_hex.specs.Record.{read_line, checksum_of}
use Rattle.image_hex.specs.Hex.{hex, data_cells}
use Rattle.image_hex.specs.declared.record.Base.{Base}
use Rattle.image_hex.specs.declared.record.Base.TheVariants.{Upper}
use Rattle.image_hex.specs.declared.record.HexRecord.TheVariants.{Data, End, Sets}
use Rattle.image_more.specs.declared.form.RowForm.TheVariants.{Hex}
use Rattle.image_more.specs.Rows.{rows_of}
use Rattle.image_more.specs.Texts.{digits, hex_bytes, hex_line, upper_line, upper_lines, rows_lines, hex_lines, hex_text}
use Rattle.image_more.specs.Maps.{IsByteMap}
use Rattle.image_more.proofs.DigitLemmas.{IsByte, IsMark, marks-digits, lines_of-text}
use Rattle.image_more.proofs.ReadLemmas.{small_hex, hex_read}
use Rattle.image_more.proofs.StandLemmas.{Stands, stands_first, stands_more, stands_end}
use Rattle.image_more.proofs.MapLemmas.{IsRow, AreRows, rows_are, rows_bytes, row_moved, none_above}

abbrev end_line : List ℕ
end_line = codes ":00000001FF"

end_reads : read_line end_line ≡ Ok (Some End)
unfolding hex_value
end_reads = refl

two_bytes : (upper : ℕ) → upper < 65536 → All IsByte (upper / 256 ∷ upper % 256 ∷ [])
two_bytes upper small = All-cons IsByte (upper / 256) (upper % 256 ∷ []) (omega (arith, small))
    (All-cons IsByte (upper % 256) [] (omega arith) (All-nil IsByte))

upper_reads : (upper : ℕ) → upper < 65536 → read_line (upper_line upper) ≡ Ok (Some (Sets (Upper upper)))
upper_reads upper small =
    hex_read 4 0 (upper / 256 ∷ upper % 256 ∷ []) (omega arith) (omega arith) (omega arith) (two_bytes upper small)
    ∙ ap (λ (n : ℕ). Ok (Some (Sets (Upper n)))) (let n : upper / 256 * 256 + upper % 256 ≡ upper = omega arith in n)

data_reads : (row : Run) → IsRow row → read_line (hex_line 0 (row.at % 65536) row.bytes) ≡ Ok (Some (Data (row.at % 65536) row.bytes))
data_reads row is = hex_read 0 (row.at % 65536) row.bytes (omega arith) (omega arith) (omega (arith, is.fits)) is.small

-- the cells of a data record that doesn't wrap
straight : (half offset : ℕ) (bytes : List ℕ) → half < 65536 → offset + length bytes ≤ 65536 →
    data_cells (Upper half) offset bytes ≡ cells_from (half * 65536 + offset) bytes
straight half offset [] small fits = refl
straight half offset (byte ∷ bytes) small fits =
    let at : (half * 65536 + offset) % 4294967296 ≡ half * 65536 + offset = omega (arith, small, fits) in
    let next : half * 65536 + (offset + 1) ≡ half * 65536 + offset + 1 = omega arith in
    let first : ℕ → Cell = λ n. record { at = n; byte = byte } in
    ap (λ (n : ℕ). first n ∷ data_cells (Upper half) (offset + 1) bytes) at
    ∙ ap (λ (cells : List Cell). first (half * 65536 + offset) ∷ cells)
    (straight half (offset + 1) bytes small (omega (arith, fits)) ∙ ap (λ (n : ℕ). cells_from n bytes) next)

row_cells : (row : Run) → IsRow row → data_cells (Upper (row.at / 65536)) (row.at % 65536) row.bytes ≡ cells_from row.at row.bytes
row_cells row is =
    straight (row.at / 65536) (row.at % 65536) row.bytes (omega (arith, is.inside, is.some)) (omega (arith, is.fits))
    ∙ ap (λ (n : ℕ). cells_from n row.bytes) (let n : row.at / 65536 * 65536 + row.at % 65536 ≡ row.at = omega arith in n)

-- what is known of the base after an upper half was written
abbrev IsKnown : Option ℕ → Base → Type 0
IsKnown None base = Unit {0}
IsKnown (Some upper) base = base ≡ Upper upper

module _ (lines : List (List ℕ)) where
  upper_step : (n upper : ℕ) (rest : List (List ℕ)) (base : Base) (cells : List Cell) → upper < 65536 →
      Stands hex lines n (upper_line upper ∷ rest) base cells → Stands hex lines (suc n) rest (Upper upper) cells
  upper_step n upper rest base cells small h = stands_more hex lines n (upper_line upper) rest base cells h (Ok (Some (Sets (Upper upper))))
      (upper_reads upper small) refl refl

  upper_by : (b : Bool) (before upper n : ℕ) (rest : List (List ℕ)) (base : Base) (cells : List Cell) → (before == upper) ≡ b → base ≡ Upper before →
      upper < 65536
      → Stands hex lines n (cond b [] (upper_line upper ∷ []) ++ rest) base cells → (m : ℕ) × Stands hex lines m rest (Upper upper) cells
  upper_by true before upper n rest base cells is known small h =
      (n, subst (λ (b : Base). Stands hex lines n rest b cells) (known ∙ ap Upper (eqb-true before upper is)) h)
  upper_by false before upper n rest base cells is known small h = (suc n, upper_step n upper rest base cells small h)

  upper_known : (upper : Option ℕ) (half n : ℕ) (rest : List (List ℕ)) (base : Base) (cells : List Cell) → IsKnown upper base → half < 65536
      → Stands hex lines n (upper_lines upper half ++ rest) base cells → (m : ℕ) × Stands hex lines m rest (Upper half) cells
  upper_known None half n rest base cells known small h = (suc n, upper_step n half rest base cells small h)
  upper_known (Some before) half n rest base cells known small h = upper_by (before == half) before half n rest base cells refl known small h

  data_step : (row : Run) (low n : ℕ) (rest : List (List ℕ)) (cells : List Cell) → IsRow row → low ≤ row.at → ((a : ℕ) → low ≤ a → held cells a ≡ None)
      → Stands hex lines n (hex_line 0 (row.at % 65536) row.bytes ∷ rest) (Upper (row.at / 65536)) cells
      → Stands hex lines (suc n) rest (Upper (row.at / 65536)) (cells_from row.at row.bytes ++ cells)
  data_step row low n rest cells is from none h =
      let same = row_cells row is in
      let clear : first_clash cells (cells_from row.at row.bytes) ≡ None =
      no_clash row.at row.bytes cells (λ k old lt there. let nothing = none (row.at + k) (omega (arith, from)) in absurd (cc)) in
      subst (λ (own : List Cell). Stands hex lines (suc n) rest (Upper (row.at / 65536)) (own ++ cells)) same
      (stands_more hex lines n (hex_line 0 (row.at % 65536) row.bytes) rest (Upper (row.at / 65536)) cells h (Ok (Some (Data (row.at % 65536) row.bytes)))
      (data_reads row is) (ap (or_clash hex None) (ap (first_clash cells) same ∙ clear)) refl)

  rows_read : (map : List Run) (maximal : AreMaximal 0 addresses map) (rows : List Run) (upper : Option ℕ) (base : Base) (low n : ℕ) (cells : List Cell) →
      AreRows low rows → IsKnown upper base
      → ((a : ℕ) → low ≤ a → held cells a ≡ None) → ((a : ℕ) → byte_at map a ≡ or_else (byte_at rows a) (held cells a))
      → Stands hex lines n (rows_lines (Hex upper) rows ++ end_line ∷ []) base cells → IsImageOfText hex lines map
  rows_read map maximal [] upper base low n cells are known none union h =
      stands_end hex lines n end_line [] base cells h (Ok (Some End)) end_reads refl map refl (record { maximal = maximal; same = union })
  rows_read map maximal (row ∷ rows) upper base low n cells are known none union h =
      let half = row.at / 65536 in
      let own = hex_line 0 (row.at % 65536) row.bytes in
      let later = rows_lines (Hex (Some half)) rows in
      let shape : ((upper_lines upper half ++ own ∷ []) ++ later) ++ end_line ∷ [] ≡ upper_lines upper half ++ own ∷ (later ++ end_line ∷ []) =
      append_assoc (upper_lines upper half ++ own ∷ []) later (end_line ∷ []) ∙ append_assoc (upper_lines upper half) (own ∷ []) (later ++ end_line ∷ []) in
      let inside : half < 65536 = omega (arith, are.1.inside, are.1.some) in
      let (m, there) = upper_known upper half n (own ∷ (later ++ end_line ∷ [])) base cells known inside
      (subst (λ (ls : List (List ℕ)). Stands hex lines n ls base cells) shape h) in
      rows_read map maximal rows (Some half) (Upper half) (end_of row) (suc m) (cells_from row.at row.bytes ++ cells) are.2 refl
      (none_above low row cells are.0 none)
      (λ a. union a ∙ row_moved row rows cells a are.2)
      (data_step row low m (later ++ end_line ∷ []) cells are.1 are.0 none there)

-- The lines of a text of Intel HEX have no blanks.

abbrev pub AreMarks : List ℕ → Type 0
AreMarks line = All IsMark line

line_marks : (kind offset : ℕ) (bytes : List ℕ) → kind < 256 → offset < 65536 → length bytes ≤ 16 → All IsByte bytes → AreMarks (hex_line kind offset bytes)
unfolding hex_line
line_marks kind offset bytes kind_small offset_small few small =
    let all = hex_bytes kind offset bytes ++ checksum_of (hex_bytes kind offset bytes) ∷ [] in
    All-cons IsMark 58 (digits all) refl (marks-digits all (small_hex kind offset bytes kind_small offset_small few small))

upper_marks : (upper : ℕ) → upper < 65536 → AreMarks (upper_line upper)
upper_marks upper small = line_marks 4 0 (upper / 256 ∷ upper % 256 ∷ []) (omega arith) (omega arith) (omega arith) (two_bytes upper small)

pub one_marks : (line : List ℕ) → AreMarks line → All AreMarks (line ∷ [])
one_marks line marks = All-cons AreMarks line [] marks (All-nil AreMarks)

uppers_marks : (upper : Option ℕ) (half : ℕ) → half < 65536 → All AreMarks (upper_lines upper half)
uppers_marks None half small = one_marks (upper_line half) (upper_marks half small)
uppers_marks (Some before) half small = by (before == half) where
  by : (b : Bool) → All AreMarks (cond b [] (upper_line half ∷ []))
  by true = All-nil AreMarks
  by false = one_marks (upper_line half) (upper_marks half small)

rows_marks : (upper : Option ℕ) (low : ℕ) (rows : List Run) → AreRows low rows → All AreMarks (rows_lines (Hex upper) rows)
rows_marks upper low [] are = All-nil AreMarks
rows_marks upper low (row ∷ rows) are =
    let half = row.at / 65536 in
    let own = hex_line 0 (row.at % 65536) row.bytes in
    All-append AreMarks (upper_lines upper half ++ own ∷ []) (rows_lines (Hex (Some half)) rows)
    (All-append AreMarks (upper_lines upper half) (own ∷ []) (uppers_marks upper half (omega (arith, are.1.inside, are.1.some)))
    (one_marks own (line_marks 0 (row.at % 65536) row.bytes (omega arith) (omega arith) (omega (arith, are.1.fits)) are.1.small)))
    (rows_marks (Some half) (end_of row) rows are.2)

pub or_right : (o : Option ℕ) → or_else o None ≡ o
or_right None = refl
or_right (Some byte) = refl

-- the text of a map is read as the map
pub hex_is_read : (map : List Run) → IsByteMap map → IsImageOfText hex (lines_of (hex_text map)) map
unfolding hex_lines
hex_is_read map is =
    let are = rows_are 0 map is.maximal is.small in
    let marks = All-append AreMarks (rows_lines (Hex None) (rows_of map)) (end_line ∷ []) (rows_marks None 0 (rows_of map) are)
    (one_marks end_line (AllPass-from_list_all (λ (b : ℕ). nat_le 48 b) end_line refl)) in
    subst (λ (ls : List (List ℕ)). IsImageOfText hex ls map) (sym (lines_of-text (hex_lines map) marks))
    (rows_read (hex_lines map) map is.maximal (rows_of map) None (Upper 0) 0 0 [] are tt (λ a le. refl)
    (λ a. sym (rows_bytes map a) ∙ sym (or_right (byte_at (rows_of map) a))) (stands_first hex (hex_lines map)))
