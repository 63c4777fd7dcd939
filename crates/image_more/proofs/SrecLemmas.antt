-- The text of a map as S-records is read as the map.
use Rattle.std.proofs.Common.{◌≡◌, ◌≤◌, ◌+◌, ◌++◌, ◌∙◌, sym, ap, subst, refl, arith, ℕ, suc, Bool, false, cond, List, [], ◌∷◌, length, Some}
use Rattle.std.proofs.Common.{None, Ok}
use Rattle.std.specs.Prelude.{codes, nat_le, nat_lt}
use Rattle.std.specs.List.{All}
use Rattle.std.proofs.lemmas.List.Elements.{All-nil, All-cons, All-append}
use Rattle.std.proofs.lemmas.List.Sums.{AllPass-from_list_all}
use Rattle.octets.specs.Digit.{hex_value}
use Rattle.octets.specs.Lines.{lines_of}
use Rattle.byte_map.specs.Image.{addresses, Run, end_of, byte_at, AreMaximal}
use Rattle.byte_map.proofs.Runs.{or_else}
use Rattle.record_lines.specs.Cells.{Cell, held, cells_from, first_clash}
use Rattle.record_lines.specs.Format.{or_clash, IsImageOfText}
use Rattle.record_lines.proofs.CellLemmas.{no_clash}
use Rattle.image_srec.specs.Record.{read_line, checksum_of}
use Rattle.image_srec.specs.Srec.{srec}
use Rattle.image_srec.specs.declared.fault.SrecKind.TheVariants.{PastEnd}
use Rattle.image_srec.specs.declared.record.Seen.{Seen}
use Rattle.image_srec.specs.declared.record.SrecRecord.TheVariants.{Header, Data, End}
use Rattle.image_more.specs.declared.form.RowForm.TheVariants.{Srec}
use Rattle.image_more.specs.Rows.{rows_of}
use Rattle.image_more.specs.Texts.{digits, srec_bytes, srec_line, rows_lines, srec_lines, srec_text}
use Rattle.image_more.specs.Maps.{IsByteMap}
use Rattle.image_more.proofs.DigitLemmas.{IsMark, marks-digits, lines_of-text}
use Rattle.image_more.proofs.ReadLemmas.{not_less, small_srec, srec_read}
use Rattle.image_more.proofs.StandLemmas.{Stands, stands_first, stands_more, stands_end}
use Rattle.image_more.proofs.MapLemmas.{IsRow, AreRows, rows_are, rows_bytes, row_moved, none_above}
use Rattle.image_more.proofs.HexLemmas.{AreMarks, one_marks, or_right}

abbrev header_line : List ℕ
header_line = codes "S0030000FC"

abbrev end_line : List ℕ
end_line = codes "S70500000000FA"

header_reads : read_line header_line ≡ Ok (Some Header)
unfolding hex_value
header_reads = refl

end_reads : read_line end_line ≡ Ok (Some End)
unfolding hex_value
end_reads = refl

row_reads : (row : Run) → IsRow row → read_line (srec_line row) ≡ Ok (Some (Data row.at row.bytes))
row_reads row is = srec_read row (omega (arith, is.inside, is.some)) (omega (arith, is.fits)) is.small

module _ (lines : List (List ℕ)) where
  row_step : (row : Run) (low n : ℕ) (rest : List (List ℕ)) (seen : Seen) (cells : List Cell) → IsRow row → low ≤ row.at →
      ((a : ℕ) → low ≤ a → held cells a ≡ None)
      → Stands srec lines n (srec_line row ∷ rest) seen cells → Stands srec lines (suc n) rest (record { records = seen.records + 1 })
      (cells_from row.at row.bytes ++ cells)
  row_step row low n rest seen cells is from none h =
      let clear : first_clash cells (cells_from row.at row.bytes) ≡ None =
      no_clash row.at row.bytes cells (λ k old lt there. let nothing = none (row.at + k) (omega (arith, from)) in absurd (cc)) in
      let fits : nat_lt 4294967296 (row.at + length row.bytes) ≡ false = not_less 4294967296 (row.at + length row.bytes) is.inside in
      stands_more srec lines n (srec_line row) rest seen cells h (Ok (Some (Data row.at row.bytes))) (row_reads row is)
      (ap (λ (b : Bool). or_clash srec (cond b (Some (PastEnd row.at)) None) (first_clash cells (cells_from row.at row.bytes))) fits ∙
      ap (or_clash srec None) clear) refl

  rows_read : (map : List Run) (maximal : AreMaximal 0 addresses map) (rows : List Run) (seen : Seen) (low n : ℕ) (cells : List Cell) → AreRows low rows
      → ((a : ℕ) → low ≤ a → held cells a ≡ None) → ((a : ℕ) → byte_at map a ≡ or_else (byte_at rows a) (held cells a))
      → Stands srec lines n (rows_lines Srec rows ++ end_line ∷ []) seen cells → IsImageOfText srec lines map
  rows_read map maximal [] seen low n cells are none union h =
      stands_end srec lines n end_line [] seen cells h (Ok (Some End)) end_reads refl map refl (record { maximal = maximal; same = union })
  rows_read map maximal (row ∷ rows) seen low n cells are none union h =
      rows_read map maximal rows (record { records = seen.records + 1 }) (end_of row) (suc n) (cells_from row.at row.bytes ++ cells) are.2
      (none_above low row cells are.0 none)
      (λ a. union a ∙ row_moved row rows cells a are.2)
      (row_step row low n (rows_lines Srec rows ++ end_line ∷ []) seen cells are.1 are.0 none h)

-- The lines of a text of S-records have no blanks.

line_marks : (row : Run) → IsRow row → AreMarks (srec_line row)
unfolding srec_line
line_marks row is =
    let all = srec_bytes row ++ checksum_of (srec_bytes row) ∷ [] in
    All-cons IsMark 83 (51 ∷ digits all) refl
    (All-cons IsMark 51 (digits all) refl (marks-digits all (small_srec row (omega (arith, is.inside, is.some)) (omega (arith, is.fits)) is.small)))

rows_marks : (low : ℕ) (rows : List Run) → AreRows low rows → All AreMarks (rows_lines Srec rows)
rows_marks low [] are = All-nil AreMarks
rows_marks low (row ∷ rows) are = All-cons AreMarks (srec_line row) (rows_lines Srec rows) (line_marks row are.1) (rows_marks (end_of row) rows are.2)

-- the text of a map is read as the map
pub srec_is_read : (map : List Run) → IsByteMap map → IsImageOfText srec (lines_of (srec_text map)) map
unfolding srec_lines
srec_is_read map is =
    let are = rows_are 0 map is.maximal is.small in
    let rows = rows_lines Srec (rows_of map) in
    let marks = All-cons AreMarks header_line (rows ++ end_line ∷ []) (AllPass-from_list_all (λ (b : ℕ). nat_le 48 b) header_line refl)
    (All-append AreMarks rows (end_line ∷ []) (rows_marks 0 (rows_of map) are)
    (one_marks end_line (AllPass-from_list_all (λ (b : ℕ). nat_le 48 b) end_line refl))) in
    let lines = srec_lines map in
    subst (λ (ls : List (List ℕ)). IsImageOfText srec ls map) (sym (lines_of-text lines marks))
    (rows_read lines map is.maximal (rows_of map) (record { records = 0 }) 0 1 [] are (λ a le. refl)
    (λ a. sym (rows_bytes map a) ∙ sym (or_right (byte_at (rows_of map) a)))
    (stands_more srec lines 0 header_line (rows ++ end_line ∷ []) (record { records = 0 }) [] (stands_first srec lines) (Ok (Some Header)) header_reads refl
    refl))
