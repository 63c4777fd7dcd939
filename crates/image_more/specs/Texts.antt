-- Images as texts of Intel HEX and of S-records: a record for each row of 16 addresses. The checksums are those that the readers
-- ask for.
use Rattle.std.specs.Prelude.{ℕ, ◌+◌, ◌/◌, ◌%◌, ◌==◌, List, [], ◌∷◌, ◌++◌, length, codes, Option, Some, None, if◌then◌else◌}
use Rattle.std.specs.List.{flat_map}
use Rattle.octets.specs.Digit.{upper_digit}
use Rattle.byte_map.specs.Image.{Run}
use Rattle.image_hex.specs.Record as hex_record
use Rattle.image_srec.specs.Record as srec_record
use Rattle.image_more.specs.declared.form.RowForm.{RowForm}
use Rattle.image_more.specs.declared.form.RowForm.TheVariants.{Hex, Srec}
use Rattle.image_more.specs.Rows.{rows_of}

-- the digits of bytes: two a byte, the high one first, with capital letters
abbrev pub digits : List ℕ → List ℕ
digits [] = []
digits (byte ∷ bytes) = upper_digit (byte / 16) ∷ upper_digit (byte % 16) ∷ digits bytes

-- the bytes of a record of Intel HEX before its checksum: the count of its data, two bytes of offset, its type and its data
abbrev pub hex_bytes : ℕ → ℕ → List ℕ → List ℕ
hex_bytes kind offset bytes = length bytes ∷ offset / 256 ∷ offset % 256 ∷ kind ∷ bytes

-- the line of a record of Intel HEX: a colon and the digits of its bytes, the checksum last
unfoldable pub hex_line : ℕ → ℕ → List ℕ → List ℕ
hex_line kind offset bytes = 58 ∷ digits (hex_bytes kind offset bytes ++ hex_record.checksum_of (hex_bytes kind offset bytes) ∷ [])

-- the line of the record of type 04, which holds the upper half of the addresses
abbrev pub upper_line : ℕ → List ℕ
upper_line upper = hex_line 4 0 (upper / 256 ∷ upper % 256 ∷ [])

-- the line of the record of type 04, where the upper half is the first or differs from the one before; otherwise no line
abbrev pub upper_lines : Option ℕ → ℕ → List (List ℕ)
upper_lines None upper = upper_line upper ∷ []
upper_lines (Some before) upper = if before == upper then [] else upper_line upper ∷ []

-- the bytes of an S3 record before its checksum: the count of the bytes that follow, four bytes of address, and the data
abbrev pub srec_bytes : Run → List ℕ
srec_bytes row = (length row.bytes + 5) ∷ row.at / 16777216 ∷ row.at / 65536 % 256 ∷ row.at / 256 % 256 ∷ row.at % 256 ∷ row.bytes

-- the line of an S3 record: `S3` and the digits of its bytes, the checksum last
unfoldable pub srec_line : Run → List ℕ
srec_line row = 83 ∷ 51 ∷ digits (srec_bytes row ++ srec_record.checksum_of (srec_bytes row) ∷ [])

-- the lines of a row. For Intel HEX they depend on the upper half of the row before it.
abbrev pub row_lines : RowForm → Run → List (List ℕ)
row_lines (Hex upper) row = upper_lines upper (row.at / 65536) ++ hex_line 0 (row.at % 65536) row.bytes ∷ []
row_lines Srec row = srec_line row ∷ []

-- how the next row is written, after this one
abbrev pub behind : RowForm → Run → RowForm
behind (Hex upper) row = Hex (Some (row.at / 65536))
behind Srec row = Srec

-- the lines of some rows
abbrev pub rows_lines : RowForm → List Run → List (List ℕ)
rows_lines form [] = []
rows_lines form (row ∷ rows) = row_lines form row ++ rows_lines (behind form row) rows

-- lines as a text: each ends with a line feed
abbrev pub text_of : List (List ℕ) → List ℕ
text_of lines = flat_map (λ line. line ++ 10 ∷ []) lines

-- a map as lines: its rows in rising order, and the end record, and for S-records an empty header
unfoldable pub hex_lines : List Run → List (List ℕ)
hex_lines map = rows_lines (Hex None) (rows_of map) ++ codes ":00000001FF" ∷ []

unfoldable pub srec_lines : List Run → List (List ℕ)
srec_lines map = codes "S0030000FC" ∷ rows_lines Srec (rows_of map) ++ codes "S70500000000FA" ∷ []

-- a map as a text
abbrev pub hex_text : List Run → List ℕ
hex_text map = text_of (hex_lines map)

abbrev pub srec_text : List Run → List ℕ
srec_text map = text_of (srec_lines map)
