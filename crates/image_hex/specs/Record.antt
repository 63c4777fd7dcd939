-- The record of a line, by the Intel Hexadecimal Object File Format Specification, revision A (1988).
use Rattle.std.specs.Prelude.{◌+◌, ◌-◌, ◌*◌, ◌%◌, ◌==◌, ◌&&◌, ◌||◌, not, ℕ, nat_lt, List, [], ◌∷◌, length, slice_index, slice_range, take, drop, sum, Option}
use Rattle.std.specs.Prelude.{Some, None, Result, Ok, Err, if◌then◌else◌}
use Rattle.std.specs.List.{list_all}
use Rattle.record_lines.specs.Digits.{is_hex_digit, pairs}
use Rattle.image_hex.specs.declared.fault.HexKind.{HexKind}
use Rattle.image_hex.specs.declared.fault.HexKind.TheVariants.{NotRecord, BadDigit, BadLength, BadSum, BadType}
use Rattle.image_hex.specs.declared.record.Base.TheVariants.{Upper, Segment}
use Rattle.image_hex.specs.declared.record.HexRecord.{HexRecord}
use Rattle.image_hex.specs.declared.record.HexRecord.TheVariants.{Data, End, Sets, Ignored}

-- what a line may read as: nothing, a record or a fault
abbrev pub Reading : Type 0
Reading = Result (Option HexRecord) HexKind

-- the number that two bytes hold, the high byte first
abbrev pub word_of : List ℕ → ℕ
word_of bytes = slice_index bytes 0 * 256 + slice_index bytes 1

-- the record types 0 to 5, with the number of data bytes that each must have. They follow the sections "Data Record", "End of
-- File Record", "Extended Segment Address Record", "Start Segment Address Record", "Extended Linear Address Record" and
-- "Start Linear Address Record".
abbrev pub record_of : ℕ → ℕ → List ℕ → Reading
record_of value offset bytes =
    if value == 0 then Ok (Some (Data offset bytes))
    else if (value == 1) && (length bytes == 0) then Ok (Some End)
    else if (value == 2) && (length bytes == 2) then Ok (Some (Sets (Segment (word_of bytes))))
    else if ((value == 3) || (value == 5)) && (length bytes == 4) then Ok (Some Ignored)
    else if (value == 4) && (length bytes == 2) then Ok (Some (Sets (Upper (word_of bytes))))
    else Err (BadType value)

-- "CHKSUM": the two's complement of the sum of the bytes before it, modulo 256
abbrev pub checksum_of : List ℕ → ℕ
checksum_of bytes = (256 - sum bytes % 256) % 256

-- the bytes of a record: the count of data bytes, two bytes of offset, the type, the data and the checksum
abbrev pub checked : List ℕ → Reading
checked bytes =
    let last = length bytes - 1 in
    let said = slice_index bytes last in
    let due = checksum_of (take last bytes) in
    if said == due then record_of (slice_index bytes 3) (word_of (drop 1 bytes)) (slice_range bytes 4 last) else Err (BadSum said due)

-- the digits of a line after its colon: two for each byte of a record, as many bytes as the first byte asks for
abbrev pub read_digits : List ℕ → Reading
read_digits digits =
    if not (list_all is_hex_digit digits) then Err BadDigit
    else if nat_lt (length digits) 10 || not (length digits == 10 + 2 * slice_index (pairs digits) 0) then Err BadLength
    else checked (pairs digits)

abbrev pub read_line : List ℕ → Reading
read_line [] = Ok None
read_line (first ∷ digits) = if first == 58 then read_digits digits else Err NotRecord
