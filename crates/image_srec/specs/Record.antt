-- The record of a line, by Motorola's description of its S-record format (M68000 Family Programmer's Reference Manual,
-- appendix C).
use Rattle.std.specs.Prelude.{◌+◌, ◌-◌, ◌*◌, ◌%◌, ◌==◌, ◌&&◌, ◌||◌, not, ℕ, nat_lt, nat_le, Bool, List, [], ◌∷◌, length, slice_index, slice_range, take, sum}
use Rattle.std.specs.Prelude.{Option, Some, None, Result, Ok, Err, if◌then◌else◌}
use Rattle.std.specs.List.{list_all}
use Rattle.record_lines.specs.Digits.{is_hex_digit, pairs}
use Rattle.image_srec.specs.declared.fault.SrecKind.{SrecKind}
use Rattle.image_srec.specs.declared.fault.SrecKind.TheVariants.{NotRecord, BadDigit, BadLength, BadSum, BadType}
use Rattle.image_srec.specs.declared.record.SrecRecord.{SrecRecord}
use Rattle.image_srec.specs.declared.record.SrecRecord.TheVariants.{Header, Data, Count, End}

-- what a line may read as: nothing, a record or a fault
abbrev pub Reading : Type 0
Reading = Result (Option SrecRecord) SrecKind

-- "address": how many bytes it has. The types 3 and 7 have four, the types 2, 6 and 8 three, and all others two.
abbrev pub address_len : ℕ → ℕ
address_len value = if (value == 3) || (value == 7) then 4 else if (value == 2) || ((value == 6) || (value == 8)) then 3 else 2

-- the number that two to four bytes hold, the high byte first
abbrev pub number_of : List ℕ → ℕ
number_of (a ∷ b ∷ []) = a * 256 + b
number_of (a ∷ b ∷ c ∷ []) = (a * 256 + b) * 256 + c
number_of (a ∷ b ∷ c ∷ d ∷ []) = ((a * 256 + b) * 256 + c) * 256 + d
number_of bytes = 0

-- "type": 0 is a header, 1 to 3 carry data, 5 and 6 count the data records before them, 7 to 9 end the text
abbrev pub record_of : ℕ → ℕ → List ℕ → SrecRecord
record_of value address bytes =
    if value == 0 then Header
    else if (value == 1) || ((value == 2) || (value == 3)) then Data address bytes
    else if (value == 5) || (value == 6) then Count address
    else End

-- "checksum": the one's complement of the low byte of the sum of count, address and data
abbrev pub checksum_of : List ℕ → ℕ
checksum_of bytes = 255 - sum bytes % 256

-- "count": how many bytes of address, data and checksum there are; the types above 4 carry no data
abbrev pub is_long_enough : ℕ → ℕ → Bool
is_long_enough value count = if nat_lt value 4 then nat_le (address_len value + 1) count else count == address_len value + 1

-- the bytes of a record: count, address, data and checksum
abbrev pub checked : ℕ → List ℕ → Reading
checked value bytes =
    let last = length bytes - 1 in
    let said = slice_index bytes last in
    let due = checksum_of (take last bytes) in
    let data_at = 1 + address_len value in
    if said == due then Ok (Some (record_of value (number_of (slice_range bytes 1 data_at)) (slice_range bytes data_at last))) else Err (BadSum said due)

-- the digits of a line after its type
abbrev pub read_digits : ℕ → List ℕ → Reading
read_digits value digits =
    if not (list_all is_hex_digit digits) then Err BadDigit
    else if value == 4 then Err (BadType value)
    else if nat_lt (length digits) 2 || (not (length digits == 2 + 2 * slice_index (pairs digits) 0) || not
    (is_long_enough value (slice_index (pairs digits) 0))) then Err BadLength
    else checked value (pairs digits)

-- a line: a capital S, a decimal digit for the type, and the hexadecimal digits of the bytes
abbrev pub read_line : List ℕ → Reading
read_line [] = Ok None
read_line (first ∷ []) = Err NotRecord
read_line (first ∷ kind ∷ digits) = if (first == 83) && (nat_le 48 kind && nat_le kind 57) then read_digits (kind - 48) digits else Err NotRecord
