-- The fault of a line of Intel HEX, if it has one, and what taking the line answers.
use Rattle.std.proofs.Common.{◌≡◌, ◌++◌, ◌≤◌, ◌+◌, ◌-◌, ◌*◌, ℕ, Bool, true, false, cond, List, [], ◌∷◌, Option, Some, None, Ok, Err, length, get_or, take, drop}
use Rattle.std.proofs.Common.{refl, sym, ap, subst}
use Rattle.std.specs.Prelude.{◌==◌, ◌&&◌, ◌||◌, not, nat_lt, slice_range}
use Rattle.std.specs.List.{list_all}
use Rattle.byte_map.specs.Image.{Run}
use Rattle.record_lines.specs.Digits.{is_hex_digit, pairs}
use Rattle.record_lines.specs.Cells.{Cell, Clash, first_clash, IsImageOf}
use Rattle.record_lines.specs.Clashes.{IsClashFault}
use Rattle.record_lines.specs.Format.{line_fault, or_clash, line_at, context_before, cells_before, IsFaultOfLine, TakesLine, IsLineFault}
use Rattle.record_lines.specs.declared.fault.ClashFault.{ClashFault}
use Rattle.record_lines.specs.declared.fault.ClashFault.TheVariants as clash
use Rattle.image_hex.specs.declared.fault.HexKind.{HexKind}
use Rattle.image_hex.specs.declared.fault.HexKind.TheVariants.{Conflict, NoEnd, OutOfMemory}
use Rattle.image_hex.specs.declared.record.Base.{Base}
use Rattle.image_hex.specs.declared.record.HexRecord.TheVariants.{Data}
use Rattle.image_hex.specs.Record.{Reading, read_line, checked, record_of, word_of, checksum_of}
use Rattle.image_hex.specs.Hex.{hex, data_cells, IsHexFault}
use Rattle.image_hex.specs.Clashes.{line_fault_of}
use Rattle.image_hex.proofs.Apart.{consistent_data}

-- a kind of fault that a single line may have: neither a missing end record nor out of memory
abbrev pub IsKindOfLine : HexKind → Type 0
IsKindOfLine NoEnd = ⊥
IsKindOfLine OutOfMemory = ⊥
IsKindOfLine kind = Unit {0}

abbrev pub IsProper : Reading → Type 0
IsProper (Ok record_) = Unit {0}
IsProper (Err kind) = IsKindOfLine kind

proper : (b : Bool) (x y : Reading) → IsProper x → IsProper y → IsProper (cond b x y)
proper true x y p q = p
proper false x y p q = q

proper_record : (value offset : ℕ) (bytes : List ℕ) → IsProper (record_of value offset bytes)
proper_record value offset bytes =
    proper (value == 0) _ _ tt
    (proper ((value == 1) && (length bytes == 0)) _ _ tt
    (proper ((value == 2) && (length bytes == 2)) _ _ tt
    (proper (((value == 3) || (value == 5)) && (length bytes == 4)) _ _ tt
    (proper ((value == 4) && (length bytes == 2)) _ _ tt tt))))

proper_checked : (bytes : List ℕ) → IsProper (checked bytes)
proper_checked bytes =
    let last = length bytes - 1 in
    proper (get_or bytes last 0 == checksum_of (take last bytes)) _ _ (proper_record (get_or bytes 3 0) (word_of (drop 1 bytes)) (slice_range bytes 4 last)) tt

pub proper_line : (line : List ℕ) → IsProper (read_line line)
proper_line [] = tt
proper_line (first ∷ digits) =
    proper (first == 58) _ _
    (proper (not (list_all is_hex_digit digits)) _ _ tt (proper (nat_lt (length digits) 10 || not (length digits == 10 + 2 * get_or (pairs digits) 0 0)) _ _ tt
    (proper_checked (pairs digits)))) tt

of_clash : (o : Option Clash) (kind : HexKind) → or_clash hex None o ≡ Some kind → IsKindOfLine kind
of_clash None kind is = let nothing : None ≡ Some kind = is in absurd (cc)
of_clash (Some c) kind is = let some : Some (Conflict c.at c.old c.new) ≡ Some kind = is in let same : Conflict c.at c.old c.new ≡ kind = cc in
    subst IsKindOfLine same tt

of_reading : (reading : Reading) (base : Base) (before : List Cell) (kind : HexKind) → IsProper reading → line_fault hex base before reading ≡ Some kind →
    IsKindOfLine kind
of_reading (Ok None) base before kind proper_ is = let nothing : None ≡ Some kind = is in absurd (cc)
of_reading (Ok (Some r)) base before kind proper_ is = of_clash (first_clash before (hex.cells base r)) kind is
of_reading (Err fault) base before kind proper_ is = let some : Some fault ≡ Some kind = is in let same : fault ≡ kind = cc in subst IsKindOfLine same proper_

of_line : (lines : List (List ℕ)) (line : ℕ) (kind : HexKind) → IsFaultOfLine hex lines line kind → IsKindOfLine kind
of_line lines line kind is =
    of_reading (read_line (line_at lines is.place)) (context_before hex lines is.place) (cells_before hex lines is.place) kind
    (proper_line (line_at lines is.place)) is.fault_is

-- a fault of a line as the text's fault
pub line_as_hex : (lines : List (List ℕ)) (line : ℕ) (kind : HexKind) → IsFaultOfLine hex lines line kind → IsHexFault lines line kind
line_as_hex lines line NoEnd is = absurd (of_line lines line NoEnd is)
line_as_hex lines line OutOfMemory is = absurd (of_line lines line OutOfMemory is)
line_as_hex lines line kind is = is

-- a line that is at fault by itself
pub faulty : (reading : Reading) (kind : HexKind) (before : List Cell) (base : Base) → reading ≡ Err kind → line_fault hex base before reading ≡ Some kind
faulty reading kind before base is = ap (line_fault hex base before) is

-- a data record with its bytes added
pub took_data : (reading : Reading) (before : List Cell) (base : Base) (offset : ℕ) (bytes : List ℕ) (image : List Run) →
    reading ≡ Ok (Some (Data offset bytes)) → length bytes ≤ 255
    → (first_clash before (data_cells base offset bytes) ≡ None) × IsImageOf (data_cells base offset bytes ++ before) image →
    TakesLine hex reading before base base false image
took_data reading before base offset bytes image is few laid =
    subst (λ (r : Reading). TakesLine hex r before base base false image) (sym is)
    (record {
      right = ap (or_clash hex None) laid.0;
      ends_is = refl;
      known_is = refl;
      image_is = laid.1;
      own = consistent_data base offset bytes few;
      end_cells = tt;
    })

-- a data record that clashed with an earlier one
clash_as_line : (fault : ClashFault) (before : List Cell) (base : Base) (offset : ℕ) (bytes : List ℕ) →
    IsClashFault fault (first_clash before (data_cells base offset bytes))
    → IsLineFault hex (Ok (Some (Data offset bytes))) before base (line_fault_of fault)
clash_as_line (clash.Conflict at old new) before base offset bytes is = ap (or_clash hex None) is
clash_as_line clash.OutOfMemory before base offset bytes is = tt

pub clashed : (reading : Reading) (fault : ClashFault) (before : List Cell) (base : Base) (offset : ℕ) (bytes : List ℕ) →
    reading ≡ Ok (Some (Data offset bytes))
    → IsClashFault fault (first_clash before (data_cells base offset bytes)) → IsLineFault hex reading before base (line_fault_of fault)
clashed reading fault before base offset bytes is there =
    subst (λ (r : Reading). IsLineFault hex r before base (line_fault_of fault)) (sym is) (clash_as_line fault before base offset bytes there)
