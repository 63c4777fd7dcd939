-- The fault of a line of S-records, if it has one, and what taking the line answers.
use Rattle.std.proofs.Common.{◌≡◌, ◌++◌, ◌+◌, ◌-◌, ◌*◌, ◌∙◌, ◌≤◌, ℕ, Bool, true, false, cond, List, [], ◌∷◌, Option, Some, None, Ok, Err, length}
use Rattle.std.proofs.Common.{get_or, take, refl, sym, ap, subst, arith}
use Rattle.std.specs.Prelude.{◌==◌, ◌&&◌, ◌||◌, not, nat_lt, nat_le}
use Rattle.std.specs.List.{list_all}
use Rattle.std.proofs.lemmas.Bool.Decides.{nat_tests}
use Rattle.byte_map.specs.Image.{Run}
use Rattle.record_lines.specs.Digits.{is_hex_digit, pairs}
use Rattle.record_lines.specs.Cells.{Cell, Clash, cells_from, first_clash, IsImageOf}
use Rattle.record_lines.specs.Clashes.{IsClashFault}
use Rattle.record_lines.specs.Format.{line_fault, or_clash, line_at, context_before, cells_before, IsFaultOfLine, TakesLine, IsLineFault}
use Rattle.record_lines.specs.declared.fault.ClashFault.{ClashFault}
use Rattle.record_lines.specs.declared.fault.ClashFault.TheVariants as clash
use Rattle.record_lines.proofs.CellLemmas.{consistent_from}
use Rattle.image_srec.specs.declared.fault.SrecKind.{SrecKind}
use Rattle.image_srec.specs.declared.fault.SrecKind.TheVariants.{PastEnd, Conflict, NoEnd}
use Rattle.image_srec.specs.declared.fault.SrecKind.TheVariants.{OutOfMemory}
use Rattle.image_srec.specs.declared.record.Seen.{Seen}
use Rattle.image_srec.specs.declared.record.SrecRecord.{SrecRecord}
use Rattle.image_srec.specs.declared.record.SrecRecord.TheVariants.{Header, Data, Count, End}
use Rattle.image_srec.specs.Record.{Reading, read_line, read_digits, checked, checksum_of, is_long_enough}
use Rattle.image_srec.specs.Srec.{srec, refused, IsSrecFault}
use Rattle.image_srec.specs.Clashes.{line_fault_of}

-- a kind of fault that a single line may have: neither a missing end record nor out of memory
abbrev pub IsKindOfLine : SrecKind → Type 0
IsKindOfLine NoEnd = ⊥
IsKindOfLine OutOfMemory = ⊥
IsKindOfLine kind = Unit {0}

abbrev pub IsProper : Reading → Type 0
IsProper (Ok record_) = Unit {0}
IsProper (Err kind) = IsKindOfLine kind

proper : (b : Bool) (x y : Reading) → IsProper x → IsProper y → IsProper (cond b x y)
proper true x y p q = p
proper false x y p q = q

proper_checked : (value : ℕ) (bytes : List ℕ) → IsProper (checked value bytes)
proper_checked value bytes = proper (get_or bytes (length bytes - 1) 0 == checksum_of (take (length bytes - 1) bytes)) _ _ tt tt

proper_digits : (value : ℕ) (digits : List ℕ) → IsProper (read_digits value digits)
proper_digits value digits =
    proper (not (list_all is_hex_digit digits)) _ _ tt
    (proper (value == 4) _ _ tt
    (proper (nat_lt (length digits) 2 || (not (length digits == 2 + 2 * get_or (pairs digits) 0 0) || not (is_long_enough value (get_or (pairs digits) 0 0)))) _
    _ tt (proper_checked value (pairs digits))))

pub proper_line : (line : List ℕ) → IsProper (read_line line)
proper_line [] = tt
proper_line (first ∷ []) = tt
proper_line (first ∷ kind ∷ digits) = proper ((first == 83) && (nat_le 48 kind && nat_le kind 57)) _ _ (proper_digits (kind - 48) digits) tt

-- a refusal of a record, if there is one, is a kind of fault that a line may have
abbrev pub IsRefusal : Option SrecKind → Type 0
IsRefusal None = Unit {0}
IsRefusal (Some kind) = IsKindOfLine kind

either : (b : Bool) (x y : Option SrecKind) → IsRefusal x → IsRefusal y → IsRefusal (cond b x y)
either true x y p q = p
either false x y p q = q

of_record : (seen : Seen) (r : SrecRecord) → IsRefusal (refused seen r)
of_record seen Header = tt
of_record seen (Data at bytes) = either (nat_lt 4294967296 (at + length bytes)) _ _ tt tt
of_record seen (Count said) = either (said == seen.records) _ _ tt tt
of_record seen End = tt

of_clash : (o : Option SrecKind) (c : Option Clash) (kind : SrecKind) → IsRefusal o → or_clash srec o c ≡ Some kind → IsKindOfLine kind
of_clash (Some fault) c kind proper_ is = let some : Some fault ≡ Some kind = is in let same : fault ≡ kind = cc in subst IsKindOfLine same proper_
of_clash None None kind proper_ is = let nothing : None ≡ Some kind = is in absurd (cc)
of_clash None (Some c) kind proper_ is = let some : Some (Conflict c.at c.old c.new) ≡ Some kind = is in let same : Conflict c.at c.old c.new ≡ kind = cc in
    subst IsKindOfLine same tt

of_reading : (reading : Reading) (seen : Seen) (before : List Cell) (kind : SrecKind) → IsProper reading → line_fault srec seen before reading ≡ Some kind →
    IsKindOfLine kind
of_reading (Ok None) seen before kind proper_ is = let nothing : None ≡ Some kind = is in absurd (cc)
of_reading (Ok (Some r)) seen before kind proper_ is = of_clash (refused seen r) (first_clash before (srec.cells seen r)) kind (of_record seen r) is
of_reading (Err fault) seen before kind proper_ is = let some : Some fault ≡ Some kind = is in let same : fault ≡ kind = cc in subst IsKindOfLine same proper_

of_line : (lines : List (List ℕ)) (line : ℕ) (kind : SrecKind) → IsFaultOfLine srec lines line kind → IsKindOfLine kind
of_line lines line kind is =
    of_reading (read_line (line_at lines is.place)) (context_before srec lines is.place) (cells_before srec lines is.place) kind
    (proper_line (line_at lines is.place)) is.fault_is

-- a fault of a line as the text's fault
pub line_as_srec : (lines : List (List ℕ)) (line : ℕ) (kind : SrecKind) → IsFaultOfLine srec lines line kind → IsSrecFault lines line kind
line_as_srec lines line NoEnd is = absurd (of_line lines line NoEnd is)
line_as_srec lines line OutOfMemory is = absurd (of_line lines line OutOfMemory is)
line_as_srec lines line kind is = is

-- a line that is at fault by itself
pub faulty : (reading : Reading) (kind : SrecKind) (before : List Cell) (seen : Seen) → reading ≡ Err kind → line_fault srec seen before reading ≡ Some kind
faulty reading kind before seen is = ap (line_fault srec seen before) is

not_past : (a b : ℕ) → b ≤ a → nat_lt a b ≡ false
not_past a b le = grind (arith, nat_tests)

-- a data record within the addresses
in_range : (at : ℕ) (bytes : List ℕ) → at + length bytes ≤ 4294967296 → cond (nat_lt 4294967296 (at + length bytes)) (Some (PastEnd at)) None ≡ None
in_range at bytes fits = ap (λ (b : Bool). cond b (Some (PastEnd at)) None) (not_past 4294967296 (at + length bytes) fits)

-- a data record that ends within the addresses, with its bytes added
pub took_data : (reading : Reading) (before : List Cell) (seen next : Seen) (at : ℕ) (bytes : List ℕ) (image : List Run) → reading ≡ Ok (Some (Data at bytes)) →
    at + length bytes ≤ 4294967296
    → next ≡ record { records = seen.records + 1 } → (first_clash before (cells_from at bytes) ≡ None) × IsImageOf (cells_from at bytes ++ before) image →
    TakesLine srec reading before seen next false image
took_data reading before seen next at bytes image is fits counted laid =
    subst (λ (r : Reading). TakesLine srec r before seen next false image) (sym is)
    (record {
      right = ap (λ (o : Option SrecKind). or_clash srec o (first_clash before (cells_from at bytes))) (in_range at bytes fits) ∙
          ap (or_clash srec None) laid.0;
      ends_is = refl;
      known_is = counted;
      image_is = laid.1;
      own = consistent_from at bytes;
      end_cells = tt;
    })

-- a data record that clashed with an earlier one
clash_as_line : (fault : ClashFault) (before : List Cell) (seen : Seen) (at : ℕ) (bytes : List ℕ) → at + length bytes ≤ 4294967296
    → IsClashFault fault (first_clash before (cells_from at bytes)) → IsLineFault srec (Ok (Some (Data at bytes))) before seen (line_fault_of fault)
clash_as_line (clash.Conflict a o n) before seen at bytes fits is =
    ap (λ (x : Option SrecKind). or_clash srec x (first_clash before (cells_from at bytes))) (in_range at bytes fits) ∙ ap (or_clash srec None) is
clash_as_line clash.OutOfMemory before seen at bytes fits is = tt

pub clashed : (reading : Reading) (fault : ClashFault) (before : List Cell) (seen : Seen) (at : ℕ) (bytes : List ℕ) → reading ≡ Ok (Some (Data at bytes)) →
    at + length bytes ≤ 4294967296
    → IsClashFault fault (first_clash before (cells_from at bytes)) → IsLineFault srec reading before seen (line_fault_of fault)
clashed reading fault before seen at bytes is fits there =
    subst (λ (r : Reading). IsLineFault srec r before seen (line_fault_of fault)) (sym is) (clash_as_line fault before seen at bytes fits there)
