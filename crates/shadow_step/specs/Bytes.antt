-- One mark for each byte in memory: the mark of a number that is loaded from them, and the marks after a store.
use Rattle.std.specs.Prelude.{◌≡◌, ◌+◌, ◌&&◌, ℕ, nat_eq, nat_lt, if◌then◌else◌, List, length, slice_index, slice_index_or, slice_set}
use Rattle.shadow_step.specs.declared.marks.Mark.{Mark}
use Rattle.shadow_step.specs.declared.marks.Mark.TheVariants.{Known, Page, Any}
use Rattle.shadow_step.specs.Marks.{Pages, Says, is_known}

-- the bytes of the run at hand and of another run agree with their marks
pub record BytesAgree (p : Pages) (ms : List Mark) (bytes bytes' : List ℕ) : Type 0 where
  pub here : length bytes ≡ length ms
  pub there : length bytes' ≡ length ms
  pub says : (k : ℕ) → Says p (slice_index_or ms k Any) (slice_index bytes k) (slice_index bytes' k)

-- the mark of two numbers of `width` bytes that follow each other in the page
abbrev pub next_to : ℕ → Mark → Mark → Mark
next_to width (Page w x) (Page u y) = if nat_eq w width && (nat_eq u width && nat_eq y (x + width)) then Page (width + width) x else Any
next_to width _ _ = Any

-- the mark of a number that consists of two numbers of `width` bytes
abbrev pub joined : ℕ → Mark → Mark → Mark
joined width a b = if is_known a && is_known b then Known else next_to width a b

abbrev pub byte_mark : List Mark → ℕ → Mark
byte_mark ms i = slice_index_or ms i Any

abbrev pub half_mark : List Mark → ℕ → Mark
half_mark ms i = joined 1 (byte_mark ms i) (byte_mark ms (i + 1))

abbrev pub word_mark : List Mark → ℕ → Mark
word_mark ms i = joined 2 (half_mark ms i) (half_mark ms (i + 2))

-- the mark of the number that a load of `width` bytes reads
abbrev pub number_mark : List Mark → ℕ → ℕ → Mark
number_mark ms width i = if nat_eq width 1 then byte_mark ms i else if nat_eq width 2 then half_mark ms i else word_mark ms i

-- the mark of byte `j` of a number that is stored; places of a page are 32-bit numbers
abbrev pub part_of : ℕ → ℕ → Mark → Mark
part_of width j (Page w x) = if nat_eq w width && nat_lt (x + j) 0x100000000 then Page 1 (x + j) else Any
part_of width j m = m

-- the marks of bytes after a store of `width` bytes with this mark
abbrev pub marks_with : List Mark → ℕ → ℕ → Mark → List Mark
marks_with ms width i k =
    if nat_eq width 1 then slice_set ms i k else
    if nat_eq width 2 then slice_set (slice_set ms i (part_of 2 0 k)) (i + 1) (part_of 2 1 k) else
    slice_set (slice_set (slice_set (slice_set ms i (part_of 4 0 k)) (i + 1) (part_of 4 1 k)) (i + 2) (part_of 4 2 k)) (i + 3) (part_of 4 3 k)
