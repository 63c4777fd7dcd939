-- The segments of an ELF file, one after another.
use Rattle.std.proofs.Common.{◌≡◌, ◌<◌, ◌+◌, ◌^◌, ◌∙◌, ℕ, List, [], ◌∷◌, length, Option, Some, None, Bool, true, false, cond, Ok, Err, inr, refl, sym, ap}
use Rattle.std.proofs.Common.{arith, below_more, add-one}
use Rattle.std.specs.Prelude.{IsTrue}
use Rattle.byte_map.specs.Image.{Run, byte_at, holds, byte_of, IsSameMap}
use Rattle.byte_map.specs.Laying.{AgreesBelow, IsFirstClash, Lays, IsLayFault}
use Rattle.elf32.specs.declared.fault.ElfFault.{ElfFault}
use Rattle.elf32.specs.declared.fault.ElfFault.TheVariants.{Truncated}
use Rattle.elf32.specs.declared.fault.Field.TheVariants as field
use Rattle.elf32.specs.Format.{e_phnum, segment_at}
use Rattle.elf32.specs.Checks.{is_cut, part, whole_part, file_fault}
use Rattle.elf32.specs.Tables.{segment_part}
use Rattle.byte_map.specs.declared.fault.LayFault.{LayFault}
use Rattle.byte_map.specs.declared.fault.LayFault.TheVariants as lay
use Rattle.image_set.specs.Fault.{fault_of}
use Rattle.image_set.specs.Segments.{is_loaded, piece_at, is_cut_at, pieces_before, size_before, IsRight, IsImageBefore, IsSegmentFault, IsFirstRefused}
use Rattle.image_set.specs.Read.{IsFaultOfForm}
use Rattle.image_set.specs.declared.form.Form.TheVariants as form
use Rattle.image_set.specs.declared.fault.ImageFault.{ImageFault}
use Rattle.image_set.specs.declared.fault.ImageFault.TheVariants.{Elf, Conflict, PastEnd, OutsideDevice, EmptyImage, OutOfMemory}

-- whether a piece agrees with an image depends only on the image's bytes
pub agrees_same : (piece : Run) (image other : List Run) (limit : ℕ) → IsSameMap image other → AgreesBelow piece image limit → AgreesBelow piece other limit
agrees_same piece image other limit same agrees a byte lt held is = agrees a byte lt held (same a ∙ is)

pub no_segment : (bytes : List ℕ) → IsImageBefore bytes 0 []
no_segment bytes = record { right = λ k lt loaded. absurd (omega arith); union = λ a. refl; maximal = tt }

pieces_more : (bytes : List ℕ) (k : ℕ) (loaded : Bool) → is_loaded bytes k ≡ loaded →
    pieces_before bytes (k + 1) ≡ cond loaded (piece_at bytes k ∷ pieces_before bytes k) (pieces_before bytes k)
pieces_more bytes k loaded is =
    ap (pieces_before bytes) (add-one k) ∙ ap (λ (b : Bool). cond b (piece_at bytes k ∷ pieces_before bytes k) (pieces_before bytes k)) is

pub size_more : (bytes : List ℕ) (k : ℕ) (loaded : Bool) → is_loaded bytes k ≡ loaded →
    size_before bytes (k + 1) ≡ cond loaded (length (piece_at bytes k).bytes + size_before bytes k) (size_before bytes k)
size_more bytes k loaded is =
    ap (size_before bytes) (add-one k) ∙ ap (λ (b : Bool). cond b (length (piece_at bytes k).bytes + size_before bytes k) (size_before bytes k)) is

-- one more segment, which is loaded
pub segment_more : (bytes : List ℕ) (k : ℕ) (image new : List Run) → IsImageBefore bytes k image → is_loaded bytes k ≡ true → is_cut_at bytes k ≡ false →
    Lays (piece_at bytes k) image new → IsImageBefore bytes (k + 1) new
segment_more bytes k image new before loaded whole lays =
    let piece = piece_at bytes k in
    record {
      right = below_more (λ (j : ℕ). IsTrue (is_loaded bytes j) → IsRight bytes j) k before.right
          (λ is. record { whole = whole; fits = lays.fits; agrees = agrees_same piece image (pieces_before bytes k) (2 ^ 32) before.union lays.agrees });
      union = λ a.
          lays.union a
          ∙ ap (λ (o : Option ℕ). cond (holds piece a) (Some (byte_of piece a)) o) (before.union a)
          ∙ ap (λ (rs : List Run). byte_at rs a) (sym (pieces_more bytes k true loaded));
      maximal = lays.maximal;
    }

-- one more segment, which isn't loaded
pub segment_skipped : (bytes : List ℕ) (k : ℕ) (image : List Run) → IsImageBefore bytes k image → is_loaded bytes k ≡ false → IsImageBefore bytes (k + 1) image
segment_skipped bytes k image before skipped =
    record {
      right = below_more (λ (j : ℕ). IsTrue (is_loaded bytes j) → IsRight bytes j) k before.right (λ is. absurd (cc));
      union = λ a. before.union a ∙ ap (λ (rs : List Run). byte_at rs a) (sym (pieces_more bytes k false skipped));
      maximal = before.maximal;
    }

clash_same : (piece : Run) (image other : List Run) (at old new : ℕ) → IsSameMap image other → IsFirstClash piece image at old new →
    IsFirstClash piece other at old new
clash_same piece image other at old new same clash =
    record {
      held = clash.held;
      old_is = sym (same at) ∙ clash.old_is;
      new_is = clash.new_is;
      unequal = clash.unequal;
      first = agrees_same piece image other at same clash.first;
    }

-- whether a segment is refused depends only on the image's bytes
pub fault_same : (bytes : List ℕ) (k : ℕ) (image other : List Run) (fault : ImageFault) → IsSameMap image other → IsSegmentFault bytes k image fault →
    IsSegmentFault bytes k other fault
fault_same bytes k image other (Conflict at old new) same is = (is.0, (is.1.0, clash_same (piece_at bytes k) image other at old new same is.1.1))
fault_same bytes k image other fault same is = is

part_by : (cut : Bool) (fault : ElfFault) (own lent : List ℕ) → cond cut (Err fault) (Ok own) ≡ Ok lent → lent ≡ own
part_by true fault own lent is = absurd (cc)
part_by false fault own lent is = cc

-- the bytes of a segment that ends within the file
pub part_is : (bytes : List ℕ) (k : ℕ) (lent : List ℕ) → segment_part bytes k ≡ Ok lent → lent ≡ (piece_at bytes k).bytes
unfolding segment_part whole_part
part_is bytes k lent is =
    let s = segment_at bytes k in
    part_by (is_cut bytes s.offset s.filesz) (Truncated field.Segment) (part bytes s.offset s.filesz) lent is

whole_by : (cut : Bool) (fault : ElfFault) (own lent : List ℕ) → cond cut (Err fault) (Ok own) ≡ Ok lent → cut ≡ false
whole_by true fault own lent is = absurd (cc)
whole_by false fault own lent is = refl

pub is_whole : (bytes : List ℕ) (k : ℕ) (lent : List ℕ) → segment_part bytes k ≡ Ok lent → is_cut_at bytes k ≡ false
unfolding segment_part whole_part
is_whole bytes k lent is =
    let s = segment_at bytes k in
    whole_by (is_cut bytes s.offset s.filesz) (Truncated field.Segment) (part bytes s.offset s.filesz) lent is

cut_by : (cut : Bool) (due fault : ElfFault) (own : List ℕ) → cond cut (Err due) (Ok own) ≡ Err fault → (cut ≡ true) × (fault ≡ due)
cut_by true due fault own is = (refl, cc)
cut_by false due fault own is = absurd (cc)

-- a segment that goes past the end of the file is refused
pub is_refused : (bytes : List ℕ) (k : ℕ) (image : List Run) (fault : ElfFault) → segment_part bytes k ≡ Err fault
    → IsSegmentFault bytes k image (Elf fault)
unfolding segment_part whole_part
is_refused bytes k image fault is =
    let s = segment_at bytes k in
    cut_by (is_cut bytes s.offset s.filesz) (Truncated field.Segment) fault (part bytes s.offset s.filesz) is

-- a segment with bytes that couldn't be added is refused
pub lay_refused : (bytes : List ℕ) (k : ℕ) (image : List Run) (fault : LayFault) → segment_part bytes k ≡ Ok (piece_at bytes k).bytes →
    IsLayFault (piece_at bytes k) image fault → IsSegmentFault bytes k image (fault_of fault)
lay_refused bytes k image (lay.Conflict at old new) whole is = (is_whole bytes k (piece_at bytes k).bytes whole, is)
lay_refused bytes k image (lay.PastEnd at) whole is = (is_whole bytes k (piece_at bytes k).bytes whole, is)
lay_refused bytes k image lay.OutOfMemory whole is = tt

first_refused : (bytes : List ℕ) (k : ℕ) (image : List Run) (fault : ImageFault) → file_fault bytes ≡ None → k < e_phnum bytes → is_loaded bytes k ≡ true →
    IsImageBefore bytes k image → IsSegmentFault bytes k image fault → IsFirstRefused bytes fault
first_refused bytes k image fault readable inside loaded before is =
    record {
      readable = readable;
      place = k;
      inside = inside;
      loaded = loaded;
      before = before.right;
      refused = fault_same bytes k image (pieces_before bytes k) fault before.union is;
    }

-- a refused segment makes its file refused
pub elf_refused : (bytes : List ℕ) (k : ℕ) (image : List Run) (fault : ImageFault) → file_fault bytes ≡ None → k < e_phnum bytes → is_loaded bytes k ≡ true →
    IsImageBefore bytes k image → IsSegmentFault bytes k image fault → IsFaultOfForm (Some form.Elf) bytes fault
elf_refused bytes k image (Elf fault) readable inside loaded before is = (refl, inr (first_refused bytes k image (Elf fault) readable inside loaded before is))
elf_refused bytes k image (Conflict at old new) readable inside loaded before is =
    (refl, first_refused bytes k image (Conflict at old new) readable inside loaded before is)
elf_refused bytes k image (PastEnd at) readable inside loaded before is = first_refused bytes k image (PastEnd at) readable inside loaded before is
elf_refused bytes k image (OutsideDevice at) readable inside loaded before is = is
elf_refused bytes k image EmptyImage readable inside loaded before is = is
elf_refused bytes k image OutOfMemory readable inside loaded before is = tt
elf_refused bytes k image fault readable inside loaded before is = absurd is
