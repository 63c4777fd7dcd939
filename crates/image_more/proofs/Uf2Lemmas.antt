-- The blocks of a UF2 file, one after another.
use Rattle.std.proofs.Common.{◌<◌, ◌+◌, ◌++◌, sym, subst, refl, arith, below_more, add-one, ℕ, List, []}
use Rattle.std.proofs.lemmas.List.Elements.{All-nil}
use Rattle.byte_map.specs.Image.{Run}
use Rattle.record_lines.specs.Gathered.{HasRun, IsUnionOf}
use Rattle.image_more.specs.declared.fault.Uf2Fault.{Uf2Fault}
use Rattle.image_more.specs.declared.fault.Uf2Fault.TheVariants.{BadLength, BadMagic, BadSize, Conflict, PastEnd, OutOfMemory}
use Rattle.image_more.specs.Uf2.{runs_of, IsWhole, block_count, block_at, runs_before, IsRight, IsImageBefore, IsBlockFault, IsFirstRefused, IsUf2Fault}

pub no_block : (bytes : List ℕ) → IsImageBefore bytes 0 []
no_block bytes = record {
  right = λ k lt. absurd (omega arith);
  union = record { maximal = tt; all = All-nil (HasRun []); only = λ a none. refl };
}

-- one more block that is right
pub block_more : (bytes : List ℕ) (k : ℕ) (image new : List Run) → IsImageBefore bytes k image → IsRight (block_at bytes k)
    → IsUnionOf (runs_before bytes k ++ runs_of (block_at bytes k)) new → IsImageBefore bytes (k + 1) new
block_more bytes k image new before right union = record {
  right = below_more (λ (j : ℕ). IsRight (block_at bytes j)) k before.right right;
  union = subst (λ (j : ℕ). IsUnionOf (runs_before bytes j) new) (sym (add-one k)) union;
}

first_refused : (bytes : List ℕ) (k : ℕ) (image : List Run) (fault : Uf2Fault) → IsWhole bytes → k < block_count bytes → IsImageBefore bytes k image
    → IsBlockFault (k + 1) (block_at bytes k) image fault → IsFirstRefused bytes fault
first_refused bytes k image fault whole inside before is =
    record { whole = whole; place = k; inside = inside; image = image; before = before; refused = is }

-- a refused block makes its file refused
pub block_refused : (bytes : List ℕ) (k : ℕ) (image : List Run) (fault : Uf2Fault) → IsWhole bytes → k < block_count bytes → IsImageBefore bytes k image
    → IsBlockFault (k + 1) (block_at bytes k) image fault → IsUf2Fault bytes fault
block_refused bytes k image (BadLength len) whole inside before is = absurd is
block_refused bytes k image (BadMagic block) whole inside before is = first_refused bytes k image (BadMagic block) whole inside before is
block_refused bytes k image (BadSize block size) whole inside before is = first_refused bytes k image (BadSize block size) whole inside before is
block_refused bytes k image (Conflict at old new) whole inside before is = first_refused bytes k image (Conflict at old new) whole inside before is
block_refused bytes k image (PastEnd at) whole inside before is = first_refused bytes k image (PastEnd at) whole inside before is
block_refused bytes k image OutOfMemory whole inside before is = tt
