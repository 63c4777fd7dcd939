-- What a disk in memory remembers of its cells.
use Rattle.std.specs.Prelude.{◌≡◌, ◌+◌, ℕ, List, length, take, drop, Option, Some, None}
use Rattle.std.specs.Option.{ForSome}
use Rattle.std.proofs.Common.{subst, sym, refl}
use Rattle.bench_model.specs.State.{SameOutside}

-- the bytes of a disk in memory are its cells, except in the range of an operation
pub record DiffersInside (operation : Option (ℕ × ℕ)) (cells bytes : List ℕ) : Type 0 where
  pub idle : operation ≡ None → bytes ≡ cells
  pub within : ForSome operation (λ range. (length bytes ≡ length cells) × (take range.0 bytes ≡ take range.0 cells)
      × (drop (range.0 + range.1) bytes ≡ drop (range.0 + range.1) cells))

pub outside_of : (operation : Option (ℕ × ℕ)) (cells bytes : List ℕ) → DiffersInside operation cells bytes → SameOutside operation cells bytes
outside_of None cells bytes differs = differs.idle refl
outside_of (Some range) cells bytes differs = differs.within range refl

pub same_outside : {told operation : Option (ℕ × ℕ)} {cells bytes : List ℕ} → told ≡ operation → DiffersInside operation cells bytes
    → SameOutside told cells bytes
same_outside {told} {operation} {cells} {bytes} same differs = subst (λ (o : Option (ℕ × ℕ)). SameOutside o cells bytes) (sym same)
    (outside_of operation cells bytes differs)

pub differs_inside : (operation : Option (ℕ × ℕ)) (cells bytes : List ℕ) → SameOutside operation cells bytes → DiffersInside operation cells bytes
differs_inside None cells bytes same = record { idle = λ is. same; within = λ range is. cc }
differs_inside (Some range) cells bytes same = record {
  idle = λ is. cc;
  within = λ other is. let e : range ≡ other = cc in
      subst (λ (r : ℕ × ℕ). (length bytes ≡ length cells) × (take r.0 bytes ≡ take r.0 cells) × (drop (r.0 + r.1) bytes ≡ drop (r.0 + r.1) cells)) e same;
}
