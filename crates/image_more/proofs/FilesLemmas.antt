-- The union of the images of files, byte by byte.
use Rattle.std.proofs.Common.{◌≡◌, ◌⊎◌, inl, inr, ⊎_elim, ◌≤◌, ◌<◌, ◌∙◌, ℕ, zero, suc, List, Option, Some, None, sym, ap, subst, arith, refl}
use Rattle.std.proofs.lemmas.Bool.{cases_lt}
use Rattle.byte_map.specs.Image.{Run, byte_at}
use Rattle.byte_map.proofs.Runs.{or_else, byte_at-append}
use Rattle.image_set.specs.Union.{IsUnion}
use Rattle.image_set.proofs.UnionLemmas.{union_swap}
use Rattle.image_more.specs.Any.{IsAnyImage}
use Rattle.image_more.specs.Files.{IsUnionBefore, HasByte}
use Rattle.image_more.specs.Place.{file_at}
use Rattle.image_more.proofs.AnyLemmas.{one_any_image}

-- each byte of a union is a byte of one of the two images
from_either : (x y union : List Run) (a byte : ℕ) (new : Option ℕ) → IsUnion x y union → byte_at y a ≡ new → byte_at union a ≡ Some byte →
    (byte_at y a ≡ Some byte) ⊎ (byte_at x a ≡ Some byte)
from_either x y union a byte None is new_is byte_is = inr (sym (is.same a ∙ byte_at-append y x a ∙ ap (λ (o : Option ℕ). or_else o (byte_at x a)) new_is) ∙
    byte_is)
from_either x y union a byte (Some new) is new_is byte_is = inl
    (new_is ∙ sym (is.same a ∙ byte_at-append y x a ∙ ap (λ (o : Option ℕ). or_else o (byte_at x a)) new_is) ∙ byte_is)

-- each byte of either image is the union's
pub from_new : (x y union : List Run) (a byte : ℕ) → IsUnion x y union → byte_at y a ≡ Some byte → byte_at union a ≡ Some byte
from_new x y union a byte is byte_is = is.same a ∙ byte_at-append y x a ∙ ap (λ (o : Option ℕ). or_else o (byte_at x a)) byte_is

more_files : (raw_at : Option ℕ) (files : List (List ℕ)) (n a byte : ℕ) → HasByte raw_at files n a byte → HasByte raw_at files (suc n) a byte
more_files raw_at files n a byte has = record {
  place = has.place;
  inside = omega (arith, has.inside);
  image = has.image;
  is_image = has.is_image;
  byte_is =
      has.byte_is;
}

pub union_from : (raw_at : Option ℕ) (files : List (List ℕ)) (n : ℕ) (whole : List Run) (a byte : ℕ) → IsUnionBefore raw_at files n whole →
    byte_at whole a ≡ Some byte → HasByte raw_at files n a byte
union_from raw_at files zero whole a byte is byte_is = absurd (let none = ap (λ (rs : List Run). byte_at rs a) is in cc)
union_from raw_at files (suc n) whole a byte is byte_is = ⊎_elim
    (λ (new : byte_at is.image a ≡ Some byte). record { place = n; inside = omega arith; image = is.image; is_image = is.is_image; byte_is = new })
    (λ (old : byte_at is.before a ≡ Some byte). more_files raw_at files n a byte (union_from raw_at files n is.before a byte is.is_before old))
    (from_either is.before is.image whole a byte (byte_at is.image a) is.union refl byte_is)

pub union_to : (raw_at : Option ℕ) (files : List (List ℕ)) (n : ℕ) (whole : List Run) (a byte : ℕ) → IsUnionBefore raw_at files n whole →
    HasByte raw_at files n a byte → byte_at whole a ≡ Some byte
union_to raw_at files zero whole a byte is has = absurd (omega (arith, has.inside))
union_to raw_at files (suc n) whole a byte is has = ⊎_elim
    (λ (earlier : has.place < n).
    from_new is.image is.before whole a byte (union_swap is.before is.image whole is.union)
    (union_to raw_at files n is.before a byte is.is_before
    (record { place = has.place; inside = earlier; image = has.image; is_image = has.is_image; byte_is = has.byte_is })))
    (λ (last : n ≤ has.place).
    let here : has.place ≡ n = omega (arith, last, has.inside) in
    let image : has.image ≡ is.image = one_any_image raw_at (file_at files n) has.image is.image
    (subst (λ (k : ℕ). IsAnyImage raw_at (file_at files k) has.image) here has.is_image) is.is_image in
    from_new is.before is.image whole a byte is.union (ap (λ (rs : List Run). byte_at rs a) (sym image) ∙ has.byte_is))
    (cases_lt has.place n)
