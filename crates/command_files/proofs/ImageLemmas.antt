-- The image files of a command have one image or one refusal.
use Rattle.std.proofs.Common.{◌≡◌, ◌≢◌, ◌<◌, ◌≤◌, ◌^◌, ◌∙◌, sym, ap, subst, refl, arith, ⊎_elim, ◌⊎◌, ℕ, zero, suc, IsSome, List, [], length, Option, Some}
use Rattle.std.proofs.lemmas.Bool.{cases_lt}
use Rattle.byte_map.specs.Image.{Run, byte_at, AreMaximal}
use Rattle.byte_map.proofs.OneList.{one_list}
use Rattle.image_set.specs.declared.fault.ImageFault.{ImageFault}
use Rattle.image_set.specs.declared.fault.ImageFault.TheVariants.{NoForm, Hex, Srec, Elf, Conflict, PastEnd, OutsideDevice, EmptyImage, OutOfMemory}
use Rattle.image_set.specs.Union.{IsUnion, IsLeastClash, IsUnionFault}
use Rattle.image_set.specs.Ranges.{LiesInside, IsLeastOutside, IsPlaceFault}
use Rattle.image_more.specs.declared.fault.AnyFault.{AnyFault}
use Rattle.image_more.specs.declared.fault.AnyFault.TheVariants as any
use Rattle.image_more.specs.Any.{IsAnyFault}
use Rattle.image_more.specs.Fault.{any_of}
use Rattle.image_more.specs.Files.{IsNextUnion, IsUnionBefore}
use Rattle.image_more.specs.Place.{file_at}
use Rattle.image_more.proofs.AnyLemmas.{one_any_image, any_image_or_fault, one_any_fault}
use Rattle.image_set.proofs.UnionLemmas.{below_end}
use Rattle.command_files.specs.Inputs.{name_at}
use Rattle.command_files.specs.Refused.{Clashes, IsImageRefused}

-- Two images.

pub maximal_union : (raw_at : Option ℕ) (files : List (List ℕ)) (n : ℕ) (image : List Run) → IsUnionBefore raw_at files n image → AreMaximal 0 (2 ^ 32) image
maximal_union raw_at files zero image is = subst (λ (rs : List Run). AreMaximal 0 (2 ^ 32) rs) (sym is) tt
maximal_union raw_at files (suc n) image is = is.union.maximal

one_union_of : (image other a b : List Run) → IsUnion image other a → IsUnion image other b → a ≡ b
one_union_of image other a b one two = one_list 0 (2 ^ 32) a b one.maximal two.maximal (λ x. one.same x ∙ sym (two.same x))

-- images that have a union don't clash
union_or_clash : (image other union : List Run) (at old new : ℕ) → AreMaximal 0 (2 ^ 32) image → IsUnion image other union → IsLeastClash image other at old new
    → ⊥
union_or_clash image other union at old new maximal one two =
    two.unequal (one.agree at old new (below_end image at old maximal two.old_is) two.old_is two.new_is)

union_or_fault : (image other union : List Run) (fault : ImageFault) → AreMaximal 0 (2 ^ 32) image → IsUnion image other union → IsUnionFault image other fault
    → fault ≢ OutOfMemory → ⊥
union_or_fault image other union (Conflict at old new) maximal one two other_fault = union_or_clash image other union at old new maximal one two
union_or_fault image other union OutOfMemory maximal one two other_fault = other_fault refl
union_or_fault image other union fault maximal one two other_fault = two

pub record IsConflict (image other : List Run) (fault : ImageFault) : Type 0 where
  pub at : ℕ
  pub old : ℕ
  pub new : ℕ
  pub is : fault ≡ Conflict at old new
  pub clash : IsLeastClash image other at old new

union_fault : (image other : List Run) (fault : ImageFault) → IsUnionFault image other fault → fault ≢ OutOfMemory → IsConflict image other fault
union_fault image other (Conflict at old new) is not_memory = record { at = at; old = old; new = new; is = refl; clash = is }
union_fault image other OutOfMemory is not_memory = absurd (not_memory refl)
union_fault image other fault is not_memory = absurd is

earlier_clash : (image other : List Run) (p q old new old' new' : ℕ) → IsLeastClash image other p old new → IsLeastClash image other q old' new' → p < q → ⊥
earlier_clash image other p q old new old' new' one two less = one.unequal (two.first p old new less one.old_is one.new_is)

one_conflict : (image other : List Run) (p q old new old' new' : ℕ) → IsLeastClash image other p old new → IsLeastClash image other q old' new'
    → Conflict p old new ≡ Conflict q old' new'
one_conflict image other p q old new old' new' one two =
    let at : p ≡ q = ⊎_elim
    (λ less. absurd (earlier_clash image other p q old new old' new' one two less))
    (λ most. ⊎_elim (λ less. absurd (earlier_clash image other q p old' new' old new two one less)) (λ least. omega (arith, most, least)) (cases_lt q p))
    (cases_lt p q) in
    let old_same : Some old ≡ Some old' = sym one.old_is ∙ ap (λ (n : ℕ). byte_at image n) at ∙ two.old_is in
    let new_same : Some new ≡ Some new' = sym one.new_is ∙ ap (λ (n : ℕ). byte_at other n) at ∙ two.new_is in
    let old_is : old ≡ old' = cc in
    let new_is : new ≡ new' = cc in
    cc

one_union_fault : (image other : List Run) (a b : ImageFault) → IsUnionFault image other a → IsUnionFault image other b → a ≢ OutOfMemory → b ≢ OutOfMemory
    → a ≡ b
one_union_fault image other a b one two no_a no_b =
    let x = union_fault image other a one no_a in
    let y = union_fault image other b two no_b in
    x.is ∙ one_conflict image other x.at y.at x.old x.new y.old y.new x.clash y.clash ∙ sym y.is

-- The files in turn.

pub one_union : (raw_at : Option ℕ) (files : List (List ℕ)) (n : ℕ) (a b : List Run) → IsUnionBefore raw_at files n a → IsUnionBefore raw_at files n b → a ≡ b
one_union raw_at files zero a b one two = one ∙ sym two
one_union raw_at files (suc n) a b one two =
    let before : one.before ≡ two.before = one_union raw_at files n one.before two.before one.is_before two.is_before in
    let image : one.image ≡ two.image = one_any_image raw_at (file_at files n) one.image two.image one.is_image two.is_image in
    one_union_of two.before two.image a b
    (subst (λ (i : List Run). IsUnion two.before i a) image (subst (λ (b : List Run). IsUnion b one.image a) before one.union)) two.union

-- files with a union have one for each number of first files
pub record IsReadAt (raw_at : Option ℕ) (files : List (List ℕ)) (k : ℕ) : Type 0 where
  pub whole : List Run
  pub next : IsNextUnion (IsUnionBefore raw_at files k) raw_at (file_at files k) whole

read_at : (raw_at : Option ℕ) (files : List (List ℕ)) (n k : ℕ) (whole : List Run) → IsUnionBefore raw_at files n whole → k < n → IsReadAt raw_at files k
read_at raw_at files zero k whole is less = absurd (omega (arith, less))
read_at raw_at files (suc n) k whole is less = ⊎_elim
    (λ (earlier : k < n). read_at raw_at files n k is.before is.is_before earlier)
    (λ (last : n ≤ k).
    let here : n ≡ k = omega (arith, last, less) in
    subst (λ (i : ℕ). IsReadAt raw_at files i) here (record { whole = whole; next = is }))
    (cases_lt k n)

-- a clash that isn't "out of memory" is a fault of a file
no_memory_of : (clash : ImageFault) (fault : AnyFault) → fault ≡ any_of clash → fault ≢ any.OutOfMemory → clash ≢ OutOfMemory
no_memory_of clash fault is other = λ same. other (is ∙ ap any_of same)

-- a file that was read isn't refused
read_or_refused : (raw_at : Option ℕ) (names files : List (List ℕ)) (name : List ℕ) (fault : AnyFault) → (one : IsImageRefused raw_at names files name fault)
    → IsReadAt raw_at files one.place → ⊥
read_or_refused raw_at names files name fault one two =
    let k = one.place in
    let next = two.next in
    let before : next.before ≡ one.before = one_union raw_at files k next.before one.before next.is_before one.is_before in
    ⊎_elim
    (λ (is : IsAnyFault raw_at (file_at files k) fault). any_image_or_fault raw_at (file_at files k) next.image fault next.is_image is one.no_memory)
    (λ (is : Clashes raw_at (file_at files k) one.before fault).
    let image : is.image ≡ next.image = one_any_image raw_at (file_at files k) is.image next.image is.is_image next.is_image in
    union_or_fault next.before next.image two.whole is.clash (maximal_union raw_at files k next.before next.is_before) next.union
    (subst (λ (i : List Run). IsUnionFault next.before i is.clash) image
    (subst (λ (b : List Run). IsUnionFault b is.image is.clash) (sym before) is.is_clash)) (no_memory_of is.clash fault is.fault_is one.no_memory))
    one.is_fault

pub images_or_refused : (raw_at : Option ℕ) (names files : List (List ℕ)) (name : List ℕ) (fault : AnyFault) (image : List Run)
    → IsImageRefused raw_at names files name fault → IsUnionBefore raw_at files (length files) image → ⊥
images_or_refused raw_at names files name fault image one two =
    read_or_refused raw_at names files name fault one (read_at raw_at files (length files) one.place image two one.inside)

pub record IsSameRefusal (x y : List ℕ) (a b : AnyFault) : Type 0 where
  pub name : x ≡ y
  pub fault : a ≡ b

same_fault : (raw_at : Option ℕ) (file : List ℕ) (before : List Run) (a b : AnyFault) → IsAnyFault raw_at file a ⊎ Clashes raw_at file before a
    → IsAnyFault raw_at file b ⊎ Clashes raw_at file before b → a ≢ any.OutOfMemory → b ≢ any.OutOfMemory → a ≡ b
same_fault raw_at file before a b one two no_a no_b = ⊎_elim
    (λ (one : IsAnyFault raw_at file a). ⊎_elim
    (λ (two : IsAnyFault raw_at file b). one_any_fault raw_at file a b one two no_a no_b)
    (λ (two : Clashes raw_at file before b). absurd (any_image_or_fault raw_at file two.image a two.is_image one no_a)) two)
    (λ (one : Clashes raw_at file before a). ⊎_elim
    (λ (two : IsAnyFault raw_at file b). absurd (any_image_or_fault raw_at file one.image b one.is_image two no_b))
    (λ (two : Clashes raw_at file before b).
    let image : one.image ≡ two.image = one_any_image raw_at file one.image two.image one.is_image two.is_image in
    one.fault_is ∙ ap any_of (one_union_fault before two.image one.clash two.clash
    (subst (λ (i : List Run). IsUnionFault before i one.clash) image one.is_clash) two.is_clash
    (no_memory_of one.clash a one.fault_is no_a) (no_memory_of two.clash b two.fault_is no_b)) ∙ sym two.fault_is) two)
    one

pub one_image_refused : (raw_at : Option ℕ) (names files : List (List ℕ)) (x y : List ℕ) (a b : AnyFault) → IsImageRefused raw_at names files x a
    → IsImageRefused raw_at names files y b → IsSameRefusal x y a b
one_image_refused raw_at names files x y a b one two =
    let place : one.place ≡ two.place = ⊎_elim
    (λ less. absurd (read_or_refused raw_at names files x a one (read_at raw_at files two.place one.place two.before two.is_before less)))
    (λ most. ⊎_elim (λ less. absurd (read_or_refused raw_at names files y b two (read_at raw_at files one.place two.place one.before one.is_before less)))
    (λ least. omega (arith, most, least)) (cases_lt two.place one.place))
    (cases_lt one.place two.place) in
    let before : one.before ≡ two.before = one_union raw_at files two.place one.before two.before
    (subst (λ (k : ℕ). IsUnionBefore raw_at files k one.before) place one.is_before) two.is_before in
    let first : IsAnyFault raw_at (file_at files two.place) a ⊎ Clashes raw_at (file_at files two.place) two.before a =
    subst (λ (s : List Run). IsAnyFault raw_at (file_at files two.place) a ⊎ Clashes raw_at (file_at files two.place) s a) before
    (subst (λ (k : ℕ). IsAnyFault raw_at (file_at files k) a ⊎ Clashes raw_at (file_at files k) one.before a) place one.is_fault) in
    record {
      name = one.name_is ∙ ap (λ (k : ℕ). name_at names k) place ∙ sym two.name_is;
      fault = same_fault raw_at (file_at files two.place) two.before a b first two.is_fault one.no_memory two.no_memory;
    }

-- The place of an image.

pub inside_or_fault : (image : List Run) (ranges : List (ℕ × ℕ)) (fault : ImageFault) → LiesInside image ranges → IsPlaceFault image ranges fault → ⊥
inside_or_fault image ranges (OutsideDevice at) one two = let inside = one.inside at two.held in let outside = two.outside in cc
inside_or_fault image ranges EmptyImage one two = one.some two
inside_or_fault image ranges fault one two = two

earlier_outside : (image : List Run) (ranges : List (ℕ × ℕ)) (p q : ℕ) → IsLeastOutside image ranges p → IsLeastOutside image ranges q → p < q → ⊥
earlier_outside image ranges p q one two less = let inside = two.first p less one.held in let outside = one.outside in cc

one_outside : (image : List Run) (ranges : List (ℕ × ℕ)) (p q : ℕ) → IsLeastOutside image ranges p → IsLeastOutside image ranges q → p ≡ q
one_outside image ranges p q one two = ⊎_elim
    (λ less. absurd (earlier_outside image ranges p q one two less))
    (λ most. ⊎_elim (λ less. absurd (earlier_outside image ranges q p two one less)) (λ least. omega (arith, most, least)) (cases_lt q p))
    (cases_lt p q)

empty_holds_none : (image : List Run) (a : ℕ) → image ≡ [] → IsSome (byte_at image a) → ⊥
empty_holds_none image a empty held = let none : IsSome (byte_at [] a) = subst (λ (rs : List Run). IsSome (byte_at rs a)) empty held in cc

pub one_place_fault : (image : List Run) (ranges : List (ℕ × ℕ)) (a b : ImageFault) → IsPlaceFault image ranges a → IsPlaceFault image ranges b → a ≡ b
one_place_fault image ranges (OutsideDevice p) (OutsideDevice q) one two = ap OutsideDevice (one_outside image ranges p q one two)
one_place_fault image ranges (OutsideDevice p) EmptyImage one two = absurd (empty_holds_none image p two one.held)
one_place_fault image ranges EmptyImage (OutsideDevice q) one two = absurd (empty_holds_none image q one two.held)
one_place_fault image ranges EmptyImage EmptyImage one two = refl
one_place_fault image ranges NoForm b one two = absurd one
one_place_fault image ranges (Hex fault) b one two = absurd one
one_place_fault image ranges (Srec fault) b one two = absurd one
one_place_fault image ranges (Elf fault) b one two = absurd one
one_place_fault image ranges (Conflict at old new) b one two = absurd one
one_place_fault image ranges (PastEnd at) b one two = absurd one
one_place_fault image ranges OutOfMemory b one two = absurd one
one_place_fault image ranges a NoForm one two = absurd two
one_place_fault image ranges a (Hex fault) one two = absurd two
one_place_fault image ranges a (Srec fault) one two = absurd two
one_place_fault image ranges a (Elf fault) one two = absurd two
one_place_fault image ranges a (Conflict at old new) one two = absurd two
one_place_fault image ranges a (PastEnd at) one two = absurd two
one_place_fault image ranges a OutOfMemory one two = absurd two
