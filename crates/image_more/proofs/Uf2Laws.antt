-- A UF2 file has one image, or one fault besides out of memory.
use Rattle.std.proofs.Common.{◌≡◌, ◌≢◌, ◌<◌, ◌+◌, ◌-◌, ◌∙◌, ◌⊎◌, inl, inr, ⊎_elim, sym, ap, subst, refl, arith, ℕ, zero, suc, Bool}
use Rattle.std.proofs.Common.{cond, List, [], ◌∷◌, length, Option, Some, None}
use Rattle.std.specs.List.{All}
use Rattle.std.proofs.lemmas.Bool.{cases_lt}
use Rattle.std.proofs.lemmas.List.Elements.{All-head}
use Rattle.byte_map.specs.Image.{addresses, Run, byte_of, byte_at}
use Rattle.byte_map.specs.Laying.{IsFirstClash}
use Rattle.byte_map.proofs.OneList.{one_list}
use Rattle.record_lines.specs.Gathered.{HasRun, IsUnionOf}
use Rattle.record_lines.proofs.Unions.{none_holds, part_of, All-front, All-back}
use Rattle.image_set.proofs.SegmentLaws.{one_clash}
use Rattle.image_more.specs.declared.fault.Uf2Fault.{Uf2Fault}
use Rattle.image_more.specs.declared.fault.Uf2Fault.TheVariants.{BadLength, BadMagic, BadSize, Conflict, PastEnd, OutOfMemory}
use Rattle.image_more.specs.Uf2.{is_skipped, payload, runs_of, block_count, block_at, runs_before, IsWhole, IsImageBefore, IsForFlash, IsBlockFault, IsUf2Image}
use Rattle.image_more.specs.Uf2.{IsFirstRefused, IsUf2Fault}

same_by : (runs one two : List Run) (a : ℕ) (o : Option ℕ) → byte_at runs a ≡ o → IsUnionOf runs one → IsUnionOf runs two → byte_at one a ≡ byte_at two a
same_by runs one two a None is u v = u.only a (none_holds runs a is) ∙ sym (v.only a (none_holds runs a is))
same_by runs one two a (Some byte) is u v = part_of runs one a byte u.all is ∙ sym (part_of runs two a byte v.all is)

-- runs have one union
one_union : (runs one two : List Run) → IsUnionOf runs one → IsUnionOf runs two → one ≡ two
one_union runs one two u v = one_list 0 addresses one two u.maximal v.maximal (λ a. same_by runs one two a (byte_at runs a) refl u v)

pub one_uf2_image : (bytes : List ℕ) (one two : List Run) → IsUf2Image bytes one → IsUf2Image bytes two → one ≡ two
one_uf2_image bytes one two u v = one_union (runs_before bytes (block_count bytes)) one two u.blocks.union v.blocks.union

-- what holds for the runs of some blocks holds for those of fewer blocks
fewer : (P : Run → Type 0) (bytes : List ℕ) (n k : ℕ) → All P (runs_before bytes (n + k)) → All P (runs_before bytes n)
fewer P bytes n zero all = subst (λ (m : ℕ). All P (runs_before bytes m)) (let z : n + 0 ≡ n = omega arith in z) all
fewer P bytes n (suc k) all =
    fewer P bytes n k (All-front P (runs_before bytes (n + k)) (runs_of (block_at bytes (n + k)))
    (subst (λ (m : ℕ). All P (runs_before bytes m)) (let z : n + suc k ≡ suc (n + k) = omega arith in z) all))

-- an image has each byte that the image of fewer runs has
kept_by : (runs part whole : List Run) (a byte : ℕ) (o : Option ℕ) → byte_at runs a ≡ o → IsUnionOf runs part → All (HasRun whole) runs →
    byte_at part a ≡ Some byte → byte_at whole a ≡ Some byte
kept_by runs part whole a byte None is u all there = let none = u.only a (none_holds runs a is) in absurd (cc)
kept_by runs part whole a byte (Some other) is u all there = part_of runs whole a other all is ∙ sym (part_of runs part a other u.all is) ∙ there

no_clash_inside : (bytes : List ℕ) (n : ℕ) (whole part : List Run) (k at old new : ℕ) → IsUnionOf (runs_before bytes n) whole → k < n →
    IsUnionOf (runs_before bytes k) part
    → IsForFlash (block_at bytes k) → IsFirstClash (payload (block_at bytes k)) part at old new → ⊥
no_clash_inside bytes n whole part k at old new all inside union flash clash =
    let block = block_at bytes k in
    let own = payload block in
    let upto : All (HasRun whole) (runs_before bytes (suc k)) = fewer (HasRun whole) bytes (suc k) (n - suc k)
    (subst (λ (m : ℕ). All (HasRun whole) (runs_before bytes m)) (let z : n ≡ suc k + (n - suc k) = omega (arith, inside) in z) all.all) in
    let here : All (HasRun whole) (cond (is_skipped block) [] (own ∷ [])) = All-back (HasRun whole) (runs_before bytes k) (runs_of block) upto in
    let has : HasRun whole own = All-head (HasRun whole) own [] (subst (λ (b : Bool). All (HasRun whole) (cond b [] (own ∷ []))) flash.flash here) in
    let before = All-front (HasRun whole) (runs_before bytes k) (runs_of block) upto in
    let earlier = kept_by (runs_before bytes k) part whole at old (byte_at (runs_before bytes k) at) refl union before clash.old_is in
    let later = has at clash.held in
    let same : old ≡ byte_of own at = cc in
    clash.unequal (same ∙ clash.new_is)

-- a block among some that are right isn't refused
not_refused : (bytes : List ℕ) (n : ℕ) (image : List Run) (fault : Uf2Fault) → IsImageBefore bytes n image → (two : IsFirstRefused bytes fault) →
    two.place < n → fault ≡ OutOfMemory
not_refused bytes n image (BadLength len) one two inside = absurd two.refused
not_refused bytes n image (BadMagic block) one two inside = let right = (one.right two.place inside).magic in let wrong = two.refused.1 in absurd (cc)
not_refused bytes n image (BadSize block size) one two inside =
    let right = (one.right two.place inside).size in absurd (omega (arith, right, two.refused.2, two.refused.3))
not_refused bytes n image (Conflict at old new) one two inside =
    absurd (no_clash_inside bytes n image two.image two.place at old new one.union inside two.before.union two.refused.0 two.refused.1.1)
not_refused bytes n image (PastEnd at) one two inside =
    let right = (one.right two.place inside).fits two.refused.0.flash in absurd (omega (arith, right, two.refused.1.1))
not_refused bytes n image OutOfMemory one two inside = refl

image_or_refused : (bytes : List ℕ) (image : List Run) (fault : Uf2Fault) → IsUf2Image bytes image → IsFirstRefused bytes fault → fault ≡ OutOfMemory
image_or_refused bytes image fault one two = not_refused bytes (block_count bytes) image fault one.blocks two two.inside

pub uf2_memory_alone : (bytes : List ℕ) (image : List Run) (fault : Uf2Fault) → IsUf2Image bytes image → IsUf2Fault bytes fault → fault ≡ OutOfMemory
uf2_memory_alone bytes image (BadLength len) one two = absurd (two.1 one.whole)
uf2_memory_alone bytes image (BadMagic block) one two = image_or_refused bytes image (BadMagic block) one two
uf2_memory_alone bytes image (BadSize block size) one two = image_or_refused bytes image (BadSize block size) one two
uf2_memory_alone bytes image (Conflict at old new) one two = image_or_refused bytes image (Conflict at old new) one two
uf2_memory_alone bytes image (PastEnd at) one two = image_or_refused bytes image (PastEnd at) one two
uf2_memory_alone bytes image OutOfMemory one two = refl

-- A file has one fault besides out of memory.

-- a block is refused for one reason
one_block_fault : (number : ℕ) (block : List ℕ) (image : List Run) (a b : Uf2Fault) → IsBlockFault number block image a → IsBlockFault number block image b
    → a ≢ OutOfMemory → b ≢ OutOfMemory → a ≡ b
one_block_fault number block image (BadMagic k) (BadMagic l) one two no_a no_b = ap BadMagic (one.0 ∙ sym two.0)
one_block_fault number block image (BadMagic k) (BadSize l size) one two no_a no_b = let wrong = one.1 in let right = two.1 in absurd (cc)
one_block_fault number block image (BadMagic k) (Conflict at old new) one two no_a no_b = let wrong = one.1 in let right = two.0.magic in absurd (cc)
one_block_fault number block image (BadMagic k) (PastEnd at) one two no_a no_b = let wrong = one.1 in let right = two.0.magic in absurd (cc)
one_block_fault number block image (BadSize k size) (BadMagic l) one two no_a no_b = let wrong = two.1 in let right = one.1 in absurd (cc)
one_block_fault number block image (BadSize k size) (BadSize l other) one two no_a no_b =
    let numbers : k ≡ l = one.0 ∙ sym two.0 in
    let sizes : size ≡ other = one.2 ∙ sym two.2 in
    cc
one_block_fault number block image (BadSize k size) (Conflict at old new) one two no_a no_b = absurd (omega (arith, one.2, one.3, two.0.size))
one_block_fault number block image (BadSize k size) (PastEnd at) one two no_a no_b = absurd (omega (arith, one.2, one.3, two.0.size))
one_block_fault number block image (Conflict at old new) (BadMagic l) one two no_a no_b = let wrong = two.1 in let right = one.0.magic in absurd (cc)
one_block_fault number block image (Conflict at old new) (BadSize l size) one two no_a no_b = absurd (omega (arith, two.2, two.3, one.0.size))
one_block_fault number block image (Conflict at old new) (Conflict at' old' new') one two no_a no_b =
    let same = one_clash (payload block) image at at' old old' new new' one.1.1 two.1.1 in
    let a = same.at_is in
    let b = same.old_is in
    let c = same.new_is in
    cc
one_block_fault number block image (Conflict at old new) (PastEnd at') one two no_a no_b = absurd (omega (arith, one.1.0, two.1.1))
one_block_fault number block image (PastEnd at) (BadMagic l) one two no_a no_b = let wrong = two.1 in let right = one.0.magic in absurd (cc)
one_block_fault number block image (PastEnd at) (BadSize l size) one two no_a no_b = absurd (omega (arith, two.2, two.3, one.0.size))
one_block_fault number block image (PastEnd at) (Conflict at' old new) one two no_a no_b = absurd (omega (arith, two.1.0, one.1.1))
one_block_fault number block image (PastEnd at) (PastEnd at') one two no_a no_b = ap PastEnd (one.1.0 ∙ sym two.1.0)
one_block_fault number block image OutOfMemory b one two no_a no_b = absurd (no_a refl)
one_block_fault number block image a OutOfMemory one two no_a no_b = absurd (no_b refl)
one_block_fault number block image (BadLength len) b one two no_a no_b = absurd one
one_block_fault number block image a (BadLength len) one two no_a no_b = absurd two

one_refused : (bytes : List ℕ) (a b : Uf2Fault) → IsFirstRefused bytes a → IsFirstRefused bytes b → a ≢ OutOfMemory → b ≢ OutOfMemory → a ≡ b
one_refused bytes a b one two no_a no_b =
    let place : one.place ≡ two.place = ⊎_elim
    (λ less. absurd (no_a (not_refused bytes two.place two.image a two.before one less)))
    (λ most. ⊎_elim (λ less. absurd (no_b (not_refused bytes one.place one.image b one.before two less))) (λ least. omega (arith, most, least))
    (cases_lt two.place one.place))
    (cases_lt one.place two.place) in
    let image : one.image ≡ two.image = one_union (runs_before bytes two.place) one.image two.image
    (subst (λ (k : ℕ). IsUnionOf (runs_before bytes k) one.image) place one.before.union) two.before.union in
    one_block_fault (two.place + 1) (block_at bytes two.place) two.image a b
    (subst (λ (i : List Run). IsBlockFault (two.place + 1) (block_at bytes two.place) i a) image
    (subst (λ (k : ℕ). IsBlockFault (k + 1) (block_at bytes k) one.image a) place one.refused)) two.refused no_a no_b

-- a fault is one of the length or of a block
length_or_block : (bytes : List ℕ) (a : Uf2Fault) → IsUf2Fault bytes a → a ≢ OutOfMemory → ((a ≡ BadLength (length bytes)) × (IsWhole bytes → ⊥)) ⊎
    IsFirstRefused bytes a
length_or_block bytes (BadLength len) is no_a = inl (ap BadLength is.0, is.1)
length_or_block bytes (BadMagic block) is no_a = inr is
length_or_block bytes (BadSize block size) is no_a = inr is
length_or_block bytes (Conflict at old new) is no_a = inr is
length_or_block bytes (PastEnd at) is no_a = inr is
length_or_block bytes OutOfMemory is no_a = absurd (no_a refl)

pub one_uf2_fault : (bytes : List ℕ) (a b : Uf2Fault) → IsUf2Fault bytes a → IsUf2Fault bytes b → a ≢ OutOfMemory → b ≢ OutOfMemory → a ≡ b
one_uf2_fault bytes a b one two no_a no_b = ⊎_elim
    (λ (x : (a ≡ BadLength (length bytes)) × (IsWhole bytes → ⊥)). ⊎_elim
    (λ (y : (b ≡ BadLength (length bytes)) × (IsWhole bytes → ⊥)). x.0 ∙ sym y.0)
    (λ (y : IsFirstRefused bytes b). absurd (x.1 y.whole)) (length_or_block bytes b two no_b))
    (λ (x : IsFirstRefused bytes a). ⊎_elim
    (λ (y : (b ≡ BadLength (length bytes)) × (IsWhole bytes → ⊥)). absurd (y.1 x.whole))
    (λ (y : IsFirstRefused bytes b). one_refused bytes a b x y no_a no_b) (length_or_block bytes b two no_b))
    (length_or_block bytes a one no_a)
