-- The runs of two images, added one after another: the union of the first runs of both grows by one.
use Rattle.std.proofs.Common.{◌≡◌, ⊎_elim, ◌≤◌, ◌<◌, ◌+◌, ◌-◌, ◌^◌, ◌∙◌, ℕ, zero, suc, List, [], ◌∷◌, length, take, drop, Option, Some, None, Bool, true, false}
use Rattle.std.proofs.Common.{cond, refl, sym, ap, subst, arith, add-one}
use Rattle.std.proofs.Math.Seq.{take-length}
use Rattle.std.proofs.lemmas.Bool.{cases_lt}
use Rattle.std.proofs.lemmas.List.{length-take, take-append-drop}
use Rattle.byte_map.specs.Image.{Run, run_at, holds, byte_of, byte_at, AreMaximal}
use Rattle.byte_map.specs.Laying.{IsFirstClash, Lays, IsLayFault}
use Rattle.byte_map.proofs.Runs.{holds_no_higher, held_from, held_to, each_run, rising, none_of, found_in, holder, or_else, byte_at-append, maximal_take}
use Rattle.byte_map.proofs.Joined.{run_at-take}
use Rattle.byte_map.specs.declared.fault.LayFault.{LayFault}
use Rattle.byte_map.specs.declared.fault.LayFault.TheVariants.{Conflict, PastEnd, OutOfMemory}
use Rattle.image_set.specs.Union.{AgreeBelow, IsUnion, IsLeastClash, IsUnionFault, IsUnited, swapped}
use Rattle.image_set.specs.Fault.{fault_of}

-- every address of an image is below 2^32
pub below_end : (image : List Run) (a byte : ℕ) → AreMaximal 0 (2 ^ 32) image → byte_at image a ≡ Some byte → a < 2 ^ 32
below_end image a byte maximal is =
    let (k, less, held, byte_is) = holder image a byte is in
    omega (arith, held_to (run_at image k) a held, (each_run 0 (2 ^ 32) image k maximal less).2)

-- The order of two images.

agree_swap : (x y : List Run) (limit : ℕ) → AgreeBelow x y limit → AgreeBelow y x limit
agree_swap x y limit agree a old new lt old_is new_is = sym (agree a new old lt new_is old_is)

or_swap : (p q : Option ℕ) → ((x y : ℕ) → p ≡ Some x → q ≡ Some y → x ≡ y) → or_else p q ≡ or_else q p
or_swap None None same = refl
or_swap None (Some y) same = refl
or_swap (Some x) None same = refl
or_swap (Some x) (Some y) same = ap (λ (n : ℕ). Some n) (same x y refl refl)

union_at : (x y union : List Run) (a : ℕ) → IsUnion x y union → byte_at union a ≡ or_else (byte_at y a) (byte_at x a)
union_at x y union a is = is.same a ∙ byte_at-append y x a

-- where two images agree, each byte of the second one is the union's
has_byte : (x y union : List Run) (a old : ℕ) → IsUnion x y union → byte_at y a ≡ Some old → byte_at union a ≡ Some old
has_byte x y union a old is old_is = union_at x y union a is ∙ ap (λ (o : Option ℕ). or_else o (byte_at x a)) old_is

pub union_swap : (x y union : List Run) → IsUnion x y union → IsUnion y x union
union_swap x y union is =
    record {
      agree = agree_swap x y (2 ^ 32) is.agree;
      same = λ a.
          union_at x y union a is
          ∙ or_swap (byte_at y a) (byte_at x a) (λ new old new_is old_is.
          sym (is.agree a old new (below_end union a new is.maximal (has_byte x y union a new is new_is)) old_is new_is))
          ∙ sym (byte_at-append x y a);
      maximal = is.maximal;
    }

clash_swap : (x y : List Run) (at old new : ℕ) → IsLeastClash x y at old new → IsLeastClash y x at new old
clash_swap x y at old new clash =
    record {
      old_is = clash.new_is;
      new_is = clash.old_is;
      unequal = λ is. clash.unequal (sym is);
      first = agree_swap x y at clash.first;
    }

-- The first runs of an image.

-- the runs before a run have no byte where that run has one
none_before : (x : List Run) (k a : ℕ) → AreMaximal 0 (2 ^ 32) x → k < length x → holds (run_at x k) a ≡ true → byte_at (take k x) a ≡ None
none_before x k a m lt held =
    none_of (take k x) a (λ j below.
    let less : j < k = omega (arith, length-take k x) in
    let up = rising 0 (2 ^ 32) x j k m less lt in
    let from = held_from (run_at x k) a held in
    ap (λ (r : Run). holds r a) (run_at-take x k j less) ∙ holds_no_higher (run_at x j) a (omega (arith, up, from)))

byte_at-more : (x : List Run) (k a : ℕ) → k < length x → byte_at (take (suc k) x) a ≡ or_else (byte_at (take k x) a) (byte_at (run_at x k ∷ []) a)
byte_at-more [] k a lt = absurd (omega arith)
byte_at-more (r ∷ rs) zero a lt = refl
byte_at-more (r ∷ rs) (suc k) a lt =
    elim (holds r a) as (λ (b : Bool). cond b (Some (byte_of r a)) (byte_at (take (suc k) rs) a) ≡ or_else (cond b (Some (byte_of r a)) (byte_at (take k rs) a))
    (byte_at (run_at rs k ∷ []) a)) [ true ↦ refl | false ↦ byte_at-more rs k a (omega arith) ]

-- a byte of the first runs is a byte of the image
taken_byte : (x : List Run) (n a byte : ℕ) → byte_at (take n x) a ≡ Some byte → byte_at x a ≡ Some byte
taken_byte x n a byte is =
    ap (λ (rs : List Run). byte_at rs a) (sym (take-append-drop n x))
    ∙ byte_at-append (take n x) (drop n x) a
    ∙ ap (λ (o : Option ℕ). or_else o (byte_at (drop n x) a)) is

taken_run : (x : List Run) (n a byte : ℕ) → byte_at (take n x) a ≡ Some byte → (l : ℕ) × (l < n) × (l < length x) × (holds (run_at x l) a ≡ true)
taken_run x n a byte is =
    let (l, lt, held, of) = holder (take n x) a byte is in
    let less : l < n = omega (arith, length-take n x) in
    (l, less, omega (arith, length-take n x), subst (λ (r : Run). holds r a ≡ true) (run_at-take x n l less) held)

found_taken : (x : List Run) (n k a : ℕ) → AreMaximal 0 (2 ^ 32) x → k < n → k < length x → holds (run_at x k) a ≡ true →
    byte_at (take n x) a ≡ Some (byte_of (run_at x k) a)
found_taken x n k a m less lt held =
    let is = run_at-take x n k less in
    found_in 0 (2 ^ 32) (take n x) k a (maximal_take 0 (2 ^ 32) x n m) (omega (arith, length-take n x)) (subst (λ (r : Run). holds r a ≡ true) (sym is) held)
    ∙ ap (λ (r : Run). Some (byte_of r a)) is

-- One more run.

more_same : (p : Run) (a : ℕ) (before other : Option ℕ) (held : Bool) → holds p a ≡ held → (held ≡ true → before ≡ None) →
    (held ≡ true → (byte : ℕ) → other ≡ Some byte → byte ≡ byte_of p a)
    → cond (holds p a) (Some (byte_of p a)) (or_else other before) ≡ or_else other (or_else before (byte_at (p ∷ []) a))
more_same p a before None true is none agrees = let no = none refl in grind (arith)
more_same p a before (Some byte) true is none agrees = let same = agrees refl byte refl in grind (arith)
more_same p a before None false is none agrees = grind (arith)
more_same p a before (Some byte) false is none agrees = grind (arith)

more_agree : (p : Run) (a byte other : ℕ) (before : Option ℕ) (held : Bool) → holds p a ≡ held → (held ≡ true → before ≡ None) →
    or_else before (byte_at (p ∷ []) a) ≡ Some byte
    → (held ≡ true → other ≡ byte_of p a) → (before ≡ Some byte → byte ≡ other) → byte ≡ other
more_agree p a byte other None true is none byte_is agrees earlier = let same = agrees refl in grind (arith)
more_agree p a byte other (Some b) true is none byte_is agrees earlier = let no = none refl in absurd (cc)
more_agree p a byte other None false is none byte_is agrees earlier = absurd (grind (arith))
more_agree p a byte other (Some b) false is none byte_is agrees earlier = earlier byte_is

pub union_more : (x y : List Run) (i j : ℕ) (map new : List Run) → AreMaximal 0 (2 ^ 32) x → i < length x → IsUnion (take i x) (take j y) map →
    Lays (run_at x i) map new → IsUnion (take (i + 1) x) (take j y) new
union_more x y i j map new m lt is lays =
    let p = run_at x i in
    let none = λ (a : ℕ) (held : holds p a ≡ true). none_before x i a m lt held in
    let more = λ (a : ℕ). ap (λ (n : ℕ). byte_at (take n x) a) (add-one i) ∙ byte_at-more x i a lt in
    let agrees = λ (a : ℕ) (held : holds p a ≡ true) (byte : ℕ) (byte_is : byte_at (take j y) a ≡ Some byte).
    lays.agrees a byte (let to = held_to p a held in omega (arith, to, lays.fits)) held (has_byte (take i x) (take j y) map a byte is byte_is) in
    record {
      agree = λ a old new below old_is new_is.
          more_agree p a old new (byte_at (take i x) a) (holds p a) refl (none a) (sym (more a) ∙ old_is)
          (λ held. agrees a held new new_is) (λ earlier. is.agree a old new below earlier new_is);
      same = λ a.
          lays.union a
          ∙ ap (λ (o : Option ℕ). cond (holds p a) (Some (byte_of p a)) o) (union_at (take i x) (take j y) map a is)
          ∙ more_same p a (byte_at (take i x) a) (byte_at (take j y) a) (holds p a) refl (none a) (agrees a)
          ∙ ap (or_else (byte_at (take j y) a)) (sym (more a))
          ∙ sym (byte_at-append (take j y) (take (i + 1) x) a);
      maximal = lays.maximal;
    }

-- Where a run clashes.

-- the run of the other image that has the clashing byte ends the runs below it
other_laid : (y : List Run) (j l k a at : ℕ) → AreMaximal 0 (2 ^ 32) y → l < j → holds (run_at y l) at ≡ true → k < length y → holds (run_at y k) a ≡ true →
    a < at → k < j
other_laid y j l k a at m less held lt in_run below =
    ⊎_elim (λ (yes_ : k < j). yes_)
    (λ (ge : j ≤ k).
    let up = rising 0 (2 ^ 32) y l k m (omega arith) lt in
    let to = held_to (run_at y l) at held in
    let from = held_from (run_at y k) a in_run in
    absurd (omega (arith, up, to, from)))
    (cases_lt k j)

clash_below : (x y : List Run) (i j : ℕ) (map : List Run) (at old new : ℕ) → AreMaximal 0 (2 ^ 32) x → AreMaximal 0 (2 ^ 32) y → i < length x →
    IsUnion (take i x) (take j y) map
    → IsFirstClash (run_at x i) map at old new → byte_at (take j y) at ≡ Some old → AgreeBelow y x at
clash_below x y i j map at old new mx my lt is clash old_is a o n below o_is n_is =
    let (l, less, within, held) = taken_run y j at old old_is in
    let (k, lt_k, held_k, o_of) = holder y a o o_is in
    let (h, lt_h, held_h, n_of) = holder x a n n_is in
    let laid = other_laid y j l k a at my less held lt_k held_k below in
    let other : byte_at (take j y) a ≡ Some o = found_taken y j k a my laid lt_k held_k ∙ ap (λ (b : ℕ). Some b) (sym o_of) in
    let to = held_to (run_at x i) at clash.held in
    let limit = (each_run 0 (2 ^ 32) x i mx lt).2 in
    ⊎_elim
    (λ (earlier : h < i). sym (is.agree a n o (omega (arith, to, limit)) (found_taken x i h a mx earlier lt_h held_h ∙ ap (λ (b : ℕ). Some b) (sym n_of))
    other))
    (λ (ge : i ≤ h). ⊎_elim
    (λ (later : i < h).
    let up = rising 0 (2 ^ 32) x i h mx later lt_h in
    let from = held_from (run_at x h) a held_h in
    absurd (omega (arith, up, to, from)))
    (λ (le : h ≤ i).
    let here : h ≡ i = omega (arith, ge, le) in
    clash.first a o below (subst (λ (m : ℕ). holds (run_at x m) a ≡ true) here held_h) (has_byte (take i x) (take j y) map a o is other)
    ∙ sym (n_of ∙ ap (λ (m : ℕ). byte_of (run_at x m) a) here))
    (cases_lt i h))
    (cases_lt h i)

clash_of : (x y : List Run) (i j : ℕ) (map : List Run) (at old new : ℕ) → AreMaximal 0 (2 ^ 32) x → AreMaximal 0 (2 ^ 32) y → i < length x →
    IsUnion (take i x) (take j y) map
    → IsFirstClash (run_at x i) map at old new → IsLeastClash y x at old new
clash_of x y i j map at old new mx my lt is clash =
    let none = none_before x i at mx lt clash.held in
    let behind : or_else (byte_at (take j y) at) None ≡ byte_at (take j y) at = or_swap (byte_at (take j y) at) None (λ a b one two. absurd (cc)) in
    let old_is : byte_at (take j y) at ≡ Some old =
    sym (union_at (take i x) (take j y) map at is ∙ ap (or_else (byte_at (take j y) at)) none ∙ behind) ∙ clash.old_is in
    record {
      old_is = taken_byte y j at old old_is;
      new_is = found_in 0 (2 ^ 32) x i at mx lt clash.held ∙ ap (λ (n : ℕ). Some n) clash.new_is;
      unequal = clash.unequal;
      first = clash_below x y i j map at old new mx my lt is clash old_is;
    }

-- a run that is refused, of either image
pub new_fault : (x y : List Run) (i j : ℕ) (map : List Run) (fault : LayFault) → AreMaximal 0 (2 ^ 32) x → AreMaximal 0 (2 ^ 32) y → i < length x →
    IsUnion (take i x) (take j y) map → IsLayFault (run_at x i) map fault → IsUnionFault y x (fault_of fault)
new_fault x y i j map (Conflict at old new) mx my lt is refused = clash_of x y i j map at old new mx my lt is refused.1
new_fault x y i j map (PastEnd at) mx my lt is refused = absurd (omega (arith, refused.1, (each_run 0 (2 ^ 32) x i mx lt).2))
new_fault x y i j map OutOfMemory mx my lt is refused = tt

pub old_fault : (x y : List Run) (i j : ℕ) (map : List Run) (fault : LayFault) → AreMaximal 0 (2 ^ 32) x → AreMaximal 0 (2 ^ 32) y → i < length x →
    IsUnion (take i x) (take j y) map → IsLayFault (run_at x i) map fault → IsUnionFault x y (fault_of (swapped fault))
old_fault x y i j map (Conflict at old new) mx my lt is refused = clash_swap y x at old new (clash_of x y i j map at old new mx my lt is refused.1)
old_fault x y i j map (PastEnd at) mx my lt is refused = absurd (omega (arith, refused.1, (each_run 0 (2 ^ 32) x i mx lt).2))
old_fault x y i j map OutOfMemory mx my lt is refused = tt

pub union_none : (x y : List Run) → IsUnion (take 0 x) (take 0 y) []
union_none x y = record { agree = λ a old new below old_is new_is. absurd (cc); same = λ a. refl; maximal = tt }

pub union_all : (x y union : List Run) (i j : ℕ) → i ≡ length x → j ≡ length y → IsUnion (take i x) (take j y) union → IsUnion x y union
union_all x y union i j all_x all_y is =
    subst (λ (rs : List Run). IsUnion rs y union) (ap (λ (n : ℕ). take n x) all_x ∙ take-length x)
    (subst (λ (rs : List Run). IsUnion (take i x) rs union) (ap (λ (n : ℕ). take n y) all_y ∙ take-length y) is)

-- The pass over both.

pub united_none : (image other union : List Run) → union ≡ [] → IsUnited image other 0 0 union
united_none image other union is =
    record {
      union_is = subst (λ (rs : List Run). IsUnion (take 0 image) (take 0 other) rs) (sym is) (union_none image other);
      ordered = omega arith;
      old_within = omega arith;
      new_within = omega arith;
    }

pub united_old : (image other : List Run) (index old : ℕ) (map new : List Run) → AreMaximal 0 (2 ^ 32) image → old < length image →
    IsUnited image other index old map → Lays (run_at image old) map new → IsUnited image other (index + 1) (old + 1) new
united_old image other index old map new m lt is lays =
    let same : index - old ≡ index + 1 - (old + 1) = omega arith in
    record {
      union_is = subst (λ (n : ℕ). IsUnion (take (old + 1) image) (take n other) new) same
          (union_more image other old (index - old) map new m lt is.union_is lays);
      ordered = omega (arith, is.ordered);
      old_within = omega arith;
      new_within = omega (arith, is.new_within);
    }

pub united_new : (image other : List Run) (index old : ℕ) (map new : List Run) → AreMaximal 0 (2 ^ 32) other → index - old < length other →
    IsUnited image other index old map → Lays (run_at other (index - old)) map new → IsUnited image other (index + 1) old new
united_new image other index old map new m lt is lays =
    let place = index - old in
    let same : place + 1 ≡ index + 1 - old = omega (arith, is.ordered) in
    let more = union_more other image place old map new m lt (union_swap (take old image) (take place other) map is.union_is) lays in
    record {
      union_is = subst (λ (n : ℕ). IsUnion (take old image) (take n other) new) same (union_swap (take (place + 1) other) (take old image) new more);
      ordered = omega (arith, is.ordered);
      old_within = is.old_within;
      new_within = omega (arith, is.ordered);
    }

pub united_all : (image other : List Run) (index old : ℕ) (union : List Run) → index ≡ length image + length other → IsUnited image other index old union →
    IsUnion image other union
united_all image other index old union end is =
    union_all image other union old (index - old) (omega (arith, end, is.ordered, is.old_within, is.new_within))
    (omega (arith, end, is.ordered, is.old_within, is.new_within)) is.union_is
