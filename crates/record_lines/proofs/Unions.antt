-- The union of runs, in whatever order they are added. So lines may be gathered first, and added by rising address.
use Rattle.std.proofs.Common.{◌≡◌, ◌+◌, ◌<◌, ◌∙◌, ℕ, List, [], ◌∷◌, ◌++◌, length, get_or, take, Some, None, Result, Ok, Err, Bool, true, false, cond, refl, sym}
use Rattle.std.proofs.Common.{ap, subst, arith}
use Rattle.std.specs.Result.{OnOk, result_ok}
use Rattle.std.specs.List.{All}
use Rattle.std.specs.List.Sorted.{IsPermutation}
use Rattle.std.proofs.lemmas.List.{take_more}
use Rattle.std.proofs.lemmas.List.Elements.{All-nil, All-cons, All-head, All-tail, All-push, All-weaker, All-get_or}
use Rattle.std.proofs.lemmas.List.Sorted.{All-permutation, IsPermutation-sym}
use Rattle.byte_map.specs.Image.{Run, holds, byte_of, byte_at}
use Rattle.byte_map.specs.Laying.{Lays}
use Rattle.byte_map.proofs.Runs.{held_to, holder}
use Rattle.record_lines.specs.Gathered.{HasRun, IsUnionOf}

-- what a call ensures if it answers a value
pub where_some : {T E P : Type 0} (r : Result T E) (v : T) → result_ok r ≡ Some v → OnOk r P → P
where_some (Ok value) v is p = p
where_some (Err fault) v is p = absurd (cc)

-- what holds for each element of a list holds for each of its two parts
module _ {X : Type 0} (P : X → Type 0) where
  pub All-back : (xs ys : List X) → All P (xs ++ ys) → All P ys
  All-back [] ys all = all
  All-back (x ∷ xs) ys all = All-back xs ys (All-tail P x (xs ++ ys) all)

  pub All-front : (xs ys : List X) → All P (xs ++ ys) → All P xs
  All-front [] ys all = All-nil P
  All-front (x ∷ xs) ys all = All-cons P x xs (All-head P x (xs ++ ys) all) (All-front xs ys (All-tail P x (xs ++ ys) all))

-- no run holds an address at which their map has no byte
none_holds_first : (r : Run) (rs : List Run) (a : ℕ) (b : Bool) → holds r a ≡ b → cond b (Some (byte_of r a)) (byte_at rs a) ≡ None →
    (byte_at rs a ≡ None → All (λ run. holds run a ≡ false) rs) → All (λ run. holds run a ≡ false) (r ∷ rs)
none_holds_first r rs a true held none later = absurd (cc)
none_holds_first r rs a false held none later = All-cons (λ (run : Run). holds run a ≡ false) r rs held (later none)

pub none_holds : (runs : List Run) (a : ℕ) → byte_at runs a ≡ None → All (λ run. holds run a ≡ false) runs
none_holds [] a none = All-nil (λ (run : Run). holds run a ≡ false)
none_holds (r ∷ rs) a none = none_holds_first r rs a (holds r a) refl none (λ later. none_holds rs a later)

-- an image with all bytes of some runs has those of their map
pub part_of : (runs image : List Run) (a byte : ℕ) → All (HasRun image) runs → byte_at runs a ≡ Some byte → byte_at image a ≡ Some byte
part_of runs image a byte all is =
    let (k, lt, held, byte_is) = holder runs a byte is in
    All-get_or (HasRun image) runs k (record { at = 0; bytes = [] }) lt all a held ∙ ap Some (sym byte_is)

module _ (piece : Run) (old new : List Run) (lays : Lays piece old new) where
  -- an image keeps its bytes when a run is added
  laid_keeps : (a byte : ℕ) → byte_at old a ≡ Some byte → byte_at new a ≡ Some byte
  laid_keeps a byte is = lays.union a ∙ by (holds piece a) refl
    where
      by : (b : Bool) → holds piece a ≡ b → cond b (Some (byte_of piece a)) (byte_at old a) ≡ Some byte
      by true held = let below = held_to piece a held in ap Some (sym (lays.agrees a byte (omega (arith, below, lays.fits)) held is))
      by false held = is

  laid_has : HasRun new piece
  laid_has a held = lays.union a ∙ ap (λ (b : Bool). cond b (Some (byte_of piece a)) (byte_at old a)) held

  laid_only : (a : ℕ) → holds piece a ≡ false → byte_at old a ≡ None → byte_at new a ≡ None
  laid_only a not_held none = lays.union a ∙ ap (λ (b : Bool). cond b (Some (byte_of piece a)) (byte_at old a)) not_held ∙ none

  -- the union with one more run
  pub laid_one : (runs : List Run) → IsUnionOf runs old → IsUnionOf (runs ++ piece ∷ []) new
  laid_one runs union =
      record {
        maximal = lays.maximal;
        all = All-push (HasRun new) runs piece (All-weaker (HasRun old) (HasRun new) (λ run has a held. laid_keeps a (byte_of run a) (has a held)) runs
            union.all) laid_has;
        only = λ a none. laid_only a
            (All-head (λ (run : Run). holds run a ≡ false) piece [] (All-back (λ (run : Run). holds run a ≡ false) runs (piece ∷ []) none))
            (union.only a (All-front (λ (run : Run). holds run a ≡ false) runs (piece ∷ []) none));
      }

-- the union of the first runs of a list and the next one
pub union_more : (runs : List Run) (index : ℕ) (run : Run) (old new : List Run) → index < length runs →
    get_or runs index (record { at = 0; bytes = [] }) ≡ run → Lays run old new → IsUnionOf (take index runs) old → IsUnionOf (take (index + 1) runs) new
union_more runs index run old new lt is lays union =
    subst (λ (rs : List Run). IsUnionOf rs new) (sym (take_more runs index (record { at = 0; bytes = [] }) lt ∙ ap (λ (r : Run). take index runs ++ r ∷ []) is))
    (laid_one run old new lays (take index runs) union)

-- the union of runs doesn't depend on their order
pub union_permuted : (runs other image : List Run) → IsPermutation runs other → IsUnionOf other image → IsUnionOf runs image
union_permuted runs other image moved union =
    record {
      maximal = union.maximal;
      all = All-permutation (HasRun image) other runs (IsPermutation-sym runs other moved) union.all;
      only = λ a none. union.only a (All-permutation (λ (run : Run). holds run a ≡ false) runs other moved none);
    }
