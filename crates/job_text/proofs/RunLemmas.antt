-- A run added after the others, for `add_piece`.
use Rattle.std.proofs.Common.{◌≡◌, ◌≤◌, ◌<◌, ◌+◌, ◌-◌, ◌^◌, ℕ, zero, suc, Bool, true, false, cond, List, [], ◌∷◌, ◌++◌, length, get_or, Option, Some, None}
use Rattle.std.proofs.Common.{refl, sym, ap, subst, ◌∙◌, inl, inr, arith, length-append}
use Rattle.std.proofs.lemmas.Bool.{cases_lt}
use Rattle.std.proofs.lemmas.List.{get_or_append_left, get_or-append_right}
use Rattle.byte_map.specs.Image.{Run, addresses, run_at, end_of, holds, byte_of, byte_at, AreMaximal}
use Rattle.byte_map.specs.Laying.{Lays, IsFirstClash}
use Rattle.byte_map.proofs.Runs.{holds_between, holds_no_lower, holds_no_higher, held_from, held_to, not_held, maximal_put, none_of, or_else, byte_at-append}
use Rattle.byte_map.proofs.Joined.{one_run, no_run}
use Rattle.byte_map.proofs.Sides.{at_left, at_right}
use Rattle.byte_map.proofs.OneList.{one_list}
use Rattle.board_file.specs.declared.region.Region.{Region}
use Rattle.job_text.specs.Fits.{AreCovered}
use Rattle.job_text.specs.Runs.{EndBelow, EndBy, AreShort, run_of, with_run}
use Rattle.job_text.proofs.CoverLemmas.{AreSmall, each_covered, covers_small}

-- where a run after all others begins, no earlier run has a byte from there on
none_before : (image : List Run) (r : Run) (a : ℕ) → EndBelow r.at image → r.at ≤ a → byte_at image a ≡ None
none_before image r a below from = none_of image a (λ k lt. holds_no_higher (run_at image k) a (let ends = below k lt in omega (arith, ends, from)))

or_none : (o : Option ℕ) → or_else o None ≡ o
or_none None = refl
or_none (Some x) = refl

same_map : (image : List Run) (r : Run) (a : ℕ) → EndBelow r.at image → byte_at (r ∷ image) a ≡ byte_at (image ++ r ∷ []) a
same_map image r a below = by_test (holds r a) refl
  where
    by_test : (b : Bool) → holds r a ≡ b → byte_at (r ∷ image) a ≡ byte_at (image ++ r ∷ []) a
    by_test true is = rw (byte_at-append image (r ∷ []) a, none_before image r a below (held_from r a is), is) refl
    by_test false is = rw (byte_at-append image (r ∷ []) a, is) (sym (or_none (byte_at image a)))

-- an image stays maximal when a run is added after it and touches none
pub maximal_behind : (low end : ℕ) (image : List Run) (r : Run) → AreMaximal low end image → low ≤ r.at → EndBelow r.at image → 1 ≤ length r.bytes →
    end_of r ≤ end
    → AreMaximal low end (image ++ r ∷ [])
maximal_behind low end image r m from below some ends = maximal_put low low end image r [] m (from, some, ends, tt) from below

-- a run laid after all others becomes the last one
pub laid_behind : (image new : List Run) (r : Run) → AreMaximal 0 (2 ^ 32) image → EndBelow r.at image → 1 ≤ length r.bytes → end_of r ≤ 2 ^ 32 →
    Lays r image new
    → new ≡ image ++ r ∷ []
laid_behind image new r m below some ends lays =
    one_list 0 (2 ^ 32) new (image ++ r ∷ []) lays.maximal (maximal_behind 0 (2 ^ 32) image r m (omega arith) below some ends)
    (λ a. lays.union a ∙ same_map image r a below)

-- a run after all others clashes with none
pub no_clash : (image : List Run) (r : Run) (at old new : ℕ) → EndBy r.at image → IsFirstClash r image at old new → ⊥
no_clash image r at old new by clash =
    let from = held_from r at clash.held in
    let none : byte_at image at ≡ None = none_of image at (λ k lt. holds_no_higher (run_at image k) at (let ends = by k lt in omega (arith, ends, from))) in
    let some : byte_at image at ≡ Some old = clash.old_is in
    absurd cc

-- a piece after a run that ends where the piece begins makes a longer run
same_map_more : (image : List Run) (r piece : Run) (a : ℕ) → EndBelow r.at image → 1 ≤ length r.bytes → piece.at ≡ end_of r
    → byte_at (piece ∷ image ++ r ∷ []) a ≡ byte_at (image ++ run_of r.at (r.bytes ++ piece.bytes) ∷ []) a
same_map_more image r piece a below some joins = by_piece (holds piece a) refl
  where
    both : Run
    both = run_of r.at (r.bytes ++ piece.bytes)

    ends : end_of both ≡ end_of piece
    ends = omega (arith, joins, length-append r.bytes piece.bytes)

    split : (s : Run) → byte_at (image ++ s ∷ []) a ≡ or_else (byte_at image a) (byte_at (s ∷ []) a)
    split s = byte_at-append image (s ∷ []) a

    later : (from : end_of r ≤ a) (to : a < end_of piece) → byte_of both a ≡ byte_of piece a
    later from to =
        let index : a - r.at - length r.bytes ≡ a - piece.at = omega (arith, joins, from) in
        get_or-append_right r.bytes piece.bytes (length r.bytes) (a - r.at) 0 refl (omega (arith, from)) ∙ ap (λ (n : ℕ). get_or piece.bytes n 0) index

    by_run : (b : Bool) → holds r a ≡ b → holds piece a ≡ false → byte_at (r ∷ []) a ≡ byte_at (both ∷ []) a
    by_run true held out =
        let from = held_from r a held in
        let to = held_to r a held in
        one_run r a (byte_of r a) held refl
        ∙ sym (one_run both a (byte_of r a) (holds_between both a from (omega (arith, to, ends, joins)))
        (get_or_append_left r.bytes piece.bytes 0 (a - r.at) (omega (arith, from, to))))
    by_run false held out = no_run r a held ∙ sym (no_run both a (elim (cases_lt a r.at) [
      | inl under ↦ holds_no_lower both a under
      | inr from ↦ let behind = not_held r a held from in let past = not_held piece a out (omega (arith, joins, behind)) in
          holds_no_higher both a (omega (arith, ends, past))
    ]))

    by_piece : (b : Bool) → holds piece a ≡ b → byte_at (piece ∷ image ++ r ∷ []) a ≡ byte_at (image ++ both ∷ []) a
    by_piece true held =
        let from = held_from piece a held in
        let to = held_to piece a held in
        let none = none_before image r a below (omega (arith, joins, from)) in
        ap (λ (b : Bool). cond b (Some (byte_of piece a)) (byte_at (image ++ r ∷ []) a)) held
        ∙ sym (split both ∙ ap (λ (o : Option ℕ). or_else o (byte_at (both ∷ []) a)) none
        ∙ one_run both a (byte_of piece a) (holds_between both a (omega (arith, joins, from)) (omega (arith, ends, to)))
        (later (omega (arith, joins, from)) to))
    by_piece false out =
        ap (λ (b : Bool). cond b (Some (byte_of piece a)) (byte_at (image ++ r ∷ []) a)) out
        ∙ split r ∙ ap (or_else (byte_at image a)) (by_run (holds r a) refl out) ∙ sym (split both)

-- bytes laid where the last run ends extend that run
laid_on : (image new : List Run) (r piece : Run) → AreMaximal 0 (2 ^ 32) image → EndBelow r.at image → 1 ≤ length r.bytes → piece.at ≡ end_of r →
    end_of piece ≤ 2 ^ 32 → Lays piece (image ++ r ∷ []) new
    → new ≡ image ++ run_of r.at (r.bytes ++ piece.bytes) ∷ []
laid_on image new r piece m below some joins ends lays =
    let both : Run = run_of r.at (r.bytes ++ piece.bytes) in
    let long = length-append r.bytes piece.bytes in
    one_list 0 (2 ^ 32) new (image ++ both ∷ []) lays.maximal
    (maximal_behind 0 (2 ^ 32) image both m (omega arith) below (omega (arith, some, long)) (omega (arith, joins, ends, long)))
    (λ a. lays.union a ∙ same_map_more image r piece a below some joins)

-- one more piece of a run is laid
pub laid_more : (image new : List Run) (at : ℕ) (bytes piece : List ℕ) → AreMaximal 0 (2 ^ 32) image → EndBelow at image → 1 ≤ length piece →
    at + length bytes + length piece ≤ 2 ^ 32
    → Lays (run_of (at + length bytes) piece) (with_run image at bytes) new → new ≡ with_run image at (bytes ++ piece)
laid_more image new at [] [] m below some ends lays = absurd (omega arith)
laid_more image new at [] (p ∷ ps) m below some ends lays =
    let r : Run = run_of at (p ∷ ps) in
    let same : at + 0 ≡ at = omega arith in
    laid_behind image new r m below some (omega (arith, ends)) (subst (λ (n : ℕ). Lays (run_of n (p ∷ ps)) image new) same lays)
laid_more image new at (b ∷ bs) piece m below some ends lays = laid_on image new (run_of at (b ∷ bs)) (run_of (at + length (b ∷ bs)) piece) m below
    (omega arith) refl (omega (arith, ends)) lays

-- the image and the run added so far end where the next piece begins
pub with_run_ends : (image : List Run) (at : ℕ) (bytes : List ℕ) → EndBelow at image → EndBy (at + length bytes) (with_run image at bytes)
with_run_ends image at [] below k lt = let ends = below k lt in omega (arith, ends)
with_run_ends image at (b ∷ bs) below k lt = elim (cases_lt k (length image)) [
  | inl first ↦ let ends = below k first in subst (λ (r : Run). end_of r ≤ at + length (b ∷ bs)) (sym (at_left image (run_of at (b ∷ bs) ∷ []) k first))
      (omega (arith, ends))
  | inr last ↦
      let is : k - length image ≡ 0 = omega (arith, lt, last, length-append image (run_of at (b ∷ bs) ∷ [])) in
      subst (λ (r : Run). end_of r ≤ at + length (b ∷ bs)) (sym (at_right image (run_of at (b ∷ bs) ∷ []) k last ∙ ap (run_at (run_of at (b ∷ bs) ∷ [])) is))
      (omega arith)
]

-- runs in small regions fit their fields
pub short_runs : (regions : List Region) (rs : List Run) → AreSmall regions → length regions ≤ 2 → AreMaximal 0 addresses rs → AreCovered regions rs →
    AreShort rs
short_runs regions rs small few m covered k lt = each 0 rs m covered k lt
  where
    each : (low : ℕ) (rs : List Run) → AreMaximal low addresses rs → AreCovered regions rs → (k : ℕ) → k < length rs → length (run_at rs k).bytes < 2 ^ 32
    each low [] m covered k lt = absurd (omega arith)
    each low (r ∷ rs) m covered zero lt =
        let test = each_covered regions r.at (end_of r) few (omega (arith, m.1)) covered.0 in
        omega (arith, covers_small regions r.at (end_of r) small test)
    each low (r ∷ rs) m covered (suc k) lt = each (end_of r + 1) rs m.3 covered.1 k (omega (arith, lt))

-- runs that end below an address, and one more run after them
pub end_below_more : (image : List Run) (r : Run) (from next : ℕ) → EndBelow from image → from ≤ r.at → end_of r < next → EndBelow next (image ++ r ∷ [])
end_below_more [] r from next below le less zero lt = less
end_below_more [] r from next below le less (suc k) lt = absurd (omega arith)
end_below_more (x ∷ xs) r from next below le less zero lt = let first = below 0 (omega arith) in omega (arith, first, le, less)
end_below_more (x ∷ xs) r from next below le less (suc k) lt = end_below_more xs r from next (λ j l. below (suc j) (omega (arith, l))) le less k
    (omega (arith, lt))
