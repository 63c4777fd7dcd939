-- Marks of the pending bytes. By them a record knows which bytes a stop may lose.
use Rattle.std.proofs.Common.{◌≡◌, ◌⊎◌, ⊎_elim, inl, inr, ◌<◌, ◌≤◌, ◌+◌, ◌-◌, ◌∙◌, ap, subst, sym, refl, ℕ, List, ◌∷◌, ◌++◌, Bool, true, false, length, get_or}
use Rattle.std.proofs.Common.{take, drop, max, replicate, arith, length-append, length-take, length-drop}
use Rattle.std.proofs.lemmas.List.{get_or-take, get_or-drop, get_or_append_left, get_or-append_right, get_or-replicate, get_or_past, length-replicate}
use Rattle.std.proofs.lemmas.Bool.{cases_lt, false≢true}
use Rattle.bench_model.specs.Kept.{Kept, IsWritten, IsPending, IsFilled, all_synced, after_write, after_cut}
use Rattle.bench_model.specs.Record.{Held, after, handed, event_of, marked, marked_by, CanMark, IsMarked}
use Rattle.bench_model.specs.declared.change.Change.{Change}
use Rattle.bench_model.specs.declared.change.Change.TheVariants.{Wrote, Cut, Synced, Opened, Settled, Filled, BrokenOff}

module _ (from to : ℕ) (old : List Bool) (order : from ≤ to) (inside : from ≤ length old) where
  front-long : length (take from old) ≡ from
  front-long = omega (arith, length-take from old, inside)

  head-long : length (take from old ++ replicate (to - from) true) ≡ to
  head-long = omega (arith, length-append (take from old) (replicate (to - from) true), front-long, length-replicate {A = Bool} (to - from) true, order)

  pub length-marked : length (marked from to old) ≡ max (length old) to
  length-marked = omega (arith, length-append (take from old ++ replicate (to - from) true) (drop to old), head-long, length-drop to old)

  pub marked-front : (i : ℕ) → i < from → get_or (marked from to old) i true ≡ get_or old i true
  marked-front i below =
      get_or_append_left (take from old ++ replicate (to - from) true) (drop to old) true i (omega (arith, below, order, head-long))
      ∙ get_or_append_left (take from old) (replicate (to - from) true) true i (omega (arith, below, front-long))
      ∙ get_or-take from old i true below

  pub marked-within : (i : ℕ) → from ≤ i → i < to → get_or (marked from to old) i true ≡ true
  marked-within i above below =
      get_or_append_left (take from old ++ replicate (to - from) true) (drop to old) true i (omega (arith, below, head-long))
      ∙ get_or-append_right (take from old) (replicate (to - from) true) from i true front-long above
      ∙ get_or-replicate (to - from) (i - from) true true (omega (arith, above, below))

  pub marked-behind : (i : ℕ) → to ≤ i → get_or (marked from to old) i true ≡ get_or old i true
  marked-behind i above =
      let e : to + (i - to) ≡ i = omega (arith, above) in
      get_or-append_right (take from old ++ replicate (to - from) true) (drop to old) to i true head-long above
      ∙ get_or-drop to old (i - to) true
      ∙ ap (λ (j : ℕ). get_or old j true) e

out_of_range : (at n : ℕ) (k : Kept) (i : ℕ) → (i < at) ⊎ (at + n ≤ i) → IsWritten ((at, n) ∷ k.ranges) i ⊎ (k.least ≤ i) → IsPending k i
out_of_range at n k i out (inl (inl range)) = ⊎_elim (λ (b : i < at). absurd (omega (arith, b, range.0)))
    (λ (a : at + n ≤ i). absurd (omega (arith, a, range.1))) out
out_of_range at n k i out (inl (inr there)) = inl there
out_of_range at n k i out (inr late) = inr late

module _ (k : Kept) (synced : List ℕ) (marks : List Bool) (is : IsMarked k synced marks) where
  marked_write : (at : ℕ) (bytes : List ℕ) → at ≤ length marks → IsMarked (after_write at bytes k) synced (marked at (at + length bytes) marks)
  marked_write at bytes le =
      let n = length bytes in
      let order : at ≤ at + n = omega arith in record {
        same = is.same;
        long = omega (arith, length-marked at (at + n) marks order le, is.long);
        enough = is.enough;
        set = λ i below pending. ⊎_elim
            (λ (front : i < at). marked-front at (at + n) marks order le i front ∙
            is.set i (omega (arith, front, le, is.long)) (out_of_range at n k i (inl front) pending))
            (λ (later : at ≤ i). ⊎_elim
            (λ (within : i < at + n). marked-within at (at + n) marks order le i later within)
            (λ (back : at + n ≤ i). marked-behind at (at + n) marks order le i back ∙
            is.set i (omega (arith, back, below)) (out_of_range at n k i (inr back) pending))
            (cases_lt i (at + n)))
            (cases_lt i at);
        clear = λ i below none. ⊎_elim
            (λ (front : i < at). marked-front at (at + n) marks order le i front ∙ is.clear i below (λ there. none (inr there)))
            (λ (later : at ≤ i). ⊎_elim
            (λ (within : i < at + n). absurd (none (inl (later, within))))
            (λ (back : at + n ≤ i). marked-behind at (at + n) marks order le i back ∙ is.clear i below (λ there. none (inr there)))
            (cases_lt i (at + n)))
            (cases_lt i at);
      }

  before_cut : (len i : ℕ) → i < len → IsPending (after_cut len k) i → IsPending k i
  before_cut len i below (inl there) = inl there
  before_cut len i below (inr late) = inr (omega (arith, late, below))

  marked_cut : (len : ℕ) → len ≤ length marks → IsMarked (after_cut len k) synced (marked len (length marks) marks)
  marked_cut len le = record {
    same = is.same;
    long = omega (arith, length-marked len (length marks) marks le le, is.long);
    enough = omega (arith, is.enough);
    set = λ i below pending. ⊎_elim
        (λ (front : i < len). marked-front len (length marks) marks le le i front ∙ is.set i below (before_cut len i front pending))
        (λ (later : len ≤ i). marked-within len (length marks) marks le le i later (omega (arith, below, is.long)))
        (cases_lt i len);
    clear = λ i below none.
        let front : i < len = omega (arith, below) in
        marked-front len (length marks) marks le le i front ∙ is.clear i (omega (arith, below)) none;
  }

pub marked_after : (h : Held) (synced : List ℕ) (marks : List Bool) (longest : ℕ) (c : Change) (bytes : List ℕ) → IsMarked h.kept synced marks
    → handed c ≡ length bytes → CanMark c (length marks) longest → IsMarked (after (event_of c bytes) h).kept synced (marked_by c marks)
marked_after h synced marks longest (Wrote at len) bytes is long can =
    subst (λ (n : ℕ). IsMarked (after_write at bytes h.kept) synced (marked at (at + n) marks)) (sym long) (marked_write h.kept synced marks is at bytes can.0)
marked_after h synced marks longest (Cut len) bytes is long can = marked_cut h.kept synced marks is len can
marked_after h synced marks longest Synced bytes is long can = absurd can
marked_after h synced marks longest (Opened at len) bytes is long can = is
marked_after h synced marks longest (Settled len) bytes is long can = is
marked_after h synced marks longest (Filled value) bytes is long can = is
marked_after h synced marks longest (BrokenOff byte) bytes is long can = is

pub marked_synced : (file : List ℕ) → IsMarked (all_synced file) file (replicate (length file) false)
marked_synced file = record {
  same = refl;
  long = length-replicate (length file) false;
  enough = omega arith;
  set = λ i below pending. absurd (⊎_elim (λ (none : ⊥). none) (λ (late : length file ≤ i). omega (arith, below, late)) pending);
  clear = λ i below none. get_or-replicate (length file) i false true below;
}

pub clear_inside : (marks : List Bool) (i : ℕ) → get_or marks i true ≡ false → i < length marks
clear_inside marks i clear = ⊎_elim (λ (within : i < length marks). within)
    (λ (past : length marks ≤ i). absurd (false≢true (sym clear ∙ get_or_past marks i true past))) (cases_lt i (length marks))

-- a file where each byte is as its mark says
pub filled_by_marks : (k : Kept) (synced : List ℕ) (marks : List Bool) → IsMarked k synced marks → (value : ℕ) (file : List ℕ) → length file ≡ length marks
    → ((i : ℕ) → i < length marks → get_or marks i true ≡ true → get_or file i 0 ≡ value)
    → ((i : ℕ) → i < length marks → get_or marks i true ≡ false → get_or file i 0 ≡ get_or synced i 0) → IsFilled value k file
filled_by_marks k synced marks is value file long set clear = record {
  long = long ∙ is.long;
  pending = λ i below pending. set i (omega (arith, below, is.long)) (is.set i below pending);
  same = λ i below none.
      let free = is.clear i below none in
      clear i (clear_inside marks i free) free ∙ ap (λ (l : List ℕ). get_or l i 0) (sym is.same);
}
