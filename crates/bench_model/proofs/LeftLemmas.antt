-- What a write, a cut and a sync do to the files that a stop may leave.
use Rattle.std.proofs.Common.{◌≡◌, ◌⊎◌, ⊎_elim, inl, inr, ◌<◌, ◌≤◌, ◌+◌, ◌-◌, ◌∙◌, ap, sym, refl, ℕ, List, ◌∷◌, ◌++◌, length, get_or, take, drop, max}
use Rattle.std.proofs.Common.{replicate, arith, length-append, length-take, length-drop, append_assoc}
use Rattle.std.proofs.lemmas.List.{take_at, drop_at, drop_all, get_or-take, get_or-drop, get_or_append_left, get_or-append_right, length-replicate}
use Rattle.std.proofs.lemmas.Grind.{same_number_lists}
use Rattle.std.proofs.lemmas.Bool.{cases_lt}
use Rattle.bench_model.specs.Calls.{written, Torn, Cut}
use Rattle.bench_model.specs.Kept.{Kept, IsLeft, IsWritten, all_synced, after_write, after_cut}

-- `n` bytes of a list from a place on
stretch : ℕ → ℕ → List ℕ → List ℕ
stretch from n xs = take n (drop from (xs ++ replicate (from + n) 0))

length-stretch : (from n : ℕ) (xs : List ℕ) → length (stretch from n xs) ≡ n
unfolding stretch
length-stretch from n xs =
    omega (
      arith,
      length-take n (drop from (xs ++ replicate (from + n) 0)),
      length-drop from (xs ++ replicate (from + n) 0),
      length-append xs (replicate (from + n) 0),
      length-replicate {A = ℕ} (from + n) 0,
    )

get_or-stretch : (from n : ℕ) (xs : List ℕ) (i : ℕ) → i < n → from + i < length xs → get_or (stretch from n xs) i 0 ≡ get_or xs (from + i) 0
unfolding stretch
get_or-stretch from n xs i below inside =
    get_or-take n (drop from (xs ++ replicate (from + n) 0)) i 0 below
    ∙ get_or-drop from (xs ++ replicate (from + n) 0) i 0
    ∙ get_or_append_left xs (replicate (from + n) 0) 0 (from + i) inside

length-front : (n : ℕ) (xs : List ℕ) → n ≤ length xs → length (take n xs) ≡ n
length-front n xs le = omega (arith, length-take n xs)

-- a list that begins as f and continues with a stretch of xs
module _ (at n : ℕ) (f xs : List ℕ) (le : at ≤ length f) where
  joined : List ℕ
  joined = take at f ++ stretch at n xs

  length-joined : length joined ≡ at + n
  unfolding joined
  length-joined = omega (arith, length-append (take at f) (stretch at n xs), length-front at f le, length-stretch at n xs)

  take-joined : take at joined ≡ take at f
  unfolding joined
  take-joined = take_at (take at f) (stretch at n xs) at (length-front at f le)

  take-joined-append : (back : List ℕ) → take at (joined ++ back) ≡ take at f
  unfolding joined
  take-joined-append back =
      ap (λ (l : List ℕ). take at l) (append_assoc (take at f) (stretch at n xs) back)
      ∙ take_at (take at f) (stretch at n xs ++ back) at (length-front at f le)

  front-joined : (i : ℕ) → i < at → get_or joined i 0 ≡ get_or f i 0
  unfolding joined
  front-joined i below = get_or_append_left (take at f) (stretch at n xs) 0 i (omega (arith, below, length-front at f le)) ∙ get_or-take at f i 0 below

  back-joined : (i : ℕ) → at ≤ i → i < at + n → i < length xs → get_or joined i 0 ≡ get_or xs i 0
  unfolding joined
  back-joined i from to inside =
      get_or-append_right (take at f) (stretch at n xs) at i 0 (length-front at f le) from
      ∙ get_or-stretch at n xs (i - at) (omega (arith, from, to)) (omega (arith, from, inside))
      ∙ (let e : at + (i - at) ≡ i = omega (arith, from) in ap (λ (j : ℕ). get_or xs j 0) e)

in_range : (at n : ℕ) (ranges : List (ℕ × ℕ)) (i : ℕ) → (i < at) ⊎ (at + n ≤ i) → (IsWritten ranges i → ⊥) → IsWritten ((at, n) ∷ ranges) i → ⊥
in_range at n ranges i out none (inl range) = ⊎_elim (λ (b : i < at). absurd (omega (arith, b, range.0)))
    (λ (a : at + n ≤ i). absurd (omega (arith, a, range.1))) out
in_range at n ranges i out none (inr there) = none there

module _ (k : Kept) (read : IsLeft k k.file) (enough : k.least ≤ length k.synced) where
  module _ (at : ℕ) (bytes : List ℕ) (le : at ≤ length k.file) where
    abbrev Origin : List ℕ → Type 0
    Origin f = (d : List ℕ) × IsLeft k d × Torn at (length bytes) d f

    -- a file that ends before the range
    short : (f : List ℕ) → IsLeft (after_write at bytes k) f → length f ≤ at → Origin f
    short f left ends = (
      f,
      record {
        no_shorter = left.no_shorter;
        no_longer = omega (arith, ends, le, read.no_longer);
        same = λ i below none. left.same i below (in_range at (length bytes) k.ranges i (inl (omega (arith, below, ends, left.no_shorter))) none);
      },
      record { before = refl; after = refl; no_shorter = omega arith; no_longer = omega arith },
    )

    -- a file that ends within the range
    middle : (f : List ℕ) → IsLeft (after_write at bytes k) f → at < length f → length f ≤ at + length bytes → Origin f
    middle f left from to =
        let m = k.least - at in
        let inside : at ≤ length f = omega (arith, from) in
        let long = length-joined at m f k.synced inside in (
          joined at m f k.synced inside,
          record {
            no_shorter = omega (arith, long);
            no_longer = omega (arith, long, le, read.no_longer, read.no_shorter);
            same = λ i below none. ⊎_elim
                (λ (front : i < at). front-joined at m f k.synced inside i front ∙ left.same i below (in_range at (length bytes) k.ranges i (inl front) none))
                (λ (back : at ≤ i). back-joined at m f k.synced inside i back (omega (arith, below, back)) (omega (arith, below, enough)))
                (cases_lt i at);
          },
          record {
            before = sym (take-joined at m f k.synced inside);
            after = drop_all (at + length bytes) f to ∙ sym (drop_all (at + length bytes) (joined at m f k.synced inside)
                (omega (arith, long, left.no_shorter, to)));
            no_shorter = omega (arith, long, left.no_shorter, from);
            no_longer = omega (arith, to);
          },
        )

    -- a file that ends after the range
    behind : (f : List ℕ) → IsLeft (after_write at bytes k) f → at + length bytes < length f → Origin f
    behind f left past =
        let m = length bytes in
        let inside : at ≤ length f = omega (arith, past) in
        let front = joined at m f k.synced inside in
        let long = length-joined at m f k.synced inside in
        let back = drop (at + m) f in
        let back-long = length-drop (at + m) f in
        let whole : length (front ++ back) ≡ length f = omega (arith, length-append front back, long, back-long, past) in (
          front ++ back,
          record {
            no_shorter = omega (arith, whole, left.no_shorter);
            no_longer = omega (arith, whole, left.no_longer, past);
            same = λ i below none. ⊎_elim
                (λ (head : i < at + m). get_or_append_left front back 0 i (omega (arith, head, long)) ∙ ⊎_elim
                (λ (first : i < at). front-joined at m f k.synced inside i first ∙ left.same i below (in_range at m k.ranges i (inl first) none))
                (λ (second : at ≤ i). back-joined at m f k.synced inside i second head (omega (arith, below, enough)))
                (cases_lt i at))
                (λ (tail : at + m ≤ i).
                get_or-append_right front back (at + m) i 0 long tail
                ∙ get_or-drop (at + m) f (i - (at + m)) 0
                ∙ (let e : at + m + (i - (at + m)) ≡ i = omega (arith, tail) in ap (λ (j : ℕ). get_or f j 0) e)
                ∙ left.same i below (in_range at m k.ranges i (inr tail) none))
                (cases_lt i (at + m));
          },
          record {
            before = sym (take-joined-append at m f k.synced inside back);
            after = sym (drop_at front back (at + m) long);
            no_shorter = omega (arith, whole);
            no_longer = omega (arith, whole);
          },
        )

    pub torn : (f : List ℕ) → IsLeft (after_write at bytes k) f → Origin f
    torn f left = ⊎_elim
        (λ (from : at < length f). ⊎_elim
        (λ (past : at + length bytes < length f). behind f left past)
        (λ (to : length f ≤ at + length bytes). middle f left from to)
        (cases_lt (at + length bytes) (length f)))
        (λ (ends : length f ≤ at). short f left ends)
        (cases_lt at (length f))

  module _ (len : ℕ) (le : len ≤ length k.file) where
    pub cut_back : (f : List ℕ) → IsLeft (after_cut len k) f → (d : List ℕ) × IsLeft k d × Cut len d f
    cut_back f left = ⊎_elim
        (λ (short : length f < len). (
          f,
          record {
            no_shorter = omega (arith, short, left.no_shorter);
            no_longer = left.no_longer;
            same = λ i below none. left.same i (omega (arith, below, short, left.no_shorter)) none;
          },
          record { front = refl; no_longer = omega arith },
        ))
        (λ (inside : len ≤ length f).
        let m = max (length f) k.least - len in
        let long = length-joined len m f k.synced inside in (
          joined len m f k.synced inside,
          record {
            no_shorter = omega (arith, long);
            no_longer = omega (arith, long, left.no_longer, read.no_shorter, read.no_longer, inside);
            same = λ i below none. ⊎_elim
                (λ (front : i < len). front-joined len m f k.synced inside i front ∙ left.same i (omega (arith, below, front)) none)
                (λ (back : len ≤ i). back-joined len m f k.synced inside i back (omega (arith, below, back)) (omega (arith, below, enough)))
                (cases_lt i len);
          },
          record { front = sym (take-joined len m f k.synced inside); no_longer = omega (arith, long) },
        ))
        (cases_lt (length f) len)

    pub read_cut : IsLeft (after_cut len k) (take len k.file)
    read_cut = record {
      no_shorter = omega (arith, length-take len k.file, le);
      no_longer = omega (arith, length-take len k.file, read.no_longer);
      same = λ i below none. get_or-take len k.file i 0 (omega (arith, below)) ∙ read.same i (omega (arith, below)) none;
    }

  pub length-written : (at : ℕ) (bytes old : List ℕ) → at ≤ length old → length (written at bytes old) ≡ max (length old) (at + length bytes)
  length-written at bytes old le =
      omega (
        arith,
        length-append (take at old ++ bytes) (drop (at + length bytes) old),
        length-append (take at old) bytes,
        length-front at old le,
        length-drop (at + length bytes) old,
      )

  pub read_write : (at : ℕ) (bytes : List ℕ) → at ≤ length k.file → IsLeft (after_write at bytes k) (written at bytes k.file)
  read_write at bytes le =
      let long = length-written at bytes k.file le in
      let head : length (take at k.file ++ bytes) ≡ at + length bytes = omega (arith, length-append (take at k.file) bytes, length-front at k.file le) in
      record {
        no_shorter = omega (arith, long, read.no_shorter);
        no_longer = omega (arith, long, read.no_longer);
        same = λ i below none. ⊎_elim
            (λ (front : i < at).
            get_or_append_left (take at k.file ++ bytes) (drop (at + length bytes) k.file) 0 i (omega (arith, front, head))
            ∙ get_or_append_left (take at k.file) bytes 0 i (omega (arith, front, length-front at k.file le))
            ∙ get_or-take at k.file i 0 front
            ∙ read.same i below (λ there. none (inr there)))
            (λ (later : at ≤ i). ⊎_elim
            (λ (within : i < at + length bytes). absurd (none (inl (later, within))))
            (λ (back : at + length bytes ≤ i).
            get_or-append_right (take at k.file ++ bytes) (drop (at + length bytes) k.file) (at + length bytes) i 0 head back
            ∙ get_or-drop (at + length bytes) k.file (i - (at + length bytes)) 0
            ∙ (let e : at + length bytes + (i - (at + length bytes)) ≡ i = omega (arith, back) in ap (λ (j : ℕ). get_or k.file j 0) e)
            ∙ read.same i below (λ there. none (inr there)))
            (cases_lt i (at + length bytes)))
            (cases_lt i at);
      }

pub read_synced : (file : List ℕ) → IsLeft (all_synced file) file
read_synced file = record { no_shorter = omega arith; no_longer = omega arith; same = λ i below none. refl }

pub synced_only : (file f : List ℕ) → IsLeft (all_synced file) f → f ≡ file
synced_only file f left = same_number_lists f file (omega (arith, left.no_shorter, left.no_longer))
    (λ i below. left.same i (omega (arith, below, left.no_longer)) (λ none. none))

-- each file that a step can make of an allowed file is allowed, so the rule and the steps agree
module _ (k : Kept) where
  same_in_front : (n : ℕ) (d f : List ℕ) → take n f ≡ take n d → (i : ℕ) → i < n → get_or f i 0 ≡ get_or d i 0
  same_in_front n d f same i below = sym (get_or-take n f i 0 below) ∙ ap (λ (l : List ℕ). get_or l i 0) same ∙ get_or-take n d i 0 below

  same_behind : (n : ℕ) (d f : List ℕ) → drop n f ≡ drop n d → (i : ℕ) → n ≤ i → get_or f i 0 ≡ get_or d i 0
  same_behind n d f same i from =
      let e : n + (i - n) ≡ i = omega (arith, from) in
      ap (λ (j : ℕ). get_or f j 0) (sym e) ∙ sym (get_or-drop n f (i - n) 0) ∙ ap (λ (l : List ℕ). get_or l (i - n) 0) same ∙ get_or-drop n d (i - n) 0 ∙
      ap (λ (j : ℕ). get_or d j 0) e

  pub torn_on : (at : ℕ) (bytes d f : List ℕ) → IsLeft k d → Torn at (length bytes) d f → IsLeft (after_write at bytes k) f
  torn_on at bytes d f left step = record {
    no_shorter = omega (arith, left.no_shorter, step.no_shorter);
    no_longer = omega (arith, left.no_longer, step.no_longer);
    same = λ i below none. ⊎_elim
        (λ (front : i < at). same_in_front at d f step.before i front ∙ left.same i below (λ there. none (inr there)))
        (λ (later : at ≤ i). ⊎_elim
        (λ (within : i < at + length bytes). absurd (none (inl (later, within))))
        (λ (back : at + length bytes ≤ i). same_behind (at + length bytes) d f step.after i back ∙ left.same i below (λ there. none (inr there)))
        (cases_lt i (at + length bytes)))
        (cases_lt i at);
  }

  pub cut_on : (len : ℕ) (d f : List ℕ) → IsLeft k d → Cut len d f → IsLeft (after_cut len k) f
  cut_on len d f left step = record {
    no_shorter = omega (arith, left.no_shorter, ap length step.front, length-take len f, length-take len d);
    no_longer = omega (arith, left.no_longer, step.no_longer);
    same = λ i below none. same_in_front len d f step.front i (omega (arith, below)) ∙ left.same i (omega (arith, below)) none;
  }
