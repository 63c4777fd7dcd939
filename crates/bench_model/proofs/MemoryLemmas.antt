-- What each recorded call does to a bench in memory. Each call of `MemoryBench` meets the trait's clauses by its lemma here.
use Rattle.std.proofs.Common.{◌≡◌, ◌↔◌, ◌<◌, ◌≤◌, ◌+◌, ◌∙◌, ap, subst, sym, refl, ℕ, List, ◌++◌, length, take, drop, replicate, Option, Some, None, arith}
use Rattle.std.proofs.Common.{◌⊎◌, inl, inr, Bool, true, false, append_assoc, length-append, length-take, length-drop}
use Rattle.std.proofs.lemmas.List.{take_at, drop_at, length-replicate}
use Rattle.std.proofs.lemmas.Bool.{false≢true}
use Rattle.std.specs.Prelude.{IfSome, Ok}
use Rattle.std.specs.Option.{ForSome}
use Rattle.faults.specs.Counts.{HasCause}
use Rattle.faults.specs.FailingCalls.{Numbered, IsDue, went}
use Rattle.bench_model.specs.History.{left, Leaves, AddsNothing, Stays, LeftOnly}
use Rattle.bench_model.specs.Calls.{written, Torn, Cut, Follows, IsOpen}
use Rattle.bench_model.specs.State.{SameOutside}
use Rattle.bench_model.specs.Kept.{Kept, IsLeft, all_synced, after_write, after_cut}
use Rattle.bench_model.specs.Record.{Held, Event, Recorded, FileOf, CellsOf, wrote, cut, synced, opened, settled, filled, broken_off, after, broken, in_range}
use Rattle.bench_model.specs.Record.{held_now, half_of, noted}
use Rattle.bench_model.specs.Memory.{InStep}
use Rattle.bench_model.proofs.RecordLemmas.{replay-push, half_now, noted_leaves, noted_stays}
use Rattle.bench_model.proofs.LeftLemmas.{torn, cut_back, read_write, read_cut, read_synced, synced_only}

-- the record agrees with the contents after each call
module _ (h : Held) (file cells : List ℕ) (op : Option (ℕ × ℕ)) (s : InStep h file cells op) where
  pub read : IsLeft h.kept h.kept.file
  read = subst (λ (f : List ℕ). IsLeft h.kept f) (sym s.same_file) s.left

  pub step_wrote : (at : ℕ) (bytes : List ℕ) → at ≤ length file → InStep (after (wrote at bytes) h) (written at bytes file) cells op
  step_wrote at bytes le =
      let inside : at ≤ length h.kept.file = omega (arith, ap length s.same_file, le) in record {
        same_file = ap (λ (f : List ℕ). written at bytes f) s.same_file;
        same_cells = s.same_cells;
        same_operation = s.same_operation;
        left = subst (λ (f : List ℕ). IsLeft (after_write at bytes h.kept) (written at bytes f)) s.same_file (read_write h.kept read s.enough at bytes inside);
        enough = s.enough;
        older = omega (arith, s.older);
        in_range = s.in_range;
      }

  pub step_cut : (len : ℕ) → len ≤ length file → InStep (after (cut len) h) (take len file) cells op
  step_cut len le =
      let inside : len ≤ length h.kept.file = omega (arith, ap length s.same_file, le) in record {
        same_file = ap (λ (f : List ℕ). take len f) s.same_file;
        same_cells = s.same_cells;
        same_operation = s.same_operation;
        left = subst (λ (f : List ℕ). IsLeft (after_cut len h.kept) (take len f)) s.same_file (read_cut h.kept read s.enough len inside);
        enough = omega (arith, s.enough);
        older = s.older;
        in_range = s.in_range;
      }

  pub step_synced : InStep (after synced h) file cells op
  step_synced = record {
    same_file = s.same_file;
    same_cells = s.same_cells;
    same_operation = s.same_operation;
    left = subst (λ (f : List ℕ). IsLeft (all_synced h.kept.file) f) s.same_file (read_synced h.kept.file);
    enough = omega arith;
    older = omega arith;
    in_range = s.in_range;
  }

  none_in_range : (cs : List ℕ) → ForSome None (λ (range : ℕ × ℕ). (0 < range.1) × (range.0 + range.1 ≤ length cs))
  none_in_range cs range is = cc

  pub step_opened : (at len : ℕ) → 0 < len → at + len ≤ length cells → InStep (after (opened at len) h) file cells (Some (at, len))
  step_opened at len some le = record {
    same_file = s.same_file;
    same_cells = s.same_cells;
    same_operation = refl;
    left = s.left;
    enough = s.enough;
    older = s.older;
    in_range = λ range is. let e : (at, len) ≡ range = cc in subst (λ (r : ℕ × ℕ). (0 < r.1) × (r.0 + r.1 ≤ length cells)) e (some, le);
  }

  -- an operation that ends with these cells
  pub step_ended : (h' : Held) (new : List ℕ) → h'.kept ≡ h.kept → h'.cells ≡ new → h'.operation ≡ None → InStep h' file new None
  step_ended h' new same_kept same_cells none = record {
    same_file = ap (λ (k : Kept). k.file) same_kept ∙ s.same_file;
    same_cells = same_cells;
    same_operation = none;
    left = subst (λ (k : Kept). IsLeft k file) (sym same_kept) s.left;
    enough = subst (λ (k : Kept). k.least ≤ length k.synced) (sym same_kept) s.enough;
    older = subst (λ (k : Kept). length k.synced ≤ k.greatest) (sym same_kept) s.older;
    in_range = none_in_range new;
  }

  module _ (at len : ℕ) (is : op ≡ Some (at, len)) where
    ended_cells : (bytes : ℕ → List ℕ) → in_range bytes h.operation h.cells ≡ written at (bytes len) cells
    ended_cells bytes = ap (λ (o : Option (ℕ × ℕ)). in_range bytes o h.cells) (s.same_operation ∙ is) ∙
        ap (λ (c : List ℕ). written at (bytes len) c) s.same_cells

    pub within : at + len ≤ length cells
    within = (s.in_range (at, len) is).1

    pub step_settled : (bytes : List ℕ) → InStep (after (settled bytes) h) file (written at bytes cells) None
    step_settled bytes = step_ended (after (settled bytes) h) (written at bytes cells) refl (ended_cells (λ n. bytes)) refl

    pub step_filled : (value : ℕ) → InStep (after (filled value) h) file (written at (replicate len value) cells) None
    step_filled value = step_ended (after (filled value) h) (written at (replicate len value) cells) refl (ended_cells (λ n. replicate n value)) refl

    pub step_broken : (byte : Option ℕ) → InStep (after (broken_off byte) h) file (broken byte (Some (at, len)) cells) None
    step_broken None = step_ended (after (broken_off None) h) cells refl s.same_cells refl
    step_broken (Some value) = step_ended (after (broken_off (Some value)) h) (written at (replicate len value) cells) refl
        (ended_cells (λ n. replicate n value)) refl

  pub told : (x : List ℕ) → CellsOf h x ↔ SameOutside op cells x
  told x = (
    (λ at. subst (λ (o : Option (ℕ × ℕ)). SameOutside o cells x) s.same_operation (subst (λ (c : List ℕ). SameOutside h.operation c x) s.same_cells at)),
    (λ at. subst (λ (c : List ℕ). SameOutside h.operation c x) (sym s.same_cells)
        (subst (λ (o : Option (ℕ × ℕ)). SameOutside o cells x) (sym s.same_operation) at)),
  )

-- The cells after other bytes were written over a range.
module _ (cells : List ℕ) (at len : ℕ) (within : at + len ≤ length cells) (bytes : List ℕ) (long : length bytes ≡ len) where
  front-long : length (take at cells) ≡ at
  front-long = omega (arith, length-take at cells, within)

  head-long : length (take at cells ++ bytes) ≡ at + len
  head-long = omega (arith, length-append (take at cells) bytes, front-long, long)

  pub length-in_range : length (written at bytes cells) ≡ length cells
  length-in_range = omega (
    arith,
    length-append (take at cells ++ bytes) (drop (at + length bytes) cells),
    head-long,
    length-drop (at + length bytes) cells,
    within,
    long,
  )

  pub only_in_range : SameOutside (Some (at, len)) cells (written at bytes cells)
  only_in_range = (
    length-in_range,
    (ap (λ (l : List ℕ). take at l) (append_assoc (take at cells) bytes (drop (at + length bytes) cells)) ∙
        take_at (take at cells) (bytes ++ drop (at + length bytes) cells) at front-long),
    (drop_at (take at cells ++ bytes) (drop (at + length bytes) cells) (at + len) head-long ∙ ap (λ (n : ℕ). drop (at + n) cells) long),
  )

pub same_outside_all : (op : Option (ℕ × ℕ)) (cells x : List ℕ) → x ≡ cells → SameOutside op cells x
same_outside_all None cells x is = is
same_outside_all (Some range) cells x is = (ap length is, ap (λ (l : List ℕ). take range.0 l) is, ap (λ (l : List ℕ). drop (range.0 + range.1) l) is)

-- the cells after an operation is broken off
pub only_broken : (byte : Option ℕ) (at len : ℕ) (cells : List ℕ) → at + len ≤ length cells →
    SameOutside (Some (at, len)) cells (broken byte (Some (at, len)) cells)
only_broken None at len cells inside = same_outside_all (Some (at, len)) cells cells refl
only_broken (Some value) at len cells inside = only_in_range cells at len inside (replicate len value) (length-replicate len value)

pub length-broken : (byte : Option ℕ) (at len : ℕ) (cells : List ℕ) → at + len ≤ length cells → length (broken byte (Some (at, len)) cells) ≡ length cells
length-broken None at len cells inside = refl
length-broken (Some value) at len cells inside = length-in_range cells at len inside (replicate len value) (length-replicate len value)

-- a call that succeeded counts no fault
pub went_cause : {T E : Type 0} (value : T) (n new : Numbered) → new ≡ went n → HasCause {T = T} {E = E} n.faults new.faults (Ok value)
went_cause value n new is =
    let same : new.faults ≡ n.faults = ap (λ (k : Numbered). k.faults) is in
    record { later = omega (arith, same); on_fault = λ fault. absurd (false≢true fault); on_ok = λ ok. same }

-- a call failed because its number is to fail, or because there is no room
pub why_failed : (n : Numbered) {room : Bool} {Room : Type 0} → (Room → room ≡ true) → (room ≡ false) ⊎ IsDue n → IsDue n ⊎ (Room → ⊥)
why_failed n told (inl full) = inr (λ there. false≢true (sym full ∙ told there))
why_failed n told (inr due) = inl due

-- the bytes in the range of the open operation
pub in_open : (bytes : ℕ → List ℕ) (op : Option (ℕ × ℕ)) (at len : ℕ) → op ≡ Some (at, len) → (cells new : List ℕ) → new ≡ written at (bytes len) cells
    → IfSome op (λ (range : ℕ × ℕ). new ≡ written range.0 (bytes range.1) cells)
in_open bytes op at len is cells new items = subst (λ (o : Option (ℕ × ℕ)). IfSome o (λ (range : ℕ × ℕ). new ≡ written range.0 (bytes range.1) cells))
    (sym is) items

-- the length of the open operation
pub length-open : (n : ℕ) (op : Option (ℕ × ℕ)) (at len : ℕ) → IsOpen n op → op ≡ Some (at, len) → n ≡ len
length-open n op at len is_open is = sym (subst (λ (o : Option (ℕ × ℕ)). IsOpen n o) is is_open)

-- The record with one call more.
module _ (r r' : Recorded) (e : Event) (is : r' ≡ noted e r) where
  pub held-after : held_now r' ≡ after e (held_now r)
  held-after = ap (λ (q : Recorded). held_now q) is ∙ replay-push r.events e r.made

  pub in_step_after : (file cells : List ℕ) (op : Option (ℕ × ℕ)) → InStep (after e (held_now r)) file cells op → InStep (held_now r') file cells op
  in_step_after file cells op s = subst (λ (h : Held). InStep h file cells op) (sym held-after) s

  pub longest-after : r'.longest ≡ r.longest
  longest-after = ap (λ (q : Recorded). q.longest) is

  pub made-after : length r'.made.cells ≡ length r.made.cells
  made-after = ap (λ (q : Recorded). length q.made.cells) is

  pub greatest-after : (held_now r').kept.greatest ≡ (after e (held_now r)).kept.greatest
  greatest-after = ap (λ (h : Held). h.kept.greatest) held-after

  pub leaves_after : (L : Held → List ℕ → Type 0) (P : List ℕ → Type 0) → ((x : List ℕ) → L (held_now r) x → P x) →
      ((x : List ℕ) → L (after e (held_now r)) x → P x)
      → Leaves (half_of L r) (half_of L r') P
  leaves_after L P before next = subst (λ (q : Recorded). Leaves (half_of L r) (half_of L q) P) (sym is) (noted_leaves L r e P before next)

  pub file_stays_after : ((after e (held_now r)).kept ≡ (held_now r).kept) → Stays (half_of FileOf r) (half_of FileOf r')
  file_stays_after same = subst (λ (q : Recorded). Stays (half_of FileOf r) (half_of FileOf q)) (sym is) (noted_stays FileOf r e (λ x. (
    (λ at. subst (λ (k : Kept). IsLeft k x) same at),
    (λ at. subst (λ (k : Kept). IsLeft k x) (sym same) at),
  )))

  pub cells_stay_after : ((x : List ℕ) → CellsOf (after e (held_now r)) x ↔ CellsOf (held_now r) x) → Stays (half_of CellsOf r) (half_of CellsOf r')
  cells_stay_after same = subst (λ (q : Recorded). Stays (half_of CellsOf r) (half_of CellsOf q)) (sym is) (noted_stays CellsOf r e same)

  module _ (file cells : List ℕ) (op : Option (ℕ × ℕ)) (s : InStep (held_now r) file cells op) where
    now_read : IsLeft (held_now r).kept (held_now r).kept.file
    now_read = read (held_now r) file cells op s

    now_left : (f : List ℕ) → IsLeft (held_now r).kept f → left (half_of FileOf r) f
    now_left f at = (half_now FileOf r f).1 at

    -- a step of the cells leaves what is known of the cells before it and after it
    pub told_leaves : (file' cells' : List ℕ) (op' : Option (ℕ × ℕ)) → InStep (after e (held_now r)) file' cells' op' → (P : List ℕ → Type 0)
        → ((x : List ℕ) → SameOutside op cells x → P x) → ((x : List ℕ) → SameOutside op' cells' x → P x) → Leaves (half_of CellsOf r) (half_of CellsOf r') P
    told_leaves file' cells' op' s' P before next = leaves_after CellsOf P
        (λ x at. before x ((told (held_now r) file cells op s x).0 at))
        (λ x at. next x ((told (after e (held_now r)) file' cells' op' s' x).0 at))

    -- an operation opens
    pub opened_leaves : (at len : ℕ) → op ≡ None → 0 < len → at + len ≤ length cells → e ≡ opened at len →
        Leaves (half_of CellsOf r) (half_of CellsOf r') (left (half_of CellsOf r'))
    opened_leaves at len none some within same =
        let s' : InStep (after e (held_now r)) file cells (Some (at, len)) =
        subst (λ (d : Event). InStep (after d (held_now r)) file cells (Some (at, len))) (sym same)
        (step_opened (held_now r) file cells op s at len some within) in
        let s'' = in_step_after file cells (Some (at, len)) s' in
        let back = λ (x : List ℕ) (at_end : SameOutside (Some (at, len)) cells x). (half_now CellsOf r' x).1
        ((told (held_now r') file cells (Some (at, len)) s'' x).1 at_end) in
        told_leaves file cells (Some (at, len)) s' (left (half_of CellsOf r'))
        (λ x before. back x (same_outside_all (Some (at, len)) cells x (subst (λ (o : Option (ℕ × ℕ)). SameOutside o cells x) none before)))
        (λ x next. back x next)

    -- an operation ends within its range
    pub ended_adds_nothing : (cells' : List ℕ) → InStep (after e (held_now r)) file cells' None → SameOutside op cells cells' →
        AddsNothing (half_of CellsOf r) (half_of CellsOf r')
    ended_adds_nothing cells' s' only = told_leaves file cells' None s' (left (half_of CellsOf r))
        (λ x at. (half_now CellsOf r x).1 ((told (held_now r) file cells op s x).1 at))
        (λ x at. (half_now CellsOf r x).1 ((told (held_now r) file cells op s x).1 (subst (λ (l : List ℕ). SameOutside op cells l) (sym at) only)))

    pub wrote_leaves : (at : ℕ) (bytes : List ℕ) → at ≤ length file → e ≡ wrote at bytes →
        Leaves (half_of FileOf r) (half_of FileOf r') (Follows (Torn at (length bytes)) (half_of FileOf r))
    wrote_leaves at bytes le same = leaves_after FileOf (Follows (Torn at (length bytes)) (half_of FileOf r))
        (λ f now. (f, now_left f now, record { before = refl; after = refl; no_shorter = omega arith; no_longer = omega arith }))
        (λ f next.
        let from = torn (held_now r).kept now_read s.enough at bytes (omega (arith, ap length s.same_file, le)) f
        (subst (λ (d : Event). IsLeft (after d (held_now r)).kept f) same next) in
        (from.0, now_left from.0 from.1, from.2))

    pub cut_leaves : (len : ℕ) → len ≤ length file → e ≡ cut len → Leaves (half_of FileOf r) (half_of FileOf r') (Follows (Cut len) (half_of FileOf r))
    cut_leaves len le same = leaves_after FileOf (Follows (Cut len) (half_of FileOf r))
        (λ f now. (f, now_left f now, record { front = refl; no_longer = omega arith }))
        (λ f next.
        let from = cut_back (held_now r).kept now_read s.enough len (omega (arith, ap length s.same_file, le)) f
        (subst (λ (d : Event). IsLeft (after d (held_now r)).kept f) same next) in
        (from.0, now_left from.0 from.1, from.2))

    pub synced_adds_nothing : e ≡ synced → AddsNothing (half_of FileOf r) (half_of FileOf r')
    synced_adds_nothing same = leaves_after FileOf (left (half_of FileOf r))
        (λ f now. now_left f now)
        (λ f next. now_left f (subst (λ (x : List ℕ). IsLeft (held_now r).kept x)
        (sym (synced_only (held_now r).kept.file f (subst (λ (d : Event). IsLeft (after d (held_now r)).kept f) same next))) now_read))

    -- after a sync a stop leaves the file as a read gives it
    pub synced_leaves_only : e ≡ synced → LeftOnly file (half_of FileOf r')
    synced_leaves_only same f at =
        let is_synced : held_now r' ≡ after synced (held_now r) = held-after ∙ ap (λ (d : Event). after d (held_now r)) same in
        synced_only (held_now r).kept.file f (subst (λ (h : Held). IsLeft h.kept f) is_synced ((half_now FileOf r' f).0 at)) ∙ s.same_file
