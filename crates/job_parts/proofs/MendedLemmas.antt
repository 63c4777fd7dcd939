-- A job file with another hash: what a read of it gives, and what a stop may leave.
use Rattle.std.proofs.Common.{◌≡◌, ◌≤◌, ◌<◌, ◌+◌, ◌-◌, ◌∙◌, ◌++◌, inl, inr, ⊎_elim, ℕ, List, Bool, IsTrue, length, take, drop, get_or}
use Rattle.std.proofs.Common.{Result, Ok, Err, IfOk, OnOk, refl, sym, ap, arith}
use Rattle.std.proofs.lemmas.Bool.{cases_lt}
use Rattle.std.proofs.lemmas.Grind.{common_steps}
use Rattle.std.proofs.lemmas.List.{length-take, length-drop, length-append, get_or-take, get_or-drop, get_or_append_left, get_or-append_right}
use Rattle.std.proofs.lemmas.List.{get_or_default, same_lists, take_all}
use Rattle.faults.specs.Counts.{HasCause, Rose}
use Rattle.bench_model.specs.History.{AddsNothing, LeftOnly}
use Rattle.bench_model.specs.State.{BenchState, file_half, cells_half}
use Rattle.bench_model.specs.Calls.{written, CellsStay, Torn, Cut, Follows}
use Rattle.bench_model.specs.Does.{MeasuresFile, ReadsFile, WritesFile, CutsFile, SyncsFile}
use Rattle.bench_model.proofs.Moments.{leaves_here, stays_here}
use Rattle.bench_model.specs.declared.bench_fault.StoreFault.{StoreFault}
use Rattle.job_parts.specs.Mended.{mended_file, laid_byte, with_hash}

-- ---- its bytes

length_written : (hash file : List ℕ) → length hash ≡ 32 → length file ≤ length (written 8 hash file)
length_written hash file long =
    omega (
      arith,
      long,
      length-append (take 8 file ++ hash) (drop (8 + length hash) file),
      length-append (take 8 file) hash,
      length-take 8 file,
      length-drop (8 + length hash) file,
    )

pub length_mended : (hash file : List ℕ) → length hash ≡ 32 → length (mended_file hash file) ≡ length file
length_mended hash file long = omega (arith, length-take (length file) (written 8 hash file), length_written hash file long)

laid_before : (hash : List ℕ) (count place byte : ℕ) → place < 8 → byte ≡ laid_byte hash count place byte
laid_before hash count place byte before = grind (arith, common_steps)

laid_in : (hash : List ℕ) (count place byte : ℕ) → 8 ≤ place → place < 8 + count → get_or hash (place - 8) byte ≡ laid_byte hash count place byte
laid_in hash count place byte from to = grind (arith, common_steps)

laid_after : (hash : List ℕ) (count place byte : ℕ) → 8 + count ≤ place → byte ≡ laid_byte hash count place byte
laid_after hash count place byte after = grind (arith, common_steps)

-- nothing of the hash
pub laid_none : (hash : List ℕ) (place byte : ℕ) → byte ≡ laid_byte hash 0 place byte
laid_none hash place byte = ⊎_elim
    (λ (less : place < 8). laid_before hash 0 place byte less)
    (λ (from : 8 ≤ place). laid_after hash 0 place byte from)
    (cases_lt place 8)

-- a place that isn't that of the next byte of the hash
laid_other : (hash : List ℕ) (count place byte : ℕ) → (place ≡ 8 + count → ⊥) → laid_byte hash count place byte ≡ laid_byte hash (count + 1) place byte
laid_other hash count place byte other = ⊎_elim
    (λ (less : place < 8). sym (laid_before hash count place byte less) ∙ laid_before hash (count + 1) place byte less)
    (λ (from : 8 ≤ place). ⊎_elim
    (λ (less : place < 8 + count). sym (laid_in hash count place byte from less) ∙ laid_in hash (count + 1) place byte from (omega (arith, less)))
    (λ (after : 8 + count ≤ place). ⊎_elim
    (λ (same : place < 8 + count + 1). absurd (other (omega (arith, same, after))))
    (λ (past : 8 + count + 1 ≤ place). sym (laid_after hash count place byte after) ∙ laid_after hash (count + 1) place byte (omega (arith, past)))
    (cases_lt place (8 + count + 1)))
    (cases_lt place (8 + count)))
    (cases_lt place 8)

-- one byte of the hash more
pub laid_next : (hash : List ℕ) (count place old mid new : ℕ) → count < length hash → mid ≡ laid_byte hash count place old
    → (place ≡ 8 + count → new ≡ get_or hash count old) → ((place ≡ 8 + count → ⊥) → new ≡ mid) → new ≡ laid_byte hash (count + 1) place old
laid_next hash count place old mid new inside so_far here other = ⊎_elim
    (λ (less : place < 8 + count). other (λ is. absurd (omega (arith, less, is))) ∙ so_far
    ∙ laid_other hash count place old (λ is. absurd (omega (arith, less, is))))
    (λ (from : 8 + count ≤ place). ⊎_elim
    (λ (same : place < 8 + count + 1).
    let is : place ≡ 8 + count = omega (arith, from, same) in
    here is ∙ ap (λ (k : ℕ). get_or hash k old) (let k : count ≡ place - 8 = omega (arith, is) in k)
    ∙ laid_in hash (count + 1) place old (omega (arith, is)) (omega (arith, is)))
    (λ (past : 8 + count + 1 ≤ place). other (λ is. absurd (omega (arith, past, is))) ∙ so_far
    ∙ laid_other hash count place old (λ is. absurd (omega (arith, past, is))))
    (cases_lt place (8 + count + 1)))
    (cases_lt place (8 + count))

module _ (hash file : List ℕ) (long : length hash ≡ 32) (i d : ℕ) (inside : i < length file) where
  front : length (take 8 file ++ hash) ≡ length (take 8 file) + 32
  front = omega (arith, length-append (take 8 file) hash, long)

  before_hash : i < 8 → get_or (written 8 hash file) i d ≡ get_or file i d
  before_hash less =
      let of_file : i < length (take 8 file) = omega (arith, less, inside, length-take 8 file) in
      get_or_append_left (take 8 file ++ hash) (drop (8 + length hash) file) d i (omega (arith, of_file, front))
      ∙ get_or_append_left (take 8 file) hash d i of_file
      ∙ get_or-take 8 file i d less

  in_hash : 8 ≤ i → i < 40 → get_or (written 8 hash file) i d ≡ get_or hash (i - 8) d
  in_hash from to =
      let eight : length (take 8 file) ≡ 8 = omega (arith, from, inside, length-take 8 file) in
      get_or_append_left (take 8 file ++ hash) (drop (8 + length hash) file) d i (omega (arith, to, eight, front))
      ∙ get_or-append_right (take 8 file) hash 8 i d eight from

  after_hash : 40 ≤ i → get_or (written 8 hash file) i d ≡ get_or file i d
  after_hash from =
      let eight : length (take 8 file) ≡ 8 = omega (arith, from, inside, length-take 8 file) in
      get_or-append_right (take 8 file ++ hash) (drop (8 + length hash) file) 40 i d (omega (arith, eight, front)) from
      ∙ get_or-drop (8 + length hash) file (i - 40) d
      ∙ ap (λ (k : ℕ). get_or file k d) (omega (arith, long, from))

  default_is : 8 ≤ i → i < 40 → get_or hash (i - 8) d ≡ get_or hash (i - 8) (get_or file i d)
  default_is from to = get_or_default hash (i - 8) d (get_or file i d) (omega (arith, long, from, to))

  at_written : get_or (written 8 hash file) i d ≡ laid_byte hash 32 i (get_or file i d)
  at_written = ⊎_elim
      (λ (less : i < 8). before_hash less ∙ laid_before hash 32 i (get_or file i d) less)
      (λ (from : 8 ≤ i). ⊎_elim
      (λ (less : i < 40). in_hash from less ∙ default_is from less ∙ laid_in hash 32 i (get_or file i d) from less)
      (λ (after : 40 ≤ i). after_hash after ∙ laid_after hash 32 i (get_or file i d) after)
      (cases_lt i 40))
      (cases_lt i 8)

-- a range of a file over which its hash was laid is that range of the file with this hash
pub laid_is_mended : (hash file before after : List ℕ) (at : ℕ) → length hash ≡ 32 → at + length before ≤ length file
    → before ≡ take (length before) (drop at file) → length after ≡ length before
    → ((i d : ℕ) → i < length before → get_or after i d ≡ laid_byte hash 32 (at + i) (get_or before i d))
    → after ≡ take (length before) (drop at (mended_file hash file))
laid_is_mended hash file before after at long within read same each =
    let whole = length_mended hash file long in
    let size : length (take (length before) (drop at (mended_file hash file))) ≡ length before = omega (
      arith,
      within,
      whole,
      length-take (length before) (drop at (mended_file hash file)),
      length-drop at (mended_file hash file),
    ) in
    same_lists after (take (length before) (drop at (mended_file hash file))) (omega (arith, same, size)) (λ i d less.
    let here : i < length before = omega (arith, less, same) in
    each i d here
    ∙ ap (λ (byte : ℕ). laid_byte hash 32 (at + i) byte)
    (ap (λ (l : List ℕ). get_or l i d) read ∙ get_or-take (length before) (drop at file) i d here ∙ get_or-drop at file i d)
    ∙ sym (get_or-take (length before) (drop at (mended_file hash file)) i d here
    ∙ get_or-drop at (mended_file hash file) i d
    ∙ get_or-take (length file) (written 8 hash file) (at + i) d (omega (arith, here, within))
    ∙ at_written hash file long (at + i) d (omega (arith, here, within))))

-- ---- what a stop may leave

mended_moments : (a b : BenchState) (hash : List ℕ) (writes cells : ℕ) → AddsNothing (file_half a) (file_half b)
    → AddsNothing (file_half (with_hash hash writes cells a)) (file_half (with_hash hash writes cells b))
mended_moments a b hash writes cells one = record {
  goes_on = record {
    later = one.goes_on.later;
    past = λ k x le. (
      (λ (kept, at, is). (kept, (one.goes_on.past k kept le).0 at, is)),
      (λ (kept, at, is). (kept, (one.goes_on.past k kept le).1 at, is)),
    );
  };
  each = λ k x from to (kept, at, is). (kept, one.each k kept from to at, is);
}

mended_cells : {a b : BenchState} (hash : List ℕ) (writes cells : ℕ) → CellsStay a b
    → CellsStay (with_hash hash writes cells a) (with_hash hash writes cells b)
mended_cells hash writes cells one = record {
  cells = one.cells;
  operation = one.operation;
  count = one.count;
  faults = ap (λ (k : ℕ). k + cells) one.faults;
  half = one.half;
}

-- ---- its calls

cause_more : {T E : Type 0} {before now : ℕ} {result : Result T E} (more : ℕ) → HasCause before now result → HasCause (before + more) (now + more) result
cause_more more one = record {
  later = omega (arith, one.later);
  on_fault = λ is. ⊎_elim (λ (less : _). inl (omega (arith, less))) (λ (most : _). inr (omega (arith, most))) (one.on_fault is);
  on_ok = λ is. ap (λ (k : ℕ). k + more) (one.on_ok is);
}

same_length : (result : Result ℕ StoreFault) (one other : ℕ) → one ≡ other → IfOk result (λ len. len ≡ one) → IfOk result (λ len. len ≡ other)
same_length (Ok len) one other same is = is ∙ same
same_length (Err fault) one other same is = tt

pub mended_measures : {tells : Bool} {a b : BenchState} {result : Result ℕ StoreFault} (hash : List ℕ) (writes cells : ℕ) → length hash ≡ 32
    → MeasuresFile tells a b result → MeasuresFile tells (with_hash hash writes cells a) (with_hash hash writes cells b) result
mended_measures {tells} {a} {b} {result} hash writes cells long does = record {
  ok = λ told. same_length result (length a.file) (length (mended_file hash a.file)) (sym (length_mended hash a.file long)) (does.ok told);
  file = λ told. ap (mended_file hash) (does.file told);
  moments = mended_moments a b hash writes cells does.moments;
  cells = mended_cells hash writes cells does.cells;
  cause = cause_more writes does.cause;
}

pub mended_read : {tells : Bool} {a b : BenchState} {at : ℕ} {before mid after : List ℕ} {u : Unit {0}} (hash : List ℕ) (writes cells : ℕ)
    → length hash ≡ 32 → (IsTrue tells → at + length before ≤ length a.file) → length mid ≡ length before → length after ≡ length mid
    → ((i d : ℕ) → i < length mid → get_or after i d ≡ laid_byte hash 32 (at + i) (get_or mid i d))
    → ReadsFile {T = Unit {0}} tells a b at before mid (Ok u)
    → ReadsFile {T = Unit {0}} tells (with_hash hash writes cells a) (with_hash hash writes cells b) at before after (Ok u)
mended_read {tells} {a} {b} {at} {before} {mid} {after} hash writes cells long within same same_after each does = record {
  ok = λ told.
      laid_is_mended hash a.file mid after at long (omega (arith, within told, same))
      (does.ok told ∙ ap (λ (k : ℕ). take k (drop at a.file)) (sym same)) same_after each
      ∙ ap (λ (k : ℕ). take k (drop at (mended_file hash a.file))) same;
  file = λ told. ap (mended_file hash) (does.file told);
  moments = mended_moments a b hash writes cells does.moments;
  cells = mended_cells hash writes cells does.cells;
  cause = cause_more writes does.cause;
}

pub mended_unread : {tells : Bool} {a b : BenchState} {at : ℕ} {before after : List ℕ} {e : StoreFault} (hash : List ℕ) (writes cells : ℕ)
    → ReadsFile {T = Unit {0}} tells a b at before after (Err e)
    → ReadsFile {T = Unit {0}} tells (with_hash hash writes cells a) (with_hash hash writes cells b) at before after (Err e)
mended_unread {tells} {a} {b} hash writes cells does = record {
  ok = λ told. tt;
  file = λ told. ap (mended_file hash) (does.file told);
  moments = mended_moments a b hash writes cells does.moments;
  cells = mended_cells hash writes cells does.cells;
  cause = cause_more writes does.cause;
}

only_mended : (a b : BenchState) (result : Result (Unit {0}) StoreFault) (hash : List ℕ) (writes cells : ℕ) → OnOk result (LeftOnly a.file (file_half b))
    → OnOk result (LeftOnly (mended_file hash a.file) (file_half (with_hash hash writes cells b)))
only_mended a b (Ok u) hash writes cells only = λ y (kept, at, is). is ∙ ap (mended_file hash) (only kept at)
only_mended a b (Err e) hash writes cells only = tt

pub mended_syncs : {tells : Bool} {a b : BenchState} {result : Result (Unit {0}) StoreFault} (hash : List ℕ) (writes cells : ℕ)
    → SyncsFile {T = Unit {0}} tells a b result → SyncsFile {T = Unit {0}} tells (with_hash hash writes cells a) (with_hash hash writes cells b) result
mended_syncs {tells} {a} {b} {result} hash writes cells does = record {
  ok = λ told. only_mended a b result hash writes cells (does.ok told);
  file = λ told. ap (mended_file hash) (does.file told);
  moments = mended_moments a b hash writes cells does.moments;
  cells = mended_cells hash writes cells does.cells;
  cause = cause_more writes does.cause;
}

-- ---- the calls that it refuses

rose_more : {before now : ℕ} (more : ℕ) → Rose before now → Rose (more + before) (more + now)
rose_more more rose = ⊎_elim (λ (less : _). inl (omega (arith, less))) (λ (most : _). inr (omega (arith, most))) rose

refused_cause : {T E : Type 0} {fault : E} (more before now : ℕ) → before ≤ now → Rose before now → HasCause {T = T} (more + before) (more + now) (Err fault)
refused_cause more before now later rose = record {
  later = omega (arith, later);
  on_fault = λ is. rose_more more rose;
  on_ok = λ is. absurd (cc is);
}

cells_are_left : (b : BenchState) (hash : List ℕ) (before now cells : ℕ) → CellsStay (with_hash hash before cells b) (with_hash hash now cells b)
cells_are_left b hash before now cells = record { cells = refl; operation = refl; count = refl; faults = refl; half = stays_here (cells_half b) }

torn_here : (at n : ℕ) (file : List ℕ) → Torn at n file file
torn_here at n file = record { before = refl; after = refl; no_shorter = omega arith; no_longer = omega arith }

pub refused_write : {tells : Bool} (b : BenchState) {at : ℕ} {bytes : List ℕ} {e : StoreFault} (hash : List ℕ) (before now cells : ℕ) → before ≤ now
    → Rose before now → WritesFile {T = Unit {0}} tells (with_hash hash before cells b) (with_hash hash now cells b) at bytes (Err e)
refused_write {tells} b {at} {bytes} hash before now cells later rose = record {
  ok = λ told. tt;
  err = λ told. torn_here at (length bytes) (mended_file hash b.file);
  moments = leaves_here (file_half (with_hash hash now cells b)) (Follows (Torn at (length bytes)) (file_half (with_hash hash before cells b)))
      (λ x is. (x, is, torn_here at (length bytes) x));
  cells = cells_are_left b hash before now cells;
  cause = refused_cause b.store_faults before now later rose;
}

pub refused_cut : {tells : Bool} (b : BenchState) {len : ℕ} {e : StoreFault} (hash : List ℕ) (before now cells : ℕ) → before ≤ now → Rose before now
    → (IsTrue tells → len ≤ length (mended_file hash b.file))
    → CutsFile {T = Unit {0}} tells (with_hash hash before cells b) (with_hash hash now cells b) len (Err e)
refused_cut {tells} b {len} hash before now cells later rose within = record {
  ok = λ told. tt;
  err = λ told. record { no_shorter = within told; front = take_all (length (mended_file hash b.file)) (mended_file hash b.file) (omega arith) };
  moments = leaves_here (file_half (with_hash hash now cells b)) (Follows (Cut len) (file_half (with_hash hash before cells b)))
      (λ x is. (x, is, record { front = refl; no_longer = omega arith }));
  cells = cells_are_left b hash before now cells;
  cause = refused_cause b.store_faults before now later rose;
}
