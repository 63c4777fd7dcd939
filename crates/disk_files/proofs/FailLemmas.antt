-- When several calls of the files fail. Loops over calls count their faults with these lemmas.
use Rattle.std.proofs.Common.{◌≡◌, ◌≤◌, ◌<◌, ◌+◌, ◌∙◌, ap, inl, inr, ⊎_elim, sym, subst, refl, ℕ, Bool, IsTrue, arith, Result, Ok, Err, IsOk, IsErr}
use Rattle.std.proofs.lemmas.Bool.{false≢true}
use Rattle.faults.specs.Counts.{Rose}
use Rattle.disk_files.specs.DiskState.{DiskState}
use Rattle.disk_files.specs.Fails.{KeepsSyncs, IsBroken, CallMoves, Fails}
use Rattle.std.specs.IoError.{error_kind}
use Rattle.std.specs.declared.io.Error.{Error}
use Rattle.std.specs.declared.io.ErrorKind.TheVariants.{Interrupted}

-- no call has failed so far, and at least `count` of them were interrupted
pub record GoesSo (tells : Bool) (old now : DiskState) (count : ℕ) : Type 0 where
  pub errors : IsTrue tells → now.errors ≡ old.errors
  pub stops : IsTrue tells → count ≤ now.interrupted
  pub syncs : IsTrue tells → KeepsSyncs old now

pub goes_here : (tells : Bool) (d : DiskState) → GoesSo tells d d 0
goes_here tells d = record { errors = λ told. refl; stops = λ told. omega arith; syncs = λ told. record { file_whole = refl; cells_whole = refl } }

pub keeps_then : {a b c : DiskState} → KeepsSyncs a b → KeepsSyncs b c → KeepsSyncs a c
keeps_then one two = record { file_whole = two.file_whole ∙ one.file_whole; cells_whole = two.cells_whole ∙ one.cells_whole }

-- no call has failed after one more that went through
pub goes_ok : {tells : Bool} {old mid new : DiskState} {stops : ℕ} → GoesSo tells old mid stops
    → (IsTrue tells → (new.errors ≡ mid.errors) × (new.interrupted ≡ mid.interrupted)) → (IsTrue tells → KeepsSyncs mid new) → GoesSo tells old new stops
goes_ok so_far call syncs = record {
  errors = λ told. (call told).0 ∙ so_far.errors told;
  stops = λ told. omega (arith, so_far.stops told, (call told).1);
  syncs = λ told. keeps_then (so_far.syncs told) (syncs told);
}

-- no call has failed after one more that was interrupted
pub goes_stopped : {tells : Bool} {old mid new : DiskState} {stops : ℕ}
    → GoesSo tells old mid stops → (IsTrue tells → (new.errors ≡ mid.errors) × (new.interrupted ≡ mid.interrupted + 1)) → (IsTrue tells → KeepsSyncs mid new)
    → GoesSo tells old new (stops + 1)
goes_stopped so_far call syncs = record {
  errors = λ told. (call told).0 ∙ so_far.errors told;
  stops = λ told. omega (arith, so_far.stops told, (call told).1);
  syncs = λ told. keeps_then (so_far.syncs told) (syncs told);
}

-- no call has failed after several more calls that went through
pub goes_whole : {T E : Type 0} {tells : Bool} {old mid new : DiskState} (result : Result T E) → GoesSo tells old mid 0 →
    (IsTrue tells → Fails mid new result) → IsOk result
    → GoesSo tells old new 0
goes_whole result so_far calls ok = record {
  errors = λ told. ((calls told).on_ok ok).0 ∙ so_far.errors told;
  stops = λ told. omega arith;
  syncs = λ told. keeps_then (so_far.syncs told) ((calls told).on_ok ok).1;
}

rose_from : (x y z : ℕ) → y ≡ x → Rose y z → Rose x z
rose_from x y z is rose = ⊎_elim (λ less. inl (omega (arith, less, is))) (λ full. inr full) rose

broken_before : {x y : DiskState} → KeepsSyncs x y → IsBroken y → IsBroken x
broken_before k broken = ⊎_elim (λ file. inl (sym k.file_whole ∙ file)) (λ cells. inr (sym k.cells_whole ∙ cells)) broken

not_both : {T E : Type 0} (r : Result T E) → IsErr r → IsOk r → ⊥
not_both (Ok x) failed went = false≢true failed
not_both (Err e) failed went = false≢true went

-- an answer that is a failure, because the last of several calls failed
pub fails_then : {T E U G : Type 0} {tells : Bool} {a b c : DiskState} {count : ℕ} → IsTrue tells → GoesSo tells a b count →
    (result : Result T E) → Fails b c result
    → IsErr result → (answer : Result U G) → IsErr answer → Fails a c answer
fails_then {a = a} {b = b} {c = c} told so_far result two is_err answer failed = record {
  later = omega (arith, so_far.errors told, two.later);
  on_fault = λ fault. ⊎_elim
      (λ rose. inl (rose_from a.errors b.errors c.errors (so_far.errors told) rose))
      (λ broken. inr (broken_before (so_far.syncs told) broken))
      (two.on_fault is_err);
  on_ok = λ went. absurd (not_both answer failed went);
}

-- an answer that is a failure, because the last of several calls failed for good
pub fails_at_last : {T E : Type 0} {tells : Bool} {a b c : DiskState} {stops wanted : ℕ} {fault : Error} → IsTrue tells → GoesSo tells a b stops
    → CallMoves b c wanted (Err fault) → (error_kind fault ≡ Interrupted → ⊥) → (answer : Result T E) → IsErr answer → Fails a c answer
fails_at_last {a = a} {b = b} {c = c} told so_far call for_good answer failed = record {
  later = omega (arith, so_far.errors told, call.later);
  on_fault = λ fault. inl (rose_from a.errors b.errors c.errors (so_far.errors told) (call.failed for_good));
  on_ok = λ went. absurd (not_both answer failed went);
}

-- an answer that is a failure, because the last of several calls moved nothing
pub fails_at_none : {T E : Type 0} {tells : Bool} {a b c : DiskState} {stops wanted : ℕ} → IsTrue tells → GoesSo tells a b stops
    → (moved : Result ℕ Error) (n : ℕ) → moved ≡ Ok n → n ≡ 0 → CallMoves b c wanted moved → 0 < wanted → (answer : Result T E) → IsErr answer
    → Fails a c answer
fails_at_none {a = a} {b = b} {c = c} {wanted = wanted} told so_far moved n is none call wants answer failed =
    let went : CallMoves b c wanted (Ok n) = subst (λ (r : Result ℕ Error). CallMoves b c wanted r) is call in
    record {
      later = omega (arith, so_far.errors told, call.later);
      on_fault = λ fault. inl (rose_from a.errors b.errors c.errors (so_far.errors told) (went.nothing none wants));
      on_ok = λ ok. absurd (not_both answer failed ok);
    }

-- a call stated with equal states and lengths
pub moves_from : {a b c : DiskState} {n m : ℕ} {result : Result ℕ Error} → a ≡ b → n ≡ m → CallMoves a c n result → CallMoves b c m result
moves_from {b = b} {c = c} {n = n} {result = result} same long call =
    subst (λ (k : ℕ). CallMoves b c k result) long (subst (λ (d : DiskState). CallMoves d c n result) same call)

-- a call that follows one that moved something
pub moves_then : {a b c : DiskState} {wanted : ℕ} (result : Result ℕ Error) → b.errors ≡ a.errors → b.interrupted ≡ a.interrupted → KeepsSyncs a b
    → CallMoves b c wanted result → CallMoves a c wanted result
moves_then {a = a} {b = b} {c = c} (Ok n) errors stops syncs call = record {
  later = omega (arith, errors, call.later);
  moved = λ some. ((call.moved some).0 ∙ errors, (call.moved some).1 ∙ stops);
  nothing = λ none wants. rose_from a.errors b.errors c.errors errors (call.nothing none wants);
  stopped = tt;
  failed = tt;
  syncs = keeps_then syncs call.syncs;
}
moves_then {a = a} {b = b} {c = c} (Err fault) errors stops syncs call = record {
  later = omega (arith, errors, call.later);
  moved = tt;
  nothing = tt;
  stopped = λ kind. ((call.stopped kind).0 ∙ errors, (call.stopped kind).1 ∙ ap (λ (n : ℕ). n + 1) stops);
  failed = λ kind. rose_from a.errors b.errors c.errors errors (call.failed kind);
  syncs = keeps_then syncs call.syncs;
}
