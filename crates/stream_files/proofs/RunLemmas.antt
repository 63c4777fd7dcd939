-- Reads and writes of all bytes, in as many calls as that takes.
use Rattle.std.proofs.Common.{◌≡◌, ◌<◌, ◌≤◌, ◌+◌, ◌++◌, ◌∙◌, ap, sym, subst, refl, ℕ, List, [], ◌∷◌, Bool, IsTrue, Result, Ok, length, take, drop, arith}
use Rattle.std.proofs.Common.{append_assoc, append-nil, length-drop, length-append}
use Rattle.std.proofs.Common.{◌⊎◌, inl, inr}
use Rattle.std.specs.Prelude.{IfOk}
use Rattle.std.specs.IoError.{error_kind}
use Rattle.std.specs.declared.io.Error.{Error}
use Rattle.std.specs.declared.io.ErrorKind.TheVariants.{OutOfMemory}
use Rattle.faults.specs.Counts.{Rose}
use Rattle.std.proofs.Math.Seq.{take-add}
use Rattle.std.proofs.lemmas.List.{take-append-drop}
use Rattle.outside_io.specs.Appends.{AppendsPart}
use Rattle.stream_files.specs.Outside.{StreamState, SourceState, WritesOn, ReadsOn, IsExcused}

-- the first `done` bytes were taken, and at least `stops` calls were interrupted
pub record IsTaken (tells : Bool) (old now : StreamState) (bytes : List ℕ) (done stops : ℕ) : Type 0 where
  pub within : done ≤ length bytes
  pub taken : IsTrue tells → now.taken ≡ old.taken ++ take done bytes
  pub errors : IsTrue tells → now.calls.errors ≡ old.calls.errors
  pub signals : IsTrue tells → stops ≤ now.calls.interrupted

pub taken_none : (tells : Bool) (d : StreamState) (bytes : List ℕ) → IsTaken tells d d bytes 0 0
taken_none tells d bytes = record {
  within = omega arith;
  taken = λ told. sym (append-nil d.taken);
  errors = λ told. refl;
  signals = λ told. omega arith;
}

module _ (tells : Bool) (old mid new : StreamState) (bytes : List ℕ) (done stops : ℕ) (so_far : IsTaken tells old mid bytes done stops) where
  pub taken_more : (n : ℕ) (rest : List ℕ) → rest ≡ drop done bytes → n ≤ length rest → (IsTrue tells → new.taken ≡ mid.taken ++ take n rest)
      → (IsTrue tells → (new.calls.errors ≡ mid.calls.errors) × (new.calls.interrupted ≡ mid.calls.interrupted))
      → IsTaken tells old new bytes (done + n) stops
  taken_more n rest is_rest le some calls = record {
    within = omega (arith, le, ap length is_rest, length-drop done bytes, so_far.within);
    taken = λ told. some told ∙ ap (λ (l : List ℕ). l ++ take n rest) (so_far.taken told)
        ∙ append_assoc old.taken (take done bytes) (take n rest)
        ∙ ap (λ (l : List ℕ). old.taken ++ (take done bytes ++ take n l)) is_rest
        ∙ ap (λ (l : List ℕ). old.taken ++ l) (sym (take-add done n bytes));
    errors = λ told. (calls told).0 ∙ so_far.errors told;
    signals = λ told. omega (arith, so_far.signals told, (calls told).1);
  }

  pub taken_stopped : (IsTrue tells → new.taken ≡ mid.taken)
      → (IsTrue tells → (new.calls.errors ≡ mid.calls.errors) × (new.calls.interrupted ≡ mid.calls.interrupted + 1))
      → IsTaken tells old new bytes done (stops + 1)
  taken_stopped stays calls = record {
    within = so_far.within;
    taken = λ told. stays told ∙ so_far.taken told;
    errors = λ told. (calls told).0 ∙ so_far.errors told;
    signals = λ told. omega (arith, so_far.signals told, (calls told).1);
  }

  -- a write took none of the bytes
  pub taken_nothing : {E : Type 0} (rest : List ℕ) (result : Result ℕ E) (n : ℕ) → WritesOn tells mid new rest result → result ≡ Ok n → n ≡ 0 → IsTrue tells
      → new.taken ≡ mid.taken
  taken_nothing {E} rest result n writes is none told =
      let some : new.taken ≡ mid.taken ++ take n rest
      = subst (λ (r : Result ℕ E). IfOk r (λ (m : ℕ). new.taken ≡ mid.taken ++ take m rest)) is (writes.ok told) in
      some ∙ ap (λ (m : ℕ). mid.taken ++ take m rest) none ∙ append-nil mid.taken

  -- what a fault leaves
  pub taken_part : IsTrue tells → new.taken ≡ mid.taken → AppendsPart bytes old.taken new.taken
  taken_part told stays = record {
    part = take done bytes;
    rest = drop done bytes;
    piece_is = sym (take-append-drop done bytes);
    appended = stays ∙ so_far.taken told;
  }

-- if a read gives nothing, nothing is left
at_end : {n : ℕ} (rest : List ℕ) → (0 < length rest → 0 < n) → n ≡ 0 → rest ≡ []
at_end {n} [] more none = refl
at_end {n} (byte ∷ rest) more none =
    let some : 0 < n = more (omega arith) in
    absurd (omega (arith, some, none))

-- these bytes were read so far, and at least `stops` calls were interrupted
pub record IsRead (tells : Bool) (old now : SourceState) (before bytes : List ℕ) (stops : ℕ) : Type 0 where
  pub names : (other : List ℕ) → now.stands other ≡ old.stands other
  pub read : IsTrue tells → bytes ++ now.rest ≡ before ++ old.rest
  pub errors : IsTrue tells → now.calls.errors ≡ old.calls.errors
  pub signals : IsTrue tells → stops ≤ now.calls.interrupted

pub read_none : (tells : Bool) (d : SourceState) (before : List ℕ) → IsRead tells d d before before 0
read_none tells d before = record { names = λ other. refl; read = λ told. refl; errors = λ told. refl; signals = λ told. omega arith }

module _ (tells : Bool) (old mid new : SourceState) (before bytes : List ℕ) (stops : ℕ) (so_far : IsRead tells old mid before bytes stops)
    (names : (other : List ℕ) → new.stands other ≡ mid.stands other) where
  pub read_more : (n : ℕ) (piece : List ℕ) → (IsTrue tells → piece ≡ take n mid.rest) → (IsTrue tells → new.rest ≡ drop n mid.rest)
      → (IsTrue tells → (new.calls.errors ≡ mid.calls.errors) × (new.calls.interrupted ≡ mid.calls.interrupted))
      → IsRead tells old new before (bytes ++ piece) stops
  read_more n piece is goes_on calls = record {
    names = λ other. names other ∙ so_far.names other;
    read = λ told. append_assoc bytes piece new.rest
        ∙ ap (λ (l : List ℕ). bytes ++ (l ++ new.rest)) (is told)
        ∙ ap (λ (l : List ℕ). bytes ++ (take n mid.rest ++ l)) (goes_on told)
        ∙ ap (λ (l : List ℕ). bytes ++ l) (take-append-drop n mid.rest)
        ∙ so_far.read told;
    errors = λ told. (calls told).0 ∙ so_far.errors told;
    signals = λ told. omega (arith, so_far.signals told, (calls told).1);
  }

  pub read_stopped : (IsTrue tells → new.rest ≡ mid.rest)
      → (IsTrue tells → (new.calls.errors ≡ mid.calls.errors) × (new.calls.interrupted ≡ mid.calls.interrupted + 1))
      → IsRead tells old new before bytes (stops + 1)
  read_stopped stays calls = record {
    names = λ other. names other ∙ so_far.names other;
    read = λ told. ap (λ (l : List ℕ). bytes ++ l) (stays told) ∙ so_far.read told;
    errors = λ told. (calls told).0 ∙ so_far.errors told;
    signals = λ told. omega (arith, so_far.signals told, (calls told).1);
  }

  -- a read gave nothing
  pub read_nothing : {E : Type 0} (from to : List ℕ) (result : Result ℕ E) (n : ℕ) → ReadsOn tells mid new from to result → result ≡ Ok n → n ≡ 0
      → IsTrue tells → mid.rest ≡ []
  read_nothing {E} from to result n reads is none told =
      let more : 0 < length mid.rest → 0 < n = subst (λ (r : Result ℕ E). IfOk r (λ (m : ℕ). 0 < length mid.rest → 0 < m)) is (reads.more told) in
      at_end mid.rest more none

  -- the whole file was read
  pub read_all : IsTrue tells → mid.rest ≡ [] → bytes ≡ before ++ old.rest
  read_all told is = sym (append-nil bytes) ∙ ap (λ (l : List ℕ). bytes ++ l) (sym is) ∙ so_far.read told

  -- how many bytes were read and are left
  pub at_least : IsTrue tells → length bytes + length mid.rest ≡ length before + length old.rest
  at_least told = omega (arith, ap length (so_far.read told), length-append bytes mid.rest, length-append before old.rest)

-- a read that failed for a reason other than out of memory
pub excused : (old mid new : SourceState) (too_long : Type 0) (fault : Error) → new ≡ mid → IsExcused old mid too_long fault
    → (error_kind fault ≡ OutOfMemory → ⊥) → Rose old.calls.errors new.calls.errors ⊎ too_long
excused old mid new too_long fault same (inl memory) other = absurd (other memory)
excused old mid new too_long fault same (inr cause) other = subst (λ (s : SourceState). Rose old.calls.errors s.calls.errors ⊎ too_long) (sym same) cause
