-- The state of a host's input files and of its streams, and what calls on them do.
use Rattle.std.specs.Prelude.{◌≡◌, ◌≤◌, ◌<◌, ◌+◌, ◌++◌, ◌⊎◌, ℕ, List, [], Bool, length, take, drop, IsTrue, Option, Some, None, Result, Ok, Err, IsOk, IfOk}
use Rattle.std.specs.Prelude.{IfErr, OnErr, ⊤, if◌then◌else◌}
use Rattle.std.specs.IoError.{error_kind}
use Rattle.std.specs.declared.io.Error.{Error}
use Rattle.std.specs.declared.io.ErrorKind.TheVariants.{Interrupted}
use Rattle.std.specs.declared.io.ErrorKind.TheVariants as kind
use Rattle.std.specs.Str.{bytes_eq}
use Rattle.faults.specs.Counts.{Rose, HasCause}
use Rattle.outside_io.specs.declared.inputs.TakeFault.{TakeFault}
use Rattle.outside_io.specs.declared.inputs.TakeFault.TheVariants.{OutOfMemory, InputFault}

-- how many calls have failed, and how many others a signal interrupted, so that they did nothing
pub record Calls : Type 0 where
  pub errors : ℕ
  pub interrupted : ℕ

-- a call fails only where the count of errors rose
pub record CallEnds {T E : Type 0} (old new : Calls) (result : Result T E) : Type 0 where
  pub cause : HasCause old.errors new.errors result
  pub interrupted : new.interrupted ≡ old.interrupted

-- a call fails only where the count of errors rose, or where a signal interrupted it; that is no error, and it can be made again
pub record CallMayStop {T : Type 0} (old new : Calls) (result : Result T Error) : Type 0 where
  pub later : old.errors ≤ new.errors
  pub on_ok : IsOk result → (new.errors ≡ old.errors) × (new.interrupted ≡ old.interrupted)
  pub stopped : IfErr result (λ fault. error_kind fault ≡ Interrupted → (new.errors ≡ old.errors) × (new.interrupted ≡ old.interrupted + 1))
  pub failed : IfErr result (λ fault. (error_kind fault ≡ Interrupted → ⊥) → Rose old.errors new.errors)

-- A write fails only where the count of errors rose, or where a signal interrupted it. One that takes none of some bytes is an error.
pub record WriteEnds (old new : Calls) (bytes : List ℕ) (result : Result ℕ Error) : Type 0 where
  pub later : old.errors ≤ new.errors
  pub went : IfOk result (λ n. (0 < n) ⊎ (bytes ≡ []) → (new.errors ≡ old.errors) × (new.interrupted ≡ old.interrupted))
  pub idle : IfOk result (λ n. n ≡ 0 → (bytes ≡ [] → ⊥) → Rose old.errors new.errors)
  pub stopped : IfErr result (λ fault. error_kind fault ≡ Interrupted → (new.errors ≡ old.errors) × (new.interrupted ≡ old.interrupted + 1))
  pub failed : IfErr result (λ fault. (error_kind fault ≡ Interrupted → ⊥) → Rose old.errors new.errors)

-- The input files.

-- what file each name has (names and files are bytes), what is still to be read of the open file, and the counts of calls
pub record SourceState : Type 0 where
  pub stands : List ℕ → Option (List ℕ)
  pub rest : List ℕ
  pub calls : Calls

-- A read gives some of the bytes that are left, and at least one if there is one. A read that fails gives none.
pub record ReadsOn {E : Type 0} (tells : Bool) (old new : SourceState) (before after : List ℕ) (result : Result ℕ E) : Type 0 where
  pub count : IfOk result (λ n. n ≤ length before)
  pub ok : IsTrue tells → IfOk result (λ n. after ≡ take n old.rest ++ drop n before)
  pub some : IsTrue tells → IfOk result (λ n. n ≤ length old.rest)
  pub more : IsTrue tells → IfOk result (λ n. 0 < length old.rest → 0 < n)
  pub goes_on : IsTrue tells → IfOk result (λ n. new.rest ≡ drop n old.rest)
  pub stays : IsTrue tells → OnErr result (new.rest ≡ old.rest)

-- the file of a name is longer than `most`
abbrev pub IsLonger : ℕ → Option (List ℕ) → Type 0
IsLonger most None = ⊥
IsLonger most (Some bytes) = most < length bytes

-- a read of a whole file fails only by out of memory, where a call failed, or where the file is too long
abbrev pub IsExcused : (old new : SourceState) → (too_long : Type 0) → Error → Type 0
IsExcused old new too_long fault = (error_kind fault ≡ kind.OutOfMemory) ⊎ (Rose old.calls.errors new.calls.errors ⊎ too_long)

-- Taking a file of the host ends in an input fault only where a call failed, or where the file is longer than the most that is taken.
-- Where the bytes are given, no call failed.
abbrev pub TakesAsFiles : ℕ → List ℕ → SourceState → SourceState → Result (List ℕ) TakeFault → Type 0
TakesAsFiles most name old new (Ok bytes) = new.calls.errors ≡ old.calls.errors
TakesAsFiles most name old new (Err OutOfMemory) = ⊤
TakesAsFiles most name old new (Err InputFault) = Rose old.calls.errors new.calls.errors ⊎ IsLonger most (old.stands name)

-- The streams.

-- what a stream took, and the counts of calls
pub record StreamState : Type 0 where
  pub taken : List ℕ
  pub calls : Calls

-- A write takes the first `n` of the bytes, where it answers `n`. One that fails takes none.
pub record WritesOn {E : Type 0} (tells : Bool) (old new : StreamState) (bytes : List ℕ) (result : Result ℕ E) : Type 0 where
  pub count : IfOk result (λ n. n ≤ length bytes)
  pub ok : IsTrue tells → IfOk result (λ n. new.taken ≡ old.taken ++ take n bytes)
  pub stays : IsTrue tells → OnErr result (new.taken ≡ old.taken)

-- In memory.

-- the only file in memory has this name
abbrev pub one_file : List ℕ → List ℕ → List ℕ → Option (List ℕ)
one_file name bytes other = if bytes_eq name other then Some bytes else None
