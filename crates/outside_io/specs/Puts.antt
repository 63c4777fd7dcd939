-- What a call does that puts a text.
use Rattle.std.specs.Prelude.{◌≡◌, ◌++◌, ℕ, Bool, IsTrue, List, Result, OnOk, OnErr}
use Rattle.faults.specs.Counts.{HasCause}
use Rattle.outside_io.specs.State.{SinkState}
use Rattle.outside_io.specs.Appends.{AppendsPart}
use Rattle.outside_io.specs.declared.sink.OutputFault.{OutputFault}

-- A call appends the whole text, or on a fault a beginning of it. It fails only where the count of faults rose.
pub record Puts (tells : Bool) (old new : SinkState) (text : List ℕ) (result : Result (Unit {0}) OutputFault) : Type 0 where
  pub ok : IsTrue tells → OnOk result (new.taken ≡ old.taken ++ text)
  pub err : IsTrue tells → OnErr result (AppendsPart text old.taken new.taken)
  pub cause : HasCause old.faults new.faults result
