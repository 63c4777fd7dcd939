-- What a call does that gathers a text after one that waits for the sink.
use Rattle.std.specs.Prelude.{◌≡◌, ◌++◌, ℕ, Bool, IsTrue, List, Result, OnOk, OnErr}
use Rattle.faults.specs.Counts.{HasCause}
use Rattle.outside_io.specs.State.{SinkState}
use Rattle.outside_io.specs.Appends.{AppendsPart}
use Rattle.outside_io.specs.declared.sink.OutputFault.{OutputFault}

-- a beginning of a text was appended, and `rest` is what is left of it
pub record AppendsUpTo (rest text old new : List ℕ) : Type 0 where
  pub part : List ℕ
  pub text_is : text ≡ part ++ rest
  pub appended : new ≡ old ++ part

-- A text is gathered after one that waits. A beginning of both together is appended, and the rest waits; on a fault only a beginning
-- is appended. The call fails only where the count of faults rose.
pub record Gathers (tells : Bool) (old new : SinkState) (waited waits text : List ℕ) (result : Result (Unit {0}) OutputFault) : Type 0 where
  pub ok : IsTrue tells → OnOk result (AppendsUpTo waits (waited ++ text) old.taken new.taken)
  pub err : IsTrue tells → OnErr result (AppendsPart (waited ++ text) old.taken new.taken)
  pub cause : HasCause old.faults new.faults result
