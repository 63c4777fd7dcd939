-- `take_one`: its clause `takes`.
use Rattle.std.proofs.Common.{refl, []}
use Rattle.std.proofs.lemmas.List.Elements.{All-nil}
use Rattle.command_files.specs.Inputs.{inputs_call}
use Rattle.command_files.proofs.TakeLemmas.{each_of_one}
use Rattle.command_files.proofs.take.take_one.Goals as goal

pub returns-in-Ok-clause-takes : goal.returns-in-Ok-clause-takes
returns-in-Ok-clause-takes g c = (
  each_of_one (inputs_call g.I.Inputs.tells (g.I.Inputs.state c.args.inputs.now) (g.I.Inputs.state c.take.new.self)) c.args.name.now c.in-Ok.bytes
      (λ told. c.in-Ok.ensures.ok told),
  record { faults = c.in-Ok.ensures.cause; failed = c.in-Ok.ensures.remembers },
)

pub returns-in-Err-OutOfMemory-clause-takes : goal.returns-in-Err-OutOfMemory-clause-takes
returns-in-Err-OutOfMemory-clause-takes g c =
    let ensures = rw c.in-Err-OutOfMemory.field-0-is at c.in-Err-OutOfMemory.ensures in
    record { faults = ensures.cause; failed = ensures.remembers }

pub returns-in-Err-InputFault-clause-takes : goal.returns-in-Err-InputFault-clause-takes
returns-in-Err-InputFault-clause-takes g c =
    let ensures = rw c.in-Err-InputFault.field-0-is at c.in-Err-InputFault.ensures in
    (ensures.cause.0, ensures.cause.1, (record { earlier = []; later = []; names_are = refl; taken = All-nil _; failed = ensures.remembers }))
