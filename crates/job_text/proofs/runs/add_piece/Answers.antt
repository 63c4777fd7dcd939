-- `add_piece`: that an arm is never reached.
use Rattle.std.proofs.Common.{subst, arith}
use Rattle.std.proofs.lemmas.Grind.{common_steps}
use Rattle.byte_map.specs.Laying.{IsLayFault}
use Rattle.byte_map.specs.declared.fault.LayFault.{LayFault}
use Rattle.job_text.specs.Runs.{run_of}
use Rattle.job_text.proofs.RunLemmas.{no_clash}
use Rattle.job_text.proofs.runs.add_piece.Goals as goal

pub unreachable-requires : goal.unreachable-requires
unreachable-requires c =
    let r = run_of c.args.at c.args.bytes.now in
    let clash = subst (λ (f : LayFault). IsLayFault r c.args.image.now f) c.in-Err-Conflict.field-0-is c.in-Err-Conflict.ensures.refused in
    no_clash c.args.image.now r c.in-Err-Conflict.field-0-0 c.in-Err-Conflict.field-0-1 c.in-Err-Conflict.field-0-2 c.requires.behind clash.1

pub returns-in-Ok : goal.returns-in-Ok
returns-in-Ok c = grind (arith, common_steps)
