-- `put_reason`: its contract, `Puts`.
use Rattle.outside_io.proofs.PutTexts.{puts_as}
use Rattle.flm_job.proofs.CallLemmas.{refused_others}
use Rattle.flm_job.proofs.call.put_reason.Goals as goal

pub returns-in-Usage : goal.returns-in-Usage
returns-in-Usage g c = rw c.in-Usage.is c.put_pieces.ensures

pub returns-in_default : goal.returns-in_default
returns-in_default g c = puts_as (refused_others c.args.refusal.now c.in_default.not-Usage) c.put_refusal.ensures
