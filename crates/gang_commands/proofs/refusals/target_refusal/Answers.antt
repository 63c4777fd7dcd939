-- `target_refusal`: its contract.
use Rattle.std.proofs.Common.{◌∙◌, ap, List, Option}
use Rattle.board_file.specs.declared.region.Region.{Region}
use Rattle.flash_session.specs.declared.target_end.TargetEnd.{TargetEnd}
use Rattle.gang_run.specs.Gangs.{slot_at}
use Rattle.gang_commands.specs.Lines.{reason_in}
use Rattle.gang_commands.proofs.OutcomeLemmas.{outcome_at, reason_of}
use Rattle.gang_commands.proofs.RefusalLemmas.{end_is, regions_are}
use Rattle.gang_commands.proofs.refusals.target_refusal.Goals as goal

pub returns : goal.returns
returns c =
    let s = slot_at c.args.gang.now c.args.target in
    reason_of s _ c.requires.ended
    (c.end_refusal.ensures ∙ ap (λ (o : Option (List Region)). reason_in o c.in-Some.end.now) (regions_are s c.job.result c.job.ensures)
    ∙ ap (λ (e : TargetEnd). reason_in (outcome_at s).regions e) (end_is s c.in-Some.end c.in-Some.ensures))
