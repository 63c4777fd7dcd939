-- `items`: that its loop keeps its invariant, that it keeps its contract, and that no number overflows.
use Rattle.std.proofs.Common.{◌+◌, ◌*◌, ◌++◌, List, drop, get_or, sym, ap, ◌∙◌, arith}
use Rattle.std.proofs.lemmas.Grind.{common_steps}
use Rattle.board_file.specs.declared.sectors.SectorRun.{SectorRun}
use Rattle.flm_descriptor.specs.declared.items.SectorItem.{SectorItem}
use Rattle.flm_forge.specs.Listed.{items_from}
use Rattle.flm_forge.proofs.TextLemmas.{cells_more, items_end, items_more}
use Rattle.flm_forge.proofs.algorithm.items.Goals as goal

abbrev no_run : SectorRun
no_run = record { count = 0; size = 0 }

pub loop-run-preserved : goal.loop-run-preserved
loop-run-preserved c =
    let runs = c.args.runs.now in
    let l = c.loop-run in
    record {
      made = ap (λ (r : List SectorItem). r ++ items_from (l.offset + (get_or runs l.run-index no_run).count * (get_or runs l.run-index no_run).size)
          (drop (l.run-index + 1) runs)) c.in_ok-push.ensures.items
          ∙ items_more runs l.run-index l.offset no_run l.items.items (omega arith) ∙ l.invariant.made;
      left = omega (arith, cells_more runs l.run-index no_run (omega arith), l.invariant.left);
    }

pub returns : goal.returns
returns c =
    let l = c.loop-run in
    c.from_vec.ensures ∙ sym (items_end c.args.runs.now l.run-index l.offset l.items.items (omega arith)) ∙ l.invariant.made

pub overflow_add-offset : goal.overflow_add-offset
overflow_add-offset c = grind (arith, common_steps)

pub overflow_mul-offset : goal.overflow_mul-offset
overflow_mul-offset c = grind (arith, common_steps)
