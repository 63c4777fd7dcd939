-- `write_run`: its clause `puts`.
use Rattle.std.proofs.Common.{append-nil}
use Rattle.outside_io.proofs.PutTexts.{puts_as}
use Rattle.outside_io.proofs.GatherLemmas.{gathers_alone, gathers_then, gathers_waiting}
use Rattle.image_more.proofs.text.write_run.Goals as goal

pub returns-clause-puts : goal.returns-clause-puts
returns-clause-puts g c = puts_as (append-nil _)
    (gathers_alone _ c.new-text.ensures c.put.ensures.none (gathers_then _ c.in_ok-gather_run.ensures.text
    (gathers_waiting _ c.put.ensures.none c.put.ensures.puts)))
