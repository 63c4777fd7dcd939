-- `Gathered::add`: that it keeps its contract.
use Rattle.std.proofs.lemmas.Grind.{common_steps}
use Rattle.std.proofs.Common.{rules, ◌≡◌, arith}
use Rattle.outside_io.proofs.PutTexts.{puts_as}
use Rattle.outside_io.proofs.GatherLemmas.{gathers_then, gathers_waiting}
use Rattle.outside_io.proofs.gathered.Gathered.add.Goals as goal

pub returns : goal.returns
returns g c =
    let same : c.try_extend_from_slice.new.self.items ≡ c.args.self.now = search rules in
    gathers_then _ (gathers_waiting _ c.in_ok-put.ensures.none (puts_as same c.in_ok-put.ensures.puts)) c.add_first.ensures

pub returns-in_err-put : goal.returns-in_err-put
returns-in_err-put g c = grind (arith, common_steps)

pub returns-then-is_ok : goal.returns-then-is_ok
returns-then-is_ok g c = grind (arith, common_steps)
