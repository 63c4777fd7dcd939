-- `values`: that it keeps its contract.
use Rattle.std.proofs.Common.{◌∙◌}
use Rattle.clap.specs.Matches.{found_of}
use Rattle.clap.proofs.WalkLemmas.{raw_values-rows}
use Rattle.command_line.proofs.line.values.Goals as goal

pub returns-in-Some : goal.returns-in-Some
returns-in-Some c = let said = c.in-Some.ensures ∙ raw_values-rows (found_of c.args.matches.now) c.args.id.now in rw (← said) c.copies.ensures

pub returns-in-None : goal.returns-in-None
returns-in-None c = let said = c.in-None.ensures ∙ raw_values-rows (found_of c.args.matches.now) c.args.id.now in rw (← said) c.new.ensures.items
