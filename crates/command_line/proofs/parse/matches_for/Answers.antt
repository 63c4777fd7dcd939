-- `matches_for`: its clause `usage`.
use Rattle.std.proofs.lemmas.Grind.{common_steps}
use Rattle.std.proofs.Common.{◌≢◌, refl, rules, Ok, Err, arith}
use Rattle.clap.specs.Values.{kind_of}
use Rattle.clap.specs.Simple.{app_of}
use Rattle.clap.specs.Faults.{fault_of}
use Rattle.clap.specs.declared.error.kind.ErrorKind.TheVariants as kind
use Rattle.command_line.specs.Made.{tool}
use Rattle.command_line.proofs.Parsed.{fails, matches, some_fault}
use Rattle.command_line.proofs.parse.matches_for.Goals as goal

pub returns-in-Ok-try_get_matches_from-clause-taken :
    goal.returns-in-Ok-try_get_matches_from-clause-taken
returns-in-Ok-try_get_matches_from-clause-taken c =
    let parsed = c.in-Ok-try_get_matches_from.ensures in (
      fails tool (app_of c.in-Ok.tool) c.in-Ok.ensures c.args.words.now (Ok c.in-Ok-try_get_matches_from.matches) refl parsed.kinds,
      matches tool (app_of c.in-Ok.tool) c.in-Ok.ensures c.args.words.now c.in-Ok-try_get_matches_from.matches refl parsed.matches,
    )

pub returns-clause-usage : goal.returns-clause-usage
returns-clause-usage c =
    let kinds = fails tool (app_of c.in-Ok.tool) c.in-Ok.ensures c.args.words.now (Err c.in-Err-2.field-0) refl c.in-Err-2.ensures.kinds in
    let others : kind_of c.in-Err-2.field-0 ≢ kind.OutOfMemory = search rules in
    λ _. some_fault (fault_of tool c.args.words.now) c.in-Err-2.field-0 kinds others

pub returns-in-Err-clause-usage : goal.returns-in-Err-clause-usage
returns-in-Err-clause-usage c = grind (arith, common_steps)

pub returns-in_default-clause-usage : goal.returns-in_default-clause-usage
returns-in_default-clause-usage c = grind (arith, common_steps)
