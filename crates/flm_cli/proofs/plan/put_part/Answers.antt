-- `put_part`: its contract, `Puts`.
use Rattle.std.proofs.Common.{Bool, sym, ap}
use Rattle.outside_io.proofs.PutTexts.{puts_as}
use Rattle.flm_cli.specs.Steps.{part_text}
use Rattle.flm_cli.proofs.plan.put_part.Goals as goal

pub returns-then-named : goal.returns-then-named
returns-then-named g c = puts_as (ap (λ (b : Bool). part_text b c.args.part.now) (sym c.if-named.true)) c.put_named.ensures

pub returns : goal.returns
returns g c = puts_as (ap (λ (b : Bool). part_text b c.args.part.now) (sym c.if-named.false)) c.put_plan.ensures
