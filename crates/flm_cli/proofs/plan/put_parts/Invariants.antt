-- `put_parts`: what holds at each turn of its loop.
use Rattle.std.proofs.Common.{length, nat_lt, take, Ok}
use Rattle.std.specs.List.{flat_map}
use Rattle.outside_io.specs.Puts.{Puts}
use Rattle.flash_session.specs.declared.region_plan.RegionPlan.{RegionPlan}
use Rattle.flm_cli.specs.Steps.{part_text}
use Rattle.flm_cli.proofs.plan.put_parts.Given as goal

abbrev pub invariant-loop-part : goal.invariant-loop-part
invariant-loop-part g l = Puts g.O.Sink.tells (g.O.Sink.state l.initial.out) (g.O.Sink.state l.out)
    (flat_map (λ (p : RegionPlan). part_text (nat_lt 1 (length l.parts)) p) (take l.part-index l.parts)) (Ok tt)
