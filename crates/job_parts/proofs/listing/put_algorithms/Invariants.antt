-- `put_algorithms`: what holds at each turn of its loop.
use Rattle.std.proofs.Common.{take, Ok}
use Rattle.std.specs.List.{flat_map}
use Rattle.flm_descriptor.specs.declared.algorithm.Algorithm.{Algorithm}
use Rattle.flm_descriptor.specs.Shown.{shown}
use Rattle.report_text.specs.Inspection.{inspection_text}
use Rattle.outside_io.specs.Puts.{Puts}
use Rattle.job_parts.proofs.listing.put_algorithms.Given as goal

abbrev pub invariant-loop-algorithm : goal.invariant-loop-algorithm
invariant-loop-algorithm g l = Puts g.O.Sink.tells (g.O.Sink.state l.initial.out) (g.O.Sink.state l.out)
    (flat_map (λ (a : Algorithm). inspection_text (shown a)) (take l.algorithm-index l.algorithms)) (Ok tt)
