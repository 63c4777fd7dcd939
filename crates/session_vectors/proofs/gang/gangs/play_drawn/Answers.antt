-- `play_drawn`: that its loop keeps its invariant, and what `turns` requires.
use Rattle.std.proofs.lemmas.Grind.{common_steps}
use Rattle.std.proofs.Common.{◌∙◌, refl, sym, arith}
use Rattle.session_vectors.proofs.gang.gangs.play_drawn.Goals as goal

pub loop-number-init : goal.loop-number-init
loop-number-init g c = (c.requires.gang, c.requires.ready, refl, sym c.requires.count)

pub loop-number-preserved : goal.loop-number-preserved
loop-number-preserved g c = (c.turns.ensures.gang, c.turns.ensures.ready, c.turns.ensures.count ∙ c.loop-number.invariant.2, sym c.turns.ensures.places)

pub turns-requires-clause-count : goal.turns-requires-clause-count
turns-requires-clause-count g c = grind (arith, common_steps)
