-- `play`: that its loop keeps its invariant.
use Rattle.std.proofs.Common.{◌∙◌, refl, sym}
use Rattle.session_vectors.proofs.gang.gangs.play.Goals as goal

pub loop-number-init : goal.loop-number-init
loop-number-init g c = (c.requires.gang, c.requires.ready, refl, sym c.requires.count)

pub loop-number-preserved : goal.loop-number-preserved
loop-number-preserved g c = (
  c.turn.ensures.gang,
  c.turn.ensures.ready,
  c.turn.ensures.turn.count ∙ c.loop-number.invariant.2,
  c.turn.ensures.turn.places ∙ c.loop-number.invariant.3
      ∙ sym c.turn.ensures.turn.count,
)
