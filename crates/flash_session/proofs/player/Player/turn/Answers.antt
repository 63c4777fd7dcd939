-- `Player::turn`: its clauses `turns`, `slice` and `one`, and what `play` requires.
use Rattle.std.proofs.Common.{◌∙◌, sym, arith}
use Rattle.std.proofs.lemmas.Grind.{common_steps}
use Rattle.flash_session.specs.Targets.{goal_for}
use Rattle.flash_session.specs.declared.cursor.Place.TheVariants as place
use Rattle.flash_session.proofs.TakesLemmas.{slice_from}
use Rattle.flash_session.proofs.WholeLemmas.{is_close}
use Rattle.flash_session.proofs.player.Player.turn.Goals as goal

pub returns-then-is_closing-clause-turns : goal.returns-then-is_closing-clause-turns
returns-then-is_closing-clause-turns g c = c.close.ensures.turns (goal_for c.args.job.now c.args.self.now (g.B.Bench.state c.args.bench.now).file)

pub returns-then-is_closing-clause-slice : goal.returns-then-is_closing-clause-slice
returns-then-is_closing-clause-slice g c =
    slice_from g.B.Bench.tells (goal_for c.args.job.now c.args.self.now (g.B.Bench.state c.args.bench.now).file) c.args.steps c.args.self.now.place
    place.Closing _ _ _ _ _ _ (is_close c.args.self.now.place (sym c.is_closing.ensures ∙ c.if-is_closing.true)) c.close.ensures.still

pub returns-then-is_closing-clause-one : goal.returns-then-is_closing-clause-one
returns-then-is_closing-clause-one g c = grind (arith, common_steps)

pub play-requires-clause-playing : goal.play-requires-clause-playing
play-requires-clause-playing g c = grind (arith, common_steps)

pub returns-else-is_closing-clause-turns : goal.returns-else-is_closing-clause-turns
returns-else-is_closing-clause-turns g c = c.play.ensures.turns

pub returns-else-is_closing-clause-one : goal.returns-else-is_closing-clause-one
returns-else-is_closing-clause-one g c = c.play.ensures.one

pub returns-else-is_closing-clause-slice : goal.returns-else-is_closing-clause-slice
returns-else-is_closing-clause-slice g c = c.play.ensures.slice
