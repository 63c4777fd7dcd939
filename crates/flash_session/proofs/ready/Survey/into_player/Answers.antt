-- `Survey::into_player`: its contract, `IsPlayerOf`.
use Rattle.flash_session.proofs.GoLemmas.{anew_player}
use Rattle.flash_session.proofs.ready.Survey.into_player.Goals as goal

pub returns : goal.returns
returns c = λ j work. anew_player j c.args.self work c.restart.new.self c.restart.new.arena c.restart.ensures c.count.ensures.first c.count.ensures.second
