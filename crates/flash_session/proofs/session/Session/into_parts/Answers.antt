-- `Session::into_parts`: its clause `player`, and what `into_player` requires.
use Rattle.std.proofs.Common.{Option, IfSome, sym, subst}
use Rattle.flash_session.specs.declared.ready.Survey.{Survey}
use Rattle.flash_session.specs.Parts.{IsPlayerOf}
use Rattle.flash_session.specs.Sessions.{shown_in}
use Rattle.flash_session.proofs.GoLemmas.{survey_scripted}
use Rattle.flash_session.proofs.session.Session.into_parts.Goals as goal

pub returns-clause-player : goal.returns-clause-player
returns-clause-player c =
    let j = c.args.self.job in
    subst (λ (o : Option Survey). IfSome (shown_in o) (λ v. IsPlayerOf j v c.into_player-player.result)) (sym c.in-Some.is)
    (c.into_player-player.ensures j (c.args.self.works c.in-Some.survey c.in-Some.is))

pub into_player-player-requires : goal.into_player-player-requires
into_player-player-requires c = (survey_scripted c.args.self.job c.in-Some.survey (c.args.self.works c.in-Some.survey c.in-Some.is)).twins
