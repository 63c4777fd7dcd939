-- `carry_out`: its clauses `follows`, `sound`, `shown` and `work`, and what `restart` and `go` require.
use Rattle.std.proofs.Common.{ℕ, refl, sym, subst}
use Rattle.flash_session.specs.Outcome.{IsSound}
use Rattle.flash_session.proofs.GoLemmas.{survey_scripted, anew_size, anew_fit, anew_goes, shown_still, survey_still}
use Rattle.flash_session.proofs.carry_out.carry_out.Goals as goal

pub restart-requires-clause-twins : goal.restart-requires-clause-twins
restart-requires-clause-twins g c = (survey_scripted c.args.job.now c.args.survey.now c.requires.work).twins

pub go-requires-clause-fit : goal.go-requires-clause-fit
go-requires-clause-fit g c =
    anew_fit c.args.job.now c.args.survey.now c.requires.work c.restart.new.self c.restart.new.arena c.restart.ensures g.B.Bench.tells
    (g.B.Bench.state c.args.bench.now) c.requires.count c.requires.idle c.count.ensures.first c.count.ensures.second

pub go-requires-clause-size : goal.go-requires-clause-size
go-requires-clause-size g c = anew_size c.args.job.now c.args.survey.now c.requires.work c.restart.new.self c.restart.new.arena c.restart.ensures

pub returns-clause-follows : goal.returns-clause-follows
returns-clause-follows g c = λ told.
    anew_goes c.args.job.now c.args.survey.now c.requires.work c.restart.new.self c.restart.new.arena c.restart.ensures c.go.result
    (g.B.Bench.state c.args.bench.now) (g.B.Bench.state c.go.new.bench) (c.go.ensures.follows told)

pub returns-clause-sound : goal.returns-clause-sound
returns-clause-sound g c = subst (λ (n : ℕ). IsSound n c.go.result)
    (sym (anew_size c.args.job.now c.args.survey.now c.requires.work c.restart.new.self c.restart.new.arena c.restart.ensures)) c.go.ensures.sound

pub returns-clause-shown : goal.returns-clause-shown
returns-clause-shown g c = shown_still c.args.job.now c.args.survey.now c.requires.work c.restart.new.self c.restart.new.arena c.restart.ensures c.go.new.self
    c.go.ensures.same

pub returns-clause-work : goal.returns-clause-work
returns-clause-work g c = survey_still c.args.job.now c.args.survey.now c.requires.work c.restart.new.self c.restart.new.arena c.restart.ensures c.go.new.self
    c.go.ensures.same _ refl c.go.ensures.page c.go.ensures.fit.scripted.twins
