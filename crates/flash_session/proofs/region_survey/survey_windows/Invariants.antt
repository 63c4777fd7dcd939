-- `survey_windows`: what falls with each turn of each of its loops.
use Rattle.std.proofs.Common.{◌-◌}
use Rattle.flash_session.proofs.SurveyLemmas.{SurveyedTo}
use Rattle.flash_session.proofs.region_survey.survey_windows.Given as given

abbrev pub invariant-loop-at : given.invariant-loop-at
invariant-loop-at g l = SurveyedTo g.B.Bench.tells l.aim.source l.aim.geometry.now l.aim.algorithm.now.device.empty l.aim.algorithm.now.device.base l.aim.start
    (g.B.Bench.state l.fn.bench) (g.B.Bench.state l.bench) l.plan l.cells l.wanted l.at

abbrev pub decreases-loop-at : given.decreases-loop-at
decreases-loop-at g l = l.count - l.at
