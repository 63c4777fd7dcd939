-- `survey_region`: its clause `part`, and what `survey_windows` requires.
use Rattle.std.proofs.Common.{refl, ap, arith}
use Rattle.page_geometry.specs.Geometry.{Geometry}
use Rattle.flash_session.proofs.SurveyLemmas.{part_after}
use Rattle.flash_session.proofs.region_survey.survey_region.Goals as goal

pub survey_windows-requires-clause-size : goal.survey_windows-requires-clause-size
survey_windows-requires-clause-size g c = ap (λ (l : Geometry). l.size) c.requires.part.layout

pub survey_windows-requires-clause-inside : goal.survey_windows-requires-clause-inside
survey_windows-requires-clause-inside g c = omega (arith, c.requires.inside, ap (λ (l : Geometry). l.size) c.requires.part.layout)

pub survey_windows-requires-clause-places : goal.survey_windows-requires-clause-places
survey_windows-requires-clause-places g c = omega (arith, c.requires.inside, c.cells_len-cells.ensures, ap (λ (l : Geometry). l.size) c.requires.part.layout)

pub returns-clause-part : goal.returns-clause-part
returns-clause-part g c = part_after c.survey_windows.result _ c.args.part.now _ refl refl c.requires.part c.survey_windows.ensures.covers
