-- `survey_part`: its clauses `found`, `store` and `device`, and what `survey_region` requires.
use Rattle.std.proofs.Common.{◌∙◌, sym, arith}
use Rattle.bench_model.specs.Counted.{is_store_fault, is_device_fault}
use Rattle.flash_session.specs.declared.windows.Unread.TheVariants as unread
use Rattle.flash_session.proofs.FoundLemmas.{found_by}
use Rattle.flash_session.proofs.UnreadLemmas.{unread_counted}
use Rattle.flash_session.proofs.survey.survey_part.Goals as goal

pub survey_region-requires-clause-inside : goal.survey_region-requires-clause-inside
survey_region-requires-clause-inside g c = omega (arith, c.requires.inside, c.requires.count, c.in_ok-part.ensures.place)

pub survey_region-requires-clause-source : goal.survey_region-requires-clause-source
survey_region-requires-clause-source g c = (sym c.requires.count, c.requires.stands)

pub returns-in-Ok-clause-found : goal.returns-in-Ok-clause-found
returns-in-Ok-clause-found g c =
    found_by g.B.Bench.tells c.args.job c.args.goal _ c.args.start (g.B.Bench.state c.args.bench.now) c.survey_region.new.part c.in-Ok.ensures.part
    (c.survey_region.ensures.place ∙ c.in_ok-part.ensures.place) c.in-Ok.ensures.plan

pub returns-in-Err-Device-clause-store : goal.returns-in-Err-Device-clause-store
returns-in-Err-Device-clause-store g c = unread_counted is_store_fault c.in-Err-Device.field-0 unread.Device _ _ c.in-Err-Device.field-0-is
    c.in-Err-Device.ensures.store

pub returns-in-Err-Device-clause-device : goal.returns-in-Err-Device-clause-device
returns-in-Err-Device-clause-device g c = unread_counted is_device_fault c.in-Err-Device.field-0 unread.Device _ _ c.in-Err-Device.field-0-is
    c.in-Err-Device.ensures.device

pub returns-clause-store : goal.returns-clause-store
returns-clause-store g c = unread_counted is_store_fault c.in-Err-Store.field-0 unread.Store _ _ c.in-Err-Store.field-0-is c.in-Err-Store.ensures.store

pub returns-clause-device : goal.returns-clause-device
returns-clause-device g c = unread_counted is_device_fault c.in-Err-Store.field-0 unread.Store _ _ c.in-Err-Store.field-0-is c.in-Err-Store.ensures.device

pub returns-in-Ok-clause-store : goal.returns-in-Ok-clause-store
returns-in-Ok-clause-store g c = c.in-Ok.ensures.store

pub returns-in-Ok-clause-device : goal.returns-in-Ok-clause-device
returns-in-Ok-clause-device g c = c.in-Ok.ensures.device
