-- `work`: its contract, `Ends`.
use Rattle.std.proofs.Common.{inl, inr, refl}
use Rattle.bench_model.proofs.Moments.{file_stays_here, cells_stay_here}
use Rattle.flm_job.proofs.call.work.Goals as goal

pub returns-in-Some : goal.returns-in-Some
returns-in-Some g c = inl (record { part = c.in-Some.part; ask = c.in-Some.ensures.some; ends = c.give.ensures })

pub returns-in-None : goal.returns-in-None
returns-in-None g c = inr (record {
  none = c.in-None.ensures.none;
  answer_is = refl;
  untouched = record { file = file_stays_here _; cells = cells_stay_here _ };
  prints = record { taken = refl; faults = refl };
})
