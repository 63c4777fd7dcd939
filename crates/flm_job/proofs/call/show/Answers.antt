-- `show`: its contract, `Answers`.
use Rattle.std.proofs.Common.{inl, inr, refl}
use Rattle.report_text.specs.Shown.{shown}
use Rattle.command_files.specs.Call.{done, refused, sink_call}
use Rattle.flm_job.proofs.CallLemmas.{never_zero, listing_only, undamaged, given_damaged}
use Rattle.flm_job.proofs.call.show.Goals as goal

pub returns-in-Ok : goal.returns-in-Ok
returns-in-Ok g c = inl (record {
  after = c.work.new.bench;
  answer = done;
  says = (refl, record { taken = refl; faults = refl });
  zero = λ is. refl;
  ends = c.in-Ok.ensures;
  listing = tt;
})

pub returns-in_default : goal.returns-in_default
returns-in_default g c = inl (record {
  after = c.work.new.bench;
  answer = refused (shown c.in-Err.refusal);
  says = (c.refuse-status.ensures.status, c.refuse-status.ensures.line);
  zero = λ is. never_zero (shown c.in-Err.refusal) _ c.refuse-status.ensures.status is;
  ends = c.in-Err.ensures;
  listing = listing_only c.args.words.now _ _ (shown c.in-Err.refusal) c.in_default.ensures.none c.in-Err.ensures;
})

pub returns-in_default-found_of : goal.returns-in_default-found_of
returns-in_default-found_of g c = inl (record {
  after = c.work.new.bench;
  answer = refused (shown c.in-Err.refusal);
  says = (c.refuse-status.ensures.status, c.refuse-status.ensures.line);
  zero = λ is. never_zero (shown c.in-Err.refusal) _ c.refuse-status.ensures.status is;
  ends = c.in-Err.ensures;
  listing = undamaged (shown c.in-Err.refusal) _ c.in_default-found_of.ensures.none;
})

pub returns : goal.returns
returns g c = inr (given_damaged g.B.Bench.state g.B.Bench.tells c.args.words.now c.rescue.result c.args.bench c.work.new.bench
    (sink_call g.O.Sink.tells (g.O.Sink.state c.args.out.now) (g.O.Sink.state c.rescue.new.out))
    (sink_call g.E.Sink.tells (g.E.Sink.state c.args.err.now) (g.E.Sink.state c.rescue.new.err)) (shown c.in-Err.refusal) c.in-Some-found_of.hash c.in-Some.part
    (g.O.Sink.state c.work.new.out) (g.E.Sink.state c.refuse-status.new.err) c.in-Some.ensures.some.0 c.in-Some.ensures.some.1 c.in-Some-found_of.ensures.some
    c.in-Err.ensures c.refuse-status.ensures.line c.rescue.ensures)
