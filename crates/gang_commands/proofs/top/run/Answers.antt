-- `run`: its contract, `Runs`, and what `put_targets` requires.
use Rattle.std.proofs.Common.{◌≡◌, ℕ, List, Result, refl, sym, subst, arith, inl, inr}
use Rattle.outside_io.specs.declared.sink.OutputFault.{OutputFault}
use Rattle.command_files.specs.Call.{SinkCall, sink_call}
use Rattle.command_files.specs.Said.{TookAll, TookPart}
use Rattle.gang_commands.specs.Lines.{Outcome, lines_of, status_in}
use Rattle.gang_commands.specs.Puts.{PutsEnds}
use Rattle.gang_commands.proofs.top.run.Goals as goal

pub put_targets-put-requires-clause-count : goal.put_targets-put-requires-clause-count
put_targets-put-requires-clause-count g c = sym c.run.ensures.places

pub put_targets-put-requires-clause-few : goal.put_targets-put-requires-clause-few
put_targets-put-requires-clause-few g c = omega (arith, c.requires.few, c.run.ensures.count)

pub put_targets-put-requires-clause-ended : goal.put_targets-put-requires-clause-ended
put_targets-put-requires-clause-ended g c = λ i less. c.run.ensures.ended i (omega (arith, less, c.run.ensures.count))

pub returns-in-Ok : goal.returns-in-Ok
returns-in-Ok g c =
    let out : SinkCall = sink_call g.O.Sink.tells (g.O.Sink.state c.args.out.now) (g.O.Sink.state c.put_targets-put.new.out) in
    let ends : List Outcome = c.put_targets-put.ensures.0 in
    let said : TookAll out (lines_of ends) × (c.in-Ok.status ≡ status_in ends) =
    subst (λ (r : Result ℕ OutputFault). PutsEnds out ends r) c.in-Ok.is c.put_targets-put.ensures.2 in
    record {
      now = c.run.new.self;
      since = c.run.ensures.since;
      kept = c.run.ensures.kept;
      count = c.run.ensures.count;
      places = c.run.ensures.places;
      is_gang = c.run.ensures.gang;
      ended = c.run.ensures.ended;
      ends = ends;
      outcomes = c.put_targets-put.ensures.1;
      says = inl (said.0, said.1, record { taken = refl; faults = refl });
    }

pub returns-in-Err : goal.returns-in-Err
returns-in-Err g c =
    let out : SinkCall = sink_call g.O.Sink.tells (g.O.Sink.state c.args.out.now) (g.O.Sink.state c.put_targets-put.new.out) in
    let ends : List Outcome = c.put_targets-put.ensures.0 in
    let said : TookPart out (lines_of ends) = subst (λ (r : Result ℕ OutputFault). PutsEnds out ends r) c.in-Err.is c.put_targets-put.ensures.2 in
    record {
      now = c.run.new.self;
      since = c.run.ensures.since;
      kept = c.run.ensures.kept;
      count = c.run.ensures.count;
      places = c.run.ensures.places;
      is_gang = c.run.ensures.gang;
      ended = c.run.ensures.ended;
      ends = ends;
      outcomes = c.put_targets-put.ensures.1;
      says = inr (said, c.refuse.ensures);
    }
