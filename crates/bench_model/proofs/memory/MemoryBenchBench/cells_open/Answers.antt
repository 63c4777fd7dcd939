-- `MemoryBenchBench::cells_open`: that it keeps its contract.
use Rattle.std.proofs.lemmas.Grind.{common_steps}
use Rattle.std.proofs.Common.{ap, arith, refl, ◌∙◌}
use Rattle.faults.specs.FailingCalls.{Numbered}
use Rattle.bench_model.specs.Shown.{shown}
use Rattle.bench_model.specs.Record.{held_now, opened}
use Rattle.bench_model.proofs.MemoryLemmas.{why_failed, went_cause, step_opened, in_step_after, longest-after}
use Rattle.bench_model.proofs.MemoryLemmas.{made-after, greatest-after, opened_leaves, file_stays_after}
use Rattle.bench_model.proofs.memory.MemoryBenchBench.cells_open.Goals as goal

pub invariant_of-self-2 : goal.invariant_of-self-2
invariant_of-self-2 c =
    let m = c.args.self.now in
    let e = opened c.args.at c.args.len in
    let r' = c.note.new.self in
    let is = c.note.ensures in
    record {
      in_step = in_step_after m.history r' e is _ _ _ (step_opened (held_now m.history) m.file.items m.cells.items m.operation m.in_step c.args.at c.args.len
          c.requires.some c.requires.range);
      fits = m.fits;
      file_bytes = m.file_bytes;
      cells_bytes = m.cells_bytes;
      counted = made-after m.history r' e is ∙ m.counted;
      within = omega (arith, m.within, greatest-after m.history r' e is, longest-after m.history r' e is);
      file_fits = omega (arith, m.file_fits, longest-after m.history r' e is);
      room_fits = omega (arith, m.room_fits, longest-after m.history r' e is);
    }

pub returns-clause-does : goal.returns-clause-does
returns-clause-does c =
    let m = c.args.self.now in
    let e = opened c.args.at c.args.len in
    let r' = c.note.new.self in
    let is = c.note.ensures in
    record {
      ok = λ told. refl;
      err = λ told. tt;
      cells = λ told. refl;
      count = refl;
      moments = opened_leaves m.history r' e is m.file.items m.cells.items m.operation m.in_step c.args.at c.args.len (c.requires.idle refl) c.requires.some
          c.requires.range refl;
      file = record { file = refl; faults = refl; half = file_stays_after m.history r' e is refl };
      cause = went_cause tt m.device c.next_goes.new.self (c.next_goes.ensures.goes c.if-not-next_goes.false).0;
    }

pub returns-then-not-next_goes-clause-does : goal.returns-then-not-next_goes-clause-does
returns-then-not-next_goes-clause-does c = grind (arith, common_steps)

pub note-requires-clause-room : goal.note-requires-clause-room
note-requires-clause-room c = grind (arith, common_steps)

pub returns-then-not-next_goes-clause-acts : goal.returns-then-not-next_goes-clause-acts
returns-then-not-next_goes-clause-acts c =
    let m = c.args.self.now in
    let failed = c.next_goes.ensures.fails c.if-not-next_goes.true in
    (why_failed m.device c.has_room-room.ensures.1 failed.1, ap (λ (n : Numbered). record (shown m) { device = n }) failed.0)
