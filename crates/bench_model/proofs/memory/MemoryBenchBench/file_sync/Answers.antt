-- `MemoryBenchBench::file_sync`: that it keeps its contract.
use Rattle.std.proofs.lemmas.Grind.{common_steps}
use Rattle.std.proofs.Common.{arith, refl, ap, ◌∙◌, length}
use Rattle.faults.specs.FailingCalls.{Numbered}
use Rattle.bench_model.specs.Record.{held_now, synced}
use Rattle.bench_model.specs.Shown.{shown}
use Rattle.bench_model.proofs.MemoryLemmas.{why_failed, went_cause, step_synced, in_step_after, longest-after, made-after, greatest-after, synced_adds_nothing}
use Rattle.bench_model.proofs.MemoryLemmas.{synced_leaves_only, cells_stay_after}
use Rattle.bench_model.proofs.memory.MemoryBenchBench.file_sync.Goals as goal

pub invariant_of-self-2 : goal.invariant_of-self-2
invariant_of-self-2 c =
    let m = c.args.self.now in
    let e = synced in
    let r' = c.note_sync.new.self in
    let is = c.note_sync.ensures in
    record {
      in_step = in_step_after m.history r' e is _ _ _ (step_synced (held_now m.history) m.file.items m.cells.items m.operation m.in_step);
      fits = m.fits;
      file_bytes = m.file_bytes;
      cells_bytes = m.cells_bytes;
      counted = made-after m.history r' e is ∙ m.counted;
      within = omega (
        arith,
        m.within,
        greatest-after m.history r' e is,
        longest-after m.history r' e is,
        ap length m.in_step.same_file,
        m.in_step.left.no_longer,
      );
      file_fits = omega (arith, m.file_fits, longest-after m.history r' e is);
      room_fits = omega (arith, m.room_fits, longest-after m.history r' e is);
    }

pub returns-clause-does : goal.returns-clause-does
returns-clause-does c =
    let m = c.args.self.now in
    let e = synced in
    let r' = c.note_sync.new.self in
    let is = c.note_sync.ensures in
    record {
      ok = λ told. synced_leaves_only m.history r' e is m.file.items m.cells.items m.operation m.in_step refl;
      file = λ told. refl;
      moments = synced_adds_nothing m.history r' e is m.file.items m.cells.items m.operation m.in_step refl;
      cells = record { cells = refl; operation = refl; count = refl; faults = refl; half = cells_stay_after m.history r' e is (λ x. ((λ at. at), (λ at. at))) };
      cause = went_cause tt m.store c.next_goes.new.self (c.next_goes.ensures.goes c.if-not-next_goes.false).0;
    }

pub returns-then-not-next_goes-clause-does : goal.returns-then-not-next_goes-clause-does
returns-then-not-next_goes-clause-does c = grind (arith, common_steps)

pub note_sync-requires-clause-room : goal.note_sync-requires-clause-room
note_sync-requires-clause-room c = grind (arith, common_steps)

pub returns-then-not-next_goes-clause-acts : goal.returns-then-not-next_goes-clause-acts
returns-then-not-next_goes-clause-acts c =
    let m = c.args.self.now in
    let failed = c.next_goes.ensures.fails c.if-not-next_goes.true in
    (why_failed m.store c.has_room-room.ensures.1 failed.1, ap (λ (n : Numbered). record (shown m) { store = n }) failed.0)
