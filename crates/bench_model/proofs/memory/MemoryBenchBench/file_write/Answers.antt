-- `MemoryBenchBench::file_write`: that it keeps its contract.
use Rattle.std.proofs.lemmas.Grind.{common_steps}
use Rattle.std.proofs.Common.{ap, arith, refl, sym, subst, ◌∙◌, ◌+◌, ◌≤◌, ℕ, List, length}
use Rattle.bench_model.specs.Memory.{InStep}
use Rattle.faults.specs.FailingCalls.{Numbered}
use Rattle.bench_model.specs.Shown.{shown}
use Rattle.bench_model.specs.Record.{held_now, wrote}
use Rattle.bench_model.proofs.MemoryLemmas.{why_failed, went_cause, step_wrote, in_step_after, longest-after}
use Rattle.bench_model.proofs.MemoryLemmas.{made-after, greatest-after, wrote_leaves, cells_stay_after}
use Rattle.bench_model.proofs.memory.MemoryBenchBench.file_write.Goals as goal

pub invariant_of-self-2 : goal.invariant_of-self-2
invariant_of-self-2 c =
    let m = c.args.self.now in
    let e = wrote c.args.at c.args.bytes.now in
    let r' = c.note.new.self in
    let is = c.note.ensures in
    let room : c.args.at + length c.args.bytes.now ≤ m.file_room = (c.can_write-room.ensures.0 (c.next_goes.ensures.goes c.if-not-next_goes.false).1).0 in
    record {
      in_step = subst (λ (f : List ℕ). InStep (held_now r') f m.cells.items m.operation) (sym c.overwrite.ensures.items)
          (in_step_after m.history r' e is _ _ _ (step_wrote (held_now m.history) m.file.items m.cells.items m.operation m.in_step c.args.at c.args.bytes.now
          (c.requires refl)));
      fits = m.fits;
      file_bytes = c.overwrite.ensures.bytes;
      cells_bytes = m.cells_bytes;
      counted = made-after m.history r' e is ∙ m.counted;
      within = omega (arith, m.within, greatest-after m.history r' e is, longest-after m.history r' e is, m.room_fits, room);
      file_fits = omega (arith, m.file_fits, longest-after m.history r' e is, c.overwrite.ensures.capacity);
      room_fits = omega (arith, m.room_fits, longest-after m.history r' e is);
    }

pub returns-clause-does : goal.returns-clause-does
returns-clause-does c =
    let m = c.args.self.now in
    let e = wrote c.args.at c.args.bytes.now in
    let r' = c.note.new.self in
    let is = c.note.ensures in
    record {
      ok = λ told. c.overwrite.ensures.items;
      err = λ told. tt;
      moments = wrote_leaves m.history r' e is m.file.items m.cells.items m.operation m.in_step c.args.at c.args.bytes.now (c.requires refl) refl;
      cells = record { cells = refl; operation = refl; count = refl; faults = refl; half = cells_stay_after m.history r' e is (λ x. ((λ at. at), (λ at. at))) };
      cause = went_cause tt m.store c.next_goes.new.self (c.next_goes.ensures.goes c.if-not-next_goes.false).0;
    }

pub returns-then-not-next_goes-clause-does : goal.returns-then-not-next_goes-clause-does
returns-then-not-next_goes-clause-does c = grind (arith, common_steps)

pub returns-clause-acts : goal.returns-clause-acts
returns-clause-acts c = grind (arith, common_steps)

pub note-requires-clause-marks : goal.note-requires-clause-marks
note-requires-clause-marks c = grind (arith, common_steps)

pub overwrite-requires-clause-room : goal.overwrite-requires-clause-room
overwrite-requires-clause-room c = grind (arith, common_steps)

pub overwrite-requires-clause-inside : goal.overwrite-requires-clause-inside
overwrite-requires-clause-inside c = grind (arith, common_steps)

pub note-requires-clause-room : goal.note-requires-clause-room
note-requires-clause-room c = grind (arith, common_steps)

pub returns-then-not-next_goes-clause-acts : goal.returns-then-not-next_goes-clause-acts
returns-then-not-next_goes-clause-acts c =
    let m = c.args.self.now in
    let failed = c.next_goes.ensures.fails c.if-not-next_goes.true in
    (why_failed m.store c.can_write-room.ensures.1 failed.1, ap (λ (n : Numbered). record (shown m) { store = n }) failed.0)
