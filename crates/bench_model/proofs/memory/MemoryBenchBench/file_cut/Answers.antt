-- `MemoryBenchBench::file_cut`: that it keeps its contract.
use Rattle.std.proofs.lemmas.Grind.{common_steps}
use Rattle.std.proofs.Common.{ap, arith, refl, sym, subst, ◌∙◌, ◌<◌, ℕ, List, All}
use Rattle.std.proofs.lemmas.List.Elements.{All-take}
use Rattle.bench_model.specs.Memory.{InStep}
use Rattle.faults.specs.FailingCalls.{Numbered}
use Rattle.bench_model.specs.Shown.{shown}
use Rattle.bench_model.specs.Record.{held_now, cut}
use Rattle.bench_model.proofs.MemoryLemmas.{why_failed, went_cause, step_cut, in_step_after, longest-after}
use Rattle.bench_model.proofs.MemoryLemmas.{made-after, greatest-after, cut_leaves, cells_stay_after}
use Rattle.bench_model.proofs.memory.MemoryBenchBench.file_cut.Goals as goal

pub invariant_of-self-2 : goal.invariant_of-self-2
invariant_of-self-2 c =
    let m = c.args.self.now in
    let e = cut c.args.len in
    let r' = c.note.new.self in
    let is = c.note.ensures in
    record {
      in_step = subst (λ (f : List ℕ). InStep (held_now r') f m.cells.items m.operation) (sym c.truncate.ensures.items)
          (in_step_after m.history r' e is _ _ _ (step_cut (held_now m.history) m.file.items m.cells.items m.operation m.in_step c.args.len (c.requires refl)));
      fits = m.fits;
      file_bytes = subst (All (λ (byte : ℕ). byte < 256)) (sym c.truncate.ensures.items)
          (All-take (λ (byte : ℕ). byte < 256) c.args.len m.file.items m.file_bytes);
      cells_bytes = m.cells_bytes;
      counted = made-after m.history r' e is ∙ m.counted;
      within = omega (arith, m.within, greatest-after m.history r' e is, longest-after m.history r' e is);
      file_fits = omega (arith, m.file_fits, longest-after m.history r' e is, c.truncate.ensures.capacity);
      room_fits = omega (arith, m.room_fits, longest-after m.history r' e is);
    }

pub returns-clause-does : goal.returns-clause-does
returns-clause-does c =
    let m = c.args.self.now in
    let e = cut c.args.len in
    let r' = c.note.new.self in
    let is = c.note.ensures in
    record {
      ok = λ told. c.truncate.ensures.items;
      err = λ told. tt;
      moments = cut_leaves m.history r' e is m.file.items m.cells.items m.operation m.in_step c.args.len (c.requires refl) refl;
      cells = record { cells = refl; operation = refl; count = refl; faults = refl; half = cells_stay_after m.history r' e is (λ x. ((λ at. at), (λ at. at))) };
      cause = went_cause tt m.store c.next_goes.new.self (c.next_goes.ensures.goes c.if-not-next_goes.false).0;
    }

pub returns-then-not-next_goes-clause-does : goal.returns-then-not-next_goes-clause-does
returns-then-not-next_goes-clause-does c = grind (arith, common_steps)

pub returns-then-not-next_goes-clause-acts : goal.returns-then-not-next_goes-clause-acts
returns-then-not-next_goes-clause-acts c =
    let m = c.args.self.now in
    let failed = c.next_goes.ensures.fails c.if-not-next_goes.true in
    (why_failed m.store c.has_room-room.ensures.1 failed.1, ap (λ (n : Numbered). record (shown m) { store = n }) failed.0)

pub note-requires-clause-room : goal.note-requires-clause-room
note-requires-clause-room c = grind (arith, common_steps)

pub note-requires-clause-marks : goal.note-requires-clause-marks
note-requires-clause-marks c = grind (arith, common_steps)
