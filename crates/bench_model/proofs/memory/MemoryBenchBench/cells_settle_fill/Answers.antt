-- `MemoryBenchBench::cells_settle_fill`: that it keeps its contract.
use Rattle.std.proofs.lemmas.Grind.{common_steps}
use Rattle.std.proofs.Common.{arith, refl, ap, sym, subst, ◌∙◌, ◌≡◌, ℕ, List, length, replicate, Option, Some, None}
use Rattle.std.proofs.lemmas.List.{length-replicate}
use Rattle.bench_model.specs.Calls.{written}
use Rattle.bench_model.specs.State.{SameOutside}
use Rattle.bench_model.specs.Memory.{InStep}
use Rattle.faults.specs.FailingCalls.{Numbered}
use Rattle.bench_model.specs.Shown.{shown}
use Rattle.bench_model.specs.Record.{held_now, filled}
use Rattle.bench_model.proofs.MemoryLemmas.{why_failed, went_cause, in_open, step_filled, within, length-in_range}
use Rattle.bench_model.proofs.MemoryLemmas.{only_in_range, in_step_after, longest-after, made-after}
use Rattle.bench_model.proofs.MemoryLemmas.{greatest-after, ended_adds_nothing, file_stays_after}
use Rattle.bench_model.proofs.memory.MemoryBenchBench.cells_settle_fill.Goals as goal

pub invariant_of-self-2 : goal.invariant_of-self-2
invariant_of-self-2 c =
    let m = c.args.self.now in
    let e = filled c.args.value in
    let r' = c.note.new.self in
    let is = c.note.ensures in
    let op : m.operation ≡ Some (c.in-Some.at, c.in-Some.len) = c.in-Some.is in
    let inside = within (held_now m.history) m.file.items m.cells.items m.operation m.in_step c.in-Some.at c.in-Some.len op in
    let new = written c.in-Some.at (replicate c.in-Some.len c.args.value) m.cells.items in
    let same = length-replicate c.in-Some.len c.args.value in
    let long = length-in_range m.cells.items c.in-Some.at c.in-Some.len inside (replicate c.in-Some.len c.args.value) same in
    let step = step_filled (held_now m.history) m.file.items m.cells.items m.operation m.in_step c.in-Some.at c.in-Some.len op c.args.value in
    record {
      in_step = subst (λ (l : List ℕ). InStep (held_now r') m.file.items l None) (sym c.settle_fill.ensures.items) (in_step_after m.history r' e is _ _ _ step);
      fits = omega (arith, m.fits, ap length c.settle_fill.ensures.items, long);
      file_bytes = m.file_bytes;
      cells_bytes = c.settle_fill.ensures.bytes;
      counted = made-after m.history r' e is ∙ m.counted ∙ sym long ∙ sym (ap length c.settle_fill.ensures.items);
      within = omega (arith, m.within, greatest-after m.history r' e is, longest-after m.history r' e is);
      file_fits = omega (arith, m.file_fits, longest-after m.history r' e is);
      room_fits = omega (arith, m.room_fits, longest-after m.history r' e is);
    }

pub returns-clause-does : goal.returns-clause-does
returns-clause-does c =
    let m = c.args.self.now in
    let e = filled c.args.value in
    let r' = c.note.new.self in
    let is = c.note.ensures in
    let op : m.operation ≡ Some (c.in-Some.at, c.in-Some.len) = c.in-Some.is in
    let inside = within (held_now m.history) m.file.items m.cells.items m.operation m.in_step c.in-Some.at c.in-Some.len op in
    let new = written c.in-Some.at (replicate c.in-Some.len c.args.value) m.cells.items in
    let same = length-replicate c.in-Some.len c.args.value in
    let long = length-in_range m.cells.items c.in-Some.at c.in-Some.len inside (replicate c.in-Some.len c.args.value) same in
    let step = step_filled (held_now m.history) m.file.items m.cells.items m.operation m.in_step c.in-Some.at c.in-Some.len op c.args.value in
    let only : SameOutside m.operation m.cells.items new = subst (λ (o : Option (ℕ × ℕ)). SameOutside o m.cells.items new) (sym op)
    (only_in_range m.cells.items c.in-Some.at c.in-Some.len inside (replicate c.in-Some.len c.args.value) same) in
    record {
      ok = λ told. record {
        operation = refl;
        cells = in_open (λ n. replicate n c.args.value) m.operation c.in-Some.at c.in-Some.len op m.cells.items _
            c.settle_fill.ensures.items;
      };
      err = λ told. tt;
      count = ap length c.settle_fill.ensures.items ∙ long;
      moments = ended_adds_nothing m.history r' e is m.file.items m.cells.items m.operation m.in_step new step only;
      file = record { file = refl; faults = refl; half = file_stays_after m.history r' e is refl };
      cause = went_cause tt m.device c.next_goes.new.self (c.next_goes.ensures.goes c.if-not-next_goes.false).0;
    }

pub returns-then-not-next_goes-clause-does : goal.returns-then-not-next_goes-clause-does
returns-then-not-next_goes-clause-does c = grind (arith, common_steps)

pub note-requires-clause-room : goal.note-requires-clause-room
note-requires-clause-room c = grind (arith, common_steps)

pub returns-then-not-next_goes-clause-acts : goal.returns-then-not-next_goes-clause-acts
returns-then-not-next_goes-clause-acts c =
    let m = c.args.self.now in
    let failed = c.next_goes.ensures.fails c.if-not-next_goes.true in
    (why_failed m.device c.has_room-room.ensures.1 failed.1, ap (λ (n : Numbered). record (shown m) { device = n }) failed.0)

pub settle_fill-requires : goal.settle_fill-requires
settle_fill-requires c = grind (arith, common_steps)
