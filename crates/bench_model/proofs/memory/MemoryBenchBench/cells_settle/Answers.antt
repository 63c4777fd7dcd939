-- `MemoryBenchBench::cells_settle`: that it keeps its contract.
use Rattle.std.proofs.lemmas.Grind.{common_steps}
use Rattle.std.proofs.Common.{arith, refl, ap, sym, subst, ◌∙◌, ◌≡◌, ℕ, List, length, Option, Some, None}
use Rattle.bench_model.specs.Calls.{written}
use Rattle.bench_model.specs.State.{SameOutside}
use Rattle.bench_model.specs.Memory.{InStep}
use Rattle.faults.specs.FailingCalls.{Numbered}
use Rattle.bench_model.specs.Shown.{shown}
use Rattle.bench_model.specs.Record.{held_now, settled}
use Rattle.bench_model.proofs.MemoryLemmas.{why_failed, went_cause, in_open, step_settled, within, length-in_range, only_in_range, length-open, in_step_after}
use Rattle.bench_model.proofs.MemoryLemmas.{longest-after, made-after, greatest-after, ended_adds_nothing, file_stays_after}
use Rattle.bench_model.proofs.memory.MemoryBenchBench.cells_settle.Goals as goal

pub invariant_of-self-2 : goal.invariant_of-self-2
invariant_of-self-2 c =
    let m = c.args.self.now in
    let e = settled c.args.bytes.now in
    let r' = c.note.new.self in
    let is = c.note.ensures in
    let op : m.operation ≡ Some (c.in-Some.at, c.in-Some.field-0-1) = c.in-Some.is in
    let inside = within (held_now m.history) m.file.items m.cells.items m.operation m.in_step c.in-Some.at c.in-Some.field-0-1 op in
    let new = written c.in-Some.at c.args.bytes.now m.cells.items in
    let same = length-open (length c.args.bytes.now) m.operation c.in-Some.at c.in-Some.field-0-1 (c.requires refl) op in
    let long = length-in_range m.cells.items c.in-Some.at c.in-Some.field-0-1 inside c.args.bytes.now same in
    let step = step_settled (held_now m.history) m.file.items m.cells.items m.operation m.in_step c.in-Some.at c.in-Some.field-0-1 op c.args.bytes.now in
    record {
      in_step = subst (λ (l : List ℕ). InStep (held_now r') m.file.items l None) (sym c.settle.ensures.items) (in_step_after m.history r' e is _ _ _ step);
      fits = omega (arith, m.fits, ap length c.settle.ensures.items, long);
      file_bytes = m.file_bytes;
      cells_bytes = c.settle.ensures.bytes;
      counted = made-after m.history r' e is ∙ m.counted ∙ sym long ∙ sym (ap length c.settle.ensures.items);
      within = omega (arith, m.within, greatest-after m.history r' e is, longest-after m.history r' e is);
      file_fits = omega (arith, m.file_fits, longest-after m.history r' e is);
      room_fits = omega (arith, m.room_fits, longest-after m.history r' e is);
    }

pub returns-clause-does : goal.returns-clause-does
returns-clause-does c =
    let m = c.args.self.now in
    let e = settled c.args.bytes.now in
    let r' = c.note.new.self in
    let is = c.note.ensures in
    let op : m.operation ≡ Some (c.in-Some.at, c.in-Some.field-0-1) = c.in-Some.is in
    let inside = within (held_now m.history) m.file.items m.cells.items m.operation m.in_step c.in-Some.at c.in-Some.field-0-1 op in
    let new = written c.in-Some.at c.args.bytes.now m.cells.items in
    let same = length-open (length c.args.bytes.now) m.operation c.in-Some.at c.in-Some.field-0-1 (c.requires refl) op in
    let long = length-in_range m.cells.items c.in-Some.at c.in-Some.field-0-1 inside c.args.bytes.now same in
    let step = step_settled (held_now m.history) m.file.items m.cells.items m.operation m.in_step c.in-Some.at c.in-Some.field-0-1 op c.args.bytes.now in
    let only : SameOutside m.operation m.cells.items new = subst (λ (o : Option (ℕ × ℕ)). SameOutside o m.cells.items new) (sym op)
    (only_in_range m.cells.items c.in-Some.at c.in-Some.field-0-1 inside c.args.bytes.now same) in
    record {
      ok = λ told. record {
        operation = refl;
        cells = in_open (λ n. c.args.bytes.now) m.operation c.in-Some.at c.in-Some.field-0-1 op m.cells.items _
            c.settle.ensures.items;
      };
      err = λ told. tt;
      count = ap length c.settle.ensures.items ∙ long;
      moments = ended_adds_nothing m.history r' e is m.file.items m.cells.items m.operation m.in_step new step only;
      file = record { file = refl; faults = refl; half = file_stays_after m.history r' e is refl };
      cause = went_cause tt m.device c.next_goes.new.self (c.next_goes.ensures.goes c.if-not-next_goes.false).0;
    }

pub returns-then-not-next_goes-clause-does : goal.returns-then-not-next_goes-clause-does
returns-then-not-next_goes-clause-does c = grind (arith, common_steps)

pub note-requires-clause-room : goal.note-requires-clause-room
note-requires-clause-room c = grind (arith, common_steps)

pub settle-requires : goal.settle-requires
settle-requires c = grind (arith, common_steps)

pub returns-then-not-next_goes-clause-acts : goal.returns-then-not-next_goes-clause-acts
returns-then-not-next_goes-clause-acts c =
    let m = c.args.self.now in
    let failed = c.next_goes.ensures.fails c.if-not-next_goes.true in
    (why_failed m.device c.has_room-room.ensures.1 failed.1, ap (λ (n : Numbered). record (shown m) { device = n }) failed.0)
