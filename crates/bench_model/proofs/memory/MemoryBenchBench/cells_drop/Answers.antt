-- `MemoryBenchBench::cells_drop`: that it keeps its contract.
use Rattle.std.proofs.lemmas.Grind.{common_steps}
use Rattle.std.proofs.Common.{arith, refl, ap, sym, subst, ◌∙◌, ◌≡◌, ℕ, List, length, Option, Some, None}
use Rattle.bench_model.specs.State.{SameOutside}
use Rattle.bench_model.specs.Memory.{InStep}
use Rattle.bench_model.specs.Record.{held_now, broken_off, broken}
use Rattle.bench_model.proofs.MemoryLemmas.{went_cause, step_broken, within, length-broken, only_broken, in_step_after, longest-after, made-after}
use Rattle.bench_model.proofs.MemoryLemmas.{greatest-after, ended_adds_nothing, file_stays_after}
use Rattle.bench_model.proofs.memory.MemoryBenchBench.cells_drop.Goals as goal

pub invariant_of-self-2 : goal.invariant_of-self-2
invariant_of-self-2 c =
    let m = c.args.self.now in
    let e = broken_off c.byte_at-byte.result in
    let r' = c.note.new.self in
    let is = c.note.ensures in
    let op : m.operation ≡ Some (c.in-Some.at, c.in-Some.len) = c.in-Some.is in
    let inside = within (held_now m.history) m.file.items m.cells.items m.operation m.in_step c.in-Some.at c.in-Some.len op in
    let new = broken c.byte_at-byte.result (Some (c.in-Some.at, c.in-Some.len)) m.cells.items in
    let long = length-broken c.byte_at-byte.result c.in-Some.at c.in-Some.len m.cells.items inside in
    let step = step_broken (held_now m.history) m.file.items m.cells.items m.operation m.in_step c.in-Some.at c.in-Some.len op c.byte_at-byte.result in
    record {
      in_step = subst (λ (l : List ℕ). InStep (held_now r') m.file.items l None) (sym c.leave.ensures.items) (in_step_after m.history r' e is _ _ _ step);
      fits = omega (arith, m.fits, ap length c.leave.ensures.items, long);
      file_bytes = m.file_bytes;
      cells_bytes = c.leave.ensures.bytes;
      counted = made-after m.history r' e is ∙ m.counted ∙ sym long ∙ sym (ap length c.leave.ensures.items);
      within = omega (arith, m.within, greatest-after m.history r' e is, longest-after m.history r' e is);
      file_fits = omega (arith, m.file_fits, longest-after m.history r' e is);
      room_fits = omega (arith, m.room_fits, longest-after m.history r' e is);
    }

pub returns-clause-does : goal.returns-clause-does
returns-clause-does c =
    let m = c.args.self.now in
    let e = broken_off c.byte_at-byte.result in
    let r' = c.note.new.self in
    let is = c.note.ensures in
    let op : m.operation ≡ Some (c.in-Some.at, c.in-Some.len) = c.in-Some.is in
    let inside = within (held_now m.history) m.file.items m.cells.items m.operation m.in_step c.in-Some.at c.in-Some.len op in
    let new = broken c.byte_at-byte.result (Some (c.in-Some.at, c.in-Some.len)) m.cells.items in
    let long = length-broken c.byte_at-byte.result c.in-Some.at c.in-Some.len m.cells.items inside in
    let step = step_broken (held_now m.history) m.file.items m.cells.items m.operation m.in_step c.in-Some.at c.in-Some.len op c.byte_at-byte.result in
    let only : SameOutside m.operation m.cells.items new = subst (λ (o : Option (ℕ × ℕ)). SameOutside o m.cells.items new) (sym op)
    (only_broken c.byte_at-byte.result c.in-Some.at c.in-Some.len m.cells.items inside) in
    record {
      ok = λ told. record { operation = refl; cells = subst (λ (l : List ℕ). SameOutside m.operation m.cells.items l) (sym c.leave.ensures.items) only };
      err = λ told. tt;
      count = ap length c.leave.ensures.items ∙ long;
      moments = ended_adds_nothing m.history r' e is m.file.items m.cells.items m.operation m.in_step new step only;
      file = record { file = refl; faults = refl; half = file_stays_after m.history r' e is refl };
      cause = went_cause tt m.device c.next_goes-2.new.self (c.next_goes-2.ensures.goes c.if-not-next_goes-2.false).0;
    }

pub returns-in_default-clause-does : goal.returns-in_default-clause-does
returns-in_default-clause-does c = grind (arith, common_steps)

pub returns-then-not-next_goes-clause-does : goal.returns-then-not-next_goes-clause-does
returns-then-not-next_goes-clause-does c = grind (arith, common_steps)

pub returns-then-not-next_goes-2-clause-does : goal.returns-then-not-next_goes-2-clause-does
returns-then-not-next_goes-2-clause-does c = grind (arith, common_steps)

pub returns-in_default-clause-acts : goal.returns-in_default-clause-acts
returns-in_default-clause-acts c = grind (arith, common_steps)

pub leave-requires : goal.leave-requires
leave-requires c = grind (arith, common_steps)

pub returns-then-not-next_goes-clause-acts : goal.returns-then-not-next_goes-clause-acts
returns-then-not-next_goes-clause-acts c = grind (arith, common_steps)

pub note-requires-clause-room : goal.note-requires-clause-room
note-requires-clause-room c = grind (arith, common_steps)
