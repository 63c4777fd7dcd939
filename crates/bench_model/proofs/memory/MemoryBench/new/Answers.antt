-- `MemoryBench::new`: that it keeps its contract.
use Rattle.std.proofs.Common.{◌≤◌, ◌∙◌, ap, sym, subst, arith, length, None}
use Rattle.bench_model.specs.Memory.{InStep}
use Rattle.bench_model.specs.Record.{Recorded, held_now}
use Rattle.bench_model.proofs.LossLemmas.{rests, step_made}
use Rattle.bench_model.proofs.memory.MemoryBench.new.Goals as goal

pub invariant_of-result-clause-file_bytes : goal.invariant_of-result-clause-file_bytes
invariant_of-result-clause-file_bytes c = c.replace.ensures.bytes

pub invariant_of-result-clause-cells_bytes : goal.invariant_of-result-clause-cells_bytes
invariant_of-result-clause-cells_bytes c = c.replace-2.ensures.bytes

pub returns-clause-rest : goal.returns-clause-rest
returns-clause-rest c =
    rests c.replace.new.old.items c.replace-2.new.old.items _ _ c.in_ok-new-2.field-0.faults c.in_ok-new-3.field-0.faults c.in_ok-new.field-0 0 c.args.call_room
    _ (sym c.replace.ensures.items)
    (sym c.replace-2.ensures.items) c.in_ok-new.ensures

pub invariant_of-result-clause-counted : goal.invariant_of-result-clause-counted
invariant_of-result-clause-counted c =
    ap (λ (r : Recorded). length r.made.cells) c.in_ok-new.ensures ∙ sym (ap length c.replace-2.ensures.items)

pub invariant_of-result-clause-fits : goal.invariant_of-result-clause-fits
invariant_of-result-clause-fits c = omega (arith, ap length c.replace-2.ensures.items, c.requires)

pub invariant_of-result-clause-file_fits : goal.invariant_of-result-clause-file_fits
invariant_of-result-clause-file_fits c =
    omega (arith, ap (λ (r : Recorded). r.longest) c.in_ok-new.ensures, c.in_ok-own_file.ensures.capacity, c.replace.ensures.capacity)

pub invariant_of-result-clause-room_fits : goal.invariant_of-result-clause-room_fits
invariant_of-result-clause-room_fits c =
    omega (arith, ap (λ (r : Recorded). r.longest) c.in_ok-new.ensures, c.max-longest.ensures)

pub invariant_of-result-clause-within : goal.invariant_of-result-clause-within
invariant_of-result-clause-within c =
    let least : length c.args.file.now ≤ c.max-longest.result = omega (arith, c.max-longest.ensures) in
    subst (λ (r : Recorded). (held_now r).kept.greatest ≤ r.longest) (sym c.in_ok-new.ensures) least

pub invariant_of-result-clause-in_step : goal.invariant_of-result-clause-in_step
invariant_of-result-clause-in_step c =
    subst (λ (r : Recorded). InStep (held_now r) c.replace.new.old.items c.replace-2.new.old.items None) (sym c.in_ok-new.ensures)
    (step_made c.args.file.now c.args.cells.now c.replace.new.old.items c.replace-2.new.old.items c.replace.ensures.items c.replace-2.ensures.items)
