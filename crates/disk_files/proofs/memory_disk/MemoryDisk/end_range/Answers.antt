-- `MemoryDisk::end_range`: that it keeps its contract.
use Rattle.std.proofs.lemmas.Grind.{common_steps}
use Rattle.std.proofs.Common.{◌≡◌, ◌≤◌, ◌+◌, ◌-◌, ◌∙◌, ap, sym, subst, arith, ℕ, List, length, take, drop, Option, Some, None, vec_len}
use Rattle.std.specs.Prelude.{IfSome}
use Rattle.std.specs.Option.{ForSome}
use Rattle.bench_model.specs.Calls.{written}
use Rattle.bench_model.specs.State.{SameOutside}
use Rattle.disk_files.specs.Memory.{outside_of}
use Rattle.disk_files.proofs.DiskLemmas.{range_written, differs_closed}
use Rattle.disk_files.proofs.memory_disk.MemoryDisk.end_range.Goals as goal

in_no_range : (P : ℕ × ℕ → Type 0) → ForSome None P
in_no_range P = λ x is. cc

pub invariant_of-self : goal.invariant_of-self
invariant_of-self g c =
    let m = c.args.self.now in
    let S = g.B.Bench.state in
    let new = S c.cells_settle.new.self in
    let range : m.operation ≡ Some (c.in-Some.at, c.in-Some.len) = c.in-Some.is in
    let part : List ℕ = take (c.in-Some.at + c.in-Some.len - c.in-Some.at) (drop c.in-Some.at c.deref.result.now) in
    record {
      same = λ told. (c.in-Ok.ensures.does.ok told).operation;
      apart = λ told.
          let settled = (c.in-Ok.ensures.does.ok told).cells in
          let here = subst (λ (o : Option (ℕ × ℕ)). IfSome o (λ (r : ℕ × ℕ). new.cells ≡ written r.0 part (S m.bench).cells)) (m.same told ∙ range) settled in
          let out : SameOutside (Some (c.in-Some.at, c.in-Some.len)) (S m.bench).cells m.bytes.items
          = subst (λ (o : Option (ℕ × ℕ)). SameOutside o (S m.bench).cells m.bytes.items) range
          (outside_of m.operation (S m.bench).cells m.bytes.items (m.apart told)) in
          let inside : c.in-Some.at + c.in-Some.len ≤ length m.bytes.items
          = omega (arith, m.fits (c.in-Some.at, c.in-Some.len) range, c.deref.ensures.len, ap length c.deref.ensures.value) in
          let size : c.in-Some.at + c.in-Some.len - c.in-Some.at ≡ c.in-Some.len = omega arith in
          differs_closed new.cells m.bytes.items
          (sym (here ∙ range_written c.in-Some.at c.in-Some.len (S m.bench).cells m.bytes.items part out inside
          (ap (λ (n : ℕ). take n (drop c.in-Some.at c.deref.result.now)) size ∙
          ap (λ (l : List ℕ). take c.in-Some.len (drop c.in-Some.at l)) c.deref.ensures.value)));
      long = m.long ∙ sym c.cells_settle.ensures.does.count;
      fits = in_no_range (λ (r : ℕ × ℕ). r.0 + r.1 ≤ vec_len m.bytes);
    }

pub returns-in-Err-clause-does : goal.returns-in-Err-clause-does
returns-in-Err-clause-does g c = grind (arith, common_steps)

pub returns-in-Err-clause-fails : goal.returns-in-Err-clause-fails
returns-in-Err-clause-fails g c = grind (arith, common_steps)

pub returns-in-Ok-clause-does : goal.returns-in-Ok-clause-does
returns-in-Ok-clause-does g c = grind (arith, common_steps)

pub returns-in_default-clause-does : goal.returns-in_default-clause-does
returns-in_default-clause-does g c = grind (arith, common_steps)

pub returns-in-Ok-clause-fails : goal.returns-in-Ok-clause-fails
returns-in-Ok-clause-fails g c = grind (arith, common_steps)

pub returns-in_default-clause-fails : goal.returns-in_default-clause-fails
returns-in_default-clause-fails g c = grind (arith, common_steps)

pub cells_settle-requires : goal.cells_settle-requires
cells_settle-requires g c = grind (arith, common_steps)
