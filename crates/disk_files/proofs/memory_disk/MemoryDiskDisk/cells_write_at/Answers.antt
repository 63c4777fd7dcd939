-- `cells_write_at`: that it keeps its contract.
use Rattle.std.proofs.Common.{arith, ◌≤◌, ◌≡◌, ◌+◌, ◌∙◌, ap, length, vec_len}
use Rattle.std.proofs.lemmas.Grind.{common_steps}
use Rattle.disk_files.proofs.DiskLemmas.{differs_written, written_long}
use Rattle.disk_files.proofs.memory_disk.MemoryDiskDisk.cells_write_at.Goals as goal

pub returns-clause-writes : goal.returns-clause-writes
returns-clause-writes c = grind (arith, common_steps)

pub returns-clause-fails : goal.returns-clause-fails
returns-clause-fails c = grind (arith, common_steps)

pub returns-clause-does : goal.returns-clause-does
returns-clause-does c = grind (arith, common_steps)

pub returns-then-is_none-clause-fails : goal.returns-then-is_none-clause-fails
returns-then-is_none-clause-fails c = grind (arith, common_steps)

pub returns-then-is_none-clause-does : goal.returns-then-is_none-clause-does
returns-then-is_none-clause-does c = grind (arith, common_steps)

pub invariant_of-self-2 : goal.invariant_of-self-2
invariant_of-self-2 g c =
    let m = c.args.self.now in
    let bytes = c.args.bytes.now in
    let fits : c.args.at + length bytes ≤ length m.bytes.items = omega arith in
    let before : c.args.at ≤ length m.bytes.items = omega arith in
    let stays : vec_len c.settle.new.cells ≡ vec_len m.bytes = omega (
      arith,
      ap length c.settle.ensures.items,
      written_long c.args.at bytes m.bytes.items before fits,
      c.settle.new.cells.ok.0,
      m.bytes.ok.0,
    ) in
    record {
      same = m.same;
      apart = λ told. differs_written c.args.at bytes (m.same told) (c.requires told) (m.apart told) fits c.settle.ensures.items;
      long = stays ∙ m.long;
      fits = λ range is. omega (arith, m.fits range is, stays);
    }
