-- `WindowedDiskDisk::cells_read_at`: that it keeps its contract.
use Rattle.std.proofs.lemmas.Grind.{common_steps}
use Rattle.std.proofs.Common.{ap, subst, arith, length, ◌≡◌, Ok, rules}
use Rattle.disk_files.specs.DiskState.{DiskState}
use Rattle.disk_files.specs.DiskDoes.{ReadsBytes}
use Rattle.disk_files.proofs.CellLemmas.{looks_then}
use Rattle.disk_files.proofs.windowed_disk.WindowedDiskDisk.cells_read_at.Goals.{then-out-len+in_ok-fill+else-branch-eq0+else-copy-2, else-out-len}
use Rattle.disk_files.proofs.FailLemmas.{moves_then, moves_from}
use Rattle.disk_files.specs.Fails.{CallMoves}
use Rattle.disk_files.proofs.windowed_disk.WindowedDiskDisk.cells_read_at.Goals as goal

pub returns-in_default-clause-does : goal.returns-in_default-clause-does
returns-in_default-clause-does g c =
    let S = g.F.Disk.state in
    let new = S c.cells_read_at.new.self in
    let read = c.cells_read_at.ensures.does in
    elim c.if-out-len.branch [
      | then-out-len+in_ok-fill+else-branch-eq0+else-copy-2 w ↦ looks_then w.fill.ensures.reads
          (subst (λ (d : DiskState). ReadsBytes g.F.Disk.tells d new) (ap (λ s. S s.disk) w.self-is) read)
      | else-out-len w ↦ subst (λ (d : DiskState). ReadsBytes g.F.Disk.tells d new) (ap (λ s. S s.disk) w.self-is) read
    ]

pub returns-then-copy-2-clause-reads : goal.returns-then-copy-2-clause-reads
returns-then-copy-2-clause-reads g c = grind (arith, common_steps)

pub returns-then-copy-clause-reads : goal.returns-then-copy-clause-reads
returns-then-copy-clause-reads g c = grind (arith, common_steps)

pub returns-then-branch-eq0-clause-fails : goal.returns-then-branch-eq0-clause-fails
returns-then-branch-eq0-clause-fails g c = grind (arith, common_steps)

pub returns-then-copy-2-clause-fails : goal.returns-then-copy-2-clause-fails
returns-then-copy-2-clause-fails g c = grind (arith, common_steps)

pub returns-then-copy-clause-does : goal.returns-then-copy-clause-does
returns-then-copy-clause-does g c = grind (arith, common_steps)

pub returns-then-copy-clause-fails : goal.returns-then-copy-clause-fails
returns-then-copy-clause-fails g c = grind (arith, common_steps)

pub returns-in-Ok-clause-does : goal.returns-in-Ok-clause-does
returns-in-Ok-clause-does g c =
    let S = g.F.Disk.state in
    let new = S c.cells_read_at.new.self in
    let read = c.cells_read_at.ensures.does in
    elim c.if-out-len.branch [
      | then-out-len+in_ok-fill+else-branch-eq0+else-copy-2 w ↦ looks_then w.fill.ensures.reads
          (subst (λ (d : DiskState). ReadsBytes g.F.Disk.tells d new) (ap (λ s. S s.disk) w.self-is) read)
      | else-out-len w ↦ subst (λ (d : DiskState). ReadsBytes g.F.Disk.tells d new) (ap (λ s. S s.disk) w.self-is) read
    ]

pub returns-in-Ok-clause-fails : goal.returns-in-Ok-clause-fails
returns-in-Ok-clause-fails g c = λ told.
    let S = g.F.Disk.state in
    let long : length c.if-out-len.out ≡ length c.args.out.now = omega (arith, c.if-out-len.auto.out, c.copy.auto.out) in
    let call = c.in-Ok.ensures.fails told in
    elim c.if-out-len.branch [
      | then-out-len+in_ok-fill+else-branch-eq0+else-copy-2 w ↦
          let first = w.in_ok-fill.ensures.fails told in
          let moved = first.moved (omega (arith, w.if-branch-eq0.false)) in
          moves_then (Ok c.in-Ok.count) moved.0 moved.1 first.syncs (moves_from (ap (λ s. S s.disk) w.self-is) long call)
      | else-out-len w ↦ moves_from (ap (λ s. S s.disk) w.self-is) long call
    ]

pub returns-in_default-clause-fails : goal.returns-in_default-clause-fails
returns-in_default-clause-fails g c = λ told.
    let S = g.F.Disk.state in
    let long : length c.if-out-len.out ≡ length c.args.out.now = omega (arith, c.if-out-len.auto.out, c.copy.auto.out) in
    let call = c.cells_read_at.ensures.fails told in
    let whole : CallMoves (S c.args.self.now.disk) (S c.cells_read_at.new.self) (length c.args.out.now) c.cells_read_at.result
    = elim c.if-out-len.branch [
      | then-out-len+in_ok-fill+else-branch-eq0+else-copy-2 w ↦
          let first = w.in_ok-fill.ensures.fails told in
          let moved = first.moved (omega (arith, w.if-branch-eq0.false)) in
          moves_then c.cells_read_at.result moved.0 moved.1 first.syncs (moves_from (ap (λ s. S s.disk) w.self-is) long call)
      | else-out-len w ↦ moves_from (ap (λ s. S s.disk) w.self-is) long call
    ] in
    search rules
