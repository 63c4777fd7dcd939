-- `cells_at_hand`: that it keeps its contract.
use Rattle.disk_files.proofs.windowed_disk.WindowedDiskDisk.cells_at_hand.Goals as goal

pub returns-clause-whole : goal.returns-clause-whole
returns-clause-whole g c = λ told. c.copy.ensures.whole (g.F.Disk.state c.args.self.now.disk).bytes (c.args.self.now.copy told)
