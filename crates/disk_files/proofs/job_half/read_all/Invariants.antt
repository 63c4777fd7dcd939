-- `read_all`: what holds at each turn of its loop, and what decreases at each turn.
use Rattle.std.proofs.Common.{◌≡◌, ◌≤◌, ◌<◌, ◌^◌, ◌+◌, ◌-◌, length, IsTrue, true}
use Rattle.disk_files.proofs.ReadLemmas.{IsReadTo}
use Rattle.disk_files.proofs.FailLemmas.{GoesSo}
use Rattle.disk_files.proofs.job_half.read_all.Given as goal

abbrev pub invariant-loop-done : goal.invariant-loop-done
invariant-loop-done g l = IsReadTo g.F.Disk.tells (g.F.Disk.state l.fn.disk) (g.F.Disk.state l.disk) l.at l.fn.out l.out l.done
    × (l.at + length l.fn.out < 2 ^ 64)
    × (IsTrue g.F.Disk.tells → l.at + length l.fn.out ≤ length (g.F.Disk.state l.fn.disk).file)
    × (IsTrue g.F.Disk.tells → (g.F.Disk.state l.fn.disk).entry ≡ true)
    × GoesSo g.F.Disk.tells (g.F.Disk.state l.fn.disk) (g.F.Disk.state l.disk) l.stops

abbrev pub decreases-loop-done : goal.decreases-loop-done
decreases-loop-done g l = length l.fn.out - l.done + (2 ^ 64 - l.stops)
