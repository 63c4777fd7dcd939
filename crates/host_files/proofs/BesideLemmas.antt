-- Benches that were opened beside one another.
use Rattle.std.proofs.Common.{◌++◌, List, [], ◌∷◌, subst, sym}
use Rattle.std.proofs.lemmas.List.{append_assoc, append-nil}
use Rattle.disk_files.specs.declared.disk.Disk.{Ghosts}
use Rattle.disk_files.specs.declared.windowed_disk.WindowedDisk.{WindowedDisk}
use Rattle.host_files.specs.Bench.{FileBench, IsBeside, AllBeside}
use Rattle.host_files.specs.declared.host_disk.HostDisk.{HostDisk}

-- one more bench is opened beside all those before it
pub all_beside_more : {h : Ghosts HostDisk} {w : Ghosts (WindowedDisk HostDisk h)} (before benches : List (FileBench h w)) (b : FileBench h w)
    → AllBeside before benches → IsBeside (before ++ benches) b → AllBeside before (benches ++ b ∷ [])
all_beside_more {h} {w} before [] b all last = (subst (λ (l : List (FileBench h w)). IsBeside l b) (append-nil before) last, tt)
all_beside_more {h} {w} before (first ∷ benches) b all last = (
  all.0,
  all_beside_more (before ++ first ∷ []) benches b all.1
      (subst (λ (l : List (FileBench h w)). IsBeside l b) (sym (append_assoc before (first ∷ []) benches)) last),
)
