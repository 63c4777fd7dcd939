-- `open_benches`: what holds at each turn of its loop.
use Rattle.std.proofs.Common.{◌≡◌, [], take, map}
use Rattle.host_files.specs.Bench.{job_name_of, cells_name_of, AllBeside}
use Rattle.flm_main.specs.Line.{job_names, cells_names}
use Rattle.flm_main.proofs.benches.open_benches.Given as goal

abbrev pub invariant-loop-index : goal.invariant-loop-index
invariant-loop-index l = (map job_name_of l.benches.items ≡ take l.index (job_names l.fn.words))
    × (map cells_name_of l.benches.items ≡ take l.index (cells_names l.fn.words)) × AllBeside [] l.benches.items
