-- What a stop leaves in a call that does no work, by the records of the commands.
use Rattle.bench_model.specs.History.{AddsNothing}
use Rattle.bench_model.specs.State.{cells_half, Left}
use Rattle.bench_model.specs.Calls.{FileStays, OnlyReads}
use Rattle.command_files.specs.Call as answers
use Rattle.promise.specs.Promise.{Call, AtEachStop, fault_counts, call_of}

-- the call as the promise sees it
abbrev pub its : answers.Call → Call
its call = call_of call.inputs.before.stands call.bench.before call.bench.after (fault_counts call.inputs.before.faults call.inputs.after.faults)
    (fault_counts call.out.before.faults call.out.after.faults) call.status

-- a stop in the call leaves only what a stop at its entry may leave
abbrev pub LeavesAsEntered : answers.Call → Type 0
LeavesAsEntered call = AtEachStop (its call) (λ moment file cells. Left call.bench.before file cells)

pub only_reads : (call : answers.Call) → OnlyReads call.bench.tells call.bench.before call.bench.after → LeavesAsEntered call
only_reads call reads k f c from to f_at c_at = (reads.moments.each k f from to f_at, (reads.cells.half.same k c from to).0 c_at)

pub untouched : (call : answers.Call) → answers.IsUntouched call.bench → LeavesAsEntered call
untouched call is k f c from to f_at c_at = ((is.file.half.same k f from to).0 f_at, (is.cells.half.same k c from to).0 c_at)

pub adds_nothing : (call : answers.Call) → FileStays call.bench.before call.bench.after
    → AddsNothing (cells_half call.bench.before) (cells_half call.bench.after) → LeavesAsEntered call
adds_nothing call file cells k f c from to f_at c_at = ((file.half.same k f from to).0 f_at, cells.each k c from to c_at)
