-- What an answer of the work on a job says by itself.
use Rattle.std.specs.Prelude.{◌≢◌, Bool, true, false}
use Rattle.flash_session.specs.Plays.{IsNotDone}
use Rattle.report_text.specs.Refusal.{out_of_memory, device_fault, output_fault, damaged, cells_differ, call_failed, mismatch}
use Rattle.command_files.specs.Call.{Answer, done, refused}

-- whether an answer comes only after a job was begun
abbrev pub is_of_work : Answer → Bool
is_of_work done = true
is_of_work (refused output_fault) = true
is_of_work (refused (call_failed number call end)) = true
is_of_work (refused (mismatch at wanted found)) = true
is_of_work (refused _) = false

-- whether an answer comes only from a call that never reached its close
abbrev pub has_no_close : Answer → Bool
has_no_close (refused out_of_memory) = true
has_no_close (refused device_fault) = true
has_no_close (refused (call_failed number call end)) = true
has_no_close (refused (mismatch at wanted found)) = true
has_no_close _ = false

-- the two values of an answer differ (bytes of a mismatch, hashes, numbers of cells), and the call that failed isn't done
abbrev pub IsSound : Answer → Type 0
IsSound done = Unit {0}
IsSound (refused (call_failed number call end)) = IsNotDone number end
IsSound (refused (mismatch at wanted found)) = wanted ≢ found
IsSound (refused (damaged kept found)) = kept ≢ found
IsSound (refused (cells_differ wanted found)) = wanted ≢ found
IsSound (refused _) = Unit {0}

-- whether an answer comes only where the file was free: the job was begun, or it is for another number of cells
abbrev pub is_of_free : Answer → Bool
is_of_free done = true
is_of_free (refused output_fault) = true
is_of_free (refused (cells_differ wanted found)) = true
is_of_free (refused (call_failed number call end)) = true
is_of_free (refused (mismatch at wanted found)) = true
is_of_free (refused _) = false
