-- What the code's readers return, compared with the definitions.
use Rattle.std.specs.Prelude.{◌≡◌, ℕ, true, false, List, Option, Some, None, Result, Ok, Err}
use Rattle.board_file.specs.Shown as board
use Rattle.job_text.specs.declared.fault.JobFault.{JobFault}
use Rattle.job_text.specs.declared.fault.JobFault.TheVariants.{OutOfMemory, NotAJob}
use Rattle.job_text.specs.declared.damage.Damage.{Damage}
use Rattle.job_text.specs.declared.job.Class.TheVariants as code
use Rattle.job_text.specs.declared.job.Job.{Job}
use Rattle.job_text.specs.declared.job.Class.{Class}
use Rattle.job_text.specs.Said.{algorithms_shown}
use Rattle.job_text.specs.Reading as reading

abbrev pub seen_job : Job → reading.Seen
seen_job j = record { board = board.shown j.board; algorithms = algorithms_shown j.algorithms; image = j.image; snapshot_at = j.snapshot_at }

-- the result of a function, mapped by `view`, is what the definitions read, unless memory ran out
abbrev pub Fails : {Y : Type 0} → JobFault → Result Y ℕ → Type 0
Fails OutOfMemory read = Unit {0}
Fails (NotAJob at) read = read ≡ Err at

abbrev pub Gives : {X Y : Type 0} → (X → Y) → Result X JobFault → Result Y ℕ → Type 0
Gives view (Ok x) read = read ≡ Ok (view x)
Gives view (Err e) read = Fails e read

-- the code's class of a file of `whole` bytes is the class in the definitions
abbrev pub IsClass : ℕ → Class → reading.Class → Type 0
IsClass whole code.Free c = c ≡ reading.free
IsClass whole (code.Stands job) c = (found : reading.Found) × (c ≡ reading.stands found) × (reading.seen whole found ≡ seen_job job)
IsClass whole (code.Damaged damage) c = c ≡ reading.damaged damage.kept damage.found
IsClass whole (code.NotAJob at) c = c ≡ reading.not_a_job at

-- the two hashes of a damaged body, or none where the body isn't damaged
abbrev pub IsDamage : Option Damage → List ℕ → Type 0
IsDamage None body = reading.is_damaged body ≡ false
IsDamage (Some damage) body = (reading.is_damaged body ≡ true) × (damage.kept ≡ reading.kept_in body) × (damage.found ≡ reading.found_in body)
