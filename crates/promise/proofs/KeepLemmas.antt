-- What a call answers keeps the promise.
use Rattle.std.proofs.Common.{◌⊎◌, ⊎_elim, inl, inr, IsTrue, Some}
use Rattle.flash_session.specs.declared.goal.Goal.TheVariants.{New, Old}
use Rattle.command_words.specs.Files.{Command, program, begin, resume, revert, plan, verify, compare, status, inspect, dump, demo}
use Rattle.command_files.specs.Call as answers
use Rattle.flm_cli.specs.Answers.{Answers}
use Rattle.promise.specs.Promise.{KeepsPromise}
use Rattle.promise.specs.Recovery.{Resumes}
use Rattle.promise.proofs.ClassLemmas.{AreBytes}
use Rattle.promise.proofs.StopLemmas.{its, only_reads, untouched, adds_nothing}
use Rattle.promise.proofs.CarryLemmas.{goes_on}
use Rattle.promise.proofs.BeginLemmas.{programs, begins}

-- a call is refused, or keeps its promise by a job that it names
pub resumes : (command : Command) (call : answers.Call) → IsTrue call.bench.tells → IsTrue call.inputs.tells → AreBytes call.bench.before.file
    → Answers call (Some command) → Resumes command (its call)
resumes (program asked) call told told_files bytes it = programs asked call told told_files bytes it
resumes (begin asked) call told told_files bytes it = begins asked call told told_files bytes it
resumes resume call told told_files bytes it = goes_on New call told bytes it
resumes revert call told told_files bytes it = goes_on Old call told bytes it
resumes (plan files) call told told_files bytes it = tt
resumes (verify files) call told told_files bytes it = tt
resumes (compare image) call told told_files bytes it = tt
resumes status call told told_files bytes it = tt
resumes (inspect flm) call told told_files bytes it = tt
resumes (dump form board) call told told_files bytes it = tt
resumes (demo seed) call told told_files bytes it = tt

-- the promise alone, without that job
alone : {R P : Type 0} {T : P → Type 0} → R ⊎ ((p : P) × T p) → R ⊎ P
alone {R} {P} {T} either = ⊎_elim (λ (r : R). inl r) (λ (it : (p : P) × T p). inr it.0) either

pub keeps : (command : Command) (call : answers.Call) → IsTrue call.bench.tells → IsTrue call.inputs.tells → AreBytes call.bench.before.file
    → Answers call (Some command) → KeepsPromise command (its call)
keeps (program asked) call told told_files bytes it = alone (programs asked call told told_files bytes it)
keeps (begin asked) call told told_files bytes it = alone (begins asked call told told_files bytes it)
keeps resume call told told_files bytes it = alone (goes_on New call told bytes it)
keeps revert call told told_files bytes it = alone (goes_on Old call told bytes it)
keeps (plan files) call told told_files bytes it = adds_nothing call it.ends.leaves.file it.ends.leaves.stops
keeps (verify files) call told told_files bytes it = adds_nothing call it.ends.leaves.file it.ends.leaves.stops
keeps (compare image) call told told_files bytes it = adds_nothing call it.ends.leaves.file it.ends.leaves.stops
keeps status call told told_files bytes it = only_reads call it.ends.reads
keeps (inspect flm) call told told_files bytes it = untouched call it.ends.untouched
keeps (dump form board) call told told_files bytes it = adds_nothing call it.ends.leaves.file it.ends.leaves.stops
keeps (demo seed) call told told_files bytes it = untouched call it.ends.untouched
