-- A file of bytes is free, stands for a job, is damaged, or is no job.
use Rattle.std.proofs.Common.{refl, ◌<◌, ℕ, List, All}
use Rattle.octets.proofs.FieldLemmas.{small_bytes}
use Rattle.job_text.specs.Reading.{class_of}
use Rattle.job_text.specs.Stands.{IsSomeJob, IsDamaged, IsNotAJob}
use Rattle.job_text.proofs.ClassLemmas.{never_jobs}
use Rattle.job_text.proofs.OneClassLemmas.{IsSomething, something as by_class}

abbrev pub IsDamagedSo : List ℕ → Type 0
IsDamagedSo file = (kept : List ℕ) × (found : List ℕ) × IsDamaged kept found file

abbrev pub IsNoJobSo : List ℕ → Type 0
IsNoJobSo file = (at : ℕ) × IsNotAJob at file

abbrev pub AreBytes : List ℕ → Type 0
AreBytes file = All (λ byte. byte < 256) file

pub something : (file : List ℕ) → AreBytes file → IsSomething file
something file bytes = by_class file (class_of file) (small_bytes file bytes) refl

pub never_damaged : (file : List ℕ) → IsDamagedSo file → IsSomeJob file → ⊥
never_damaged file is some = never_jobs file is.0 is.1 is.2 some.job some.board some.algorithms some.is some.whole
