-- Every file of bytes has exactly one class.
use Rattle.std.specs.Prelude.{◌≡◌, ◌⊎◌, ℕ, List}
use Rattle.job_text.specs.Files.{IsFree}
use Rattle.job_text.specs.Stands.{IsSomeJob, IsDamaged, IsNotAJob}

-- The file is free, or stands for a job, or is damaged, or is no job, as an offset shows. No two of these hold at once. It stands for one
-- job only, or is damaged with one pair of hashes only, or is no job by one offset only.
pub record HasOneClass (file : List ℕ) : Type 0 where
  pub some : IsFree file ⊎ (IsSomeJob file ⊎ (((kept : List ℕ) × (found : List ℕ) × IsDamaged kept found file) ⊎ ((at : ℕ) × IsNotAJob at file)))
  pub free_or_job : IsFree file → IsSomeJob file → ⊥
  pub free_or_damaged : (kept found : List ℕ) → IsFree file → IsDamaged kept found file → ⊥
  pub free_or_not : (at : ℕ) → IsFree file → IsNotAJob at file → ⊥
  pub job_or_damaged : (kept found : List ℕ) → IsSomeJob file → IsDamaged kept found file → ⊥
  pub job_or_not : (at : ℕ) → IsSomeJob file → IsNotAJob at file → ⊥
  pub damaged_or_not : (kept found : List ℕ) (at : ℕ) → IsDamaged kept found file → IsNotAJob at file → ⊥
  pub one_job : (one other : IsSomeJob file) → one.job ≡ other.job
  pub one_damage : (kept found kept' found' : List ℕ) → IsDamaged kept found file → IsDamaged kept' found' file → (kept ≡ kept') × (found ≡ found')
  pub one_offset : (at other : ℕ) → IsNotAJob at file → IsNotAJob other file → at ≡ other
