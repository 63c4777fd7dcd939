-- A job file is just one of these: free, whole for one job, damaged, or no job for one reason.
use Rattle.std.proofs.Common.{◌≡◌, ◌≤◌, ◌∙◌, refl, sym, ap, subst, arith, ℕ, List, [], ◌∷◌, length, Ok}
use Rattle.board_file.specs.Shown as board
use Rattle.board_file.specs.Text.{reading}
use Rattle.flm_descriptor.specs.Shown as flm
use Rattle.job_text.specs.declared.format.Format.{Format}
use Rattle.job_text.specs.declared.format.Format.TheVariants.{First, Second}
use Rattle.job_text.specs.Reading.{places_of}
use Rattle.job_text.specs.Files.{IsFree, IsWhole, open_gate}
use Rattle.job_text.specs.Body.{Job, body_of}
use Rattle.job_text.specs.Jobs.{AreFlms, IsJob}
use Rattle.job_text.specs.Stands.{IsDamaged, IsNotAJob}
use Rattle.job_text.specs.Reading as reading_of
use Rattle.job_text.proofs.BodyLemmas.{same_job, long_body}

some_front : (format : Format) → 2 ≤ (places_of format).front
some_front First = let front : (places_of First).front ≡ 24 = refl in omega (arith, front)
some_front Second = let front : (places_of Second).front ≡ 64 = refl in omega (arith, front)

some_body : (job : Job) → 1 ≤ length (body_of job)
some_body job = omega (arith, long_body job, some_front job.format)

open_not_free : (body : List ℕ) → 1 ≤ length body → IsFree (open_gate ∷ body) → ⊥
open_not_free [] some free = absurd (omega (arith, some))
open_not_free (byte ∷ rest) some free = free refl

-- a job's file isn't free
pub not_free : (job : Job) (file : List ℕ) → IsWhole (body_of job) file → IsFree file → ⊥
not_free job file whole free = open_not_free (body_of job) (some_body job) (subst (λ (f : List ℕ). IsFree f) whole free)

-- a damaged file isn't free
pub damaged_open : (file kept found : List ℕ) → IsDamaged kept found file → IsFree file → ⊥
damaged_open [] kept found is free = absurd (omega (arith, is.long))
damaged_open (gate ∷ []) kept found is free = absurd (omega (arith, is.long))
damaged_open (gate ∷ next ∷ rest) kept found is free = let opened : gate ≡ 165 = cc in free opened

-- a file that isn't a job has one reason
pub one_reason : (file : List ℕ) (at other : ℕ) → IsNotAJob at file → IsNotAJob other file → at ≡ other
one_reason file at other is too = let e : reading_of.not_a_job at ≡ reading_of.not_a_job other = sym is.shows ∙ too.shows in cc

-- a damaged file has one pair of hashes
pub one_kept : (file kept found kept' found' : List ℕ) → IsDamaged kept found file → IsDamaged kept' found' file → kept ≡ kept'
one_kept file kept found kept' found' is too = is.kept_is ∙ sym too.kept_is

pub one_found : (file kept found kept' found' : List ℕ) → IsDamaged kept found file → IsDamaged kept' found' file → found ≡ found'
one_found file kept found kept' found' is too = is.found_is ∙ sym too.found_is

same_said : (files : List (List ℕ)) (xs ys : List flm.Shown) → AreFlms files xs → AreFlms files ys → xs ≡ ys
same_said [] [] [] is too = refl
same_said [] [] (y ∷ ys) is too = absurd too
same_said [] (x ∷ xs) ys is too = absurd is
same_said (file ∷ files) [] ys is too = absurd is
same_said (file ∷ files) (x ∷ xs) [] is too = absurd too
same_said (file ∷ files) (x ∷ xs) (y ∷ ys) is too =
    let e : Ok x ≡ Ok y = sym is.0 ∙ too.0 in
    let heads : x ≡ y = cc in
    let tails = same_said files xs ys is.1 too.1 in
    cc

-- A file is that of one job, whose texts say one board and one algorithm for each region.
pub record AreOne (j k : Job) (b c : board.Shown) (xs ys : List flm.Shown) : Type 0 where
  pub job : j ≡ k
  pub board : b ≡ c
  pub algorithms : xs ≡ ys

pub one_job : {j k : Job} {b c : board.Shown} {xs ys : List flm.Shown} (file : List ℕ) → IsJob j b xs → IsJob k c ys → IsWhole (body_of j) file
    → IsWhole (body_of k) file
    → AreOne j k b c xs ys
one_job {j} {k} {b} {c} {xs} {ys} file is other whole too =
    let bodies : body_of j ≡ body_of k = let e : 165 ∷ body_of j ≡ 165 ∷ body_of k = sym whole ∙ too in cc in
    let jobs : j ≡ k = same_job j k b c xs ys is other bodies in
    let boards : Ok b ≡ Ok c = sym is.board ∙ ap (λ (i : Job). reading i.board) jobs ∙ other.board in
    let said = same_said k.flms xs ys (subst (λ (i : Job). AreFlms i.flms xs) jobs is.algorithms) other.algorithms in
    record { job = jobs; board = cc; algorithms = said }
