-- A file of bytes is free, stands for a job, is damaged, or is no job, and one of these only.
use Rattle.std.proofs.Common.{◌≡◌, ◌⊎◌, inl, inr, ℕ, ◌≤◌, List, [], ◌∷◌, length, refl, sym, subst, ◌∙◌, arith}
use Rattle.job_text.specs.Files.{IsFree}
use Rattle.job_text.specs.declared.format.Format.{Format}
use Rattle.job_text.specs.declared.format.Format.TheVariants.{First, Second}
use Rattle.job_text.specs.Body.{Job, body_in, body_of}
use Rattle.job_text.specs.Reading.{Class, class_of, free, stands, damaged, not_a_job}
use Rattle.job_text.specs.Stands.{IsSomeJob, IsDamaged, IsFoundDamaged, IsNotAJob}
use Rattle.job_text.specs.Classes.{HasOneClass}
use Rattle.job_text.proofs.TakeLemmas.{IsBytes}
use Rattle.job_text.proofs.BodyLemmas.{same_job}
use Rattle.job_text.proofs.ClassLemmas.{IsFoundIn, free_class, stands_class, damaged_class, not_class, never_jobs}

abbrev pub IsSomething : List ℕ → Type 0
IsSomething file = IsFree file ⊎ (IsSomeJob file ⊎ (((kept : List ℕ) × (found : List ℕ) × IsDamaged kept found file) ⊎ ((at : ℕ) × IsNotAJob at file)))

pub something : (file : List ℕ) (c : Class) → IsBytes file → class_of file ≡ c → IsSomething file
something file free fits is = inl (free_class file is)
something file (stands x) fits is =
    let found : IsFoundIn x file = stands_class file x fits is in
    inr (inl (record { job = x.job; board = x.board; algorithms = x.algorithms; is = found.is; whole = found.whole }))
something file (damaged kept found) fits is = let d : IsFoundDamaged kept found file = damaged_class file kept found is in
    inr (inr (inl (kept, found, d.damaged)))
something file (not_a_job at) fits is = inr (inr (inr (at, not_class file at is)))

-- a body has at least one byte
some_body : (format : Format) (j : Job) → 1 ≤ length (body_in format j)
some_body First j = omega arith
some_body Second j = omega arith

opened : (body : List ℕ) → 1 ≤ length body → IsFree (165 ∷ body) → ⊥
opened [] some shut = absurd (omega (arith, some))
opened (byte ∷ bytes) some shut = shut refl

never_both : (file : List ℕ) → IsFree file → IsSomeJob file → ⊥
never_both file shut some = opened (body_of some.job) (some_body some.job.format some.job) (subst IsFree some.whole shut)

never_free : (file kept found : List ℕ) → IsFree file → IsDamaged kept found file → ⊥
never_free [] kept found shut d = absurd (omega (arith, d.long))
never_free (gate ∷ []) kept found shut d = absurd (omega (arith, d.long))
never_free (gate ∷ next ∷ rest) kept found shut d = let is : gate ≡ 165 = cc in shut is

behind_gate : (b c : List ℕ) → ◌≡◌ {A = List ℕ} (165 ∷ b) (165 ∷ c) → b ≡ c
behind_gate b c same = cc

same_offset : (at other : ℕ) → not_a_job at ≡ not_a_job other → at ≡ other
same_offset at other same = cc

pub one_class : (file : List ℕ) → IsBytes file → HasOneClass file
one_class file fits = record {
  some = something file (class_of file) fits refl;
  free_or_job = never_both file;
  free_or_damaged = λ kept found shut d. never_free file kept found shut d;
  free_or_not = λ at shut not. not.none.not_free shut;
  job_or_damaged = λ kept found some d. never_jobs file kept found d some.job some.board some.algorithms some.is some.whole;
  job_or_not = λ at some not. not.none.no_job some.job some.board some.algorithms some.is some.whole;
  damaged_or_not = λ kept found at d not. not.whole kept found d;
  one_job = λ one other. same_job one.job other.job one.board other.board one.algorithms other.algorithms one.is other.is
      (behind_gate (body_of one.job) (body_of other.job) (sym one.whole ∙ other.whole));
  one_damage = λ kept found kept' found' one two. (one.kept_is ∙ sym two.kept_is, one.found_is ∙ sym two.found_is);
  one_offset = λ at other one two. same_offset at other (sym one.shows ∙ two.shows);
}
