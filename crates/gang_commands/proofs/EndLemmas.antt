-- The end of a target whose job wasn't opened or surveyed.
use Rattle.std.proofs.Common.{◌≡◌, inl, inr, ◌∙◌, refl, ap, ℕ, List, None}
use Rattle.bench_model.specs.declared.bench.Bench.{Ghosts}
use Rattle.bench_model.specs.State.{BenchState}
use Rattle.board_file.specs.Limits.{size_of}
use Rattle.board_file.specs.Shown as board
use Rattle.job_text.proofs.ClassLemmas.{never_jobs}
use Rattle.job_file.specs.declared.fault.OpenFault.{OpenFault}
use Rattle.job_file.specs.declared.fault.OpenFault.TheVariants as opening
use Rattle.flash_session.specs.declared.fault.SessionFault.{SessionFault}
use Rattle.flash_session.specs.declared.fault.SessionFault.TheVariants as session
use Rattle.flash_session.specs.Opened.{IsJobOf, IsSessionFault}
use Rattle.command_files.proofs.FileLemmas.{not_free, damaged_open, one_reason, one_kept, one_found, one_job}
use Rattle.flash_session.specs.declared.target_end.TargetEnd.{TargetEnd}
use Rattle.flash_session.specs.declared.target_end.TargetEnd.TheVariants as ended
use Rattle.gang_run.specs.Opening.{IsLookedAt, IsRefused}
use Rattle.gang_run.specs.Slots.{OpensWithMemory}
use Rattle.gang_commands.specs.Works.{ComesBy}
use Rattle.gang_commands.specs.Ends.{EndsOn}

-- a file that stands for a job with as many cells as the bench has isn't refused
pub of_job : (s : BenchState) (e : TargetEnd) → IsJobOf s.file s.cell_count → ComesBy s e
of_job s e is = record {
  free = λ is_free. absurd (not_free is.some.job s.file is.some.whole is_free);
  not_job = λ at no. absurd (no.none.no_job is.some.job is.some.board is.some.algorithms is.some.is is.some.whole);
  is_damaged = λ kept found damage. absurd (never_jobs s.file kept found damage is.some.job is.some.board is.some.algorithms is.some.is is.some.whole);
  other_size = λ some unequal. absurd (unequal (ap (λ (b : board.Shown). size_of b.regions) (one_job s.file some.is is.some.is some.whole is.some.whole).board
      ∙ is.size));
}

abbrev refusal : OpenFault → TargetEnd
refusal fault = ended.Open (session.Open fault)

by_session : (s : BenchState) (fault : SessionFault) → OpensWithMemory fault → IsSessionFault s.file s.cell_count fault → ComesBy s (ended.Open fault)
by_session s session.OutOfMemory memory is = absurd memory
by_session s (session.Open opening.OutOfMemory) memory is = absurd is
by_session s (session.Open opening.StoreFault) memory is = record {
  free = λ is_free. inr refl;
  not_job = λ at no. inr refl;
  is_damaged = λ kept found damage. inr refl;
  other_size = λ some unequal. inr refl;
}
by_session s (session.Open opening.NoJob) memory is = record {
  free = λ is_free. inl refl;
  not_job = λ at no. absurd (no.none.not_free is);
  is_damaged = λ kept found damage. absurd (damaged_open s.file kept found damage is);
  other_size = λ some unequal. absurd (not_free some.job s.file some.whole is);
}
by_session s (session.Open (opening.NotAJob at)) memory is = record {
  free = λ is_free. absurd (is.none.not_free is_free);
  not_job = λ other no. inl (ap (λ (n : ℕ). refusal (opening.NotAJob n)) (one_reason s.file at other is no));
  is_damaged = λ kept found damage. absurd (is.whole kept found damage);
  other_size = λ some unequal. absurd (is.none.no_job some.job some.board some.algorithms some.is some.whole);
}
by_session s (session.Open (opening.Damaged kept found)) memory is = record {
  free = λ is_free. absurd (is.none.not_free is_free);
  not_job = λ at no. absurd (no.whole kept found is.damaged);
  is_damaged = λ kept' found' too.
      let same_kept : kept ≡ kept' = one_kept s.file kept found kept' found' is.damaged too in
      let same_found : found ≡ found' = one_found s.file kept found kept' found' is.damaged too in
      inl (ap (λ (l : List ℕ). refusal (opening.Damaged l found)) same_kept ∙ ap (λ (l : List ℕ). refusal (opening.Damaged kept' l)) same_found);
  other_size = λ some unequal. absurd (is.none.no_job some.job some.board some.algorithms some.is some.whole);
}
by_session s (session.Open (opening.CellsDiffer said found)) memory is = record {
  free = λ is_free. absurd (not_free is.some.job s.file is.some.whole is_free);
  not_job = λ at no. absurd (no.none.no_job is.some.job is.some.board is.some.algorithms is.some.is is.some.whole);
  is_damaged = λ kept was damage. absurd (never_jobs s.file kept was damage is.some.job is.some.board is.some.algorithms is.some.is is.some.whole);
  other_size = λ some unequal.
      let said_is : said ≡ size_of some.board.regions = is.said_is
      ∙ ap (λ (b : board.Shown). size_of b.regions) (one_job s.file is.some.is some.is is.some.whole some.whole).board in
      inl (ap (λ (n : ℕ). refusal (opening.CellsDiffer n found)) said_is
      ∙ ap (λ (n : ℕ). refusal (opening.CellsDiffer (size_of some.board.regions) n)) is.found_is);
}
by_session s session.DeviceFault memory is = of_job s (ended.Open session.DeviceFault) is

-- a target was refused, and its bench was only looked at
pub refused_ends : {B : Type 0} (G : Ghosts B) (s t : BenchState) (e : TargetEnd) → IsLookedAt G.tells s t → IsRefused G.tells e s t
    → EndsOn G s (record { end = e; regions = None }) t
refused_ends G s t ended.Done looked is = absurd is
refused_ends G s t (ended.Open fault) looked is = record {
  sound = (is.memory, is.sound);
  store = is.store;
  device = is.device;
  comes = λ told. (looked, is.refused told);
  comes_by = λ told. by_session s fault is.memory (is.refused told);
}
refused_ends G s t (ended.Survey fault) looked is = record {
  sound = is.memory;
  store = is.store;
  device = is.device;
  comes = λ told. (looked, is.job told);
  comes_by = λ told. of_job s (ended.Survey fault) (is.job told);
}
refused_ends G s t (ended.CallFailed number call end) looked is = absurd is
refused_ends G s t (ended.Mismatch d) looked is = absurd is
refused_ends G s t ended.StoreFault looked is = absurd is
refused_ends G s t ended.DeviceFault looked is = absurd is
