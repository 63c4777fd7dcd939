-- From what `open` answers to the end of `status`.
use Rattle.std.proofs.Common.{◌≡◌, ◌≢◌, ◌∙◌, ◌==◌, sym, ap, subst, refl, inl, inr, ⊎_elim, arith, ℕ, Bool, IsTrue, List, [], ◌∷◌, map, sum_by, None}
use Rattle.std.proofs.lemmas.Bool.{and_parts, eqb-true}
use Rattle.std.proofs.lemmas.List.Sums.{sum_by-cons}
use Rattle.bench_model.specs.State.{BenchState}
use Rattle.bench_model.specs.Calls.{OnlyReads}
use Rattle.outside_io.specs.State.{SinkState}
use Rattle.board_file.specs.declared.region.Region.{Region}
use Rattle.board_file.specs.Limits.{size_of}
use Rattle.board_file.specs.Shown as board
use Rattle.flm_descriptor.specs.declared.device.Device.{Device}
use Rattle.flm_descriptor.specs.declared.algorithm.Algorithm.{Algorithm}
use Rattle.flm_descriptor.specs.Shown as flm
use Rattle.algo_loader.specs.Places.{has_room}
use Rattle.job_text.specs.Files.{IsFree}
use Rattle.job_text.specs.Body.{Job}
use Rattle.job_text.specs.Said.{algorithms_shown}
use Rattle.job_text.specs.Fits.{is_device_of, fits, all_fit}
use Rattle.job_text.specs.Stands.{IsSomeJob, IsNotAJob, IsDamaged}
use Rattle.job_text.proofs.ClassLemmas.{never_jobs}
use Rattle.bench_model.specs.Counted as bench
use Rattle.job_file.specs.Counted.{open_fault}
use Rattle.job_file.specs.Faults.{IsOpenFault, IsSoundOpen, IsOtherSize}
use Rattle.job_file.specs.declared.fault.OpenFault.{OpenFault}
use Rattle.job_file.specs.declared.fault.OpenFault.TheVariants as opening
use Rattle.report_text.specs.Job.{job_text, no_job_text}
use Rattle.report_text.specs.Refusal.{Refusal, out_of_memory, not_a_job, damaged, cells_differ, store_fault, output_fault}
use Rattle.report_text.specs.Refused.{of_open}
use Rattle.command_files.specs.Inputs.{InputsCall, TakesNothing}
use Rattle.command_files.specs.Call.{BenchCall, SinkCall, Answer, done, refused, bench_call, sink_call}
use Rattle.command_files.specs.Said.{SaysText}
use Rattle.command_files.specs.Answered.{input, store, device, output, fault_in, AreCounted, EndsLawfully, on_job_file}
use Rattle.command_files.proofs.AnswerLemmas.{unraised}
use Rattle.command_files.proofs.FileLemmas.{not_free, damaged_open, one_reason, one_kept, one_found, one_job}
use Rattle.job_status.specs.Status.{IsSaid, SaysNone, devices_of, IsJobWith, SaysJob, ComesOfJobFile, IsDueForJobFile, StatusEnds, has_status}

-- the devices of algorithms that fit regions have the regions' sizes together
pub devices_fill : (b : board.Shown) (regions : List Region) (algorithms : List flm.Shown) → IsTrue (all_fit b regions algorithms)
    → sum_by (λ (device : Device). device.size) (devices_of algorithms) ≡ size_of regions
devices_fill b [] [] fit = refl
devices_fill b [] (x ∷ xs) fit = absurd (cc)
devices_fill b (r ∷ rs) [] fit = absurd (cc)
devices_fill b (r ∷ rs) (x ∷ xs) fit =
    let both = and_parts (fits b r x) (all_fit b rs xs) fit in
    let device = and_parts (is_device_of r x.device) (has_room x b) both.0 in
    let same = and_parts (r.base == x.device.base) (r.size == x.device.size) device.0 in
    omega (
      arith,
      sum_by-cons (λ (device : Device). device.size) x.device (devices_of xs),
      sum_by-cons (λ (region : Region). region.size) r rs,
      devices_fill b rs xs both.1,
      eqb-true r.size x.device.size same.1,
    )

-- the devices as contracts name the algorithms
pub shown_devices : (algorithms : List Algorithm) → devices_of (algorithms_shown algorithms) ≡ map (λ (a : Algorithm). a.device) algorithms
shown_devices [] = refl
shown_devices (a ∷ rest) = ap (λ (l : List Device). a.device ∷ l) (shown_devices rest)

-- Both directions: the answer that came is the one that is due.
module _ (bench : BenchCall) (out : SinkCall) (told : IsTrue bench.tells) where
  said_by : (text : List ℕ) (answer : Answer) → SaysText out text answer → IsSaid out text answer
  said_by text done says = says
  said_by text (refused output_fault) says = says
  said_by text (refused r) says = absurd says

  none_due : (answer : Answer) → SaysNone bench out answer → IsDueForJobFile bench out answer
  none_due answer none = record {
    free = λ is. said_by no_job_text answer none.says;
    not_job = λ at no. absurd (no.none.not_free (none.free told));
    is_damaged = λ kept found is. absurd (damaged_open bench.before.file kept found is (none.free told));
    other_size = λ some unequal. absurd (not_free some.job bench.before.file some.whole (none.free told));
    stands = λ some same. absurd (not_free some.job bench.before.file some.whole (none.free told));
  }

  job_due : (answer : Answer) → SaysJob bench out answer → IsDueForJobFile bench out answer
  job_due answer job =
      let is : IsJobWith job.devices job.image bench.before.file = job.stands told in
      let some = is.some in
      let sized : size_of some.board.regions ≡ bench.before.cell_count =
      sym (devices_fill some.board some.board.regions some.algorithms some.is.suits.fit)
      ∙ ap (sum_by (λ (device : Device). device.size)) is.devices_are ∙ job.size in record {
        free = λ free. absurd (not_free some.job bench.before.file some.whole free);
        not_job = λ at no. absurd (no.none.no_job some.job some.board some.algorithms some.is some.whole);
        is_damaged = λ kept found damage. absurd (never_jobs bench.before.file kept found damage some.job some.board some.algorithms some.is some.whole);
        other_size = λ other unequal.
            let one = one_job bench.before.file other.is some.is other.whole some.whole in
            absurd (unequal (ap (λ (b : board.Shown). size_of b.regions) one.board ∙ sized));
        stands = λ other same.
            let one = one_job bench.before.file some.is other.is some.whole other.whole in
            let devices : job.devices ≡ devices_of other.algorithms = sym is.devices_are ∙ ap devices_of one.algorithms in
            let images : job.image ≡ other.job.image = sym is.image_is ∙ ap (λ (j : Job). j.image) one.job in
            let texts : job_text job.devices job.image ≡ job_text (devices_of other.algorithms) other.job.image = cc in
            subst (λ (text : List ℕ). IsSaid out text answer) texts (said_by (job_text job.devices job.image) answer job.says);
      }

  pub is_due : (answer : Answer) → ComesOfJobFile bench out answer → IsDueForJobFile bench out answer
  is_due done comes = ⊎_elim (none_due done) (job_due done) comes
  is_due (refused output_fault) comes = ⊎_elim (none_due (refused output_fault)) (job_due (refused output_fault)) comes
  is_due (refused out_of_memory) nothing = record {
    free = λ is. (refl, nothing);
    not_job = λ at no. inr (refl, nothing);
    is_damaged = λ kept found is. inr (refl, nothing);
    other_size = λ some unequal. inr (refl, nothing);
    stands = λ some same. (refl, nothing);
  }
  is_due (refused store_fault) nothing = record {
    free = λ is. (refl, nothing);
    not_job = λ at no. inr (refl, nothing);
    is_damaged = λ kept found is. inr (refl, nothing);
    other_size = λ some unequal. inr (refl, nothing);
    stands = λ some same. (refl, nothing);
  }
  is_due (refused (not_a_job at)) comes =
      let is : IsNotAJob at bench.before.file = comes.0 told in record {
        free = λ free. absurd (is.none.not_free free);
        not_job = λ other no. inl (ap (λ (n : ℕ). refused (not_a_job n)) (one_reason bench.before.file at other is no));
        is_damaged = λ kept found damage. absurd (is.whole kept found damage);
        other_size = λ some unequal. absurd (is.none.no_job some.job some.board some.algorithms some.is some.whole);
        stands = λ some same. absurd (is.none.no_job some.job some.board some.algorithms some.is some.whole);
      }
  is_due (refused (damaged kept found)) comes =
      let is : IsDamaged kept found bench.before.file = comes.1.0 told in record {
        free = λ free. absurd (damaged_open bench.before.file kept found is free);
        not_job = λ at no. absurd (no.whole kept found is);
        is_damaged = λ kept' found' too.
            let same = one_kept bench.before.file kept found kept' found' is too in
            let as_found = one_found bench.before.file kept found kept' found' is too in
            inl (cc);
        other_size = λ some unequal. absurd (never_jobs bench.before.file kept found is some.job some.board some.algorithms some.is some.whole);
        stands = λ some same. absurd (never_jobs bench.before.file kept found is some.job some.board some.algorithms some.is some.whole);
      }
  is_due (refused (cells_differ wanted found)) comes =
      let is : IsOtherSize bench.before.file bench.before.cell_count wanted found = comes.1.0 told in
      let some = is.some in
      let sized : (other : IsSomeJob bench.before.file) → wanted ≡ size_of other.board.regions =
      λ other. is.said_is ∙ ap (λ (b : board.Shown). size_of b.regions) (one_job bench.before.file some.is other.is some.whole other.whole).board in record {
        free = λ free. absurd (not_free some.job bench.before.file some.whole free);
        not_job = λ at no. absurd (no.none.no_job some.job some.board some.algorithms some.is some.whole);
        is_damaged = λ kept found damage. absurd (never_jobs bench.before.file kept found damage some.job some.board some.algorithms some.is some.whole);
        other_size = λ other unequal. let said = sized other in let count = is.found_is in inl (cc);
        stands = λ other same. absurd (is.differ (sized other ∙ same ∙ sym is.found_is));
      }
  is_due (refused r) comes = absurd comes

-- The file was read, and no other call was made on the bench.
module _ (tells : Bool) (b after : BenchState) (inputs : InputsCall) (takes : TakesNothing inputs) (reads : OnlyReads tells b after) where
  -- a text went to `out`
  module _ (out : SinkCall) (same : after.store_faults ≡ b.store_faults) where
    said_counts : (text : List ℕ) (answer : Answer) → SaysText out text answer → AreCounted (bench_call tells b after) inputs out answer
    said_counts text done says = record {
      inputs_count = unraised inputs.before.faults inputs.after.faults input done takes.faults (λ its. cc);
      store_count = unraised b.store_faults after.store_faults store done same (λ its. cc);
      device_count = unraised b.device_faults after.device_faults device done reads.cells.faults (λ its. cc);
      out_count = unraised out.before.faults out.after.faults output done says.faults (λ its. cc);
    }
    said_counts text (refused output_fault) says = record {
      inputs_count = unraised inputs.before.faults inputs.after.faults input (refused output_fault) takes.faults (λ its. let wrong : output ≡ input = cc in cc);
      store_count = unraised b.store_faults after.store_faults store (refused output_fault) same (λ its. let wrong : output ≡ store = cc in cc);
      device_count = unraised b.device_faults after.device_faults device (refused output_fault) reads.cells.faults
          (λ its. let wrong : output ≡ device = cc in cc);
      out_count = record { later = says.later; only = λ its. says.rose; answered = λ more. refl };
    }
    said_counts text (refused r) says = absurd says

    said_lawful : (text : List ℕ) (answer : Answer) → SaysText out text answer
        → EndsLawfully on_job_file (bench_call tells b after) inputs out has_status [] answer
    said_lawful text done says = record {
      kind = tt;
      counts = said_counts text done says;
      stands = tt;
      untaken = λ name is. absurd (cc);
      none_failed =
          λ told no. takes.failed;
    }
    said_lawful text (refused output_fault) says = record {
      kind = refl;
      counts = said_counts text (refused output_fault) says;
      stands = tt;
      untaken = λ name is. absurd (cc);
      none_failed = λ told no. takes.failed;
    }
    said_lawful text (refused r) says = absurd says

    comes_none : (answer : Answer) → SaysText out no_job_text answer → SaysNone (bench_call tells b after) out answer
        → ComesOfJobFile (bench_call tells b after) out answer
    comes_none done says none = inl none
    comes_none (refused output_fault) says none = inl none
    comes_none (refused r) says none = absurd says

    comes_job : (answer : Answer) (text : List ℕ) → SaysText out text answer → SaysJob (bench_call tells b after) out answer
        → ComesOfJobFile (bench_call tells b after) out answer
    comes_job done text says job = inr job
    comes_job (refused output_fault) text says job = inr job
    comes_job (refused r) text says job = absurd says

    pub ends_free : (answer : Answer) → (IsTrue tells → IsFree b.file) → SaysText out no_job_text answer
        → StatusEnds (bench_call tells b after) inputs out answer
    ends_free answer free says =
        let comes = comes_none answer says (record { free = free; says = says }) in record {
          lawful = said_lawful no_job_text answer says;
          takes = takes;
          reads = reads;
          comes = comes;
          due = λ told. is_due (bench_call tells b after) out told answer comes;
        }

    pub ends_job : (answer : Answer) (job : SaysJob (bench_call tells b after) out answer) → StatusEnds (bench_call tells b after) inputs out answer
    ends_job answer job =
        let comes = comes_job answer (job_text job.devices job.image) job.says job in record {
          lawful = said_lawful (job_text job.devices job.image) answer job.says;
          takes = takes;
          reads = reads;
          comes = comes;
          due = λ told. is_due (bench_call tells b after) out told answer comes;
        }

  -- nothing went to `out`
  module _ (told : Bool) (o : SinkState) where
    refused_ends : (r : Refusal) → EndsLawfully on_job_file (bench_call tells b after) inputs (sink_call told o o) has_status [] (refused r)
        → ComesOfJobFile (bench_call tells b after) (sink_call told o o) (refused r)
        → StatusEnds (bench_call tells b after) inputs (sink_call told o o) (refused r)
    refused_ends r lawful comes = record {
      lawful = lawful;
      takes = takes;
      reads = reads;
      comes = comes;
      due = λ its. is_due (bench_call tells b after) (sink_call told o o) its (refused r) comes;
    }

    plain_counts : (r : Refusal) → after.store_faults ≡ b.store_faults → fault_in (refused r) ≡ None
        → AreCounted (bench_call tells b after) inputs (sink_call told o o) (refused r)
    plain_counts r same none = record {
      inputs_count = unraised inputs.before.faults inputs.after.faults input (refused r) takes.faults (λ its. cc);
      store_count = unraised b.store_faults after.store_faults store (refused r) same (λ its. cc);
      device_count = unraised b.device_faults after.device_faults device (refused r) reads.cells.faults (λ its. cc);
      out_count = unraised o.faults o.faults output (refused r) refl (λ its. cc);
    }

    pub ends_refused : (fault : OpenFault) → fault ≢ opening.NoJob → bench.IsCounted b.store_faults after.store_faults (bench.is_store_fault (open_fault fault))
        → (IsTrue tells → IsOpenFault b.file b.cell_count fault) → IsSoundOpen b.cell_count fault
        → StatusEnds (bench_call tells b after) inputs (sink_call told o o) (refused (of_open fault))
    ends_refused opening.OutOfMemory some counted is sound = refused_ends out_of_memory (record {
      kind = refl;
      counts = plain_counts out_of_memory (counted.on_other refl) refl;
      stands = record { taken = refl; faults = refl };
      untaken = λ name wrong. absurd (cc);
      none_failed = λ its no. takes.failed;
    }) (record { taken = refl; faults = refl })
    ends_refused opening.NoJob some counted is sound = absurd (some refl)
    ends_refused (opening.NotAJob at) some counted is sound = refused_ends (not_a_job at) (record {
      kind = refl;
      counts = plain_counts (not_a_job at) (counted.on_other refl) refl;
      stands = record { reads = λ its. reads; prints = record { taken = refl; faults = refl } };
      untaken = λ name wrong. absurd (cc);
      none_failed = λ its no. takes.failed;
    }) (is, record { taken = refl; faults = refl })
    ends_refused (opening.Damaged kept found) some counted is sound = refused_ends (damaged kept found) (record {
      kind = refl;
      counts = plain_counts (damaged kept found) (counted.on_other refl) refl;
      stands = record { reads = λ its. reads; prints = record { taken = refl; faults = refl } };
      untaken = λ name wrong. absurd (cc);
      none_failed = λ its no. takes.failed;
    }) (sound, (λ its. (is its).damaged, record { taken = refl; faults = refl }))
    ends_refused opening.StoreFault some counted is sound = refused_ends store_fault (record {
      kind = refl;
      counts = record {
        inputs_count = unraised inputs.before.faults inputs.after.faults input (refused store_fault) takes.faults (λ its. let wrong : store ≡ input = cc in cc);
        store_count = record { later = counted.later; only = λ its. counted.on_fault refl; answered = λ more. refl };
        device_count = unraised b.device_faults after.device_faults device (refused store_fault) reads.cells.faults
            (λ its. let wrong : store ≡ device = cc in cc);
        out_count = unraised o.faults o.faults output (refused store_fault) refl (λ its. let wrong : store ≡ output = cc in cc);
      };
      stands = tt;
      untaken = λ name wrong. absurd (cc);
      none_failed = λ its no. takes.failed;
    }) (record { taken = refl; faults = refl })
    ends_refused (opening.CellsDiffer said found) some counted is sound = refused_ends (cells_differ said found) (record {
      kind = refl;
      counts = plain_counts (cells_differ said found) (counted.on_other refl) refl;
      stands = record { reads = λ its. reads; prints = record { taken = refl; faults = refl } };
      untaken = λ name wrong. absurd (cc);
      none_failed = λ its no. takes.failed;
    }) (sound.1, (is, record { taken = refl; faults = refl }))
