-- A job is begun (a to b) by a call of the job file, in the same way for both commands that begin a job.
use Rattle.std.proofs.Common.{◌≡◌, ◌⊎◌, ⊎_elim, inl, inr, refl, ◌∙◌, append-nil, ℕ, Bool, true, List, [], ◌∷◌, length, IsTrue, None, Err, sym, ap, subst}
use Rattle.outside_io.specs.State.{SinkState}
use Rattle.bench_model.specs.History.{left, Leaves, LeftOnly}
use Rattle.bench_model.specs.State.{BenchState, file_half, SameOutside}
use Rattle.bench_model.specs.Calls.{OnlyReads}
use Rattle.bench_model.specs.Pairs.{PairsLeave}
use Rattle.bench_model.proofs.Moments.{pairs_of}
use Rattle.job_text.specs.Files.{IsFree, IsWhole}
use Rattle.job_text.specs.Body.{Job, body_of}
use Rattle.job_text.specs.Jobs.{IsJob}
use Rattle.job_text.specs.Parts.{job_of, AreParts}
use Rattle.job_text.specs.declared.parts.JobParts.{JobParts}
use Rattle.job_text.proofs.ClassLemmas.{never_jobs}
use Rattle.job_text.proofs.PartLemmas.{job_of_parts}
use Rattle.job_file.specs.Stops.{IsOfBegin, IsFreeOrWhole}
use Rattle.job_file.specs.Faults.{IsBeginFault}
use Rattle.job_file.specs.Unopened.{UnopenedAtDeviceFault}
use Rattle.job_file.specs.Counted.{ReadsUnlessFault}
use Rattle.job_file.specs.declared.fault.BeginFault.{BeginFault}
use Rattle.job_file.specs.declared.fault.BeginFault.TheVariants as beginning
use Rattle.campaign.specs.Stops.{IsUntouched}
use Rattle.report_text.specs.Refusal.{Refusal, out_of_memory, input_fault, not_a_job, store_fault, device_fault, output_fault}
use Rattle.command_files.specs.Call.{BenchCall, SinkCall, Answer, done, refused, bench_call, sink_call}
use Rattle.command_files.specs.Said.{TookNothing, TookAll, TookPart}
use Rattle.command_files.specs.Answered.{OnlyLooked, StandsEarly, IsOf, yields, on_job_file}
use Rattle.command_files.proofs.FileLemmas.{not_free, damaged_open, one_reason, one_kept, one_found}
use Rattle.job_commands.specs.Carry.{EndsInBegin, BrokenOff}
use Rattle.job_commands.specs.Answers.{is_of_free}
use Rattle.job_commands.specs.Beginning.{OverFile}
use Rattle.job_commands.specs.Begin.{HasBegun, BegunComes, BeginsAlone}
use Rattle.job_commands.specs.Steps.{has_start, StartsParts}
use Rattle.job_commands.specs.Refused.{of_begin}
use Rattle.job_commands.proofs.CarryLemmas.{AsEntered}

-- the pairs of file and cells that a stop in `begin` leaves
pub begun_pairs : {a b : BenchState} (text : List ℕ) → Leaves (file_half a) (file_half b) (IsOfBegin (file_half a) text) → AsEntered a b
    → PairsLeave a b (λ f c. IsUntouched a f c ⊎ IsWhole text f)
begun_pairs {a} {b} text files cells = pairs_of (IsOfBegin (file_half a) text) (λ c. SameOutside a.operation a.cells c)
    (λ f c. IsUntouched a f c ⊎ IsWhole text f) files cells
    (λ f c of outside. ⊎_elim
    (λ (at : left (file_half a) f). inl (record { free = inr at; outside = outside }))
    (λ (other : IsFreeOrWhole text f). ⊎_elim
    (λ (is_free : IsFree f). inl (record { free = inl is_free; outside = outside }))
    (λ (whole : IsWhole text f). inr whole)
    other)
    of)

-- Over a free file of the right size, it is enough to show what comes of the job.
pub over_free : {Known : Type 0} {Begins : Known → Type 0} (bench : BenchCall) (out : SinkCall) (size : ℕ) (answer : Answer) → IsFree bench.before.file
    → size ≡ bench.before.cell_count → ((known : Known) → Begins known) → OverFile bench out size answer Known Begins
over_free bench out size answer is_free sized begins = record {
  free = λ its. is_free;
  some_job = λ some. absurd (not_free some.job bench.before.file some.whole is_free);
  not_job = λ at no. absurd (no.none.not_free is_free);
  is_damaged = λ kept found damage. absurd (damaged_open bench.before.file kept found damage is_free);
  other_size = λ free_too unequal. absurd (unequal sized);
  begins = λ known free_too same. begins known;
}

-- A job couldn't be begun.
module _ (tells sinks : Bool) (a b : BenchState) (p : SinkState) (parts : JobParts) where
  nothing : TookNothing (sink_call sinks p p)
  nothing = record { taken = refl; faults = refl }

  only_looked : OnlyReads tells a b → OnlyLooked (bench_call tells a b) (sink_call sinks p p)
  only_looked reads = record { reads = λ is. reads; prints = nothing }

  pub begin_stands : (fault : BeginFault) → ReadsUnlessFault {T = Unit {0}} tells a b (Err fault)
      → StandsEarly on_job_file (bench_call tells a b) (sink_call sinks p p) (refused (of_begin fault))
  begin_stands beginning.OutOfMemory reads = nothing
  begin_stands beginning.StoreFault reads = tt
  begin_stands beginning.DeviceFault reads = tt
  begin_stands fault reads = only_looked reads

  module _ (told : IsTrue tells) (looks : (IsFree a.file × (parts.size ≡ a.cell_count) → ⊥) → OnlyReads tells a b)
      (same : SameOutside a.operation a.cells b.cells)
      (after : IsFree a.file → IsFreeOrWhole (body_of (job_of parts b.cells)) b.file)
      (stops : Leaves (file_half a) (file_half b) (IsOfBegin (file_half a) (body_of (job_of parts b.cells)))) (cells : AsEntered a b)
      (off : BrokenOff a b b.cells)
      (many : length b.cells ≡ a.cell_count) where
    abbrev its_job : Job
    its_job = job_of parts b.cells

    abbrev Result : Answer → Type 0
    Result answer = (are : AreParts parts) → IsFree a.file → parts.size ≡ a.cell_count
        → (snapshot : List ℕ) × IsJob (job_of parts snapshot) are.board are.algorithms
        × BeginsAlone (bench_call tells a b) (sink_call sinks p p) [] (job_of parts snapshot) answer

    comes_to : (answer : Answer) → (IsFree a.file → BegunComes (bench_call tells a b) (sink_call sinks p p) [] its_job answer) → Result answer
    comes_to answer comes = λ are is_free size. (
      b.cells,
      job_of_parts parts are b.cells (many ∙ sym size),
      record {
        surveyed = same;
        comes = comes is_free;
        pairs = begun_pairs (body_of its_job) stops cells;
        broken_off = off;
      },
    )

    in_begin : IsFree a.file → EndsInBegin (bench_call tells a b) (sink_call sinks p p) (body_of its_job)
    in_begin is_free = record {
      free = is_free;
      file = ⊎_elim
          (λ (still : IsFree b.file). inr still)
          (λ (whole : IsWhole (body_of its_job) b.file). inl whole)
          (after is_free);
      cells = same;
      prints = nothing;
    }

    -- a refusal that comes of any file: unless the file is free and the numbers of cells agree, file and cells were only looked at
    looked : (r : Refusal) → yields (refused r) ≡ true → (is_of_free (refused r) ≡ true → ⊥)
        → ((IsFree a.file × (parts.size ≡ a.cell_count) → ⊥) → OnlyReads tells a b)
        → (IsFree a.file → BegunComes (bench_call tells a b) (sink_call sinks p p) [] its_job (refused r))
        → StartsParts (bench_call tells a b) (sink_call sinks p p) [] parts (refused r)
    looked r one other reads comes = record {
      free = λ its. absurd (other its);
      some_job = λ some. inr (one, only_looked (reads (λ both. not_free some.job a.file some.whole both.0)));
      not_job = λ at no. inr (one, only_looked (reads (λ both. no.none.not_free both.0)));
      is_damaged = λ kept found damage. inr (one, only_looked (reads (λ both. damaged_open a.file kept found damage both.0)));
      other_size = λ is_free unequal. inr (one, only_looked (reads (λ both. unequal both.1)));
      begins = comes_to (refused r) comes;
    }

    pub refuses_begin : (fault : BeginFault) → IsBeginFault a.file parts.size a.cell_count fault → ReadsUnlessFault {T = Unit {0}} tells a b (Err fault)
        → UnopenedAtDeviceFault {T = Unit {0}} (file_half a) (file_half b) (Err fault)
        → StartsParts (bench_call tells a b) (sink_call sinks p p) [] parts (refused (of_begin fault))
    refuses_begin beginning.OutOfMemory is reads never = looked out_of_memory refl (λ its. cc) (λ none. reads) (λ is_free. only_looked reads)
    refuses_begin beginning.StoreFault is reads never = looked store_fault refl (λ its. cc) looks in_begin
    refuses_begin beginning.DeviceFault is reads never = looked device_fault refl (λ its. cc) looks (λ is_free. (in_begin is_free, never))
    refuses_begin beginning.JobOpen is reads never = record {
      free = λ its. absurd (cc);
      some_job = λ some. inl refl;
      not_job = λ at no. absurd (no.none.no_job is.job is.board is.algorithms is.is is.whole);
      is_damaged = λ kept found damage. absurd (never_jobs a.file kept found damage is.job is.board is.algorithms is.is is.whole);
      other_size = λ is_free unequal. absurd (not_free is.job a.file is.whole is_free);
      begins = λ are is_free size. absurd (not_free is.job a.file is.whole is_free);
    }
    refuses_begin (beginning.NotAJob at) is reads never = record {
      free = λ its. absurd (cc);
      some_job = λ some. absurd (is.none.no_job some.job some.board some.algorithms some.is some.whole);
      not_job = λ other no. inl (ap (λ (n : ℕ). refused (not_a_job n)) (one_reason a.file at other is no));
      is_damaged = λ kept found damage. absurd (is.whole kept found damage);
      other_size = λ is_free unequal. absurd (is.none.not_free is_free);
      begins = λ are is_free size. absurd (is.none.not_free is_free);
    }
    refuses_begin (beginning.Damaged kept found) is reads never = record {
      free = λ its. absurd (cc);
      some_job = λ some. absurd (is.none.no_job some.job some.board some.algorithms some.is some.whole);
      not_job = λ at no. absurd (no.whole kept found is.damaged);
      is_damaged = λ kept' found' too.
          let same_kept = one_kept a.file kept found kept' found' is.damaged too in
          let same_found = one_found a.file kept found kept' found' is.damaged too in
          inl (cc);
      other_size = λ is_free unequal. absurd (is.none.not_free is_free);
      begins = λ are is_free size. absurd (is.none.not_free is_free);
    }
    refuses_begin (beginning.CellsDiffer said found) is reads never = record {
      free = λ its. is.0;
      some_job = λ some. absurd (not_free some.job a.file some.whole is.0);
      not_job = λ at no. absurd (no.none.not_free is.0);
      is_damaged = λ kept was damage. absurd (damaged_open a.file kept was damage is.0);
      other_size = λ is_free unequal.
          let said_is : said ≡ parts.size = is.1 in
          let found_is : found ≡ a.cell_count = is.2 in
          inl (cc);
      begins = λ are is_free size. absurd (is.3 (is.1 ∙ size ∙ sym is.2));
    }

    pub starts_done : IsFree a.file → parts.size ≡ a.cell_count → IsWhole (body_of its_job) b.file → LeftOnly (165 ∷ body_of its_job) (file_half b)
        → b.operation ≡ None
        → StartsParts (bench_call tells a b) (sink_call sinks p p) [] parts done
    starts_done is_free sized whole only idle = over_free (bench_call tells a b) (sink_call sinks p p) parts.size done is_free sized (λ are.
        comes_to done (λ free_too. (
          record { file = whole; only = subst (λ (f : List ℕ). LeftOnly f (file_half b)) (sym whole) only; idle = idle; cells = refl },
          record { taken = λ t. sym (append-nil p.taken); faults = refl },
        )) are is_free sized)

-- an answer over the same file, with another claim on the job that is begun
pub over_as : {Known : Type 0} {One Two : Known → Type 0} (bench : BenchCall) (out : SinkCall) (size : ℕ) (answer : Answer)
    → ((known : Known) → One known → Two known)
    → OverFile bench out size answer Known One → OverFile bench out size answer Known Two
over_as bench out size answer step one = record {
  free = one.free;
  some_job = one.some_job;
  not_job = one.not_job;
  is_damaged = one.is_damaged;
  other_size = one.other_size;
  begins = λ known is_free sized. step known (one.begins known is_free sized);
}

-- a refusal of the beginning, with any text printed at its end
comes_with : (bench : BenchCall) (out : SinkCall) (text : List ℕ) (job : Job) (r : Refusal) → IsOf has_start (refused r)
    → BegunComes bench out [] job (refused r)
    → BegunComes bench out text job (refused r)
comes_with bench out text job out_of_memory kind comes = comes
comes_with bench out text job (input_fault name) kind comes = tt
comes_with bench out text job store_fault kind comes = comes
comes_with bench out text job device_fault kind comes = comes
comes_with bench out text job output_fault kind comes = absurd (cc)
comes_with bench out text job r kind comes = absurd comes

pub starts_with : (bench : BenchCall) (out : SinkCall) (text : List ℕ) (parts : JobParts) (r : Refusal) → IsOf has_start (refused r)
    → StartsParts bench out [] parts (refused r) → StartsParts bench out text parts (refused r)
starts_with bench out text parts r kind starts = over_as bench out parts.size (refused r)
    (λ are of. (
      of.0,
      of.1,
      record {
        surveyed = of.2.surveyed;
        comes = comes_with bench out text (job_of parts of.0) r kind of.2.comes;
        pairs = of.2.pairs;
        broken_off = of.2.broken_off;
      },
    )) starts

-- A job was begun, and then its text was put.
module _ (tells sinks : Bool) (a b : BenchState) (p r : SinkState) (text : List ℕ) (parts : JobParts) (sized : parts.size ≡ a.cell_count)
    (starts : StartsParts (bench_call tells a b) (sink_call sinks p p) [] parts done) where
  starts_as : (answer : Answer) → ((job : Job) → HasBegun b job → BegunComes (bench_call tells a b) (sink_call sinks p r) text job answer)
      → StartsParts (bench_call tells a b) (sink_call sinks p r) text parts answer
  starts_as answer comes =
      let is_free = starts.free refl in
      over_free (bench_call tells a b) (sink_call sinks p r) parts.size answer is_free sized (λ are.
      let of = starts.begins are is_free sized in
      (of.0, of.1, record { surveyed = of.2.surveyed; comes = comes (job_of parts of.0) of.2.comes.0; pairs = of.2.pairs; broken_off = of.2.broken_off }))

  pub starts_put : TookAll (sink_call sinks p r) text → StartsParts (bench_call tells a b) (sink_call sinks p r) text parts done
  starts_put took = starts_as done (λ job has. (has, took))

  pub starts_cut : TookPart (sink_call sinks p r) text → StartsParts (bench_call tells a b) (sink_call sinks p r) text parts (refused output_fault)
  starts_cut part = starts_as (refused output_fault) (λ job has. (has, part))
