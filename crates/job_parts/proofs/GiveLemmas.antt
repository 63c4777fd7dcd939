-- What steps that read the job file and put texts do together, and how the call ends.
use Rattle.std.proofs.Common.{◌≡◌, ◌≤◌, ◌+◌, ◌-◌, ◌∙◌, ◌++◌, [], inl, inr, ℕ, List, Bool, true, false, IsTrue, length, take, drop}
use Rattle.std.proofs.Common.{Ok, Err, refl, sym, ap, subst, arith, append-nil, append_assoc}
use Rattle.std.proofs.Math.Seq.{take-add}
use Rattle.std.proofs.lemmas.List.{drop-drop}
use Rattle.faults.specs.Counts.{Rose}
use Rattle.bench_model.specs.State.{BenchState}
use Rattle.bench_model.specs.Calls.{OnlyReads}
use Rattle.bench_model.specs.Counted.{IsCounted, is_store_fault}
use Rattle.bench_model.proofs.Moments.{only_reads_then, only_reads_here}
use Rattle.outside_io.specs.State.{SinkState}
use Rattle.outside_io.specs.Appends.{AppendsPart}
use Rattle.outside_io.specs.Puts.{Puts}
use Rattle.outside_io.specs.declared.sink.OutputFault.{OutputFault}
use Rattle.outside_io.proofs.AppendsLemmas.{AppendsPart-first, AppendsPart-second}
use Rattle.report_text.specs.Refusal.{Refusal, usage, store_fault, output_fault}
use Rattle.report_text.specs.Refused.{of_open}
use Rattle.board_file.specs.Shown as board
use Rattle.job_text.specs.Stands.{StandsFor}
use Rattle.job_text.specs.Said.{algorithms_shown}
use Rattle.job_text.specs.declared.job.Job as code
use Rattle.job_file.specs.Counted.{open_fault}
use Rattle.job_file.specs.Faults.{IsOpenFault}
use Rattle.job_file.specs.declared.fault.OpenFault.{OpenFault}
use Rattle.job_file.specs.declared.fault.OpenFault.TheVariants as opening
use Rattle.command_files.specs.Call.{Answer, done, refused, bench_call, sink_call}
use Rattle.job_parts.specs.declared.part.Part.{Part}
use Rattle.job_parts.specs.Gives.{is_store, is_output, OnlyLooks, Gives}
use Rattle.job_parts.specs.Parts.{IsTextOf, IsOfPart, PutsPart, GivesPart, HasGiven, Comes, GiveEnds}

-- ---- counts

pub counted_rose : {before now : ℕ} → before ≤ now → Rose before now → IsCounted before now true
counted_rose later rose = record { later = later; on_fault = λ is. rose; on_other = λ other. absurd (cc other) }

pub counted_same : {before now : ℕ} → now ≡ before → IsCounted before now false
counted_same same = record { later = omega (arith, same); on_fault = λ is. absurd (cc is); on_other = λ other. same }

-- nothing of a text was appended
pub begins_nothing : (text taken : List ℕ) → AppendsPart text taken taken
begins_nothing text taken = record { part = []; rest = text; piece_is = refl; appended = sym (append-nil taken) }

-- ---- a text that is put without a read

pub puts_gives : {told tells : Bool} {s : BenchState} {o n : SinkState} {text : List ℕ} {u : Unit {0}} → Puts tells o n text (Ok u)
    → Gives (bench_call told s s) (sink_call tells o n) text done
puts_gives {told} {tells} {s} puts = record {
  kind = tt;
  given = λ its its_too. puts.ok its_too;
  looks = record { store = counted_same refl; output = counted_same (puts.cause.on_ok refl); reads = only_reads_here told s };
}

pub puts_gave : {told tells : Bool} {s : BenchState} {o n : SinkState} {text : List ℕ} {e : OutputFault} → Puts tells o n text (Err e)
    → Gives (bench_call told s s) (sink_call tells o n) text (refused output_fault)
puts_gave {told} {tells} {s} puts = record {
  kind = tt;
  given = λ its its_too. puts.err its_too;
  looks = record { store = counted_same refl; output = counted_rose puts.cause.later (puts.cause.on_fault refl); reads = only_reads_here told s };
}

-- a text is put after the file was read
pub read_then : {told tells : Bool} {a b c : BenchState} {o n : SinkState} {text : List ℕ} {answer : Answer} → OnlyReads told a b
    → b.store_faults ≡ a.store_faults → Gives (bench_call told b c) (sink_call tells o n) text answer
    → Gives (bench_call told a c) (sink_call tells o n) text answer
read_then {told} {tells} {a} {b} {c} {o} {n} {text} {answer} reads same gives = record {
  kind = gives.kind;
  given = gives.given;
  looks = record {
    store = subst (λ (k : ℕ). IsCounted k c.store_faults (is_store answer)) same gives.looks.store;
    output = gives.looks.output;
    reads = only_reads_then reads gives.looks.reads;
  };
}

-- the store failed before anything was put
pub store_failed : {told tells : Bool} {a b : BenchState} {o : SinkState} (text : List ℕ) → OnlyReads told a b → a.store_faults ≤ b.store_faults
    → Rose a.store_faults b.store_faults → Gives (bench_call told a b) (sink_call tells o o) text (refused store_fault)
store_failed {told} {tells} {a} {b} {o} text reads later rose = record {
  kind = tt;
  given = λ its its_too. begins_nothing text o.taken;
  looks = record { store = counted_rose later rose; output = counted_same refl; reads = reads };
}

-- ---- window by window

-- the first `at` bytes from a place on were put
pub record CopiedSoFar (told : Bool) (start now : BenchState) (tells : Bool) (first last : SinkState) (from len at : ℕ) (window : List ℕ) : Type 0 where
  pub within : at ≤ len
  pub room : length window ≡ 4096
  pub taken : IsTrue told → IsTrue tells → last.taken ≡ first.taken ++ take at (drop from start.file)
  pub reads : OnlyReads told start now
  pub faults : now.store_faults ≡ start.store_faults
  pub put : last.faults ≡ first.faults

-- the bytes put so far, followed by a window
joined : (file now : List ℕ) (from at size : ℕ) → now ≡ file
    → take at (drop from file) ++ take size (drop (from + at) now) ≡ take (at + size) (drop from file)
joined file now from at size same =
    ap (λ (l : List ℕ). take at (drop from file) ++ take size (drop (from + at) l)) same
    ∙ ap (λ (l : List ℕ). take at (drop from file) ++ take size l) (sym (drop-drop at from file))
    ∙ sym (take-add at size (drop from file))

module _ {told tells : Bool} {start now new : BenchState} {first last out : SinkState} (from len at size : ℕ) (window : List ℕ)
    (so_far : CopiedSoFar told start now tells first last from len at window) where
  -- one more window was put
  pub copied_more : (window_now : List ℕ) → at + size ≤ len → length window_now ≡ 4096
      → Gives (bench_call told now new) (sink_call tells last out) (take size (drop (from + at) now.file)) done
      → CopiedSoFar told start new tells first out from len (at + size) window_now
  copied_more window_now inside room gives = record {
    within = inside;
    room = room;
    taken = λ its its_too.
        gives.given its its_too
        ∙ ap (λ (l : List ℕ). l ++ take size (drop (from + at) now.file)) (so_far.taken its its_too)
        ∙ append_assoc first.taken (take at (drop from start.file)) (take size (drop (from + at) now.file))
        ∙ ap (λ (l : List ℕ). first.taken ++ l) (joined start.file now.file from at size (so_far.reads.file its));
    reads = only_reads_then so_far.reads gives.looks.reads;
    faults = gives.looks.store.on_other refl ∙ so_far.faults;
    put = gives.looks.output.on_other refl ∙ so_far.put;
  }

  -- a fault broke off a window
  pub copied_stops : (r : Refusal) → at + size ≤ len
      → Gives (bench_call told now new) (sink_call tells last out) (take size (drop (from + at) now.file)) (refused r)
      → Gives (bench_call told start new) (sink_call tells first out) (take len (drop from start.file)) (refused r)
  copied_stops r inside gives = record {
    kind = gives.kind;
    given = λ its its_too.
        let rest = drop from start.file in
        let both = AppendsPart-second first.taken last.taken out.taken (take at rest) (take size (drop (from + at) now.file))
        (so_far.taken its its_too) (gives.given its its_too) in
        let part : AppendsPart (take (at + size) rest) first.taken out.taken =
        subst (λ (l : List ℕ). AppendsPart l first.taken out.taken) (joined start.file now.file from at size (so_far.reads.file its)) both in
        let all = AppendsPart-first first.taken out.taken (take (at + size) rest) (take (len - (at + size)) (drop (at + size) rest)) part in
        let count : at + size + (len - (at + size)) ≡ len = omega (arith, inside) in
        subst (λ (l : List ℕ). AppendsPart l first.taken out.taken)
        (sym (take-add (at + size) (len - (at + size)) rest) ∙ ap (λ (k : ℕ). take k rest) count) all;
    looks = record {
      store = subst (λ (k : ℕ). IsCounted k new.store_faults (is_store (refused r))) so_far.faults gives.looks.store;
      output = subst (λ (k : ℕ). IsCounted k out.faults (is_output (refused r))) so_far.put gives.looks.output;
      reads = only_reads_then so_far.reads gives.looks.reads;
    };
  }

-- all windows were put
pub copied_all : {told tells : Bool} {start now : BenchState} {first last : SinkState} (from len at : ℕ) (window : List ℕ) → len ≤ at
    → CopiedSoFar told start now tells first last from len at window
    → Gives (bench_call told start now) (sink_call tells first last) (take len (drop from start.file)) done
copied_all {told} {tells} {start} {now} {first} {last} from len at window over so_far = record {
  kind = tt;
  given = λ its its_too.
      let count : at ≡ len = omega (arith, over, so_far.within) in
      so_far.taken its its_too ∙ ap (λ (k : ℕ). first.taken ++ take k (drop from start.file)) count;
  looks = record { store = counted_same so_far.faults; output = counted_same so_far.put; reads = so_far.reads };
}

-- ---- the parts of a job

-- a text that is a part was put
pub part_given : {p : Part} {job : code.Job} {told tells : Bool} {a c : BenchState} {o n : SinkState} {answer : Answer} (text : List ℕ)
    → (IsTrue told → (stands : StandsFor job a.file) → IsTextOf p stands.text (board.shown job.board) (algorithms_shown job.algorithms) text)
    → Gives (bench_call told a c) (sink_call tells o n) text answer → PutsPart p job (bench_call told a c) (sink_call tells o n) answer
part_given text is gives = record {
  kind = gives.kind;
  given = λ its stands its_too. record { text = text; is_text = is its stands; holds = gives.given its its_too };
  looks = gives.looks;
}

-- the store failed before anything of the part was put
pub store_failed_part : {p : Part} {job : code.Job} {told tells : Bool} {a b : BenchState} {o : SinkState}
    → ((stands : StandsFor job a.file) → IsOfPart p job a.file stands (λ text. Unit {0})) → OnlyReads told a b → a.store_faults ≤ b.store_faults
    → Rose a.store_faults b.store_faults → PutsPart p job (bench_call told a b) (sink_call tells o o) (refused store_fault)
store_failed_part {p} {job} {told} {tells} {a} {b} {o} some reads later rose = record {
  kind = tt;
  given = λ its stands its_too.
      let of = some stands in record { text = of.text; is_text = of.is_text; holds = begins_nothing of.text o.taken };
  looks = record { store = counted_rose later rose; output = counted_same refl; reads = reads };
}

-- ---- the call

-- the call only reads, also where the file was read before
looks_both : {told tells : Bool} {s b n : BenchState} {o m : SinkState} → OnlyReads told s b → b.store_faults ≡ s.store_faults → (answer : Answer)
    → OnlyLooks (bench_call told b n) (sink_call tells o m) answer → OnlyLooks (bench_call told s n) (sink_call tells o m) answer
looks_both {told} {tells} {s} {b} {n} reads same answer looks = record {
  store = subst (λ (k : ℕ). IsCounted k n.store_faults (is_store answer)) same looks.store;
  output = looks.output;
  reads = only_reads_then reads looks.reads;
}

stands_still : {told : Bool} {s b : BenchState} {job : code.Job} → OnlyReads told s b → (IsTrue told → StandsFor job s.file) → IsTrue told
    → StandsFor job b.file
stands_still {told} {s} {b} {job} reads stands its = subst (λ (f : List ℕ). StandsFor job f) (sym (reads.file its)) (stands its)

module _ {p : Part} {told tells : Bool} {s : BenchState} where
  module _ {b n : BenchState} {job : code.Job} {o m : SinkState} (reads : OnlyReads told s b) (same : b.store_faults ≡ s.store_faults)
      (stands : IsTrue told → StandsFor job s.file) where
    has_given : (answer : Answer) → PutsPart p job (bench_call told b n) (sink_call tells o m) answer
        → HasGiven p (bench_call told s n) (sink_call tells o m) answer
    has_given answer puts its its_too =
        let there : StandsFor job b.file = stands_still reads stands its in
        let of = puts.given its there its_too in record {
          text = of.text;
          is_part = record {
            job = there.text;
            board = board.shown job.board;
            algorithms = algorithms_shown job.algorithms;
            is = there.is;
            whole = sym (reads.file its) ∙ there.whole;
            holds = of.is_text;
          };
          holds = of.holds;
        }

    comes_of : (answer : Answer) → PutsPart p job (bench_call told b n) (sink_call tells o m) answer
        → Comes p (bench_call told s n) (sink_call tells o m) answer
    comes_of done puts = has_given done puts
    comes_of (refused store_fault) puts = inr (has_given (refused store_fault) puts)
    comes_of (refused output_fault) puts = has_given (refused output_fault) puts
    comes_of (refused r) puts = absurd puts.kind

    pub ends_given : (answer : Answer) → GivesPart p job (bench_call told b n) (sink_call tells o m) answer
        → GiveEnds p (bench_call told s n) (sink_call tells o m) answer
    ends_given answer (inl puts) = record { comes = comes_of answer puts; looks = looks_both reads same answer puts.looks }
    ends_given answer (inr lacks) = subst (λ (a : Answer). GiveEnds p (bench_call told s n) (sink_call tells o m) a) (sym lacks.answer_is) (record {
      comes = (
        (λ its. let there : StandsFor job b.file = stands_still reads stands its in record {
          job = there.text;
          board = board.shown job.board;
          algorithms = algorithms_shown job.algorithms;
          is = there.is;
          whole = sym (reads.file its) ∙ there.whole;
          holds = lacks.lacks its there;
        }),
        lacks.nothing,
      );
      looks = looks_both reads same (refused usage)
          (subst (λ (a : Answer). OnlyLooks (bench_call told b n) (sink_call tells o m) a) lacks.answer_is lacks.looks);
    })

  -- the job in the file isn't opened
  pub ends_refused : {b : BenchState} {o : SinkState} (fault : OpenFault) → OnlyReads told s b
      → IsCounted s.store_faults b.store_faults (is_store_fault (open_fault fault)) → (IsTrue told → IsOpenFault s.file s.cell_count fault)
      → GiveEnds p (bench_call told s b) (sink_call tells o o) (refused (of_open fault))
  ends_refused opening.OutOfMemory reads counted is = record {
    comes = record { taken = refl; faults = refl };
    looks = record { store = counted; output = counted_same refl; reads = reads };
  }
  ends_refused opening.NoJob reads counted is = record {
    comes = (is, record { taken = refl; faults = refl });
    looks = record { store = counted; output = counted_same refl; reads = reads };
  }
  ends_refused (opening.NotAJob at) reads counted is = record {
    comes = (is, record { taken = refl; faults = refl });
    looks = record { store = counted; output = counted_same refl; reads = reads };
  }
  ends_refused opening.StoreFault reads counted is = record {
    comes = inl (record { taken = refl; faults = refl });
    looks = record { store = counted; output = counted_same refl; reads = reads };
  }
  ends_refused (opening.CellsDiffer said found) reads counted is = record {
    comes = (is, record { taken = refl; faults = refl });
    looks = record { store = counted; output = counted_same refl; reads = reads };
  }
  ends_refused (opening.Damaged kept found) reads counted is = record {
    comes = ((λ its. (is its).damaged), record { taken = refl; faults = refl });
    looks = record { store = counted; output = counted_same refl; reads = reads };
  }
