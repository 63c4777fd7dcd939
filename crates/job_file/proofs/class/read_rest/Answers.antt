-- `read_rest`: its clauses `err`, `ok`, `reads` and `counted`, that its result meets the clauses of its type, and what `read_said` and `read_runs` require.
use Rattle.std.proofs.Common.{◌≡◌, ◌++◌, ◌∙◌, ℕ, List, Result, Ok, Err, refl, length, drop, ap, sym, subst, arith, IsTrue}
use Rattle.std.specs.List.{flat_map}
use Rattle.board_file.specs.declared.region.Region.{Region}
use Rattle.board_file.specs.Limits.{size_of}
use Rattle.board_file.specs.Shown.{shown}
use Rattle.flm_descriptor.specs.declared.algorithm.Algorithm.{Algorithm}
use Rattle.job_text.specs.declared.head.Places.{Places}
use Rattle.job_text.specs.Body.{run_text}
use Rattle.job_text.specs.Fits.{all_fit, LiesIn}
use Rattle.job_text.specs.Said.{algorithms_shown}
use Rattle.job_text.specs.Reading.{Texts, texts_at, runs_at, places_of}
use Rattle.bench_model.proofs.Moments.{only_reads_then}
use Rattle.job_file.specs.declared.fault.ReadFault.{ReadFault}
use Rattle.job_file.specs.Readers.{Fails, Counts, texts_there}
use Rattle.job_file.proofs.JobLemmas.{IsCountedRight, rest_texts, rest_miscounted, rest_runs, rest_ends, rest_job}
use Rattle.job_file.proofs.CountLemmas.{counted_behind, miscounted}
use Rattle.job_file.proofs.class.read_rest.Goals as goal

pub read_said-requires-clause-within : goal.read_said-requires-clause-within
read_said-requires-clause-within g c = let front = ap (λ (p : Places). p.front) c.places_in-places.ensures.value in omega (arith, front, c.requires.within)

pub read_runs-requires-clause-told : goal.read_runs-requires-clause-told
read_runs-requires-clause-told g c = λ told. ap (λ (l : List ℕ). length l) (c.read_said.ensures.reads.file told) ∙ c.requires.told told

pub returns-in-Err-clause-err : goal.returns-in-Err-clause-err
returns-in-Err-clause-err g c = λ told.
    let h = c.args.head in
    let file = (g.B.Bench.state c.args.bench.now).file in
    let e = c.in-Err.fault in
    rest_texts c.args.whole c.args.format h (drop (places_of c.args.format).front file) e
    (subst (λ (p : Places). Fails e (texts_at c.args.whole p h (drop p.front file))) c.places_in-places.ensures.value (c.in-Err.ensures.gives told))

pub returns-in-Err-check_counts-clause-err : goal.returns-in-Err-check_counts-clause-err
returns-in-Err-check_counts-clause-err g c = λ told.
    let format = c.args.format in
    let h = c.args.head in
    let file = (g.B.Bench.state c.args.bench.now).file in
    let said = c.in-Ok.said in
    let value = c.places_in-places.ensures.value in
    let t : Texts = texts_there file (places_of format) h said in
    let read : texts_at c.args.whole (places_of format) h (drop (places_of format).front file) ≡ Ok (t, drop said.end file) =
    subst (λ (p : Places). texts_at c.args.whole p h (drop p.front file) ≡ Ok (texts_there file p h said, drop said.end file)) value
    (c.in-Ok.ensures.gives told) in
    let e = c.in-Err-check_counts.fault in
    let failed : Result (Unit {0}) ReadFault = Err e in
    rest_miscounted (Unit {0}) c.args.whole format h file t said.end e read
    (subst (λ (n : ℕ). Counts (places_of format) h n failed) c.cells_in.ensures
    (subst (λ (p : Places). Counts p h c.cells_in.result failed) value c.in-Err-check_counts.ensures))

pub returns-in-Err-read_runs-clause-err : goal.returns-in-Err-read_runs-clause-err
returns-in-Err-read_runs-clause-err g c = λ told.
    let format = c.args.format in
    let h = c.args.head in
    let file = (g.B.Bench.state c.args.bench.now).file in
    let said = c.in-Ok.said in
    let value = c.places_in-places.ensures.value in
    let t : Texts = texts_there file (places_of format) h said in
    let read : texts_at c.args.whole (places_of format) h (drop (places_of format).front file) ≡ Ok (t, drop said.end file) =
    subst (λ (p : Places). texts_at c.args.whole p h (drop p.front file) ≡ Ok (texts_there file p h said, drop said.end file)) value
    (c.in-Ok.ensures.gives told) in
    let right : IsCountedRight c.args.whole format h file t said.end =
    record { read = read; sized = c.in-Ok-check_counts.ensures.0 ∙ c.cells_in.ensures; some = c.in-Ok-check_counts.ensures.1 } in
    let one = (g.B.Bench.state c.read_said.new.bench).file in
    let same : one ≡ file = c.read_said.ensures.reads.file told in
    let e = c.in-Err-read_runs.fault in
    rest_runs c.args.whole format h file t said.end e right
    (subst (λ (f : List ℕ). Fails e (runs_at c.args.whole said.board.regions h.runs 0 (drop said.end f))) same
    (subst (λ (rs : List Region). Fails e (runs_at c.args.whole rs h.runs 0 (drop said.end one))) c.as_slice-regions.ensures
    (c.in-Err-read_runs.ensures.gives told)))

pub returns-then-left-cells-clause-err : goal.returns-then-left-cells-clause-err
returns-then-left-cells-clause-err g c = λ told.
    let format = c.args.format in
    let h = c.args.head in
    let file = (g.B.Bench.state c.args.bench.now).file in
    let said = c.in-Ok.said in
    let value = c.places_in-places.ensures.value in
    let t : Texts = texts_there file (places_of format) h said in
    let read : texts_at c.args.whole (places_of format) h (drop (places_of format).front file) ≡ Ok (t, drop said.end file) =
    subst (λ (p : Places). texts_at c.args.whole p h (drop p.front file) ≡ Ok (texts_there file p h said, drop said.end file)) value
    (c.in-Ok.ensures.gives told) in
    let right : IsCountedRight c.args.whole format h file t said.end =
    record { read = read; sized = c.in-Ok-check_counts.ensures.0 ∙ c.cells_in.ensures; some = c.in-Ok-check_counts.ensures.1 } in
    let one = (g.B.Bench.state c.read_said.new.bench).file in
    let same : one ≡ file = c.read_said.ensures.reads.file told in
    let image = c.in-Ok-read_runs.read.0 in
    let at = c.in-Ok-read_runs.read.1 in
    rest_ends c.args.whole format h file t said.end at image right
    (subst (λ (f : List ℕ). runs_at c.args.whole said.board.regions h.runs 0 (drop said.end f) ≡ Ok (image, drop at f)) same
    (subst (λ (rs : List Region). runs_at c.args.whole rs h.runs 0 (drop said.end one) ≡ Ok (image, drop at one)) c.as_slice-regions.ensures
    (c.in-Ok-read_runs.ensures.gives told)))
    (c.requires.told told) (λ is. c.if-left-cells.true (omega (arith, is)))

pub returns-in-Ok-new-clause-ok : goal.returns-in-Ok-new-clause-ok
returns-in-Ok-new-clause-ok g c = λ told.
    let format = c.args.format in
    let h = c.args.head in
    let file = (g.B.Bench.state c.args.bench.now).file in
    let said = c.in-Ok.said in
    let value = c.places_in-places.ensures.value in
    let t : Texts = texts_there file (places_of format) h said in
    let read : texts_at c.args.whole (places_of format) h (drop (places_of format).front file) ≡ Ok (t, drop said.end file) =
    subst (λ (p : Places). texts_at c.args.whole p h (drop p.front file) ≡ Ok (texts_there file p h said, drop said.end file)) value
    (c.in-Ok.ensures.gives told) in
    let right : IsCountedRight c.args.whole format h file t said.end =
    record { read = read; sized = c.in-Ok-check_counts.ensures.0 ∙ c.cells_in.ensures; some = c.in-Ok-check_counts.ensures.1 } in
    let one = (g.B.Bench.state c.read_said.new.bench).file in
    let same : one ≡ file = c.read_said.ensures.reads.file told in
    let image = c.in-Ok-read_runs.read.0 in
    let at = c.in-Ok-read_runs.read.1 in
    rest_job _ c.args.whole format h file said right refl (ap (λ (l : List Algorithm). algorithms_shown l) c.in-Ok-new.ensures)
    (subst (λ (f : List ℕ). drop said.end f ≡ flat_map run_text image ++ drop at f) same (c.in-Ok-read_runs.ensures.text told))
    c.in-Ok-read_runs.ensures.count (c.requires.told told) (omega (arith, c.if-left-cells.false))

pub returns-then-left-cells-clause-reads : goal.returns-then-left-cells-clause-reads
returns-then-left-cells-clause-reads g c = only_reads_then c.read_said.ensures.reads c.read_runs.ensures.reads

pub returns-in-Err-read_runs-clause-reads : goal.returns-in-Err-read_runs-clause-reads
returns-in-Err-read_runs-clause-reads g c = only_reads_then c.read_said.ensures.reads c.read_runs.ensures.reads

pub returns-in-Ok-new-clause-reads : goal.returns-in-Ok-new-clause-reads
returns-in-Ok-new-clause-reads g c = only_reads_then c.read_said.ensures.reads c.read_runs.ensures.reads

pub returns-in-Err-new-clause-reads : goal.returns-in-Err-new-clause-reads
returns-in-Err-new-clause-reads g c = only_reads_then c.read_said.ensures.reads c.read_runs.ensures.reads

pub returns-in-Ok-new-clause-counted : goal.returns-in-Ok-new-clause-counted
returns-in-Ok-new-clause-counted g c = counted_behind c.in-Ok.ensures.counted c.in-Ok-read_runs.ensures.counted

pub returns-in-Err-new-clause-counted : goal.returns-in-Err-new-clause-counted
returns-in-Err-new-clause-counted g c = counted_behind c.in-Ok.ensures.counted c.in-Ok-read_runs.ensures.counted

pub returns-then-left-cells-clause-counted : goal.returns-then-left-cells-clause-counted
returns-then-left-cells-clause-counted g c = counted_behind c.in-Ok.ensures.counted c.in-Ok-read_runs.ensures.counted

pub returns-in-Err-read_runs-clause-counted : goal.returns-in-Err-read_runs-clause-counted
returns-in-Err-read_runs-clause-counted g c = counted_behind c.in-Ok.ensures.counted c.in-Err-read_runs.ensures.counted

pub returns-in-Err-check_counts-clause-counted : goal.returns-in-Err-check_counts-clause-counted
returns-in-Err-check_counts-clause-counted g c = miscounted c.places_in-places.result c.args.head c.cells_in.result c.in-Err-check_counts.fault
    c.in-Err-check_counts.ensures
    c.in-Ok.ensures.counted

pub invariant_of-result : goal.invariant_of-result
invariant_of-result g c =
    let said = c.in-Ok.said in
    let regions = c.as_slice-regions.ensures in
    record {
      fit = subst (λ (l : List Algorithm). IsTrue (all_fit (shown said.board) said.board.regions (algorithms_shown l))) (sym c.in-Ok-new.ensures)
          c.in-Ok.ensures.fit;
      some = omega (arith, c.in-Ok-read_runs.ensures.count, c.in-Ok-check_counts.ensures.1);
      inside = subst (λ (rs : List Region). LiesIn rs c.in-Ok-read_runs.read.0) regions c.in-Ok-read_runs.ensures.inside;
      early = omega (
        arith,
        c.in-Ok-read_runs.ensures.taken,
        c.in-Ok.ensures.ends,
        ap (λ (rs : List Region). size_of rs) regions,
        said.board.few_cells,
      );
    }

pub returns-in-Err-check_counts-clause-reads : goal.returns-in-Err-check_counts-clause-reads
returns-in-Err-check_counts-clause-reads g c = c.read_said.ensures.reads

pub read_runs-requires-clause-within : goal.read_runs-requires-clause-within
read_runs-requires-clause-within g c = c.in-Ok.ensures.fits

pub read_said-requires-clause-told : goal.read_said-requires-clause-told
read_said-requires-clause-told g c = c.requires.told

pub overflow_sub-left : goal.overflow_sub-left
overflow_sub-left g c = c.in-Ok-read_runs.ensures.ends

pub returns-in-Err-new-clause-err : goal.returns-in-Err-new-clause-err
returns-in-Err-new-clause-err g c = λ told. tt

pub returns-in-Err-new-clause-ok : goal.returns-in-Err-new-clause-ok
returns-in-Err-new-clause-ok g c = λ told. tt

pub read_runs-requires-clause-room : goal.read_runs-requires-clause-room
read_runs-requires-clause-room g c = c.requires.room
