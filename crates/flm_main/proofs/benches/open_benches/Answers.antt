-- `open_benches`: its clauses, that its loop keeps its invariant, and what `open_bench` requires.
use Rattle.std.proofs.Common.{◌≡◌, ◌<◌, ◌∙◌, List, [], length, take, map, ap, arith, subst, sym}
use Rattle.host_files.specs.Bench.{job_name_of, cells_name_of, IsBeside, AllBeside}
use Rattle.host_files.proofs.BesideLemmas.{all_beside_more}
use Rattle.flm_main.specs.Line.{job_names, cells_names}
use Rattle.flm_main.proofs.PairLemmas.{as_many, cells_at, in_whole, in_words, job_at, names_on, take_as_many, take_within}
use Rattle.flm_main.proofs.benches.open_benches.Goals as goal

pub loop-index-init : goal.loop-index-init
loop-index-init c = (
  ap (λ (l : List _). map job_name_of l) c.new-benches.ensures.items,
  ap (λ (l : List _). map cells_name_of l) c.new-benches.ensures.items,
  subst (λ (l : List _). AllBeside [] l) (sym c.new-benches.ensures.items) tt,
)

pub open_bench-requires : goal.open_bench-requires
open_bench-requires c = in_words c.args.words.now c.loop-index.index
    (in_whole 16 c.loop-index.index (job_names c.args.words.now) (omega (arith, c.count_pairs-index-end.ensures, c.loop-index-test.true)))

pub loop-index-preserved : goal.loop-index-preserved
loop-index-preserved c =
    let words = c.args.words.now in
    let i = c.loop-index.index in
    let less : i < length (job_names words) = in_whole 16 i (job_names words) (omega (arith, c.count_pairs-index-end.ensures, c.loop-index-test.true)) in
    let cells_less : i < length (cells_names words) = omega (arith, less, as_many words) in (
      ap (λ (l : List _). map job_name_of l) c.in_ok-push.ensures.items
          ∙ names_on job_name_of c.loop-index.benches.items c.in_ok-bench.bench (job_names words) i c.loop-index.invariant.0 less
          (c.in_ok-bench.ensures.job ∙ job_at words i less),
      ap (λ (l : List _). map cells_name_of l) c.in_ok-push.ensures.items
          ∙ names_on cells_name_of c.loop-index.benches.items c.in_ok-bench.bench (cells_names words) i c.loop-index.invariant.1 cells_less
          (c.in_ok-bench.ensures.cells ∙ cells_at words i less),
      subst (λ (l : List _). AllBeside [] l) (sym c.in_ok-push.ensures.items)
          (all_beside_more [] c.loop-index.benches.items c.in_ok-bench.bench c.loop-index.invariant.2
          (subst (λ (l : List _). IsBeside l c.in_ok-bench.bench) c.as_slice.ensures.value c.in_ok-bench.ensures.beside)),
    )

pub returns-clause-jobs : goal.returns-clause-jobs
returns-clause-jobs c =
    let names = job_names c.args.words.now in
    let all : c.loop-index.index ≡ length (take 16 names) = omega (
      arith,
      c.count_pairs-index-end.ensures,
      c.loop-index.auto.index-end,
      c.loop-index-test.false,
    ) in
    c.loop-index.invariant.0 ∙ ap (λ n. take n names) all ∙ take_within 16 names

pub returns-clause-cells : goal.returns-clause-cells
returns-clause-cells c =
    let words = c.args.words.now in
    let all : c.loop-index.index ≡ length (take 16 (job_names words)) =
    omega (arith, c.count_pairs-index-end.ensures, c.loop-index.auto.index-end, c.loop-index-test.false) in
    c.loop-index.invariant.1 ∙ ap (λ n. take n (cells_names words)) all ∙ take_as_many 16 (job_names words) (cells_names words) (as_many words)

pub returns-clause-beside : goal.returns-clause-beside
returns-clause-beside c = c.loop-index.invariant.2
