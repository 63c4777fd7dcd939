-- `fill`: that its loop keeps its invariant.
use Rattle.std.proofs.Common.{rules, ◌≡◌, ◌≤◌, ◌+◌, ◌-◌, ◌∙◌, length, take, drop, ap, refl, arith, List, ℕ}
use Rattle.std.proofs.lemmas.List.{places, length-take, length-drop}
use Rattle.std.proofs.lemmas.Grind.{common_steps}
use Rattle.bench_model.proofs.Moments.{only_reads_then}
use Rattle.job_file.proofs.PieceLemmas.{front_more}
use Rattle.job_file.proofs.pieces.fill.Goals as goal

pub loop-at-preserved : goal.loop-at-preserved
loop-at-preserved g c =
    let so_far = c.loop-at.invariant in
    let a = g.B.Bench.state c.args.bench.now in
    let b = g.B.Bench.state c.loop-at.bench in
    let does = c.in_ok-file_read.ensures.does in
    let from = c.args.from in
    let at = c.loop-at.at in
    let end = c.piece_end-end.result in
    let le : at ≤ end = omega arith in
    let part : length (take (end - at) (drop at c.loop-at.out)) ≡ end - at =
    omega (arith, length-take (end - at) (drop at c.loop-at.out), length-drop at c.loop-at.out) in
    let size : length c.file_read.new.out ≡ end - at = c.file_read.auto.out ∙ part in
    record {
      within = search (rules, places);
      front = λ told. front_more from at end c.loop-at.out c.file_read.new.out a.file le (omega arith) size (so_far.front told)
          (does.ok told ∙ ap (λ (n : ℕ). take n (drop (from + at) b.file)) part
          ∙ ap (λ (l : List ℕ). take (end - at) (drop (from + at) l)) (so_far.reads.file told));
      reads = only_reads_then so_far.reads (record { file = does.file; moments = does.moments; cells = does.cells });
      faults = does.cause.on_ok refl ∙ so_far.faults;
    }

pub returns-in_err-file_read-clause-reads : goal.returns-in_err-file_read-clause-reads
returns-in_err-file_read-clause-reads g c =
    let does = c.in_err-file_read.ensures.does in
    only_reads_then c.loop-at.invariant.reads (record { file = does.file; moments = does.moments; cells = does.cells })

pub returns-clause-cause : goal.returns-clause-cause
returns-clause-cause g c = grind (arith, common_steps)

pub file_read-requires : goal.file_read-requires
file_read-requires g c = grind (arith, common_steps)

pub returns-clause-ok : goal.returns-clause-ok
returns-clause-ok g c = grind (arith, common_steps)

pub loop-at-init : goal.loop-at-init
loop-at-init g c = grind (arith, common_steps)
