-- `hash_file`: its clauses `ok`, `reads` and `cause`, that its loop keeps its invariant, and what `hash_window` requires.
use Rattle.std.proofs.Common.{◌≡◌, ◌+◌, ◌-◌, ◌∙◌, ℕ, List, length, take, drop, ap, refl, subst, arith, length-append}
use Rattle.std.proofs.lemmas.List.{length-take, length-drop}
use Rattle.std.proofs.lemmas.Grind.{common_steps}
use Rattle.bench_model.proofs.Moments.{only_reads_then, only_reads_here}
use Rattle.sha2.specs.Sha256.{sha256}
use Rattle.sha2.specs.Hashers.{Holds256}
use Rattle.job_parts.proofs.HashLemmas.{window_hashed}
use Rattle.job_parts.proofs.hashes.hash_file.Goals as goal

pub loop-at-init : goal.loop-at-init
loop-at-init g c = record {
  within = omega arith;
  room = refl;
  hash = λ told. c.new-hasher.ensures;
  reads = only_reads_here g.B.Bench.tells (g.B.Bench.state c.args.bench.now);
  faults = refl;
}

pub hash_window-requires : goal.hash_window-requires
hash_window-requires g c = record {
  told = λ its.
      let so_far = c.loop-at.invariant in
      let size = c.piece_end-end.result - c.loop-at.at in
      omega (arith, length-take size c.loop-at.window, so_far.room, c.requires.told its, ap (λ (l : List ℕ). length l) (so_far.reads.file its));
}

pub loop-at-preserved : goal.loop-at-preserved
loop-at-preserved g c =
    let so_far = c.loop-at.invariant in
    let s = g.B.Bench.state c.args.bench.now in
    let now = g.B.Bench.state c.loop-at.bench in
    let at = c.loop-at.at in
    let end = c.piece_end-end.result in
    let window = c.loop-at.window in
    let piece = c.hash_window.new.window in
    let e = c.in_ok-hash_window.ensures in
    let size = length (take (end - at) window) in
    let part : size ≡ end - at = omega (arith, length-take (end - at) window, so_far.room) in
    let long : length piece ≡ end - at = c.hash_window.auto.window ∙ part in
    let whole : at + size ≡ end = omega (arith, part) in
    record {
      within = omega arith;
      room = omega (arith, length-append piece (drop (end - at) window), length-drop (end - at) window, long, so_far.room);
      hash = λ told. subst (λ (k : ℕ). Holds256 c.hash_window.new.hasher (take k (drop c.args.from s.file))) whole
          (window_hashed s.file now.file c.loop-at.hasher c.hash_window.new.hasher c.args.from at size (so_far.reads.file told) (so_far.hash told) (e.ok told));
      reads = only_reads_then so_far.reads e.reads;
      faults = e.cause.on_ok refl ∙ so_far.faults;
    }

pub returns-clause-ok : goal.returns-clause-ok
returns-clause-ok g c = λ told.
    let so_far = c.loop-at.invariant in
    let rest = drop c.args.from (g.B.Bench.state c.args.bench.now).file in
    let all : c.loop-at.at ≡ c.args.len = omega (arith, so_far.within) in
    c.finalize.ensures (take c.loop-at.at rest) (so_far.hash told) ∙ ap (λ (k : ℕ). sha256 (take k rest)) all

pub returns-in_err-hash_window-clause-reads : goal.returns-in_err-hash_window-clause-reads
returns-in_err-hash_window-clause-reads g c = only_reads_then c.loop-at.invariant.reads c.hash_window.ensures.reads

pub returns-clause-cause : goal.returns-clause-cause
returns-clause-cause g c = grind (arith, common_steps)
