-- `copy`: its contract, that its loop keeps its invariant, and what `copy_window` requires.
use Rattle.std.proofs.Common.{◌≡◌, ◌+◌, ◌-◌, ◌∙◌, ◌++◌, ℕ, List, length, take, drop, ap, refl, subst, sym, arith, length-append, append-nil}
use Rattle.std.proofs.lemmas.List.{length-take, length-drop}
use Rattle.bench_model.proofs.Moments.{only_reads_here}
use Rattle.job_parts.proofs.GiveLemmas.{CopiedSoFar, copied_more, copied_stops, copied_all}
use Rattle.job_parts.proofs.copy.copy.Goals as goal

pub loop-at-init : goal.loop-at-init
loop-at-init g c = record {
  within = omega arith;
  room = refl;
  taken = λ its its_too. sym (append-nil (g.O.Sink.state c.args.out.now).taken);
  reads = only_reads_here g.B.Bench.tells (g.B.Bench.state c.args.bench.now);
  faults = refl;
  put = refl;
}

pub copy_window-requires : goal.copy_window-requires
copy_window-requires g c = λ told.
    let so_far = c.loop-at.invariant in
    let size = c.piece_end-end.result - c.loop-at.at in
    omega (arith, length-take size c.loop-at.window, so_far.room, c.requires.told told, ap (λ (l : List ℕ). length l) (so_far.reads.file told))

pub loop-at-preserved : goal.loop-at-preserved
loop-at-preserved g c =
    let so_far = c.loop-at.invariant in
    let at = c.loop-at.at in
    let end = c.piece_end-end.result in
    let window = c.loop-at.window in
    let piece = c.copy_window.new.window in
    let size = length (take (end - at) window) in
    let part : size ≡ end - at = omega (arith, length-take (end - at) window, so_far.room) in
    let long : length piece ≡ end - at = c.copy_window.auto.window ∙ part in
    let whole : at + size ≡ end = omega (arith, part) in
    subst
    (λ (k : ℕ). CopiedSoFar g.B.Bench.tells (g.B.Bench.state c.args.bench.now) (g.B.Bench.state c.copy_window.new.bench) g.O.Sink.tells
    (g.O.Sink.state c.args.out.now) (g.O.Sink.state c.copy_window.new.out) c.args.from c.args.len k (piece ++ drop (end - at) window)) whole
    (copied_more c.args.from c.args.len at size window so_far (piece ++ drop (end - at) window) (omega (arith, whole))
    (omega (arith, length-append piece (drop (end - at) window), length-drop (end - at) window, long, so_far.room)) c.in-Ok.ensures)

pub returns-in-Err : goal.returns-in-Err
returns-in-Err g c =
    let so_far = c.loop-at.invariant in
    let at = c.loop-at.at in
    let end = c.piece_end-end.result in
    let window = c.loop-at.window in
    let part : length (take (end - at) window) ≡ end - at = omega (arith, length-take (end - at) window, so_far.room) in
    copied_stops c.args.from c.args.len at (length (take (end - at) window)) window so_far _ (omega (arith, part)) c.in-Err.ensures

pub returns : goal.returns
returns g c = copied_all c.args.from c.args.len c.loop-at.at c.loop-at.window (omega arith) c.loop-at.invariant
