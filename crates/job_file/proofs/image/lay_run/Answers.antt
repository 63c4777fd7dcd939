-- `lay_run`: its clause `ok`, that its loop keeps its invariant, and what `lay_window` requires.
use Rattle.std.proofs.Common.{◌≡◌, ◌≤◌, ◌+◌, ◌-◌, ◌++◌, ◌∙◌, [], ℕ, List, length, take, drop, ap, refl, arith, length-append}
use Rattle.std.proofs.lemmas.List.{length-take, length-drop}
use Rattle.std.proofs.lemmas.Grind.{common_steps}
use Rattle.bench_model.proofs.Moments.{only_reads_then, only_reads_here}
use Rattle.job_file.proofs.ImageLemmas.{window_more, stands_more, behind_window, all_laid}
use Rattle.job_file.proofs.image.lay_run.Goals as goal

pub loop-at-init : goal.loop-at-init
loop-at-init g c = record {
  within = omega arith;
  room = c.requires.room;
  bytes = [];
  long = refl;
  stand = λ told. refl;
  laid = refl;
  reads = only_reads_here g.B.Bench.tells (g.B.Bench.state c.args.bench.now);
  faults = refl;
}

pub lay_window-requires-clause-told : goal.lay_window-requires-clause-told
lay_window-requires-clause-told g c = λ told.
    let so_far = c.loop-at.invariant in
    let size = c.piece_end-end.result - c.loop-at.at in
    omega (arith, length-take size c.loop-at.window, so_far.room, c.requires.told told, ap (λ (l : List ℕ). length l) (so_far.reads.file told))

pub lay_window-requires-clause-fits : goal.lay_window-requires-clause-fits
lay_window-requires-clause-fits g c =
    let size = c.piece_end-end.result - c.loop-at.at in
    omega (arith, length-take size c.loop-at.window, c.loop-at.invariant.room, c.requires.fits)

pub lay_window-requires-clause-behind : goal.lay_window-requires-clause-behind
lay_window-requires-clause-behind g c =
    let so_far = c.loop-at.invariant in
    behind_window c.args.image.now c.loop-at.image c.args.place c.loop-at.at so_far.bytes c.requires.behind so_far.long so_far.laid

pub loop-at-preserved : goal.loop-at-preserved
loop-at-preserved g c =
    let so_far = c.loop-at.invariant in
    let s = g.B.Bench.state c.args.bench.now in
    let now = g.B.Bench.state c.loop-at.bench in
    let from = c.args.from in
    let at = c.loop-at.at in
    let end = c.piece_end-end.result in
    let window = c.loop-at.window in
    let piece = c.lay_window.new.window in
    let e = c.in_ok-lay_window.ensures in
    let le : at ≤ end = omega arith in
    let part : length (take (end - at) window) ≡ end - at = omega (arith, length-take (end - at) window, so_far.room) in
    let size : length piece ≡ end - at = c.lay_window.auto.window ∙ part in
    record {
      within = omega arith;
      room = omega (arith, length-append piece (drop (end - at) window), length-drop (end - at) window, size, so_far.room);
      bytes = so_far.bytes ++ piece;
      long = omega (arith, length-append so_far.bytes piece, so_far.long, size);
      stand = λ told. stands_more from at end so_far.bytes piece s.file now.file le (so_far.stand told) (so_far.reads.file told)
          (e.stand told ∙ ap (λ (n : ℕ). take n (drop (from + at) now.file)) part);
      laid = window_more c.args.image.now c.loop-at.image c.lay_window.new.image c.args.place at c.args.len so_far.bytes piece c.requires.maximal
          c.requires.behind (omega (arith, size)) so_far.long (omega (arith, size)) c.requires.fits so_far.laid e.ok;
      reads = only_reads_then so_far.reads e.reads;
      faults = e.counted.on_other refl ∙ so_far.faults;
    }

pub returns-clause-ok : goal.returns-clause-ok
returns-clause-ok g c =
    all_laid g.B.Bench.tells (g.B.Bench.state c.args.bench.now) (g.B.Bench.state c.loop-at.bench) c.args.from c.args.place c.args.len
    c.loop-at.at c.args.image.now c.loop-at.image c.loop-at.window c.loop-at.invariant (omega arith) c.requires.some

pub slice_bounds-lay_window-length : goal.slice_bounds-lay_window-length
slice_bounds-lay_window-length g c = grind (arith, common_steps)

pub returns-clause-counted : goal.returns-clause-counted
returns-clause-counted g c = grind (arith, common_steps)
