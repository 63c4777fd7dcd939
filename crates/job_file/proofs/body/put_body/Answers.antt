-- `put_body`: its clauses `moments`, `cells`, `hash`, `ok`, `store` and `device`, that its loop keeps its invariant, and what `copy_cells` requires.
use Rattle.std.proofs.Common.{◌≡◌, ◌≤◌, ◌-◌, ◌++◌, ◌∷◌, ◌∙◌, ℕ, List, length, take, drop, ap, refl, sym, subst, arith, length-append}
use Rattle.std.proofs.lemmas.List.{length-take, length-drop, append-nil, take_all}
use Rattle.std.proofs.lemmas.Grind.{common_steps}
use Rattle.job_text.specs.Parts.{front_of}
use Rattle.sha2.specs.Sha256.{sha256}
use Rattle.sha2.specs.Hashers.{Holds256}
use Rattle.bench_model.proofs.CountLemmas.{none_counted}
use Rattle.job_file.proofs.PutLemmas.{cells_more, hash_more, still_shut, cells_read_then, cells_read_stay}
use Rattle.job_file.proofs.BodyLemmas.{shut_by_parts, body_end}
use Rattle.job_file.proofs.body.put_body.Goals as goal

pub loop-at-init : goal.loop-at-init
loop-at-init g c =
    let s = g.B.Bench.state c.args.bench.now in
    let d = g.B.Bench.state c.put_front.new.bench in
    let front = front_of c.args.parts.now in
    let e = c.in_ok-behind.ensures.appends in
    record {
      within = omega arith;
      room = c.requires.room;
      file = λ told. e.ok told ∙ ap (λ (l : List ℕ). l ++ front) (c.requires.file told) ∙ ap (λ (l : List ℕ). 0 ∷ l) (sym (append-nil front));
      hash = λ told. subst (λ (l : List ℕ). Holds256 c.hash_front-hasher.result l) (sym (append-nil (drop 39 front))) c.hash_front-hasher.ensures;
      shut = λ told. shut_by_parts s d (c.requires.only told) e.moments;
      cells = cells_read_stay g.B.Bench.tells s d e.cells;
      store = e.cause.on_ok refl;
      device = e.cells.faults;
    }

pub returns-in_err-behind-clause-moments : goal.returns-in_err-behind-clause-moments
returns-in_err-behind-clause-moments g c = λ told.
    shut_by_parts (g.B.Bench.state c.args.bench.now) (g.B.Bench.state c.put_front.new.bench) (c.requires.only told) c.in_err-behind.ensures.appends.moments

pub returns-in_err-behind-clause-cells : goal.returns-in_err-behind-clause-cells
returns-in_err-behind-clause-cells g c = cells_read_stay g.B.Bench.tells (g.B.Bench.state c.args.bench.now) (g.B.Bench.state c.put_front.new.bench)
    c.in_err-behind.ensures.appends.cells

pub copy_cells-requires-clause-end : goal.copy_cells-requires-clause-end
copy_cells-requires-clause-end g c = λ told.
    let so_far = c.loop-at.invariant in
    let s = g.B.Bench.state c.args.bench.now in
    body_end (front_of c.args.parts.now) s.cells (g.B.Bench.state c.loop-at.bench).file c.loop-at.at c.in_ok-behind.behind
    (so_far.file told) c.in_ok-behind.ensures.end (omega (arith, so_far.within, g.met.B.Bench.all_told c.args.bench.now told))

pub loop-at-preserved : goal.loop-at-preserved
loop-at-preserved g c =
    let so_far = c.loop-at.invariant in
    let s = g.B.Bench.state c.args.bench.now in
    let now = g.B.Bench.state c.loop-at.bench in
    let new = g.B.Bench.state c.copy_cells.new.bench in
    let at = c.loop-at.at in
    let end = c.piece_end-end.result in
    let window = c.loop-at.window in
    let e = c.in_ok-copy_cells.ensures in
    let le : at ≤ end = omega arith in
    let part : length (take (end - at) window) ≡ end - at = omega (arith, length-take (end - at) window, so_far.room) in
    record {
      within = omega arith;
      room = omega (
        arith,
        length-append c.copy_cells.new.window (drop (end - at) window),
        length-drop (end - at) window,
        c.copy_cells.auto.window,
        part,
        so_far.room,
      );
      file = λ told. cells_more (front_of c.args.parts.now) s.cells now.file new.file at end le (so_far.file told)
          (e.ok told ∙ ap (λ (n : ℕ). now.file ++ take n (drop at now.cells)) part
          ∙ ap (λ (l : List ℕ). now.file ++ take (end - at) (drop at l)) (so_far.cells.cells told));
      hash = λ told. hash_more (drop 39 (front_of c.args.parts.now)) s.cells now.cells c.loop-at.hasher c.copy_cells.new.hasher at end
          (length (take (end - at) window)) le part (so_far.cells.cells told) (so_far.hash told) (e.hash told);
      shut = λ told. still_shut s now new (so_far.shut told) e.moments;
      cells = cells_read_then so_far.cells e.cells;
      store = e.store.on_other refl ∙ so_far.store;
      device = e.device.on_other refl ∙ so_far.device;
    }

pub returns-clause-hash : goal.returns-clause-hash
returns-clause-hash g c = λ told.
    let so_far = c.loop-at.invariant in
    let s = g.B.Bench.state c.args.bench.now in
    let front = front_of c.args.parts.now in
    c.finalize.ensures (drop 39 front ++ take c.loop-at.at s.cells) (so_far.hash told)
    ∙ ap (λ (l : List ℕ). sha256 (drop 39 front ++ l)) (take_all c.loop-at.at s.cells
    (omega (arith, so_far.cells.count, so_far.within, g.met.B.Bench.all_told c.args.bench.now told)))

pub returns-clause-ok : goal.returns-clause-ok
returns-clause-ok g c = grind (arith, common_steps)

pub returns-clause-store : goal.returns-clause-store
returns-clause-store g c = none_counted _ _ c.loop-at.invariant.store

pub returns-clause-device : goal.returns-clause-device
returns-clause-device g c = none_counted _ _ c.loop-at.invariant.device

pub hash_front-hasher-requires-clause-long : goal.hash_front-hasher-requires-clause-long
hash_front-hasher-requires-clause-long g c = grind (arith, common_steps)

pub loop-at-smaller : goal.loop-at-smaller
loop-at-smaller g c = grind (arith, common_steps)

pub slice_bounds-copy_cells-length : goal.slice_bounds-copy_cells-length
slice_bounds-copy_cells-length g c = grind (arith, common_steps)

pub put_front-requires-clause-end : goal.put_front-requires-clause-end
put_front-requires-clause-end g c = grind (arith, common_steps)

pub copy_cells-requires-clause-range : goal.copy_cells-requires-clause-range
copy_cells-requires-clause-range g c = grind (arith, common_steps)
