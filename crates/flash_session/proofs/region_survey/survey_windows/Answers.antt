-- `survey_windows`: its clauses `plan`, `covers`, `spares`, `store` and `device`, that its loop keeps its invariant, and what `survey_window` requires.
use Rattle.std.proofs.Common.{arith}
use Rattle.std.proofs.Common.{◌≡◌, ◌≤◌, ◌<◌, ◌+◌, ◌++◌, ◌∙◌, ◌-◌, ◌^◌, ℕ, take, drop, List, [], refl, sym, ap, subst, length, length-append}
use Rattle.std.proofs.lemmas.Grind.{common_steps}
use Rattle.std.proofs.lemmas.List.{length-take}
use Rattle.std.proofs.lemmas.List.Elements.{All-append}
use Rattle.std.proofs.lemmas.Result.{err_from_is_err_and}
use Rattle.bench_model.proofs.CountLemmas.{none_counted}
use Rattle.bench_model.specs.Counted.{is_store_fault, is_device_fault, IsCounted}
use Rattle.bench_model.proofs.Moments.{file_stays_here, file_stays_then}
use Rattle.flm_descriptor.specs.Shown.{shown as algorithm_of}
use Rattle.flash_session.specs.Reads.{unread_fault}
use Rattle.flash_session.proofs.ReadLemmas.{kept_room, read_here, read_then}
use Rattle.flash_session.proofs.SurveyLemmas.{source_still, wanted_still, wanted_and, front_and, made_from, no_bytes, none_wanted}
use Rattle.flash_session.proofs.region_survey.survey_windows.Goals as goal

pub loop-at-init : goal.loop-at-init
loop-at-init g c =
    let aim = c.args.aim.now in
    let s = g.B.Bench.state c.args.bench.now in
    record {
      within = omega arith;
      cells_room = c.requires.cells;
      wanted_room = c.requires.wanted;
      front = [];
      front_wanted = [];
      long = refl;
      told = λ told. refl;
      are = none_wanted g.B.Bench.tells aim.source aim.start aim.algorithm.now.device.base s.file;
      bytes = no_bytes;
      wanted_bytes = no_bytes;
      fed = c.plan_start.ensures.fed aim.algorithm.now.device.empty;
      making = c.plan_start.ensures.making;
      count = c.plan_start.ensures.count;
      covers = (omega (arith, c.requires.covers.0, c.plan_start.ensures.spare.0), omega (arith, c.requires.covers.1, c.plan_start.ensures.spare.1));
      reads = read_here g.B.Bench.tells s;
      spares = λ over. file_stays_here s;
      store = refl;
      device = refl;
    }

pub survey_window-requires-clause-idle : goal.survey_window-requires-clause-idle
survey_window-requires-clause-idle g c = λ told. c.loop-at.invariant.reads.cells.operation told ∙ c.requires.idle told

pub survey_window-requires-clause-inside : goal.survey_window-requires-clause-inside
survey_window-requires-clause-inside g c = omega (arith, c.loop-at.invariant.reads.cells.count, c.requires.inside)

pub survey_window-requires-clause-source : goal.survey_window-requires-clause-source
survey_window-requires-clause-source g c =
    source_still g.B.Bench.tells c.args.aim.now.source (g.B.Bench.state c.args.bench.now) (g.B.Bench.state c.loop-at.bench) c.loop-at.invariant.reads.file.file
    c.loop-at.invariant.reads.cells.count
    c.requires.source

pub loop-at-preserved : goal.loop-at-preserved
loop-at-preserved g c =
    let so_far = c.loop-at.invariant in
    let s = g.B.Bench.state c.args.bench.now in
    let now = g.B.Bench.state c.loop-at.bench in
    let aim = c.args.aim.now in
    let at = c.loop-at.at in
    let end = c.window_end-end.result in
    let e = c.in_ok-survey_window.ensures in
    let o = c.survey_window.new.cells in
    let w = c.survey_window.new.wanted in
    let le : at ≤ end = omega arith in
    let part : length o ≡ end - at = omega (arith, length-take (end - at) c.loop-at.cells, so_far.cells_room, c.survey_window.auto.cells) in
    let all : at + length o ≡ end = omega (arith, part, le) in
    record {
      within = omega arith;
      cells_room = kept_room (end - at) c.loop-at.cells o so_far.cells_room (omega arith) c.survey_window.auto.cells;
      wanted_room = kept_room (end - at) c.loop-at.wanted w so_far.wanted_room (omega arith) c.survey_window.auto.wanted;
      front = so_far.front ++ o;
      front_wanted = so_far.front_wanted ++ w;
      long = omega (arith, length-append so_far.front o, so_far.long, all);
      told = λ told.
          ap (λ (l : List ℕ). l ++ o) (so_far.told told)
          ∙ ap (λ (l : List ℕ). take at (drop aim.start s.cells) ++ l)
          (e.cells told ∙ ap (λ (k : ℕ). take k (drop (aim.start + at) now.cells)) (sym c.survey_window.auto.cells)
          ∙ ap (λ (l : List ℕ). take (length o) (drop (aim.start + at) l)) (so_far.reads.cells.cells told))
          ∙ front_and aim.start at (length o) s.cells ∙ ap (λ (k : ℕ). take k (drop aim.start s.cells)) all;
      are = wanted_and g.B.Bench.tells aim.source aim.start aim.algorithm.now.device.base at s.file so_far.front so_far.front_wanted o w so_far.long so_far.are
          (wanted_still g.B.Bench.tells aim.source (aim.start + at) (aim.algorithm.now.device.base + at) now.file s.file o w so_far.reads.file.file e.wanted);
      bytes = All-append (λ v. v < 2 ^ 8) so_far.front o so_far.bytes e.bytes;
      wanted_bytes = All-append (λ v. v < 2 ^ 8) so_far.front_wanted w so_far.wanted_bytes e.wanted_bytes;
      fed = e.fed so_far.front so_far.front_wanted so_far.fed;
      making = e.making;
      count = omega (arith, e.count, all, c.survey_window.auto.cells);
      covers = (omega (arith, so_far.covers.0, e.spare.0), omega (arith, so_far.covers.1, e.spare.1));
      reads = read_then so_far.reads e.reads;
      spares = λ over. file_stays_then (so_far.spares over) (e.spares over).0;
      store = e.store.on_other refl ∙ so_far.store;
      device = e.device.on_other refl ∙ so_far.device;
    }

pub returns-clause-plan : goal.returns-clause-plan
returns-clause-plan g c =
    let aim = c.args.aim.now in
    let a = algorithm_of aim.algorithm.now in
    let all : c.loop-at.at ≡ a.device.size = omega (arith, c.loop-at.invariant.within, c.requires.size) in
    made_from g.B.Bench.tells aim.source aim.weights.now a aim.geometry.now aim.start (g.B.Bench.state c.args.bench.now) (g.B.Bench.state c.loop-at.bench)
    c.loop-at.plan c.loop-at.cells c.loop-at.wanted
    c.loop-at.at c.finish.new.plan.made c.loop-at.invariant all c.finish.ensures.plan c.finish.ensures.entry

pub returns-clause-covers : goal.returns-clause-covers
returns-clause-covers g c =
    (omega (arith, c.loop-at.invariant.covers.0, c.finish.ensures.spare.0), omega (arith, c.loop-at.invariant.covers.1, c.finish.ensures.spare.1))

pub returns-clause-spares : goal.returns-clause-spares
returns-clause-spares g c = λ over. (c.loop-at.invariant.spares over, refl)

pub returns-in_err-survey_window-clause-spares : goal.returns-in_err-survey_window-clause-spares
returns-in_err-survey_window-clause-spares g c =
    let p = err_from_is_err_and c.from_residual.result c.from_residual.ensures.1 in
    rw (p.1, p.2) (λ over. (
      file_stays_then (c.loop-at.invariant.spares over) (c.in_err-survey_window.ensures.spares over).0,
      (c.in_err-survey_window.ensures.spares over).1,
    ))

pub returns-in_err-survey_window-clause-store : goal.returns-in_err-survey_window-clause-store
returns-in_err-survey_window-clause-store g c =
    let p = err_from_is_err_and c.from_residual.result c.from_residual.ensures.1 in
    rw (p.1, p.2) (subst (λ (n : ℕ). IsCounted n (g.B.Bench.state c.survey_window.new.bench).store_faults
    (is_store_fault (unread_fault c.in_err-survey_window.field-0.0))) c.loop-at.invariant.store c.in_err-survey_window.ensures.store)

pub returns-in_err-survey_window-clause-device : goal.returns-in_err-survey_window-clause-device
returns-in_err-survey_window-clause-device g c =
    let p = err_from_is_err_and c.from_residual.result c.from_residual.ensures.1 in
    rw (p.1, p.2) (subst (λ (n : ℕ). IsCounted n (g.B.Bench.state c.survey_window.new.bench).device_faults
    (is_device_fault (unread_fault c.in_err-survey_window.field-0.0))) c.loop-at.invariant.device c.in_err-survey_window.ensures.device)

pub survey_window-requires-clause-same : goal.survey_window-requires-clause-same
survey_window-requires-clause-same g c = grind (arith, common_steps)

pub slice_bounds-survey_window-length-in-loop-at : goal.slice_bounds-survey_window-length-in-loop-at
slice_bounds-survey_window-length-in-loop-at g c = grind (arith, common_steps)

pub survey_window-requires-clause-range : goal.survey_window-requires-clause-range
survey_window-requires-clause-range g c = grind (arith, common_steps)

pub returns-clause-store : goal.returns-clause-store
returns-clause-store g c = none_counted _ _ c.loop-at.invariant.store

pub returns-clause-device : goal.returns-clause-device
returns-clause-device g c = none_counted _ _ c.loop-at.invariant.device

pub loop-at-smaller : goal.loop-at-smaller
loop-at-smaller g c = grind (arith, common_steps)

pub slice_bounds-survey_window-length : goal.slice_bounds-survey_window-length
slice_bounds-survey_window-length g c = grind (arith, common_steps)

pub survey_window-requires-clause-some : goal.survey_window-requires-clause-some
survey_window-requires-clause-some g c = grind (arith, common_steps)
