-- `Player::compare_through`: its clauses `turns`, `one` and `still`, what `compare_window` requires, and that slices end within.
use Rattle.std.proofs.Common.{◌≡◌, ◌-◌, ◌∙◌, ℕ, [], Option, Some, None, length, take, refl, sym, subst, arith}
use Rattle.std.proofs.lemmas.Grind.{common_steps}
use Rattle.std.proofs.lemmas.List.{length-take}
use Rattle.bench_model.specs.Counted.{is_store_fault, is_device_fault}
use Rattle.readback.specs.declared.compare.Difference.{Difference}
use Rattle.flash_session.specs.Differs.{FindsIn}
use Rattle.flash_session.specs.declared.target_end.TargetEnd.TheVariants as ended
use Rattle.flash_session.specs.Targets.{goal_for}
use Rattle.flash_session.specs.declared.windows.Unread.TheVariants as unread
use Rattle.flash_session.proofs.JobLemmas.{goal_length}
use Rattle.flash_session.proofs.UnreadLemmas.{unread_counted}
use Rattle.flash_session.proofs.TakesLemmas.{read_still}
use Rattle.flash_session.proofs.TurnMade.{compare_at, compare_count, alike_turn, closing_turn, differs_turn, compare_unread}
use Rattle.flash_session.proofs.player.Player.compare_through.Goals as goal

pub returns-in-Err-Device-clause-turns : goal.returns-in-Err-Device-clause-turns
returns-in-Err-Device-clause-turns g c =
    compare_unread g.B.Bench.tells (goal_for c.args.job.now c.args.self.now (g.B.Bench.state c.args.bench.now).file) c.args.self.now c.args.arena.now
    (g.B.Bench.state c.args.bench.now) c.requires.fit c.args.at c.requires.place (g.B.Bench.state c.compare_window.new.bench) c.compare_window.ensures.reads
    (λ told x. g.met.B.Bench.as_told c.args.bench.now x told)
    ended.DeviceFault tt (unread_counted is_device_fault c.in-Err-Device.field-0 unread.Device _ _ c.in-Err-Device.field-0-is c.in-Err-Device.ensures.device)
    (unread_counted is_store_fault c.in-Err-Device.field-0 unread.Device _ _ c.in-Err-Device.field-0-is c.in-Err-Device.ensures.store) (λ x. x)
    (λ moves a off. off)

pub returns-in-Err-Store-clause-turns : goal.returns-in-Err-Store-clause-turns
returns-in-Err-Store-clause-turns g c =
    compare_unread g.B.Bench.tells (goal_for c.args.job.now c.args.self.now (g.B.Bench.state c.args.bench.now).file) c.args.self.now c.args.arena.now
    (g.B.Bench.state c.args.bench.now) c.requires.fit c.args.at c.requires.place (g.B.Bench.state c.compare_window.new.bench) c.compare_window.ensures.reads
    (λ told x. g.met.B.Bench.as_told c.args.bench.now x told)
    ended.StoreFault tt (unread_counted is_device_fault c.in-Err-Store.field-0 unread.Store _ _ c.in-Err-Store.field-0-is c.in-Err-Store.ensures.device)
    (unread_counted is_store_fault c.in-Err-Store.field-0 unread.Store _ _ c.in-Err-Store.field-0-is c.in-Err-Store.ensures.store) (λ x. x) (λ moves a off. off)

pub returns-in-Ok-Some-clause-turns : goal.returns-in-Ok-Some-clause-turns
returns-in-Ok-Some-clause-turns g c =
    let x = c.args.self.now in
    let s = g.B.Bench.state c.args.bench.now in
    let len = c.min-len.result in
    let count = compare_count g.B.Bench.tells [] x c.args.arena.now s c.requires.fit in
    let less = compare_at g.B.Bench.tells [] x c.args.arena.now s c.requires.fit c.args.at c.requires.place in
    let long : length (take len c.args.wanted.now) ≡ len = omega (arith, length-take len c.args.wanted.now, c.requires.wanted, c.min-len.ensures) in
    differs_turn g.B.Bench.tells (goal_for c.args.job.now c.args.self.now (g.B.Bench.state c.args.bench.now).file) x c.args.arena.now s c.requires.fit
    c.args.at c.requires.place (g.B.Bench.state c.compare_window.new.bench) c.compare_window.ensures.reads
    (λ told y. g.met.B.Bench.as_told c.args.bench.now y told)
    len c.in-Ok-Some.difference (omega (arith, c.min-len.ensures, c.cells_len-count.ensures, count, less))
    (λ told. goal_length c.args.job.now x.work.goal s.file (c.requires.stands told) ∙ c.requires.size)
    (subst (λ (n : ℕ). FindsIn g.B.Bench.tells s.cells (goal_for c.args.job.now x s.file) c.args.at n (Some c.in-Ok-Some.difference)) long
    (subst (λ (o : Option Difference). FindsIn g.B.Bench.tells s.cells (goal_for c.args.job.now x s.file) c.args.at (length (take len c.args.wanted.now)) o)
    c.in-Ok-Some.field-0-is c.in-Ok-Some.ensures.ok))
    (c.in-Ok-Some.ensures.device.on_other refl) (c.in-Ok-Some.ensures.store.on_other refl)

pub returns-then-at-len-clause-turns : goal.returns-then-at-len-clause-turns
returns-then-at-len-clause-turns g c =
    let x = c.args.self.now in
    let s = g.B.Bench.state c.args.bench.now in
    let len = c.min-len.result in
    let count = compare_count g.B.Bench.tells [] x c.args.arena.now s c.requires.fit in
    let less = compare_at g.B.Bench.tells [] x c.args.arena.now s c.requires.fit c.args.at c.requires.place in
    let long : length (take len c.args.wanted.now) ≡ len = omega (arith, length-take len c.args.wanted.now, c.requires.wanted, c.min-len.ensures) in
    closing_turn g.B.Bench.tells (goal_for c.args.job.now c.args.self.now (g.B.Bench.state c.args.bench.now).file) x c.args.arena.now s c.requires.fit
    c.args.at c.requires.place (g.B.Bench.state c.compare_window.new.bench) c.compare_window.ensures.reads
    (λ told y. g.met.B.Bench.as_told c.args.bench.now y told)
    len (omega (arith, c.min-len.ensures, c.cells_len-count.ensures, count, less)) (omega (arith, c.min-len.ensures, c.cells_len-count.ensures, less))
    (subst (λ (n : ℕ). FindsIn g.B.Bench.tells s.cells (goal_for c.args.job.now x s.file) c.args.at n None) long
    (subst (λ (o : Option Difference). FindsIn g.B.Bench.tells s.cells (goal_for c.args.job.now x s.file) c.args.at (length (take len c.args.wanted.now)) o)
    c.in-Ok-None.field-0-is c.in-Ok-None.ensures.ok))
    (c.in-Ok-None.ensures.device.on_other refl) (c.in-Ok-None.ensures.store.on_other refl)
    (c.if-at-len.true ∙ c.cells_len-count.ensures ∙ count) (λ told. g.met.B.Bench.all_told c.args.bench.now told ∙ count)
    (λ told. goal_length c.args.job.now x.work.goal s.file (c.requires.stands told) ∙ c.requires.size)

pub returns-else-at-len-clause-turns : goal.returns-else-at-len-clause-turns
returns-else-at-len-clause-turns g c =
    let x = c.args.self.now in
    let s = g.B.Bench.state c.args.bench.now in
    let len = c.min-len.result in
    let count = compare_count g.B.Bench.tells [] x c.args.arena.now s c.requires.fit in
    let less = compare_at g.B.Bench.tells [] x c.args.arena.now s c.requires.fit c.args.at c.requires.place in
    let long : length (take len c.args.wanted.now) ≡ len = omega (arith, length-take len c.args.wanted.now, c.requires.wanted, c.min-len.ensures) in
    alike_turn g.B.Bench.tells (goal_for c.args.job.now c.args.self.now (g.B.Bench.state c.args.bench.now).file) x c.args.arena.now s c.requires.fit
    c.args.at c.requires.place (g.B.Bench.state c.compare_window.new.bench) c.compare_window.ensures.reads
    (λ told y. g.met.B.Bench.as_told c.args.bench.now y told)
    len (omega (arith, c.min-len.ensures, c.cells_len-count.ensures, count, less)) (omega (arith, c.min-len.ensures, c.cells_len-count.ensures, less))
    (subst (λ (n : ℕ). FindsIn g.B.Bench.tells s.cells (goal_for c.args.job.now x s.file) c.args.at n None) long
    (subst (λ (o : Option Difference). FindsIn g.B.Bench.tells s.cells (goal_for c.args.job.now x s.file) c.args.at (length (take len c.args.wanted.now)) o)
    c.in-Ok-None.field-0-is c.in-Ok-None.ensures.ok))
    (c.in-Ok-None.ensures.device.on_other refl) (c.in-Ok-None.ensures.store.on_other refl)
    (λ same. c.if-at-len.false (same ∙ sym (c.cells_len-count.ensures ∙ count)))

pub returns-then-at-len-clause-one : goal.returns-then-at-len-clause-one
returns-then-at-len-clause-one g c = omega (arith, c.min-len.ensures, c.cells_len-count.ensures, c.if-at-len.true)

pub returns-else-at-len-clause-one : goal.returns-else-at-len-clause-one
returns-else-at-len-clause-one g c =
    let less = compare_at g.B.Bench.tells [] c.args.self.now c.args.arena.now (g.B.Bench.state c.args.bench.now) c.requires.fit c.args.at c.requires.place in
    omega (arith, c.min-len.ensures, c.cells_len-count.ensures, c.if-at-len.false, less)

pub returns-in-Ok-Some-clause-one : goal.returns-in-Ok-Some-clause-one
returns-in-Ok-Some-clause-one g c =
    let d = c.in-Ok-Some.difference in
    let found = subst (λ (o : Option Difference). FindsIn g.B.Bench.tells (g.B.Bench.state c.args.bench.now).cells
    (goal_for c.args.job.now c.args.self.now (g.B.Bench.state c.args.bench.now).file) c.args.at (length (take c.min-len.result c.args.wanted.now)) o)
    c.in-Ok-Some.field-0-is c.in-Ok-Some.ensures.ok in (
      omega (arith, found.finds.place),
      omega (
        arith,
        found.finds.place,
        found.finds.first.within,
        found.long,
        length-take c.min-len.result c.args.wanted.now,
        c.requires.wanted,
        c.min-len.ensures,
      ),
    )

pub returns-in-Err-Device-clause-still : goal.returns-in-Err-Device-clause-still
returns-in-Err-Device-clause-still g c = read_still g.B.Bench.tells c.args.self.now _ c.args.arena.now (g.B.Bench.state c.args.bench.now)
    (g.B.Bench.state c.compare_window.new.bench) c.compare_window.ensures.reads.cells

pub returns-in-Err-Store-clause-still : goal.returns-in-Err-Store-clause-still
returns-in-Err-Store-clause-still g c = read_still g.B.Bench.tells c.args.self.now _ c.args.arena.now (g.B.Bench.state c.args.bench.now)
    (g.B.Bench.state c.compare_window.new.bench) c.compare_window.ensures.reads.cells

pub returns-in-Ok-Some-clause-still : goal.returns-in-Ok-Some-clause-still
returns-in-Ok-Some-clause-still g c = read_still g.B.Bench.tells c.args.self.now _ c.args.arena.now (g.B.Bench.state c.args.bench.now)
    (g.B.Bench.state c.compare_window.new.bench) c.compare_window.ensures.reads.cells

pub returns-then-at-len-clause-still : goal.returns-then-at-len-clause-still
returns-then-at-len-clause-still g c = read_still g.B.Bench.tells c.args.self.now _ c.args.arena.now (g.B.Bench.state c.args.bench.now)
    (g.B.Bench.state c.compare_window.new.bench) c.compare_window.ensures.reads.cells

pub returns-else-at-len-clause-still : goal.returns-else-at-len-clause-still
returns-else-at-len-clause-still g c = read_still g.B.Bench.tells c.args.self.now _ c.args.arena.now (g.B.Bench.state c.args.bench.now)
    (g.B.Bench.state c.compare_window.new.bench) c.compare_window.ensures.reads.cells

pub compare_window-requires-clause-same : goal.compare_window-requires-clause-same
compare_window-requires-clause-same g c = grind (arith, common_steps)

pub slice_bounds-compare_window-end-4 : goal.slice_bounds-compare_window-end-4
slice_bounds-compare_window-end-4 g c = grind (arith, common_steps)

pub slice_bounds-compare_window-end-2 : goal.slice_bounds-compare_window-end-2
slice_bounds-compare_window-end-2 g c = grind (arith, common_steps)

pub compare_window-requires-clause-some : goal.compare_window-requires-clause-some
compare_window-requires-clause-some g c = grind (arith, common_steps)

pub compare_window-requires-clause-range : goal.compare_window-requires-clause-range
compare_window-requires-clause-range g c = grind (arith, common_steps)

pub overflow_cast-len : goal.overflow_cast-len
overflow_cast-len g c = grind (arith, common_steps)

pub overflow_cast-self : goal.overflow_cast-self
overflow_cast-self g c = grind (arith, common_steps)

pub overflow_sub-count : goal.overflow_sub-count
overflow_sub-count g c = grind (arith, common_steps)

pub overflow_add-self : goal.overflow_add-self
overflow_add-self g c = grind (arith, common_steps)

pub overflow_add-at : goal.overflow_add-at
overflow_add-at g c = grind (arith, common_steps)
