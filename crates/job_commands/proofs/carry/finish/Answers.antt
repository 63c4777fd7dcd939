-- `finish`: its clauses `sound`, `told`, `goes_on`, `counts` and `prints`, and what `close` and `address_of` require.
use Rattle.std.proofs.Common.{◌≡◌, ◌<◌, ◌∙◌, ℕ, refl, sym, ap, subst, drop, List, Option, Some, None, IsSome}
use Rattle.std.proofs.lemmas.Result.{err_from_is_err_and}
use Rattle.board_file.specs.declared.region.Region.{Region}
use Rattle.board_file.specs.Limits.{size_of}
use Rattle.board_file.proofs.Laws.{region_at}
use Rattle.job_text.specs.Laid.{address_at}
use Rattle.bench_model.specs.History.{LeftOnly}
use Rattle.bench_model.specs.State.{file_half}
use Rattle.bench_model.specs.Counted.{store, device}
use Rattle.bench_model.proofs.Moments.{goes_then, still_only}
use Rattle.job_text.specs.Files.{IsWhole}
use Rattle.job_commands.proofs.SurveyLemmas.{whole_behind}
use Rattle.job_text.specs.declared.job.Job as code
use Rattle.flash_session.specs.Sessions.{job_in, surveyed}
use Rattle.flash_session.specs.Surveys.{Surveyed}
use Rattle.job_commands.proofs.CountLemmas.{call_counted, none_counted, unclosed_counted, put_counted, unput_counted}
use Rattle.job_commands.proofs.FinishLemmas.{closed_as, closed_goes, ends_mismatch, ends_failed, ends_at_fault, ends_unread, ends_done, ends_cut, ends_unclosed}
use Rattle.job_commands.proofs.carry.finish.Goals as goal

pub returns-in-Mismatch-clause-sound : goal.returns-in-Mismatch-clause-sound
returns-in-Mismatch-clause-sound g c = c.in-Mismatch.ensures.sound.1

pub returns-in-CallFailed-clause-sound : goal.returns-in-CallFailed-clause-sound
returns-in-CallFailed-clause-sound g c = c.in-CallFailed.ensures.sound

pub returns-in-Mismatch-clause-told : goal.returns-in-Mismatch-clause-told
returns-in-Mismatch-clause-told g c = λ told goal stands has.
    ends_mismatch g.B.Bench.tells g.O.Sink.tells told (job_in c.args.session.now) goal (g.B.Bench.state c.args.bench.now) (g.B.Bench.state c.go.new.bench)
    (g.O.Sink.state c.args.out.now) stands (c.requires.only told) c.go.ensures.file (surveyed c.args.session.now) has
    (c.go.ensures.local told) c.in-Mismatch.difference
    c.address_of.result (subst (λ (rs : List Region). address_at rs c.in-Mismatch.difference.at ≡ Some c.address_of.result)
    (c.as_slice.ensures ∙ ap (λ (k : code.Job). k.board.regions) (c.job.ensures ∙ c.go.ensures.job)) c.address_of.ensures)
    (c.in-Mismatch.ensures.follows told) (c.in-Mismatch.ensures.reaches told)

pub returns-in-CallFailed-clause-told : goal.returns-in-CallFailed-clause-told
returns-in-CallFailed-clause-told g c = λ told goal stands has.
    ends_failed g.B.Bench.tells g.O.Sink.tells told (job_in c.args.session.now) goal (g.B.Bench.state c.args.bench.now) (g.B.Bench.state c.go.new.bench)
    (g.O.Sink.state c.args.out.now) stands (c.requires.only told) c.go.ensures.file (surveyed c.args.session.now) has
    (c.go.ensures.local told) c.in-CallFailed.number c.in-CallFailed.call c.in-CallFailed.end
    (c.in-CallFailed.ensures.follows told) (c.in-CallFailed.ensures.reaches told)

pub returns-in-DeviceFault-clause-told : goal.returns-in-DeviceFault-clause-told
returns-in-DeviceFault-clause-told g c = λ told goal stands has.
    ends_at_fault g.B.Bench.tells g.O.Sink.tells told (job_in c.args.session.now) goal (g.B.Bench.state c.args.bench.now) (g.B.Bench.state c.go.new.bench)
    (g.O.Sink.state c.args.out.now) stands (c.requires.only told) c.go.ensures.file (surveyed c.args.session.now) has (c.go.ensures.local told)
    (c.in-DeviceFault.ensures.follows told)

pub returns-in-StoreFault-clause-told : goal.returns-in-StoreFault-clause-told
returns-in-StoreFault-clause-told g c = λ told goal stands has.
    ends_unread g.B.Bench.tells g.O.Sink.tells told (job_in c.args.session.now) goal (g.B.Bench.state c.args.bench.now) (g.B.Bench.state c.go.new.bench)
    (g.O.Sink.state c.args.out.now) stands (c.requires.only told) c.go.ensures.file (surveyed c.args.session.now) has (c.go.ensures.local told)
    (c.in-StoreFault.ensures.follows told)

pub returns-in_ok-put_end-in-Ok-clause-told : goal.returns-in_ok-put_end-in-Ok-clause-told
returns-in_ok-put_end-in-Ok-clause-told g c = λ told goal stands has.
    ends_done g.B.Bench.tells g.O.Sink.tells told (job_in c.args.session.now) goal (g.B.Bench.state c.args.bench.now) (g.B.Bench.state c.go.new.bench)
    (g.O.Sink.state c.args.out.now) stands (c.requires.only told) c.go.ensures.file (surveyed c.args.session.now) has (c.go.ensures.local told)
    (g.B.Bench.state c.close.new.bench) c.in-Reached.reached
    (c.in-Reached.ensures.follows told) (c.in-Reached.ensures.idle told tt) c.close.ensures.cells
    (closed_as (g.B.Bench.state c.go.new.bench) (g.B.Bench.state c.close.new.bench) (job_in c.go.new.self) (job_in c.args.session.now)
    (surveyed c.go.new.self) (surveyed c.args.session.now) c.go.ensures.job c.go.ensures.work (c.close.ensures.pairs told))
    (g.O.Sink.state c.put_end.new.out) (c.in-Ok.ensures.ok told).0
    (record { taken = c.in_ok-put_end-in-Ok.ensures.ok; faults = c.in_ok-put_end-in-Ok.ensures.cause.on_ok refl })

pub returns-in_err-put_end-in-Ok-clause-told : goal.returns-in_err-put_end-in-Ok-clause-told
returns-in_err-put_end-in-Ok-clause-told g c =
    let is = err_from_is_err_and c.from_residual.result c.from_residual.ensures.1 in
    rw (is.1, is.2) (λ told goal stands has. ends_cut g.B.Bench.tells g.O.Sink.tells told (job_in c.args.session.now) goal (g.B.Bench.state c.args.bench.now)
    (g.B.Bench.state c.go.new.bench)
    (g.O.Sink.state c.args.out.now) stands (c.requires.only told) c.go.ensures.file (surveyed c.args.session.now) has (c.go.ensures.local told)
    (g.B.Bench.state c.close.new.bench) c.in-Reached.reached
    (c.in-Reached.ensures.follows told) (c.in-Reached.ensures.idle told tt) c.close.ensures.cells
    (closed_as (g.B.Bench.state c.go.new.bench) (g.B.Bench.state c.close.new.bench) (job_in c.go.new.self) (job_in c.args.session.now)
    (surveyed c.go.new.self) (surveyed c.args.session.now) c.go.ensures.job c.go.ensures.work (c.close.ensures.pairs told))
    (g.O.Sink.state c.put_end.new.out) (c.in-Ok.ensures.ok told).0
    (record {
      taken = c.in_err-put_end-in-Ok.ensures.err;
      later = c.in_err-put_end-in-Ok.ensures.cause.later;
      rose =
          c.in_err-put_end-in-Ok.ensures.cause.on_fault refl;
    }))

pub returns-in-Err-clause-told : goal.returns-in-Err-clause-told
returns-in-Err-clause-told g c = λ told goal stands has.
    ends_unclosed g.B.Bench.tells g.O.Sink.tells told (job_in c.args.session.now) goal (g.B.Bench.state c.args.bench.now) (g.B.Bench.state c.go.new.bench)
    (g.O.Sink.state c.args.out.now) stands (c.requires.only told) c.go.ensures.file (surveyed c.args.session.now) has (c.go.ensures.local told)
    (g.B.Bench.state c.close.new.bench) c.in-Reached.reached
    (c.in-Reached.ensures.follows told) (c.in-Reached.ensures.idle told tt) c.close.ensures.cells
    (closed_as (g.B.Bench.state c.go.new.bench) (g.B.Bench.state c.close.new.bench) (job_in c.go.new.self) (job_in c.args.session.now)
    (surveyed c.go.new.self) (surveyed c.args.session.now) c.go.ensures.job c.go.ensures.work (c.close.ensures.pairs told)) (c.in-Err.ensures.err told)

pub close-requires-clause-whole : goal.close-requires-clause-whole
close-requires-clause-whole g c = λ told.
    subst (λ (l : List ℕ). IsWhole (drop 1 l) l) (sym (c.go.ensures.file.file told))
    (whole_behind _ (g.B.Bench.state c.args.bench.now).file (c.requires.stands told).whole)

pub close-requires-clause-only : goal.close-requires-clause-only
close-requires-clause-only g c = λ told.
    subst (λ (l : List ℕ). LeftOnly l (file_half (g.B.Bench.state c.go.new.bench))) (sym (c.go.ensures.file.file told))
    (still_only (g.B.Bench.state c.args.bench.now).file c.go.ensures.file.moments (c.requires.only told))

pub address_of-requires-clause-inside : goal.address_of-requires-clause-inside
address_of-requires-clause-inside g c =
    let regions : c.as_slice.result.now ≡ (job_in c.args.session.now).board.regions = c.as_slice.ensures
    ∙ ap (λ (k : code.Job). k.board.regions) (c.job.ensures ∙ c.go.ensures.job) in
    subst (λ (rs : List Region). c.in-Mismatch.difference.at < size_of rs) (sym regions) c.in-Mismatch.ensures.sound.0

pub address_of-requires-clause-fit : goal.address_of-requires-clause-fit
address_of-requires-clause-fit g c = λ k d less. (region_at c.as_slice.result.now k d less (rw c.as_slice.ensures c.job.result.now.board.regions_fit)).ends

pub returns-in_ok-put_end-in-Ok-clause-goes_on : goal.returns-in_ok-put_end-in-Ok-clause-goes_on
returns-in_ok-put_end-in-Ok-clause-goes_on g c = λ told.
    goes_then c.go.ensures.file.moments.goes_on
    (closed_goes (g.B.Bench.state c.go.new.bench) (g.B.Bench.state c.close.new.bench) (job_in c.go.new.self) (surveyed c.go.new.self)
    (subst (λ (o : Option Surveyed). IsSome o) (sym c.go.ensures.work) c.requires.surveyed) (c.close.ensures.pairs told))

pub returns-in_err-put_end-in-Ok-clause-goes_on : goal.returns-in_err-put_end-in-Ok-clause-goes_on
returns-in_err-put_end-in-Ok-clause-goes_on g c = λ told.
    goes_then c.go.ensures.file.moments.goes_on
    (closed_goes (g.B.Bench.state c.go.new.bench) (g.B.Bench.state c.close.new.bench) (job_in c.go.new.self) (surveyed c.go.new.self)
    (subst (λ (o : Option Surveyed). IsSome o) (sym c.go.ensures.work) c.requires.surveyed) (c.close.ensures.pairs told))

pub returns-in-Err-clause-goes_on : goal.returns-in-Err-clause-goes_on
returns-in-Err-clause-goes_on g c = λ told.
    goes_then c.go.ensures.file.moments.goes_on
    (closed_goes (g.B.Bench.state c.go.new.bench) (g.B.Bench.state c.close.new.bench) (job_in c.go.new.self) (surveyed c.go.new.self)
    (subst (λ (o : Option Surveyed). IsSome o) (sym c.go.ensures.work) c.requires.surveyed) (c.close.ensures.pairs told))

pub returns-in-Mismatch-clause-counts : goal.returns-in-Mismatch-clause-counts
returns-in-Mismatch-clause-counts g c =
    call_counted g.B.Bench.tells g.O.Sink.tells (g.B.Bench.state c.args.bench.now) (g.B.Bench.state c.go.new.bench) (g.O.Sink.state c.args.out.now) None _
    c.in-Mismatch.ensures.store c.in-Mismatch.ensures.cause refl

pub returns-in-CallFailed-clause-counts : goal.returns-in-CallFailed-clause-counts
returns-in-CallFailed-clause-counts g c =
    call_counted g.B.Bench.tells g.O.Sink.tells (g.B.Bench.state c.args.bench.now) (g.B.Bench.state c.go.new.bench) (g.O.Sink.state c.args.out.now) None _
    c.in-CallFailed.ensures.store c.in-CallFailed.ensures.cause refl

pub returns-in-DeviceFault-clause-counts : goal.returns-in-DeviceFault-clause-counts
returns-in-DeviceFault-clause-counts g c =
    call_counted g.B.Bench.tells g.O.Sink.tells (g.B.Bench.state c.args.bench.now) (g.B.Bench.state c.go.new.bench) (g.O.Sink.state c.args.out.now)
    (Some device) _ c.in-DeviceFault.ensures.store c.in-DeviceFault.ensures.cause refl

pub returns-in-StoreFault-clause-counts : goal.returns-in-StoreFault-clause-counts
returns-in-StoreFault-clause-counts g c =
    call_counted g.B.Bench.tells g.O.Sink.tells (g.B.Bench.state c.args.bench.now) (g.B.Bench.state c.go.new.bench) (g.O.Sink.state c.args.out.now)
    (Some store) _ c.in-StoreFault.ensures.store c.in-StoreFault.ensures.cause refl

pub returns-in-Err-clause-counts : goal.returns-in-Err-clause-counts
returns-in-Err-clause-counts g c =
    let a = g.B.Bench.state c.args.bench.now in
    let m = g.B.Bench.state c.go.new.bench in
    unclosed_counted g.B.Bench.tells g.O.Sink.tells a m (g.B.Bench.state c.close.new.bench) (g.O.Sink.state c.args.out.now)
    (c.in-Reached.ensures.store.on_other refl) (c.close.ensures.cells.faults ∙ c.in-Reached.ensures.cause.on_other refl)
    (c.in-Err.ensures.cause.on_fault refl) c.in-Err.ensures.cause.later

pub returns-in_ok-put_end-in-Ok-clause-counts : goal.returns-in_ok-put_end-in-Ok-clause-counts
returns-in_ok-put_end-in-Ok-clause-counts g c =
    let a = g.B.Bench.state c.args.bench.now in
    let b = g.B.Bench.state c.close.new.bench in
    let o = g.O.Sink.state c.args.out.now in
    put_counted g.B.Bench.tells g.O.Sink.tells a b o (g.O.Sink.state c.put_end.new.out)
    (none_counted g.B.Bench.tells g.O.Sink.tells a b o (c.in-Ok.ensures.cause.on_ok refl ∙ c.in-Reached.ensures.store.on_other refl)
    (c.close.ensures.cells.faults ∙ c.in-Reached.ensures.cause.on_other refl))
    (c.in_ok-put_end-in-Ok.ensures.cause.on_ok refl)

pub returns-in_err-put_end-in-Ok-clause-counts : goal.returns-in_err-put_end-in-Ok-clause-counts
returns-in_err-put_end-in-Ok-clause-counts g c =
    let a = g.B.Bench.state c.args.bench.now in
    let b = g.B.Bench.state c.close.new.bench in
    let o = g.O.Sink.state c.args.out.now in
    let is = err_from_is_err_and c.from_residual.result c.from_residual.ensures.1 in
    rw (is.1, is.2) (unput_counted g.B.Bench.tells g.O.Sink.tells a b o (g.O.Sink.state c.put_end.new.out)
    (none_counted g.B.Bench.tells g.O.Sink.tells a b o (c.in-Ok.ensures.cause.on_ok refl ∙ c.in-Reached.ensures.store.on_other refl)
    (c.close.ensures.cells.faults ∙ c.in-Reached.ensures.cause.on_other refl))
    (c.in_err-put_end-in-Ok.ensures.cause.on_fault refl) c.in_err-put_end-in-Ok.ensures.cause.later)

pub returns-in_err-put_end-in-Ok-clause-prints : goal.returns-in_err-put_end-in-Ok-clause-prints
returns-in_err-put_end-in-Ok-clause-prints g c =
    let puts = c.in_err-put_end-in-Ok.ensures in
    let is = err_from_is_err_and c.from_residual.result c.from_residual.ensures.1 in
    rw (is.1, is.2) (record { taken = puts.err; later = puts.cause.later; rose = puts.cause.on_fault refl })

pub returns-in_ok-put_end-in-Ok-clause-prints : goal.returns-in_ok-put_end-in-Ok-clause-prints
returns-in_ok-put_end-in-Ok-clause-prints g c =
    record { taken = c.in_ok-put_end-in-Ok.ensures.ok; faults = c.in_ok-put_end-in-Ok.ensures.cause.on_ok refl }

pub close-requires-clause-count : goal.close-requires-clause-count
close-requires-clause-count g c =
    c.go.ensures.count ∙ (c.requires.count ∙ ap (λ (j : code.Job). size_of j.board.regions) (sym c.go.ensures.job))
