-- `write_all`: that it keeps its contract.
use Rattle.std.proofs.lemmas.Grind.{common_steps}
use Rattle.std.proofs.Common.{rules, ◌≡◌, ◌<◌, arith, Err, refl, ◌∙◌, sym, ap, length, length-drop}
use Rattle.std.proofs.lemmas.List.{take_rest}
use Rattle.std.specs.IoError.{error_kind}
use Rattle.std.specs.declared.io.ErrorKind.TheVariants.{Interrupted}
use Rattle.disk_files.proofs.FailLemmas.{goes_ok, goes_stopped, keeps_then, fails_at_last, fails_at_none, goes_here}
use Rattle.disk_files.proofs.WriteLemmas.{written_more, written_no_more, cells_as_were_then, written_none}
use denote.Enum.Bare.{same_true, same_false}
use Rattle.std.specs.contracts.io.ErrorKind.{the_type}
use Rattle.disk_files.proofs.job_half.write_all.Goals.{then-eq+else-stops-lt18446744073709551615, else-eq}
use Rattle.disk_files.proofs.job_half.write_all.Goals as goal

pub returns-in-Ok-eq0-clause-torn : goal.returns-in-Ok-eq0-clause-torn
returns-in-Ok-eq0-clause-torn g c =
    let S = g.F.Disk.state in
    (written_no_more g.F.Disk.tells (S c.args.disk.now) (S c.loop-done.disk) (S c.job_write_at.new.self) c.args.at c.args.bytes.now c.loop-done.done
    c.loop-done.invariant.0
    _ (take_rest c.args.bytes.now c.loop-done.done) c.job_write_at.ensures.does c.job_write_at.ensures.writes.torn).torn

pub returns-in-Ok-eq0-clause-moments : goal.returns-in-Ok-eq0-clause-moments
returns-in-Ok-eq0-clause-moments g c =
    let S = g.F.Disk.state in
    (written_no_more g.F.Disk.tells (S c.args.disk.now) (S c.loop-done.disk) (S c.job_write_at.new.self) c.args.at c.args.bytes.now c.loop-done.done
    c.loop-done.invariant.0
    _ (take_rest c.args.bytes.now c.loop-done.done) c.job_write_at.ensures.does c.job_write_at.ensures.writes.torn).moments

pub returns-in-Err-2-clause-torn : goal.returns-in-Err-2-clause-torn
returns-in-Err-2-clause-torn g c =
    let S = g.F.Disk.state in
    (written_no_more g.F.Disk.tells (S c.args.disk.now) (S c.loop-done.disk) (S c.job_write_at.new.self) c.args.at c.args.bytes.now c.loop-done.done
    c.loop-done.invariant.0
    _ (take_rest c.args.bytes.now c.loop-done.done) c.job_write_at.ensures.does c.job_write_at.ensures.writes.torn).torn

pub returns-in-Err-2-clause-moments : goal.returns-in-Err-2-clause-moments
returns-in-Err-2-clause-moments g c =
    let S = g.F.Disk.state in
    (written_no_more g.F.Disk.tells (S c.args.disk.now) (S c.loop-done.disk) (S c.job_write_at.new.self) c.args.at c.args.bytes.now c.loop-done.done
    c.loop-done.invariant.0
    _ (take_rest c.args.bytes.now c.loop-done.done) c.job_write_at.ensures.does c.job_write_at.ensures.writes.torn).moments

pub loop-done-preserved-in-Ok : goal.loop-done-preserved-in-Ok
loop-done-preserved-in-Ok g c =
    let S = g.F.Disk.state in
    let known = c.loop-done.invariant in
    let some : 0 < c.in-Ok.count = search rules in (
      written_more g.F.Disk.tells (S c.args.disk.now) (S c.loop-done.disk) (S c.job_write_at.new.self) c.args.at c.args.bytes.now c.loop-done.done known.0
          _ (take_rest c.args.bytes.now c.loop-done.done) c.job_write_at.ensures.does c.job_write_at.ensures.writes.torn c.in-Ok.count
          c.in-Ok.ensures.writes.count c.in-Ok.ensures.writes.some,
      known.1,
      known.2,
      known.3,
      known.4,
      goes_ok known.5 (λ told. (c.in-Ok.ensures.fails told).moved some) (λ told. (c.in-Ok.ensures.fails told).syncs),
    )

pub loop-done-preserved : goal.loop-done-preserved
loop-done-preserved g c =
    let S = g.F.Disk.state in
    let known = c.loop-done.invariant in
    let kind : error_kind c.in-Err.fault ≡ Interrupted = sym c.kind.ensures ∙ same_true the_type (search rules) _ _ (sym c.if-eq.ensures) in (
      written_no_more g.F.Disk.tells (S c.args.disk.now) (S c.loop-done.disk) (S c.job_write_at.new.self) c.args.at c.args.bytes.now c.loop-done.done known.0
          _ (take_rest c.args.bytes.now c.loop-done.done) c.job_write_at.ensures.does c.job_write_at.ensures.writes.torn,
      known.1,
      known.2,
      known.3,
      known.4,
      goes_stopped known.5 (λ told. (c.in-Err.ensures.fails told).stopped kind) (λ told. (c.in-Err.ensures.fails told).syncs),
    )

pub job_write_at-requires-clause-at : goal.job_write_at-requires-clause-at
job_write_at-requires-clause-at g c = grind (arith, common_steps)

pub returns-in-Ok-eq0-clause-fails : goal.returns-in-Ok-eq0-clause-fails
returns-in-Ok-eq0-clause-fails g c = λ told fits.
    let rest = ap length (take_rest c.args.bytes.now c.loop-done.done) ∙ length-drop c.loop-done.done c.args.bytes.now in
    fails_at_none told c.loop-done.invariant.5 c.job_write_at.result c.in-Ok-eq0.field-0 c.in-Ok-eq0.is c.in-Ok-eq0.field-0-test
    (c.job_write_at.ensures.fails told) (omega (arith, rest, c.loop-done-test.true)) _ refl

pub returns-in-Ok-eq0-clause-ok : goal.returns-in-Ok-eq0-clause-ok
returns-in-Ok-eq0-clause-ok g c = λ told. tt

pub returns-clause-fails : goal.returns-clause-fails
returns-clause-fails g c = grind (arith, common_steps)

pub returns-then-is_none-clause-cells : goal.returns-then-is_none-clause-cells
returns-then-is_none-clause-cells g c = grind (arith, common_steps)

pub returns-then-is_none-clause-fails : goal.returns-then-is_none-clause-fails
returns-then-is_none-clause-fails g c = grind (arith, common_steps)

pub overflow_add-done : goal.overflow_add-done
overflow_add-done g c = grind (arith, common_steps)

pub returns-clause-ok : goal.returns-clause-ok
returns-clause-ok g c = grind (arith, common_steps)

pub returns-in-Ok-eq0-clause-cells : goal.returns-in-Ok-eq0-clause-cells
returns-in-Ok-eq0-clause-cells g c = cells_as_were_then c.loop-done.invariant.0.cells c.job_write_at.ensures.does.cells

pub returns-in-Ok-eq0-clause-whole : goal.returns-in-Ok-eq0-clause-whole
returns-in-Ok-eq0-clause-whole g c = λ told. (keeps_then (c.loop-done.invariant.5.syncs told) (c.job_write_at.ensures.fails told).syncs).file_whole

pub returns-in-Err-2-clause-cells : goal.returns-in-Err-2-clause-cells
returns-in-Err-2-clause-cells g c = cells_as_were_then c.loop-done.invariant.0.cells c.job_write_at.ensures.does.cells

pub returns-in-Err-2-clause-whole : goal.returns-in-Err-2-clause-whole
returns-in-Err-2-clause-whole g c = λ told. (keeps_then (c.loop-done.invariant.5.syncs told) (c.job_write_at.ensures.fails told).syncs).file_whole

pub returns-in-Err-2-clause-fails : goal.returns-in-Err-2-clause-fails
returns-in-Err-2-clause-fails g c = λ told fits.
    let few = g.met.F.Disk.few_signals c.loop-done.disk told in
    let for_good : error_kind c.in-Err.fault ≡ Interrupted → ⊥ = elim c.if-eq.branch [
      | then-eq+else-stops-lt18446744073709551615 w ↦ λ is. absurd (omega (
        arith,
        w.if-stops-lt18446744073709551615.false,
        c.loop-done.invariant.5.stops told,
        few,
      ))
      | else-eq w ↦ λ is. same_false the_type c.kind.result Interrupted (sym c.eq.ensures ∙ w.if-eq.false) (c.kind.ensures ∙ is)
    ] in
    fails_at_last told c.loop-done.invariant.5 (c.in-Err.ensures.fails told) for_good (Err c.in-Err.fault) refl

pub returns-in-Ok-eq0-clause-entry : goal.returns-in-Ok-eq0-clause-entry
returns-in-Ok-eq0-clause-entry g c = λ told. c.job_write_at.ensures.does.entry told ∙ c.loop-done.invariant.0.entry told

pub returns-in-Err-2-clause-entry : goal.returns-in-Err-2-clause-entry
returns-in-Err-2-clause-entry g c = λ told. c.job_write_at.ensures.does.entry told ∙ c.loop-done.invariant.0.entry told

pub loop-done-init : goal.loop-done-init
loop-done-init g c =
    let old = g.F.Disk.state c.args.disk.now in (
      written_none g.F.Disk.tells old c.args.at c.args.bytes.now,
      grind (arith, common_steps),
      c.requires.at,
      c.requires.synced,
      c.requires.entry,
      goes_here g.F.Disk.tells old,
    )

pub returns-then-is_none-clause-moments : goal.returns-then-is_none-clause-moments
returns-then-is_none-clause-moments g c = (written_none g.F.Disk.tells (g.F.Disk.state c.args.disk.now) c.args.at c.args.bytes.now).moments
