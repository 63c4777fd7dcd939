-- `write_whole`: that it keeps its contract.
use Rattle.std.proofs.lemmas.Grind.{common_steps}
use Rattle.std.proofs.Common.{rules, inl, arith, ◌≡◌, sym, ◌∙◌}
use Rattle.std.proofs.lemmas.List.{take_rest}
use Rattle.std.specs.IoError.{error_kind}
use Rattle.std.specs.declared.io.ErrorKind.TheVariants.{Interrupted}
use Rattle.stream_files.proofs.RunLemmas.{taken_more, taken_stopped, taken_nothing, taken_part}
use Rattle.std.proofs.lemmas.Bool.{false≢true}
use Rattle.faults.proofs.CountLemmas.{Rose-after}
use Rattle.stream_files.proofs.stream_sink.write_whole.Goals.{then-eq+else-stops-lt18446744073709551615, else-eq}
use denote.Enum.Bare.{same_true, same_false}
use Rattle.std.specs.contracts.io.ErrorKind.{the_type}
use Rattle.stream_files.proofs.stream_sink.write_whole.Goals as goal

pub loop-done-preserved-in-Ok : goal.loop-done-preserved-in-Ok
loop-done-preserved-in-Ok g c =
    let S = g.S.Stream.state in
    taken_more g.S.Stream.tells (S c.args.stream.now) (S c.loop-done.stream) (S c.write.new.self)
    c.args.bytes.now c.loop-done.done c.loop-done.stops c.loop-done.invariant
    c.in-Ok.count _ (take_rest c.args.bytes.now c.loop-done.done) c.in-Ok.ensures.writes.count c.in-Ok.ensures.writes.ok
    (λ told. (c.in-Ok.ensures.fails told).went (inl (omega arith)))

pub loop-done-preserved : goal.loop-done-preserved
loop-done-preserved g c =
    let S = g.S.Stream.state in
    let kind : error_kind c.in-Err.fault ≡ Interrupted = sym c.kind.ensures ∙ same_true the_type (search rules) _ _ (sym c.if-eq.ensures) in
    taken_stopped g.S.Stream.tells (S c.args.stream.now) (S c.loop-done.stream) (S c.write.new.self)
    c.args.bytes.now c.loop-done.done c.loop-done.stops c.loop-done.invariant
    c.in-Err.ensures.writes.stays (λ told. (c.in-Err.ensures.fails told).stopped kind)

pub returns-in-Ok-eq0-clause-err : goal.returns-in-Ok-eq0-clause-err
returns-in-Ok-eq0-clause-err g c = λ told.
    let S = g.S.Stream.state in
    taken_part g.S.Stream.tells (S c.args.stream.now) (S c.loop-done.stream) (S c.write.new.self)
    c.args.bytes.now c.loop-done.done c.loop-done.stops c.loop-done.invariant
    told (taken_nothing g.S.Stream.tells (S c.args.stream.now) (S c.loop-done.stream) (S c.write.new.self)
    c.args.bytes.now c.loop-done.done c.loop-done.stops c.loop-done.invariant
    _ c.write.result c.in-Ok-eq0.field-0 c.write.ensures.writes c.in-Ok-eq0.is c.in-Ok-eq0.field-0-test told)

pub returns-in-Err-2-clause-err : goal.returns-in-Err-2-clause-err
returns-in-Err-2-clause-err g c = λ told.
    let S = g.S.Stream.state in
    taken_part g.S.Stream.tells (S c.args.stream.now) (S c.loop-done.stream) (S c.write.new.self)
    c.args.bytes.now c.loop-done.done c.loop-done.stops c.loop-done.invariant
    told (c.in-Err-2.ensures.writes.stays told)

pub returns-in-Ok-eq0-clause-fails : goal.returns-in-Ok-eq0-clause-fails
returns-in-Ok-eq0-clause-fails g c = grind (arith, common_steps)

pub returns-clause-fails : goal.returns-clause-fails
returns-clause-fails g c = grind (arith, common_steps)

pub returns-clause-ok : goal.returns-clause-ok
returns-clause-ok g c = grind (arith, common_steps)

pub returns-in-Err-2-clause-fails : goal.returns-in-Err-2-clause-fails
returns-in-Err-2-clause-fails g c = λ told.
    let S = g.S.Stream.state in
    let same = c.loop-done.invariant.errors told in
    let ends = c.in-Err.ensures.fails told in
    let few = g.met.S.Stream.few_signals c.loop-done.stream told in
    let for_good : error_kind c.in-Err.fault ≡ Interrupted → ⊥ = elim c.if-eq.branch [
      | then-eq+else-stops-lt18446744073709551615 w ↦ λ is. absurd (omega (
        arith,
        w.if-stops-lt18446744073709551615.false,
        c.loop-done.invariant.signals told,
        few,
      ))
      | else-eq w ↦ λ is. same_false the_type c.kind.result Interrupted (sym c.eq.ensures ∙ w.if-eq.false) (c.kind.ensures ∙ is)
    ] in
    record {
      later = omega (arith, same, ends.later);
      on_fault = λ fault. Rose-after (S c.args.stream.now).calls.errors (S c.loop-done.stream).calls.errors (S c.write.new.self).calls.errors
          (omega (arith, same)) (ends.failed for_good);
      on_ok = λ ok. absurd (false≢true ok);
    }
