-- `read_to_end`: that it keeps its contract.
use Rattle.std.proofs.lemmas.Grind.{common_steps}
use Rattle.std.proofs.Common.{◌≡◌, ◌<◌, ◌+◌, [], arith, inr, length, vec_len, rules, inl}
use Rattle.stream_files.proofs.RunLemmas.{read_all, read_nothing, at_least}
use Rattle.std.proofs.lemmas.Bool.{false≢true}
use Rattle.faults.proofs.CountLemmas.{Rose-after}
use Rattle.std.specs.IoError.{error_kind}
use Rattle.std.specs.declared.io.ErrorKind.TheVariants.{Interrupted}
use Rattle.stream_files.proofs.source_inputs.read_to_end.Goals as goal

pub returns-in-Ok-eq0-clause-ok : goal.returns-in-Ok-eq0-clause-ok
returns-in-Ok-eq0-clause-ok g c = λ told.
    let S = g.S.Source.state in
    let none : (S c.loop-stops.source).rest ≡ []
    = read_nothing g.S.Source.tells (S c.args.source.now) (S c.loop-stops.source) (S c.read.new.self)
    c.args.bytes.items c.loop-stops.bytes.items c.loop-stops.stops c.loop-stops.invariant.1 c.read.ensures.names
    _ _ c.read.result c.in-Ok-eq0.field-0 c.read.ensures.reads c.in-Ok-eq0.is c.in-Ok-eq0.field-0-test told in
    read_all g.S.Source.tells (S c.args.source.now) (S c.loop-stops.source) (S c.read.new.self)
    c.args.bytes.items c.loop-stops.bytes.items c.loop-stops.stops c.loop-stops.invariant.1 c.read.ensures.names told none

pub returns-in-Ok-clause-err : goal.returns-in-Ok-clause-err
returns-in-Ok-clause-err g c = λ told.
    let S = g.S.Source.state in
    let all = at_least g.S.Source.tells (S c.args.source.now) (S c.loop-stops.source) (S c.read.new.self)
    c.args.bytes.items c.loop-stops.bytes.items c.loop-stops.stops c.loop-stops.invariant.1 c.read.ensures.names told in
    let long : 67108864 < vec_len c.args.bytes + length (S c.args.source.now).rest
    = omega (
      arith,
      all,
      c.in-Ok.ensures.reads.some told,
      c.if-count-len.true,
      c.len.ensures,
      c.loop-stops.invariant.0,
      c.args.bytes.ok.0,
      c.loop-stops.bytes.ok.0,
    ) in
    inr (inr long)

pub loop-stops-preserved-in-Continue-1 : goal.loop-stops-preserved-in-Continue-1
loop-stops-preserved-in-Continue-1 g c = grind (arith, common_steps)

pub loop-stops-smaller-in-Continue-1 : goal.loop-stops-smaller-in-Continue-1
loop-stops-smaller-in-Continue-1 g c = grind (arith, common_steps)

pub slice_bounds-extend_from_slice-end : goal.slice_bounds-extend_from_slice-end
slice_bounds-extend_from_slice-end g c = grind (arith, common_steps)

pub returns-in-Ok-clause-went : goal.returns-in-Ok-clause-went
returns-in-Ok-clause-went g c = grind (arith, common_steps)

pub slice_bounds-chunk-end : goal.slice_bounds-chunk-end
slice_bounds-chunk-end g c = grind (arith, common_steps)

pub returns-clause-err : goal.returns-clause-err
returns-clause-err g c = grind (arith, common_steps)

pub returns-in-Ok-clause-later : goal.returns-in-Ok-clause-later
returns-in-Ok-clause-later g c = grind (arith, common_steps)

pub returns-in-Err-2-clause-err : goal.returns-in-Err-2-clause-err
returns-in-Err-2-clause-err g c = λ told.
    let S = g.S.Source.state in
    let for_good : error_kind c.in-Err.fault ≡ Interrupted → ⊥ = search rules in
    inr (inl (Rose-after (S c.args.source.now).calls.errors (S c.loop-stops.source).calls.errors (S c.read.new.self).calls.errors
    (omega (arith, c.loop-stops.invariant.1.errors told)) ((c.in-Err.ensures.fails told).failed for_good)))

pub returns-in-Err-2-clause-later : goal.returns-in-Err-2-clause-later
returns-in-Err-2-clause-later g c = λ told. omega (arith, c.loop-stops.invariant.1.errors told, (c.read.ensures.fails told).later)

pub returns-in-Err-2-clause-went : goal.returns-in-Err-2-clause-went
returns-in-Err-2-clause-went g c = λ told ok. absurd (false≢true ok)
