-- `fill_range`: its clause `fails`, and that its loop keeps its invariant.
use Rattle.std.proofs.Common.{arith, length, refl, sym, ◌≤◌, ◌∙◌, ◌+◌, ap, ℕ}
use Rattle.std.proofs.lemmas.Grind.{common_steps}
use Rattle.std.proofs.lemmas.List.{take-replicate, length-replicate}
use Rattle.disk_files.proofs.CellLemmas.{filled_more, piece_in_range, rest_in_range, writes_then}
use Rattle.disk_files.proofs.FailLemmas.{goes_whole, fails_then}
use Rattle.disk_files.proofs.cells_half.fill_range.Goals as goal

pub returns-in_err-write_range-clause-fails : goal.returns-in_err-write_range-clause-fails
returns-in_err-write_range-clause-fails g c = λ told.
    let least : c.min-size.result ≤ 4096 = omega (arith, c.min-size.ensures) in
    let long = ap length (take-replicate c.min-size.result 4096 c.args.value least) ∙ length-replicate c.min-size.result c.args.value in
    fails_then told c.loop-done.invariant.3 _
    (c.in_err-write_range.ensures.fails told (omega (
      arith,
      long,
      least,
      c.loop-done.invariant.0,
      c.ranges.at.fits,
      c.ranges.len.fits,
      c.from-in-loop-done-2.ensures,
    )))
    refl c.from_residual.result c.from_residual.ensures.0

pub loop-done-preserved : goal.loop-done-preserved
loop-done-preserved g c =
    let S = g.F.Disk.state in
    let known = c.loop-done.invariant in
    let least : c.min-size.result ≤ 4096 = omega (arith, c.min-size.ensures) in
    let long = ap length (take-replicate c.min-size.result 4096 c.args.value least) ∙ length-replicate c.min-size.result c.args.value in (
      omega (arith, c.min-size.ensures, c.loop-done-test.true, c.from.ensures, c.from-in-loop-done.ensures),
      (λ told.
          let inside : c.args.at + c.loop-done.done ≤ length (S c.args.disk.now).bytes = omega (arith, c.requires.within told, known.0) in
          c.in_ok-write_range.ensures.ok told ∙ filled_more c.args.at c.loop-done.done c.min-size.result c.args.value _ _ (S c.loop-done.disk).bytes
          (S c.args.disk.now).bytes (ap (λ (n : ℕ). n + c.loop-done.done) c.from-in-loop-done-2.ensures) inside
          (take-replicate c.min-size.result 4096 c.args.value least) (known.1 told)),
      writes_then known.2 c.write_range.ensures.does,
      goes_whole _ known.3
          (λ told. c.in_ok-write_range.ensures.fails told (omega (
            arith,
            long,
            least,
            known.0,
            c.ranges.at.fits,
            c.ranges.len.fits,
            c.from-in-loop-done-2.ensures,
          ))) refl,
    )

pub slice_bounds-write_range-end : goal.slice_bounds-write_range-end
slice_bounds-write_range-end g c =
    let least : c.min-size.result ≤ 4096 = omega (arith, c.min-size.ensures) in
    sym (ap length (take-replicate c.min-size.result 4096 c.args.value least) ∙ length-replicate c.min-size.result c.args.value)

pub write_range-requires : goal.write_range-requires
write_range-requires g c = λ told.
    let least : c.min-size.result ≤ 4096 = omega (arith, c.min-size.ensures) in
    let long = ap length (take-replicate c.min-size.result 4096 c.args.value least) ∙ length-replicate c.min-size.result c.args.value in
    let within : c.loop-done.done + c.min-size.result ≤ c.args.len = omega (arith, c.min-size.ensures, c.loop-done.invariant.0, c.from-in-loop-done.ensures) in
    piece_in_range (c.loop-done.invariant.2.operation told) (ap (λ (n : ℕ). n + c.loop-done.done) c.from-in-loop-done-2.ensures) long
    (rest_in_range _ c.args.at c.args.len c.loop-done.done c.min-size.result within (c.requires.range told))

pub loop-done-init : goal.loop-done-init
loop-done-init g c = grind (arith, common_steps)

pub returns-clause-fails : goal.returns-clause-fails
returns-clause-fails g c = grind (arith, common_steps)
