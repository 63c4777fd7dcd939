-- `lay_hash`: its contract, and that its loop keeps what it has to.
use Rattle.std.proofs.Common.{◌<◌, ◌+◌, ◌∙◌, length, get_or, refl, arith}
use Rattle.std.proofs.lemmas.Grind.{elements}
use Rattle.job_parts.proofs.MendedLemmas.{laid_none, laid_next}
use Rattle.job_parts.proofs.mended.lay_hash.Goals as goal

pub loop-index-init : goal.loop-index-init
loop-index-init c = (refl, (λ i d less. laid_none c.args.hash.now (c.args.at + i) (get_or c.args.out.now i d)))

pub loop-index-preserved : goal.loop-index-preserved
loop-index-preserved c = (
  omega (arith, c.lay_byte.ensures.length, c.loop-index.invariant.0),
  (λ i d less.
      let at = c.args.at + i in
      let hash = c.args.hash.now in
      let there : i < length c.loop-index.out = omega (arith, less, c.loop-index.invariant.0) in
      laid_next hash c.loop-index.index at (get_or c.args.out.now i d) (get_or c.loop-index.out i d) (get_or c.lay_byte.new.out i d)
      (omega (arith, c.told-hash, c.loop-index-test.true)) (c.loop-index.invariant.1 i d less)
      (λ is. c.lay_byte.ensures.here i d there (omega (arith, is)) ∙ grind (arith, elements))
      (λ other. c.lay_byte.ensures.others i d there (λ is. other (omega (arith, is))))),
)
