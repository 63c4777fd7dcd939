-- `decode`: that it keeps its contract, and that its loop keeps its invariant.
use Rattle.std.proofs.Common.{◌≢◌, ◌<◌, ◌∙◌, length, sym, arith, below_more, get_or-set_other, get_or-set_same}
use Rattle.std.proofs.lemmas.Grind.{same_number_lists}
use Rattle.record_lines.proofs.Pairs.{length-pairs, get_or-pairs}
use Rattle.record_lines.proofs.digits.decode.Goals as goal

pub loop-index-preserved : goal.loop-index-preserved
loop-index-preserved c =
    let index = c.loop-index.index in
    let lt : index < length c.loop-index.out = omega arith in
    below_more _ _
    (λ k h. let ne : k ≢ index = omega arith in rw get_or-set_other (c.loop-index.invariant k h))
    (rw get_or-set_same (c.byte_of.ensures ∙ sym (get_or-pairs c.args.digits.now index (omega arith))))

pub returns : goal.returns
returns c =
    let long = length-pairs c.args.digits.now (length c.args.out.now) c.requires in
    same_number_lists _ _ (omega (arith, long)) (λ k lt. c.loop-index.invariant k (omega arith))
