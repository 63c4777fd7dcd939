-- `image`: what `one_run` requires.
use Rattle.std.proofs.Common.{◌≡◌, arith, length}
use Rattle.demo_job.proofs.GeneratorLemmas.{long_draws}
use Rattle.demo_job.proofs.made.image.Goals as goal

pub one_run-requires-clause-some : goal.one_run-requires-clause-some
one_run-requires-clause-some c =
    let long : length c.deref.result.now ≡ 20480 = long_draws c.new-bytes.result.items 20480 c.draw.new.self.state c.put.new.out.items c.deref.result.now
    c.new-bytes.ensures.items c.in_ok-put.ensures.bytes c.deref.ensures.value in
    omega (arith, long)

pub one_run-requires-clause-fits : goal.one_run-requires-clause-fits
one_run-requires-clause-fits c =
    let long : length c.deref.result.now ≡ 20480 = long_draws c.new-bytes.result.items 20480 c.draw.new.self.state c.put.new.out.items c.deref.result.now
    c.new-bytes.ensures.items c.in_ok-put.ensures.bytes c.deref.ensures.value in
    omega (arith, long)
