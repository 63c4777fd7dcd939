-- `slices_end_as_the_call`: its contract, `CallGives`.
use Rattle.algo_calls.proofs.CallLemmas.{sliced_call}
use Rattle.algo_calls.proofs.law.slices_end_as_the_call.Goals as goal

pub returns : goal.returns
returns g c = λ s w r cuts start end e last sliced. sliced_call g.B.Bench.state s w r cuts start end e last sliced
