-- `count_pairs`: the value that it answers.
use Rattle.std.proofs.Common.{rules}
use Rattle.flm_main.proofs.PairLemmas.{count_of}
use Rattle.flm_main.proofs.pairs.count_pairs.Goals as goal

pub returns : goal.returns
returns c = count_of c.args.words.now c.min.result (search rules) (search rules) (search rules)
