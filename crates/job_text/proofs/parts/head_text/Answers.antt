-- `head_text`: what `put_lengths` requires.
use Rattle.std.proofs.Common.{arith}
use Rattle.std.proofs.lemmas.Grind.{common_steps}
use Rattle.job_text.proofs.PartLemmas.{blank_small}
use Rattle.job_text.proofs.parts.head_text.Goals as goal

pub put_lengths-requires-clause-board : goal.put_lengths-requires-clause-board
put_lengths-requires-clause-board c = c.requires.short_board

pub put_lengths-requires-clause-first : goal.put_lengths-requires-clause-first
put_lengths-requires-clause-first c = c.requires.short_first

pub put_lengths-requires-clause-second : goal.put_lengths-requires-clause-second
put_lengths-requires-clause-second c = c.requires.short_second

pub put_lengths-requires-clause-image : goal.put_lengths-requires-clause-image
put_lengths-requires-clause-image c = (blank_small c.args.parts.now c.requires).runs

pub returns : goal.returns
returns c = grind (arith, common_steps)
