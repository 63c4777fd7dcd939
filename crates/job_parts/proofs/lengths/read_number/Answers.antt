-- `read_number`: its clause `ok`.
use Rattle.std.proofs.Common.{◌∙◌, ℕ, List, ap}
use Rattle.octets.specs.Field.{field32}
use Rattle.job_parts.proofs.lengths.read_number.Goals as goal

pub returns-clause-ok : goal.returns-clause-ok
returns-clause-ok g c = λ told. c.le32.ensures ∙ ap (λ (l : List ℕ). field32 l 0) (c.in_ok-file_read.ensures.does.ok told)
