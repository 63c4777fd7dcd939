-- `read_mark`: its clause `ok`.
use Rattle.std.proofs.Common.{◌∙◌, ℕ, List, ap}
use Rattle.job_text.specs.Reading.{format_in}
use Rattle.job_parts.proofs.lengths.read_mark.Goals as goal

pub returns-clause-ok : goal.returns-clause-ok
returns-clause-ok g c = λ told. c.format_of.ensures ∙ ap (λ (l : List ℕ). format_in l) (c.in_ok-file_read.ensures.does.ok told)
