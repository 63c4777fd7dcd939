-- `take_second`: that it keeps its contract.
use Rattle.job_text.proofs.texts.take_second.Goals as goal

pub returns-clause-taken : goal.returns-clause-taken
returns-clause-taken c = c.in_ok-file.ensures.taken

pub returns-clause-shorter : goal.returns-clause-shorter
returns-clause-shorter c = c.in_ok-file.ensures.shorter
