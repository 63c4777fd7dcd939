-- `check_files`: its contract, `CountsFiles`.
use Rattle.std.proofs.Common.{sym, ◌∙◌}
use Rattle.job_file.proofs.TextsLemmas.{files_differ}
use Rattle.job_file.proofs.texts.check_files.Goals as goal

pub returns-then-not-are_files : goal.returns-then-not-are_files
returns-then-not-are_files c = files_differ c.args.places.now c.args.head.now c.args.regions (sym c.are_files.ensures ∙ c.if-not-are_files.true)
