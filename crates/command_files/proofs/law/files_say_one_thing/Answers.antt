-- `files_say_one_thing`: the law.
use Rattle.command_files.proofs.FilesLemmas.{one_aim, one_refusal, aim_or_refused}
use Rattle.command_files.proofs.law.files_say_one_thing.Goals as goal

pub returns : goal.returns
returns c = record { aim = one_aim; refusal = one_refusal; never_both = aim_or_refused }
