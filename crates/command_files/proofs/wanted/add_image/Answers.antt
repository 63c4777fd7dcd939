-- `add_image`: its clause `ok`.
use Rattle.command_files.proofs.wanted.add_image.Goals as goal

pub returns-clause-ok : goal.returns-clause-ok
returns-clause-ok c = record { image = c.in_ok-image.image; is_image = c.in_ok-image.ensures.ok; union = c.in_ok-merge.ensures.ok }
