-- `texts_are_read_back`: its clauses `hex`, `hex_alone`, `srec` and `srec_alone`.
use Rattle.image_more.proofs.HexLemmas.{hex_is_read}
use Rattle.image_more.proofs.SrecLemmas.{srec_is_read}
use Rattle.image_more.proofs.LawLemmas.{hex_read_alone, srec_read_alone}
use Rattle.image_more.proofs.law.texts_are_read_back.Goals as goal

pub returns-clause-hex : goal.returns-clause-hex
returns-clause-hex c = hex_is_read

pub returns-clause-hex_alone : goal.returns-clause-hex_alone
returns-clause-hex_alone c = hex_read_alone

pub returns-clause-srec : goal.returns-clause-srec
returns-clause-srec c = srec_is_read

pub returns-clause-srec_alone : goal.returns-clause-srec_alone
returns-clause-srec_alone c = srec_read_alone
