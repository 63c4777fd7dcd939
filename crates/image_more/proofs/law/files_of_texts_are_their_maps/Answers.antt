-- `files_of_texts_are_their_maps`: its clauses `hex`, `hex_alone`, `srec` and `srec_alone`.
use Rattle.image_more.proofs.LawLemmas.{hex_file, hex_file_alone, srec_file, srec_file_alone}
use Rattle.image_more.proofs.law.files_of_texts_are_their_maps.Goals as goal

pub returns-clause-hex : goal.returns-clause-hex
returns-clause-hex c = hex_file

pub returns-clause-hex_alone : goal.returns-clause-hex_alone
returns-clause-hex_alone c = hex_file_alone

pub returns-clause-srec : goal.returns-clause-srec
returns-clause-srec c = srec_file

pub returns-clause-srec_alone : goal.returns-clause-srec_alone
returns-clause-srec_alone c = srec_file_alone
