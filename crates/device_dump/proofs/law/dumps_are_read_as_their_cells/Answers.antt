-- `dumps_are_read_as_their_cells`: its clauses `one`, `read` and `alone`.
use Rattle.device_dump.proofs.CellLemmas.{one_map}
use Rattle.device_dump.proofs.LawLemmas.{dump_read, dump_alone}
use Rattle.device_dump.proofs.law.dumps_are_read_as_their_cells.Goals as goal

pub returns-clause-one : goal.returns-clause-one
returns-clause-one c = one_map

pub returns-clause-read : goal.returns-clause-read
returns-clause-read c = dump_read

pub returns-clause-alone : goal.returns-clause-alone
returns-clause-alone c = dump_alone
