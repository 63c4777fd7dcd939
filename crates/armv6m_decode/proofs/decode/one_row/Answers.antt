-- `one_row`: that it keeps its contract.
use Rattle.armv6m_decode.proofs.TableLemmas.{one_row_for_each, no_row_begins_pair}
use Rattle.armv6m_decode.proofs.decode.one_row.Goals as goal

pub returns : goal.returns
returns c = record { one = one_row_for_each; pairs = no_row_begins_pair }
