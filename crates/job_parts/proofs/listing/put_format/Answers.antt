-- `put_format`: its contract, `Puts`.
use Rattle.job_parts.specs.Listing.{format_text}
use Rattle.job_parts.proofs.listing.put_format.Goals as goal

pub returns-in-First : goal.returns-in-First
unfolding format_text
returns-in-First g c = rw c.in-First.is c.put_pieces.ensures

pub returns-in-Second : goal.returns-in-Second
unfolding format_text
returns-in-Second g c = rw c.in-Second.is c.put_pieces-in-Second.ensures
