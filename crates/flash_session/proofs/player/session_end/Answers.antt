-- `session_end`: what it answers where a cell differs.
use Rattle.std.proofs.Common.{refl}
use Rattle.flash_session.proofs.player.session_end.Goals as goal

pub returns-in-Mismatch : goal.returns-in-Mismatch
returns-in-Mismatch c = rw (c.in-Mismatch.is) refl
