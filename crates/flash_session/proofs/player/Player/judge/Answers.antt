-- `Player::judge`: its contract, `Judges`.
use Rattle.std.proofs.Common.{refl, sym}
use Rattle.flash_session.proofs.player.Player.judge.Goals as goal

pub returns-in-Refused : goal.returns-in-Refused
returns-in-Refused c = rw (sym c.end_of.ensures, c.in-Refused.is) refl

pub returns-in-Ended : goal.returns-in-Ended
returns-in-Ended c = rw (sym c.end_of.ensures, c.in-Ended.is) refl

pub returns-in-DeviceFault : goal.returns-in-DeviceFault
returns-in-DeviceFault c = rw (sym c.end_of.ensures, c.in-DeviceFault.is) refl

pub returns-in-Done : goal.returns-in-Done
returns-in-Done c = rw (sym c.end_of.ensures, c.in-Done.is) refl
