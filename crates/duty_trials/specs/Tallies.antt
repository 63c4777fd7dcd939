-- Counts of the calls that were made.
use Rattle.std.specs.Prelude.{◌≤◌, ◌+◌, ◌-◌, ◌^◌, ℕ, min, max}
use Rattle.algo_calls.specs.declared.call.Call.{Call}
use Rattle.algo_calls.specs.declared.call.Call.TheVariants as call
use Rattle.duty_trials.specs.declared.tally.Count.{Count}
use Rattle.duty_trials.specs.declared.tally.Tally.{Tally}

-- two counts together; the number of calls stops at 2^64 - 1
abbrev pub joined : Count → Count → Count
joined a b = record { calls = min (a.calls + b.calls) (2 ^ 64 - 1); most = max a.most b.most; allowed = max a.allowed b.allowed }

-- the count of one call
abbrev pub one_of : ℕ → ℕ → Count
one_of steps allowed = record { calls = 1; most = steps; allowed = allowed }

abbrev pub noted : Tally → Call → ℕ → ℕ → Tally
noted t (call.Init kind) steps allowed = record t { init = joined t.init (one_of steps allowed) }
noted t (call.UnInit kind) steps allowed = record t { uninit = joined t.uninit (one_of steps allowed) }
noted t (call.EraseSector at) steps allowed = record t { erase_sector = joined t.erase_sector (one_of steps allowed) }
noted t call.EraseChip steps allowed = record t { erase_chip = joined t.erase_chip (one_of steps allowed) }
noted t (call.ProgramPage at) steps allowed = record t { program_page = joined t.program_page (one_of steps allowed) }
noted t (call.Verify at) steps allowed = record t { verify = joined t.verify (one_of steps allowed) }

abbrev pub both : Tally → Tally → Tally
both a b = record {
  init = joined a.init b.init;
  uninit = joined a.uninit b.uninit;
  erase_sector = joined a.erase_sector b.erase_sector;
  erase_chip = joined a.erase_chip b.erase_chip;
  program_page = joined a.program_page b.program_page;
  verify = joined a.verify b.verify;
}

-- how many calls a tally has
abbrev pub calls_in : Tally → ℕ
calls_in t = t.init.calls + t.uninit.calls + t.erase_sector.calls + t.erase_chip.calls + t.program_page.calls + t.verify.calls

-- no call took more steps than its time-out allows
pub record AreWithin (t : Tally) : Type 0 where
  pub init : t.init.most ≤ t.init.allowed
  pub uninit : t.uninit.most ≤ t.uninit.allowed
  pub erase_sector : t.erase_sector.most ≤ t.erase_sector.allowed
  pub erase_chip : t.erase_chip.most ≤ t.erase_chip.allowed
  pub program_page : t.program_page.most ≤ t.program_page.allowed
  pub verify : t.verify.most ≤ t.verify.allowed
