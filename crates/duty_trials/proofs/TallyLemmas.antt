-- The counts after one call more.
use Rattle.std.proofs.Common.{◌≡◌, ◌≤◌, ◌+◌, ℕ, sym, subst, arith}
use Rattle.algo_calls.specs.declared.call.Call.{Call}
use Rattle.algo_calls.specs.declared.call.Call.TheVariants as call
use Rattle.duty_trials.specs.declared.tally.Tally.{Tally}
use Rattle.duty_trials.specs.Tallies.{noted, calls_in, AreWithin}

noted_within : (t : Tally) (c : Call) (steps allowed : ℕ) → steps ≤ allowed → AreWithin t → AreWithin (noted t c steps allowed)
noted_within t (call.Init kind) steps allowed le are = record {
  init = omega (arith, le, are.init);
  uninit = are.uninit;
  erase_sector = are.erase_sector;
  erase_chip = are.erase_chip;
  program_page = are.program_page;
  verify = are.verify;
}
noted_within t (call.UnInit kind) steps allowed le are = record {
  init = are.init;
  uninit = omega (arith, le, are.uninit);
  erase_sector = are.erase_sector;
  erase_chip = are.erase_chip;
  program_page = are.program_page;
  verify = are.verify;
}
noted_within t (call.EraseSector at) steps allowed le are = record {
  init = are.init;
  uninit = are.uninit;
  erase_sector = omega (arith, le, are.erase_sector);
  erase_chip = are.erase_chip;
  program_page = are.program_page;
  verify = are.verify;
}
noted_within t call.EraseChip steps allowed le are = record {
  init = are.init;
  uninit = are.uninit;
  erase_sector = are.erase_sector;
  erase_chip = omega (arith, le, are.erase_chip);
  program_page = are.program_page;
  verify = are.verify;
}
noted_within t (call.ProgramPage at) steps allowed le are = record {
  init = are.init;
  uninit = are.uninit;
  erase_sector = are.erase_sector;
  erase_chip = are.erase_chip;
  program_page = omega (arith, le, are.program_page);
  verify = are.verify;
}
noted_within t (call.Verify at) steps allowed le are = record {
  init = are.init;
  uninit = are.uninit;
  erase_sector = are.erase_sector;
  erase_chip = are.erase_chip;
  program_page = are.program_page;
  verify = omega (arith, le, are.verify);
}

noted_calls : (t : Tally) (c : Call) (steps allowed : ℕ) → calls_in (noted t c steps allowed) ≤ calls_in t + 1
noted_calls t (call.Init kind) steps allowed = omega arith
noted_calls t (call.UnInit kind) steps allowed = omega arith
noted_calls t (call.EraseSector at) steps allowed = omega arith
noted_calls t call.EraseChip steps allowed = omega arith
noted_calls t (call.ProgramPage at) steps allowed = omega arith
noted_calls t (call.Verify at) steps allowed = omega arith

pub stay_within : (t t' : Tally) (c : Call) (steps allowed : ℕ) → t' ≡ noted t c steps allowed → steps ≤ allowed → AreWithin t → AreWithin t'
stay_within t t' c steps allowed is le are = subst AreWithin (sym is) (noted_within t c steps allowed le are)

pub one_more : (t t' : Tally) (c : Call) (steps allowed : ℕ) → t' ≡ noted t c steps allowed → calls_in t' ≤ calls_in t + 1
one_more t t' c steps allowed is = subst (λ (u : Tally). calls_in u ≤ calls_in t + 1) (sym is) (noted_calls t c steps allowed)
