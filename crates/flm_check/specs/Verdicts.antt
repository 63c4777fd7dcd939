-- How a verdict on algorithms is reported.
use Rattle.std.specs.Prelude.{◌≡◌, ◌<◌, ℕ, Bool, true, false}
use Rattle.algo_calls.specs.declared.call.CallEnd.{CallEnd}
use Rattle.algo_calls.specs.declared.call.CallEnd.TheVariants as call_end
use Rattle.target_core.specs.declared.run.RunEnd.TheVariants as run_end
use Rattle.duty_trials.specs.declared.stand.Breach.{Breach}
use Rattle.duty_trials.specs.declared.stand.Breach.TheVariants as breach
use Rattle.duty_rounds.specs.declared.verdict.Verdict.{Verdict}
use Rattle.duty_rounds.specs.declared.verdict.Verdict.TheVariants as verdict
use Rattle.flm_check.specs.declared.ending.Duty.{Duty}
use Rattle.flm_check.specs.declared.ending.Duty.TheVariants as duty
use Rattle.flm_check.specs.declared.ending.Ending.{Ending}
use Rattle.flm_check.specs.declared.ending.Ending.TheVariants as ending

-- the duty that a call broke, by how the call ended
abbrev pub end_duty : CallEnd → Duty
end_duty (call_end.Ended (run_end.NoFuel pc)) = duty.NoFuel
end_duty (call_end.Ended end) = duty.Fault
end_duty call_end.DeviceFault = duty.Fault
end_duty end = duty.Answer

-- The duty that a breach breaks. A call that isn't done breaks the duty of its end. An operation breaks one by lying outside its place or by
-- being left open. A cell that differs breaks one by whether it lies in the place of the call.
abbrev pub breach_duty : Breach → Bool → Duty
breach_duty (breach.NotDone end) inside = end_duty end
breach_duty (breach.Outside at len) inside = duty.OperationOutside
breach_duty breach.LeftOpen inside = duty.OperationOpen
breach_duty breach.Cell true = duty.CellInside
breach_duty breach.Cell false = duty.CellOutside

-- an ending reports a verdict: proved, tried, or broken with the duty of its breach
abbrev pub IsTold : Verdict → Ending → Type 0
IsTold verdict.Proved ending.Proved = Unit {0}
IsTold verdict.Tried (ending.Tried lists calls) = Unit {0}
IsTold (verdict.Broken broken) (ending.Broken d) = (inside : Bool) × (d ≡ breach_duty broken.breach inside)
IsTold _ _ = ⊥

-- a breach is by one of `count` algorithms
abbrev pub IsInside : ℕ → Verdict → Type 0
IsInside count (verdict.Broken broken) = broken.region < count
IsInside count _ = Unit {0}
