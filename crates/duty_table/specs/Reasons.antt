-- What is known of a call that returned.
use Rattle.std.specs.Prelude.{ℕ}
use Rattle.duty_runs.specs.declared.between.Between.{Between}
use Rattle.duty_runs.specs.declared.went.Went.{Went}
use Rattle.duty_runs.specs.declared.went.Went.TheVariants as went

-- a call returned, and this holds of the state that it leaves and of its number of steps
abbrev pub IsBackTo : Went → (Between → ℕ → Type 0) → Type 0
IsBackTo (went.Back left steps) Holds = Holds left steps
IsBackTo (went.Undecided pc why) Holds = ⊥
