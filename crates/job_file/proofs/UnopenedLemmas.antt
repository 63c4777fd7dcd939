-- What a stop leaves before `begin` opens the gate: all its preparations come before that.
use Rattle.std.proofs.Common.{◌≡◌, ⊎_elim, inl, inr, false, Result, Err}
use Rattle.bench_model.specs.History.{Half, left, Leaves, AddsNothing}
use Rattle.bench_model.proofs.Moments.{leaves_then, leaves_as, leaves_left}
use Rattle.job_text.specs.Files.{IsFree}
use Rattle.job_file.specs.declared.fault.BeginFault.{BeginFault}
use Rattle.job_file.specs.declared.fault.BeginFault.TheVariants as beginning
use Rattle.job_file.specs.Counted.{begin_fault}
use Rattle.bench_model.specs.Counted.{is_device_fault}
use Rattle.job_file.specs.Stops.{IsUnopened}
use Rattle.job_file.specs.Unopened.{UnopenedAtDeviceFault}

pub unopened_by : (T : Type 0) (a b : Half) (fault : BeginFault) → Leaves a b (IsUnopened a) → UnopenedAtDeviceFault {T = T} a b (Err fault)
unopened_by T a b beginning.DeviceFault leaves = leaves
unopened_by T a b fault leaves = tt

pub unopened_other : (T : Type 0) (a b : Half) (fault : BeginFault) → is_device_fault (begin_fault fault) ≡ false
    → UnopenedAtDeviceFault {T = T} a b (Err fault)
unopened_other T a b beginning.DeviceFault other = absurd (cc)
unopened_other T a b fault other = tt

-- the clause stays true where calls come first after which a stop leaves nothing new
pub unopened_behind : {T : Type 0} (a b d : Half) (result : Result T BeginFault) → AddsNothing a b → UnopenedAtDeviceFault {T = T} b d result
    → UnopenedAtDeviceFault {T = T} a d result
unopened_behind a b d (Err beginning.DeviceFault) adds rest =
    leaves_then (IsUnopened a) (leaves_as (left a) (IsUnopened a) (λ f at. inl at) adds)
    (leaves_as (IsUnopened b) (IsUnopened a) (λ f either. ⊎_elim (λ (at : left b f). inl (leaves_left (left a) adds f at)) (λ (free : IsFree f). inr free)
    either) rest)
unopened_behind a b d result adds rest = tt
