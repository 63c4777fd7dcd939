-- What the trial of a list, and of one of its calls, answers.
use Rattle.std.specs.Prelude.{◌≡◌, ◌≤◌, ◌⊎◌, ◌<◌, ◌^◌, ℕ, List, All, Bool, true, false, length, get_or, slice_index, Option, None}
use Rattle.target_core.specs.World.{World}
use Rattle.algo_calls.specs.Setups.{Setup, setup_of}
use Rattle.algo_calls.specs.Frames.{after}
use Rattle.algo_calls.specs.Duties.{Site, Duty, Does, Keeps, request_of, device_of, site_of, part}
use Rattle.flm_descriptor.specs.Shown.{Shown as AlgorithmShown}
use Rattle.board_file.specs.Shown.{Shown as BoardShown}
use Rattle.duty_trials.specs.declared.stand.Tried.{Tried}
use Rattle.duty_trials.specs.declared.stand.Tried.TheVariants as tried
use Rattle.duty_trials.specs.declared.list.Work.{Work}
use Rattle.duty_trials.specs.declared.list.Turn.{Turn}
use Rattle.duty_trials.specs.declared.list.Ended.{Ended}
use Rattle.duty_trials.specs.declared.list.Ended.TheVariants as ended
use Rattle.duty_trials.specs.Tried.{IsBroken, IsKept}
use Rattle.duty_trials.specs.Trials.{BreaksIn}
use Rattle.duty_trials.specs.Lists.{phase_of, work_on, before_turn, duty_at}

-- only the places between `from` and `to` of a list changed
pub record OnlyBetween (from to : ℕ) (old new : List ℕ) : Type 0 where
  pub long : length new ≡ length old
  pub same : (i : ℕ) → (i < from) ⊎ (to ≤ i) → slice_index new i ≡ slice_index old i

-- The trial of a call with the duty `d`. The ideal device leads from the first contents to the second. If the trial shows a breach, the
-- duty isn't kept. If the duty was kept, the target has made the call, over the cells that the ideal device leaves.
pub record TriesCall (s : Setup) (site : Site) (d : Duty) (ideal ideal' : List ℕ) (w w' : World) (operation : Option (ℕ × ℕ)) (result : Tried) : Type 0 where
  pub does : Does s site ideal d ideal'
  pub broken : IsBroken result → Keeps s site w d → ⊥
  pub world : IsKept result → w' ≡ after s w (request_of s site.layout d)
  pub cells : IsKept result → w'.cells ≡ ideal'
  pub idle : IsKept result → operation ≡ None
  pub bytes : All (λ v. v < 2 ^ 8) ideal'

-- The trial of number `k` of a set. If the set doesn't have it, no call is made.
pub record TriesMember (s t : Setup) (site : Site) (work : Work) (set : List Bool) (k : ℕ) (ideal ideal' : List ℕ) (w w' : World)
    (operation operation' : Option (ℕ × ℕ)) (result : Tried) : Type 0 where
  pub tries : get_or set k false ≡ true → TriesCall s site (work_on t site.layout work (part site ideal') k) ideal ideal' w w' operation' result
  pub passes : get_or set k false ≡ false → (ideal' ≡ ideal) × (w' ≡ w) × (operation' ≡ operation) × (result ≡ tried.Kept)

-- A list broke at this call. `before` is the cells before the list, and `ideal` the cells that the ideal device leaves up to the call.
abbrev pub BreaksAt : BoardShown → AlgorithmShown → ℕ → Work → List Bool → List ℕ → List ℕ → Turn → Type 0
BreaksAt b a region work set before ideal turn =
    let held = part (site_of b a region) ideal in
    BreaksIn b a region before (phase_of work set held) (before_turn (setup_of a b) (device_of a) work set held turn)
    (duty_at (setup_of a b) (device_of a) work held turn)

-- how a list ended, if this turn was tried last
abbrev pub ended_at : Turn → Tried → Ended
ended_at turn tried.Kept = ended.Kept
ended_at turn (tried.Broken breach) = ended.Broken turn breach
ended_at turn tried.Fault = ended.Fault

-- P holds of the turn at which a list broke, if it broke
abbrev pub IfBroken : Ended → (Turn → Type 0) → Type 0
IfBroken (ended.Broken turn breach) P = P turn
IfBroken _ P = Unit {0}
