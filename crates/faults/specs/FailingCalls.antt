-- Calls that can fail, by their numbers from 1.
use Rattle.std.specs.Prelude.{◌≡◌, ◌⊎◌, ℕ, List, Contains, Result, MatchResult}
use Rattle.faults.specs.Counts.{raised}

-- how many calls were made, the numbers of those that are to fail, and how many failed
pub record Numbered : Type 0 where
  pub calls : ℕ
  pub fails : List ℕ
  pub faults : ℕ

-- the counts before the first call
abbrev pub unused : List ℕ → Numbered
unused fails = record { calls = 0; fails = fails; faults = 0 }

-- the number of the next call is among those that are to fail
abbrev pub IsDue : Numbered → Type 0
IsDue n = Contains n.fails (raised n.calls)

-- the counts after one more call that went through, and after one more that failed
abbrev pub went : Numbered → Numbered
went n = record n { calls = raised n.calls }

abbrev pub failed : Numbered → Numbered
failed n = record n { calls = raised n.calls; faults = raised n.faults }

-- A call goes through exactly where its number isn't to fail and there is room for it. Each outcome leaves its own state.
abbrev pub Ends : {T E S : Type 0} → Result T E → Numbered → (room : Type 0) → (new on_ok on_err : S) → Type 0
Ends result n room new on_ok on_err = MatchResult result
    (λ value. (IsDue n → ⊥) × room × (new ≡ on_ok))
    (λ fault. (IsDue n ⊎ (room → ⊥)) × (new ≡ on_err))
