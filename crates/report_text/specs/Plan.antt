-- The text of a plan: what is erased, what is programmed, and what that costs.
use Rattle.std.specs.Prelude.{ℕ, ◌+◌, ◌-◌, zero, suc, Bool, false, not, ◌&&◌, if◌then◌else◌, List, [], ◌∷◌, ◌++◌, length, get_or, codes, decimal}
use Rattle.std.specs.List.{concat, list_any}
use Rattle.octets.specs.Digit.{hex_text}
use Rattle.flm_descriptor.specs.Shape.{Range, range_at}
use Rattle.page_geometry.specs.Geometry.{Geometry}
use Rattle.erase_planner.specs.Plans.{Chosen}

-- whether a set is empty
abbrev pub is_none : List Bool → Bool
is_none set = not (list_any (λ one. one) set)

-- whether a plan asks for nothing
abbrev pub asks_nothing : Chosen → Bool
asks_nothing plan = not plan.chip && (is_none plan.sectors && is_none plan.pages)

-- the first line of a plan: whether the chip is erased, sectors are, or nothing is to be done
unfoldable pub kind_text : Chosen → List ℕ
kind_text plan = if asks_nothing plan then codes "plan none\n" else if plan.chip then codes "plan chip\n" else codes "plan sectors\n"

-- the texts of the numbers below `n`, in rising order
unfoldable pub texts_below : ℕ → (ℕ → List ℕ) → List ℕ
texts_below zero text = []
texts_below (suc n) text = texts_below n text ++ text n

-- a line that names an action, an address and a length
unfoldable pub action_text : List ℕ → ℕ → ℕ → List ℕ
action_text name at len = concat (name ∷ codes " " ∷ hex_text 8 at ∷ codes " " ∷ decimal len ∷ codes "\n" ∷ [])

-- the line of range `k` where the set has that number; the device's first byte has the address `base`
unfoldable pub member_text : List ℕ → ℕ → List Range → List Bool → ℕ → List ℕ
member_text name base ranges set k =
    if get_or set k false then action_text name (base + (range_at ranges k).start) ((range_at ranges k).stop - (range_at ranges k).start) else []

-- the lines of the ranges of a set, in rising order
unfoldable pub set_text : List ℕ → ℕ → List Range → List Bool → List ℕ
set_text name base ranges set = texts_below (length ranges) (member_text name base ranges set)

-- the lines of what is erased: the chip, or the sectors
unfoldable pub erase_text : Geometry → ℕ → Chosen → List ℕ
erase_text l base plan = if plan.chip then codes "erase chip\n" else set_text (codes "erase") base l.sectors plan.sectors

unfoldable pub cost_text : ℕ → List ℕ
cost_text cost = concat (codes "cost " ∷ decimal cost ∷ codes "\n" ∷ [])

-- the whole text of a plan for a device whose first byte has the address `base`
unfoldable pub plan_text : Geometry → ℕ → Chosen → List ℕ
plan_text l base plan = kind_text plan ++ erase_text l base plan ++ set_text (codes "program") base l.pages plan.pages ++ cost_text plan.cost
