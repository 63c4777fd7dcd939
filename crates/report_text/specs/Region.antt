-- The texts of regions.
use Rattle.std.specs.Prelude.{ℕ, List, [], ◌∷◌, ◌++◌, codes}
use Rattle.std.specs.List.{concat, flat_map}
use Rattle.octets.specs.Digit.{hex_text}

-- the line that names a region by its first address
unfoldable pub region_text : ℕ → List ℕ
region_text base = concat (codes "region " ∷ hex_text 8 base ∷ codes "\n" ∷ [])

-- The plans of a board's regions, each given by the region's first address and its text. One region has its text alone. With more,
-- each has a line with its address and then its text.
abbrev pub plans_text : List (ℕ × List ℕ) → List ℕ
plans_text (plan ∷ []) = plan.1
plans_text plans = flat_map (λ plan. region_text plan.0 ++ plan.1) plans
