-- The names of labels, and the place that a name means.
use Rattle.std.specs.Prelude.{◌≡◌, ℕ, List, ◌∷◌, ◌++◌, map, Contains}
use Rattle.armv6m_asm.specs.declared.labels.Label.{Label}

abbrev pub names_of : List Label → List (List ℕ)
names_of labels = map (λ label. label.name) labels

-- the first label with this name has this place
pub record IsFirstNamed (labels : List Label) (name : List ℕ) (place : ℕ) : Type 0 where
  pub before : List Label
  pub after : List Label
  pub labels_are : labels ≡ before ++ record { name = name; place = place } ∷ after
  pub first : Contains (names_of before) name → ⊥
