-- The RAM of two machines.
use Rattle.std.specs.Prelude.{ℕ, List}
use Rattle.target_core.specs.Windows.{IsRam}

-- the first two windows have 256 bytes each
abbrev pub AreRams : List (List ℕ) → Type 0
AreRams windows = IsRam windows 0 256 × IsRam windows 1 256
