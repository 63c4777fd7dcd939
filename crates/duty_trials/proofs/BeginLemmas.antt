-- A list begins on a target after a reset, with the algorithm loaded.
use Rattle.std.proofs.Common.{◌≡◌, ◌∙◌, ℕ, List, ap}
use Rattle.board_file.specs.Shown.{Shown as BoardShown}
use Rattle.flash_layout.specs.Maps.{FlashMap, board_map}
use Rattle.flm_descriptor.specs.Shown.{Shown as AlgorithmShown}
use Rattle.target_core.specs.World.{World}
use Rattle.target_core.specs.Units.{UnitState, fresh}
use Rattle.algo_calls.specs.Setups.{Setup, setup_of}
use Rattle.algo_calls.specs.Frames.{loaded, after_load}
use Rattle.algo_calls.specs.Duties.{ready}

abbrev stands : ℕ → Setup → FlashMap → UnitState → List ℕ → World
stands base s map state cells = record { ram_base = base; ram = loaded s; map = map; state = state; cells = cells }

pub begun : (b : BoardShown) (a : AlgorithmShown) (s : Setup) (w w' : World) (cells cells' : List ℕ) → s ≡ setup_of a b → w.ram_base ≡ b.ram_base
    → w.map ≡ board_map b
    → w.state ≡ fresh b.kind → w.cells ≡ cells' → cells' ≡ cells → w' ≡ after_load s w → w' ≡ ready b a cells
begun b a s w w' cells cells' setup base map state are same is =
    is
    ∙ ap (λ (z : Setup). stands w.ram_base z w.map w.state w.cells) setup
    ∙ ap (λ (n : ℕ). stands n (setup_of a b) w.map w.state w.cells) base
    ∙ ap (λ (m : FlashMap). stands b.ram_base (setup_of a b) m w.state w.cells) map
    ∙ ap (λ (u : UnitState). stands b.ram_base (setup_of a b) (board_map b) u w.cells) state
    ∙ ap (λ (c : List ℕ). stands b.ram_base (setup_of a b) (board_map b) (fresh b.kind) c) (are ∙ same)
