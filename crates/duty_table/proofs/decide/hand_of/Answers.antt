-- `hand_of`: its clause `ram`, and what `load` and `new` require.
use Rattle.std.proofs.Common.{List, ℕ, [], length, sym, ap, ◌∙◌, arith}
use Rattle.std.proofs.lemmas.List.{length-replicate}
use Rattle.target_core.specs.World.{World}
use Rattle.target_core.specs.Windows.{window_of}
use Rattle.target_core.specs.Units.{unit_map}
use Rattle.algo_calls.specs.declared.calls_in.CallsIn.{CallsIn}
use Rattle.algo_calls.specs.Frames.{loaded}
use Rattle.algo_calls.specs.Setups.{Setup}
use Rattle.duty_table.proofs.decide.hand_of.Goals as goal

pub load-requires : goal.load-requires
load-requires c = (
  omega (arith, ap (λ (ws : List (List ℕ)). length ws) c.in_ok-arena.ensures),
  ap (λ (ws : List (List ℕ)). length (window_of ws 0)) c.in_ok-arena.ensures ∙ length-replicate _ _ ∙ sym c.in_ok-calls.ensures.size,
)

pub new-requires-2-clause-map : goal.new-requires-2-clause-map
new-requires-2-clause-map c = c.requires ∙ sym (ap (λ (x : CallsIn). unit_map x.machine.unit) c.load.ensures.same ∙ c.in_ok-calls.ensures.map)

pub returns-clause-ram : goal.returns-clause-ram
returns-clause-ram c =
    ap (λ (ws : List (List ℕ)). window_of ws 0) c.new-2.ensures.arena
    ∙ ap (λ (w : World). w.ram) (c.load.ensures.leaves []) ∙ ap (λ (s : Setup). loaded s) c.in_ok-calls.ensures.setup
