-- A target between two calls as the state of a table.
use Rattle.std.specs.Prelude.{ℕ, List, [], map}
use Rattle.flash_layout.specs.Maps.{FlashMap}
use Rattle.target_core.specs.World.{World}
use Rattle.shadow_step.specs.declared.marks.Mark.TheVariants.{Known}
use Rattle.shadow_step.specs.Marks.{known_if}
use Rattle.duty_proofs.specs.TargetMarks.{TargetMarks}
use Rattle.duty_proofs.specs.Decided.{State}
use Rattle.duty_runs.specs.declared.between.Between.{Between}

-- the marks of a target between two calls, with the RAM from `base` on and this flash map
abbrev pub state_marks : ℕ → FlashMap → Between → TargetMarks
state_marks base layout b = record {
  base = base;
  map = layout;
  ram = map known_if b.known.items;
  state = b.state;
  address = b.address;
  value = Known;
  from = 0;
  cells = [];
}

-- the target of such a state, over these cells
abbrev pub state_world : ℕ → FlashMap → List ℕ → Between → World
state_world base layout cells b = record { ram_base = base; ram = b.ram.items; map = layout; state = b.state; cells = cells }

abbrev pub state_of : ℕ → FlashMap → List ℕ → Between → State
state_of base layout cells b = record { marks = state_marks base layout b; world = state_world base layout cells b }
