-- The register block of a controller, and a controller after a reset.
use Rattle.std.proofs.Common.{◌≡◌, ℕ, Bool, None, refl, ap, sym, ◌∙◌}
use Rattle.bench_model.specs.State.{BenchState}
use Rattle.board_file.specs.declared.kind.ControllerKind.{ControllerKind}
use Rattle.board_file.specs.declared.kind.ControllerKind.TheVariants as kind
use Rattle.board_file.specs.Kinds.{block_of}
use Rattle.board_file.specs.Shown.{Shown}
use Rattle.flash_layout.specs.Maps.{board_map}
use Rattle.flash_driver.specs.Table.{with_block}
use Rattle.target_core.specs.AnyTable.{any_table}
use Rattle.target_core.specs.Units.{Unit, fresh, state_op, unit_cells, unit_state, UnitAgrees}

-- the register block of a kind has the size that its boards keep free
pub block_same : (k : ControllerKind) → any_table.block k ≡ block_of k
block_same kind.Fc1 = refl
block_same kind.Fpec = refl

pub with_same : (b : Shown) → with_block any_table (board_map b) ≡ board_map b
with_same b = ap (λ (n : ℕ). record (board_map b) { block = n }) (block_same b.kind)

-- no operation runs in a fresh controller
pub fresh_idle : (k : ControllerKind) → state_op (fresh k) ≡ None
fresh_idle k = refl

-- a bench with as many cells and no open operation agrees with a fresh unit
pub fresh_agrees : (tells : Bool) (unit : Unit) (k : ControllerKind) (b : BenchState) → unit_state unit ≡ fresh k → b.cell_count ≡ unit_cells unit →
    b.operation ≡ None → UnitAgrees tells unit b
fresh_agrees tells unit k b state count idle = record {
  count = count;
  operation = λ told. idle ∙ sym (ap state_op state);
}
