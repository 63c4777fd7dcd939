-- A bench in memory with an empty record: a new bench, or one after a loss of power.
use Rattle.std.proofs.Common.{◌≡◌, ◌∙◌, subst, sym, refl, ℕ, List, [], None, arith}
use Rattle.bench_model.specs.Record.{Recorded, at_rest}
use Rattle.bench_model.specs.Memory.{memory_state, InStep}
use Rattle.bench_model.specs.Loss.{IsAtRest}
use Rattle.bench_model.specs.Kept.{IsLeft, all_synced}
use Rattle.bench_model.proofs.LeftLemmas.{read_synced, synced_only}

-- a stop of a bench with an empty record leaves it as it is
pub rests : (file cells made_file made_cells : List ℕ) (store_faults device_faults : ℕ) (r : Recorded) (used room longest : ℕ)
    → made_file ≡ file → made_cells ≡ cells
    → r ≡ record { made = at_rest made_file made_cells; events = []; used = used; room = room; longest = longest }
    → IsAtRest (memory_state file cells None store_faults device_faults r)
rests file cells made_file made_cells store_faults device_faults r used room longest same_file same_cells is =
    subst (λ (q : Recorded). IsAtRest (memory_state file cells None store_faults device_faults q)) (sym is)
    (record { idle = refl; file = λ f at. synced_only made_file f at ∙ same_file; cells = λ c at. at ∙ same_cells })

pub step_made : (file cells own_file own_cells : List ℕ) → own_file ≡ file → own_cells ≡ cells → InStep (at_rest file cells) own_file own_cells None
step_made file cells own_file own_cells same_file same_cells = record {
  same_file = sym same_file;
  same_cells = sym same_cells;
  same_operation = refl;
  left = subst (λ (f : List ℕ). IsLeft (all_synced file) f) (sym same_file) (read_synced file);
  enough = omega arith;
  older = omega arith;
  in_range = λ range is. cc;
}
