-- The code's states: between calls, after a load, and where one of them allows the target that a run leaves.
use Rattle.std.proofs.Common.{◌≡◌, ℕ, zero, suc, Bool, true, false, List}
use Rattle.std.proofs.Common.{◌∷◌, length, get_or, map, replicate, slice_get, slice_index, Some, refl, sym, ap, subst, ◌∙◌, arith}
use Rattle.std.proofs.lemmas.List.{length-map, length-replicate, get_or-map}
use Rattle.std.proofs.lemmas.List.Elements.{All-map}
use Rattle.std.proofs.lemmas.Option.{get_or_from_slice_get, slice_get_within}
use Rattle.std.proofs.Math.ListN as listn
use Rattle.flash_layout.specs.Areas.{cells_in}
use Rattle.flash_layout.specs.Maps.{board_map}
use Rattle.flm_descriptor.specs.Shown.{Shown as AlgorithmShown}
use Rattle.board_file.specs.Shown.{Shown as BoardShown}
use Rattle.target_core.specs.World.{World}
use Rattle.target_core.specs.declared.unit.AnyRegisters.{AnyRegisters}
use Rattle.target_core.specs.Units.{fresh}
use Rattle.algo_calls.specs.Frames.{loaded}
use Rattle.algo_calls.specs.Setups.{setup_of}
use Rattle.shadow_step.specs.declared.marks.Mark.{Mark}
use Rattle.shadow_step.specs.declared.marks.Mark.TheVariants.{Known, Any}
use Rattle.shadow_step.specs.Marks.{is_known, known_if}
use Rattle.duty_proofs.specs.TargetMarks.{Alike, TargetMarks}
use Rattle.duty_proofs.specs.Runs.{Weakens}
use Rattle.duty_proofs.specs.Decided.{State}
use Rattle.duty_runs.specs.declared.between.Between.{Between}
use Rattle.duty_runs.specs.Runs.{Leaves}
use Rattle.duty_table.specs.Alike.{FitsOne, SaysNoMore}
use Rattle.duty_table.specs.States.{state_in}
use Rattle.duty_table.specs.Filled.{AreStates, EntersOne, IsState, load_state, state_at}

-- ---- between calls

plainly : (x : Bool) → is_known (known_if x) ≡ false → known_if x ≡ Any
plainly true e = absurd cc
plainly false e = refl

-- the mark of a byte: Known where the byte is known, Any where it isn't
mark_there : (known : List Bool) (k : ℕ) → get_or (map known_if known) k Any ≡ known_if (get_or known k false)
mark_there known k = listn.get_or-map known_if known k false

is_state : (b : BoardShown) (st : Between) → IsState b (state_in b st)
is_state b st = record {
  between = record {
    idle = st.idle;
    plain = λ k e. mark_there st.known.items k ∙ plainly (get_or st.known.items k false)
        (sym (ap (λ (m : Mark). is_known m) (mark_there st.known.items k)) ∙ e);
    none = refl;
    zero' = refl;
  };
  sized = length-replicate (cells_in (board_map b).areas) 0;
}

pub are_states : (b : BoardShown) (sts : List Between) → AreStates b (map (state_in b) sts)
are_states b sts = All-map (IsState b) (state_in b) sts (λ i d below. is_state b (get_or sts i d))

-- ---- a state that says no more than another

known_back : (x : Bool) → known_if x ≡ Known → x ≡ true
known_back true e = refl
known_back false e = absurd cc

pub weakens : (b : BoardShown) (one other : Between) (m : TargetMarks) (w : World) → SaysNoMore one other → Leaves (state_in b one) m w
    → Weakens m w (state_in b other).marks (state_in b other).world
weakens b one other m w more leaves = record {
  base = sym (ap (λ (x : TargetMarks). x.base) leaves.marks);
  map = sym (ap (λ (x : TargetMarks). x.map) leaves.marks);
  many = length-map other.known.items known_if ∙ other.long ∙ more.long ∙ sym one.long ∙ sym (length-map one.known.items known_if)
      ∙ sym (ap (λ (x : TargetMarks). length x.ram) leaves.marks);
  long = more.long ∙ sym (ap (λ (x : World). length x.ram) leaves.world);
  base' = sym (ap (λ (x : World). x.ram_base) leaves.world);
  map' = sym (ap (λ (x : World). x.map) leaves.world);
  ram = λ k is.
      let it : get_or other.known.items k false ≡ true = known_back (get_or other.known.items k false) (sym (mark_there other.known.items k) ∙ is) in
      let both = more.ram k it in (
        ap (λ (x : TargetMarks). get_or x.ram k Any) leaves.marks ∙ mark_there one.known.items k ∙ ap known_if both.0,
        ap (λ (x : World). slice_index x.ram k) leaves.world ∙ both.1,
      );
  plain = (is_state b other).between.plain;
  state = refl;
  registers = subst (λ (x : TargetMarks). (r : AnyRegisters) → Alike x.address x.state.registers r → Alike other.address other.state.registers r)
      (sym leaves.marks) more.registers.each;
  idle = ap (λ (x : TargetMarks). x.state.operation) leaves.marks ∙ one.idle;
  idle' = other.idle;
  cells = length-replicate (cells_in (board_map b).areas) 0 ∙ sym (leaves.cells ∙ length-replicate (cells_in (board_map b).areas) 0);
  none = (refl, refl);
}

-- the table's state at a place is the code's state at this place
state_there : (b : BoardShown) (a : AlgorithmShown) (sts : List Between) (i : ℕ) (st : Between) → slice_get sts i ≡ Some st
    → state_at b a (map (state_in b) sts) i ≡ state_in b st
state_there b a sts i st is =
    get_or-map (state_in b) sts i st (load_state b a) (slice_get_within sts i st is) ∙ ap (state_in b) (get_or_from_slice_get sts i st st is)

pub enters : (b : BoardShown) (a : AlgorithmShown) (left : Between) (sts : List Between) (m : TargetMarks) (w : World) → FitsOne left sts
    → Leaves (state_in b left) m w → EntersOne b a (map (state_in b) sts) m w
enters b a left sts m w fits leaves = (
  fits.at,
  omega (arith, slice_get_within sts fits.at fits.state fits.is, length-map sts (state_in b)),
  subst (λ (st : State). Weakens m w st.marks st.world) (sym (state_there b a sts fits.at fits.state fits.is)) (weakens b left fits.state m w fits.fits leaves),
)

-- ---- after a load

known_all : (n : ℕ) → map known_if (replicate n true) ≡ replicate n Known
known_all zero = refl
known_all (suc n) = ap (λ (l : List Mark). Known ∷ l) (known_all n)

pub load_is : (b : BoardShown) (a : AlgorithmShown) (st : Between) → st.ram.items ≡ loaded (setup_of a b) → st.known.items ≡ replicate b.ram_size true
    → length st.ram.items ≡ b.ram_size → st.state ≡ fresh b.kind → st.address ≡ true → state_in b st ≡ load_state b a
load_is b a st ram known long state address =
    let marks : map known_if st.known.items ≡ replicate (length (loaded (setup_of a b))) Known =
    ap (λ (l : List Bool). map known_if l) known ∙ known_all b.ram_size ∙ ap (λ (n : ℕ). replicate n Known) (sym long ∙ ap (λ (l : List ℕ). length l) ram) in
    rw (marks, ram, state, address) refl
