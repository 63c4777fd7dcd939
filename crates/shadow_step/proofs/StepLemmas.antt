-- An instruction does in another run what the marks of the run at hand say.
use Rattle.std.proofs.Common.{◌≡◌, ℕ, Option, Some, None, Result, Ok, refl, ap, ◌∙◌}
use Rattle.bench_model.specs.declared.bench_fault.BusEnd.{BusEnd}
use Rattle.armv6m_decode.specs.declared.instr.Instr.{Instr}
use Rattle.armv6m_decode.specs.declared.instr.Instr.TheVariants as instr
use Rattle.armv6m_decode.specs.declared.instr.Decoded.{Decoded}
use Rattle.armv6m_decode.specs.declared.instr.Decoded.TheVariants as decoded_as
use Rattle.armv6m_decode.specs.declared.registers.TheConstants.{PC}
use Rattle.armv6m_decode.specs.Table.{decoded, decoded_pair}
use Rattle.armv6m_step.specs.declared.core_state.Core.{Core}
use Rattle.armv6m_step.specs.Access.{Load}
use Rattle.armv6m_step.specs.Meaning.{Meaning, load}
use Rattle.armv6m_step.specs.Registers.{pc_of}
use Rattle.armv6m_step.specs.Numbers.{sum}
use Rattle.armv6m_step.specs.Step.{meaning, of_pair, of_halfword, instruction}
use Rattle.armv6m_step.specs.Functional.{Answering, step_of}
use Rattle.shadow_step.specs.declared.marks.CoreMarks.{CoreMarks}
use Rattle.shadow_step.specs.Marks.{Pages, ArePages, CoreAgrees, is_known, mark_at}
use Rattle.shadow_step.specs.Rows.{alu_marks, branch_marks}
use Rattle.shadow_step.specs.OtherRows.{other_marks}
use Rattle.shadow_step.specs.Shadow.{Shadow, Marks, IsShadow, Follows}
use Rattle.shadow_step.specs.Steps.{instr_marks, fetched, pair_marks, half_marks, step_marks}
use Rattle.shadow_step.proofs.MarkLemmas.{known_same}
use Rattle.shadow_step.proofs.RowLemmas.{alu_agrees}
use Rattle.shadow_step.proofs.BranchLemmas.{branch_agrees}
use Rattle.shadow_step.proofs.OtherLemmas.{other_agrees}
use Rattle.shadow_step.proofs.AccessLemmas.{none_goes, only_goes, then_goes, gives_goes, load_goes}
use Rattle.shadow_step.proofs.MemoryLemmas.{Go, memory_goes, many_goes}

same_ok : (v w : ℕ) (a : Result ℕ BusEnd) → a ≡ Ok v → a ≡ Ok w → v ≡ w
same_ok v w a l r = cc

module _ {B M : Type 0} (p : Pages) (bytes : ArePages p) (answers : Answering B) (Agrees : M → B → B → Type 0) (s : Shadow M)
    (is : IsShadow p answers Agrees s) (t : CoreMarks) (core core' : Core) (agrees : CoreAgrees p t core core') (at : pc_of core' ≡ pc_of core)
    (m : M) (b b' : B) (bus : Agrees m b b') where
  abbrev Does : Option (Marks M) → Meaning → Meaning → Type 0
  Does x then' then'' = Go p bytes answers Agrees s is x then' then'' core core' b b'

  instr_goes : (next next' : ℕ) → next' ≡ next → (op : Instr) → Does (instr_marks s t m core op) (meaning core next op) (meaning core' next' op)
  instr_goes next next' follows (instr.Alu op) = gives_goes p answers Agrees s is (alu_marks t op) m core core' b b' _ _ bus
      (alu_agrees p t core core' next next' agrees follows bytes op)
  instr_goes next next' follows (instr.Memory op) = memory_goes p bytes answers Agrees s is t core core' next next' agrees follows m b b' bus at op
  instr_goes next next' follows (instr.Many op) = many_goes p bytes answers Agrees s is t core core' agrees next next' follows m b b' bus op
  instr_goes next next' follows (instr.Branch op) = gives_goes p answers Agrees s is (branch_marks t op) m core core' b b' _ _ bus
      (branch_agrees p t core core' next next' agrees follows at op)
  instr_goes next next' follows (instr.Other op) = gives_goes p answers Agrees s is (other_marks t op) m core core' b b' _ _ bus
      (other_agrees p t core core' next next' agrees follows at bytes op)

  after : (by : ℕ) → sum (pc_of core') by ≡ sum (pc_of core) by
  after by = ap (λ (x : ℕ). sum x by) at

  pair_goes : (op : Option Instr) → Does (pair_marks s t m core op) (of_pair core op) (of_pair core' op)
  pair_goes None = none_goes p answers Agrees s is _ _
  pair_goes (Some op) = instr_goes _ _ (after 4) op

  -- a halfword that is fetched is the same in both runs
  fetch_goes : (from from' half : ℕ) (x : Option (Marks M)) (then' then'' : ℕ → Meaning) → from' ≡ from → (answers b (Load 2 from)).0 ≡ Ok half →
      Does x (then' half) (then'' half) → Does (fetched s m from x) (load 2 from then') (load 2 from' then'')
  fetch_goes from from' half x then' then'' there is_half goes =
      then_goes p answers Agrees s is (s.load m 2 from) _ _ _
      (λ k e. load_goes p answers Agrees s is _ m 2 from from' then' then'' core core' b b' k there bus e
      (λ v v' answered says. only_goes p answers Agrees s is (is_known k) x _ _
      (λ h.
      let here : v ≡ half = same_ok v half _ answered is_half in
      let other : v' ≡ half = known_same p k v v' says h ∙ here in
      rw (here, other) goes)))

  half_goes : (half second : ℕ) (op : Decoded) → (op ≡ decoded_as.NeedsSecond → (answers b (Load 2 (sum (pc_of core) 2))).0 ≡ Ok second) →
      Does (half_marks s t m core half second op) (of_halfword core half op) (of_halfword core' half op)
  half_goes half second (decoded_as.Op op) fetches = instr_goes _ _ (after 2) op
  half_goes half second decoded_as.NeedsSecond fetches =
      fetch_goes (sum (pc_of core) 2) (sum (pc_of core') 2) second (pair_marks s t m core (decoded_pair half second))
      (λ x. of_pair core (decoded_pair half x)) (λ x. of_pair core' (decoded_pair half x)) (after 2) (fetches refl) (pair_goes (decoded_pair half second))
  half_goes half second decoded_as.Undefined fetches = none_goes p answers Agrees s is _ _

-- one instruction in both runs, by the halfwords that the run at hand fetches
pub step_follows : {B M : Type 0} (p : Pages) → ArePages p → (answers : Answering B) (Agrees : M → B → B → Type 0) (s : Shadow M) →
    IsShadow p answers Agrees s →
    (t : CoreMarks) (m : M) (core core' : Core) (b b' : B) → CoreAgrees p t core core' → Agrees m b b'
    → (half second : ℕ) → (answers b (Load 2 (pc_of core))).0 ≡ Ok half
    → (decoded half ≡ decoded_as.NeedsSecond → (answers b (Load 2 (sum (pc_of core) 2))).0 ≡ Ok second)
    → Follows p Agrees (step_marks s t m core half second) (step_of answers core b) (step_of answers core' b')
unfolding step_marks step_of instruction
step_follows p bytes answers Agrees s is t m core core' b b' agrees bus half second first fetches =
    only_goes p answers Agrees s is (is_known (mark_at t PC)) _ _ _
    (λ k.
    let at : pc_of core' ≡ pc_of core = known_same p (mark_at t PC) (pc_of core) (pc_of core') (agrees.regs PC) k in
    fetch_goes p bytes answers Agrees s is t core core' agrees at m b b' bus (pc_of core) (pc_of core') half (half_marks s t m core half second (decoded half))
    (λ x. of_halfword core x (decoded x)) (λ x. of_halfword core' x (decoded x)) at first
    (half_goes p bytes answers Agrees s is t core core' agrees at m b b' bus half second (decoded half) fetches))
