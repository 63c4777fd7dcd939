-- A quick step does the instruction of a halfword, if its arm does what the instruction means.
use Rattle.std.proofs.Common.{◌≡◌, ℕ, List, refl, sym, ap, subst, ◌∙◌}
use Rattle.std.proofs.lemmas.List.{set-get_or}
use Rattle.armv6m_decode.specs.declared.instr.Alu.{Alu}
use Rattle.armv6m_decode.specs.declared.instr.Branch.{Branch}
use Rattle.armv6m_decode.specs.declared.instr.Instr.{Instr}
use Rattle.armv6m_decode.specs.declared.instr.Other.{Other}
use Rattle.armv6m_decode.specs.declared.instr.Instr.TheVariants as instr
use Rattle.armv6m_decode.specs.declared.instr.Decoded.{Decoded}
use Rattle.armv6m_decode.specs.declared.instr.Decoded.TheVariants.{Op}
use Rattle.armv6m_decode.specs.Table.{decoded}
use Rattle.armv6m_step.specs.declared.core_state.Core.{Core}
use Rattle.armv6m_step.specs.declared.quick.Quick.{Quick}
use Rattle.armv6m_step.specs.declared.quick.Quick.TheVariants.{Went, Done, Left}
use Rattle.armv6m_step.specs.BranchRows.{branch}
use Rattle.armv6m_step.specs.DataRows.{alu}
use Rattle.armv6m_step.specs.Ends.{Outcome}
use Rattle.armv6m_step.specs.declared.ends.StepEnd.{StepEnd}
use Rattle.armv6m_step.specs.declared.ends.StepEnd.TheVariants as end
use Rattle.armv6m_step.specs.Meaning.{Gives, Acts, Runs}
use Rattle.armv6m_step.specs.Numbers.{sum}
use Rattle.armv6m_step.specs.OtherRows.{other}
use Rattle.armv6m_step.specs.Quick.{Goes, Steps}
use Rattle.armv6m_step.specs.Registers.{pc_of, moved}
use Rattle.armv6m_step.specs.Step.{meaning, of_halfword, instruction}

module _ {B : Type 0} (acts : Acts B) (core core' : Core) (half pc : ℕ) (bus : B) where
  -- a quick step with an instruction's meaning is a quick step of its halfword
  pub fetched : (result : Quick) (bus' : B) (i : Instr) → decoded half ≡ Op i → pc ≡ pc_of core →
      Steps acts (meaning core (sum pc 2) i) core bus result core' bus'
      → Steps acts (of_halfword core half (decoded half)) core bus result core' bus'
  fetched result bus' i is at done =
      subst (λ (d : Decoded). Steps acts (of_halfword core half d) core bus result core' bus') (sym is)
      (subst (λ (n : ℕ). Steps acts (meaning core (sum n 2) i) core bus result core' bus') at done)

  goes : (result : Quick) (o : Outcome) → Goes o core' result → Steps acts (Gives o) core bus result core' bus
  unfolding Runs
  goes (Went to) o done = subst (λ (x : Outcome). Steps acts (Gives x) core bus (Went to) core' bus) (sym done) ((refl, refl), refl)
  goes (Done e) o done = absurd done
  goes Left o done = absurd done

  pub alu_goes : (result : Quick) (op : Alu) → decoded half ≡ Op (instr.Alu op) → pc ≡ pc_of core → Goes (alu core (sum pc 2) op) core' result
      → Steps acts (of_halfword core half (decoded half)) core bus result core' bus
  alu_goes result op is at done = fetched result bus (instr.Alu op) is at (goes result (alu core (sum pc 2) op) done)

  pub branch_goes : (result : Quick) (op : Branch) → decoded half ≡ Op (instr.Branch op) → pc ≡ pc_of core → Goes (branch core (sum pc 2) op) core' result
      → Steps acts (of_halfword core half (decoded half)) core bus result core' bus
  branch_goes result op is at done = fetched result bus (instr.Branch op) is at (goes result (branch core (sum pc 2) op) done)

  pub other_goes : (result : Quick) (op : Other) → decoded half ≡ Op (instr.Other op) → pc ≡ pc_of core → Goes (other core (sum pc 2) op) core' result
      → Steps acts (of_halfword core half (decoded half)) core bus result core' bus
  other_goes result op is at done = fetched result bus (instr.Other op) is at (goes result (other core (sum pc 2) op) done)

-- a core whose PC is set to the one that it has stays the same
pub moved_here : (core : Core) → moved core (pc_of core) ≡ core
unfolding moved
moved_here core = ap (λ (l : List ℕ). let c : Core = record core { regs = l } in c) (set-get_or core.regs 15 0)

-- What a quick step leaves, from a core whose PC was set.

module _ {B : Type 0} (acts : Acts B) (core held core' : Core) (bus bus' : B) (result : Quick) (given : held ≡ core)
    (done : Steps acts (instruction held) held bus result core' bus') where
  here : Steps acts (instruction core) core bus result core' bus'
  here = subst (λ (c : Core). Steps acts (instruction c) c bus result core' bus') given done

  pub was_went : (to pc : ℕ) → result ≡ Went to → pc ≡ to → Runs acts (instruction core) core bus end.Went (moved core' pc) bus'
  was_went to pc is at =
      subst (λ (n : ℕ). Runs acts (instruction core) core bus end.Went (moved core' n) bus') (sym at)
      (subst (λ (q : Quick). Steps acts (instruction core) core bus q core' bus') is here)

  pub was_done : (e : StepEnd) (pc : ℕ) → result ≡ Done e → pc ≡ pc_of core' → Runs acts (instruction core) core bus e (moved core' pc) bus'
  was_done e pc is at =
      subst (λ (c : Core). Runs acts (instruction core) core bus e c bus') (sym (ap (moved core') at ∙ moved_here core'))
      (subst (λ (q : Quick). Steps acts (instruction core) core bus q core' bus') is here)

  pub was_left : (e : StepEnd) (pc : ℕ) (core'' : Core) (bus'' : B) → result ≡ Left → pc ≡ pc_of core'' →
      Runs acts (instruction core') core' bus' e core'' bus''
      → Runs acts (instruction core) core bus e (moved core'' pc) bus''
  was_left e pc core'' bus'' is at runs =
      let none : (core' ≡ core) × (bus' ≡ bus) = subst (λ (q : Quick). Steps acts (instruction core) core bus q core' bus') is here in
      subst (λ (c : Core). Runs acts (instruction core) core bus e c bus'') (sym (ap (moved core'') at ∙ moved_here core''))
      (subst (λ (b : B). Runs acts (instruction core) core b e core'' bus'') none.1
      (subst (λ (c : Core). Runs acts (instruction c) c bus' e core'' bus'') none.0 runs))
