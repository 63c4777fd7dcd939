-- A branch goes to the same address in another run.
use Rattle.std.proofs.Common.{◌≡◌, ◌-◌, ◌%◌, ◌&&◌, ◌||◌, ℕ, Bool, true, false, not, nat_eq, if◌then◌else◌, Option, Some, None, Ok, Err}
use Rattle.std.proofs.Common.{refl, ap, ap₂}
use Rattle.std.proofs.lemmas.Bool.{and_parts}
use Rattle.armv6m_decode.specs.declared.instr.Branch.{Branch}
use Rattle.armv6m_decode.specs.declared.instr.Branch.TheVariants.{Bx, Blx, Bcc, B, Bl}
use Rattle.armv6m_decode.specs.declared.condition.Condition.{Condition}
use Rattle.armv6m_decode.specs.declared.condition.Condition.TheVariants.{Equal, NotEqual, CarrySet, CarryClear, Minus, Plus, Overflow, NoOverflow, Higher}
use Rattle.armv6m_decode.specs.declared.condition.Condition.TheVariants.{LowerOrSame, GreaterOrEqual, LessThan, GreaterThan, LessOrEqual}
use Rattle.armv6m_decode.specs.declared.registers.TheConstants.{LR}
use Rattle.armv6m_decode.specs.Targets.{branch_target}
use Rattle.armv6m_step.specs.declared.core_state.Core.{Core}
use Rattle.armv6m_step.specs.Ends.{Outcome, BadState}
use Rattle.armv6m_step.specs.Registers.{moved, pc_of}
use Rattle.armv6m_step.specs.Numbers.{sum}
use Rattle.armv6m_step.specs.ListRows.{branch_exchange}
use Rattle.armv6m_step.specs.BranchRows.{branch, holds, linked, same}
use Rattle.shadow_step.specs.declared.marks.Mark.TheVariants.{Known}
use Rattle.shadow_step.specs.declared.marks.CoreMarks.{CoreMarks}
use Rattle.shadow_step.specs.Marks.{Pages, CoreAgrees, gone}
use Rattle.shadow_step.specs.Rows.{Lockstep, known, decides, linked_marks, branch_marks}
use Rattle.shadow_step.proofs.MarkLemmas.{operand_same, put_agrees, gone_agrees}

both_ways : (a a' b b' : Bool) → a' ≡ a → b' ≡ b → same a' b' ≡ same a b
both_ways a a' b b' l r = ap₂ same l r

pub exchange_by : (p : Pages) (t : CoreMarks) (core core' : Core) (pc pc' target : ℕ) (odd : Bool) → CoreAgrees p t core core' →
    Lockstep p (Some (gone t)) (if odd then Ok (moved core (target - 1)) else Err (BadState pc))
    (if odd then Ok (moved core' (target - 1)) else Err (BadState pc'))
exchange_by p t core core' pc pc' target true agrees = gone_agrees p t core core' agrees (target - 1) (target - 1) refl
exchange_by p t core core' pc pc' target false agrees = tt

pub exchange_agrees : (p : Pages) (t : CoreMarks) (core core' : Core) (pc pc' target target' : ℕ) → CoreAgrees p t core core' → target' ≡ target →
    Lockstep p (Some (gone t)) (branch_exchange pc core target) (branch_exchange pc' core' target')
exchange_agrees p t core core' pc pc' target target' agrees is =
    rw is (exchange_by p t core core' pc pc' target (nat_eq (target % 2) 1) agrees)

module _ (p : Pages) (t : CoreMarks) (core core' : Core) (next next' : ℕ) (agrees : CoreAgrees p t core core') (follows : next' ≡ next)
    (at : pc_of core' ≡ pc_of core) where
  holds_same : (condition : Condition) → decides t condition ≡ true → holds core' condition ≡ holds core condition
  holds_same Equal k = agrees.z k
  holds_same NotEqual k = ap not (agrees.z k)
  holds_same CarrySet k = agrees.c k
  holds_same CarryClear k = ap not (agrees.c k)
  holds_same Minus k = agrees.n k
  holds_same Plus k = ap not (agrees.n k)
  holds_same Overflow k = agrees.v k
  holds_same NoOverflow k = ap not (agrees.v k)
  holds_same Higher k =
      let e : (t.c ≡ true) × (t.z ≡ true) = and_parts _ _ k in
      ap₂ (λ (c z : Bool). c && not z) (agrees.c e.0) (agrees.z e.1)
  holds_same LowerOrSame k =
      let e : (t.c ≡ true) × (t.z ≡ true) = and_parts _ _ k in
      ap₂ (λ (c z : Bool). not c || z) (agrees.c e.0) (agrees.z e.1)
  holds_same GreaterOrEqual k =
      let e : (t.n ≡ true) × (t.v ≡ true) = and_parts _ _ k in
      ap₂ same (agrees.n e.0) (agrees.v e.1)
  holds_same LessThan k =
      let e : (t.n ≡ true) × (t.v ≡ true) = and_parts _ _ k in
      ap not (ap₂ same (agrees.n e.0) (agrees.v e.1))
  holds_same GreaterThan k =
      let e : (t.z ≡ true) × ((t.n && t.v) ≡ true) = and_parts _ _ k in
      let f : (t.n ≡ true) × (t.v ≡ true) = and_parts _ _ e.1 in
      ap₂ (λ (z b : Bool). not z && b) (agrees.z e.0) (ap₂ same (agrees.n f.0) (agrees.v f.1))
  holds_same LessOrEqual k =
      let e : (t.z ≡ true) × ((t.n && t.v) ≡ true) = and_parts _ _ k in
      let f : (t.n ≡ true) × (t.v ≡ true) = and_parts _ _ e.1 in
      ap₂ (λ (z b : Bool). z || not b) (agrees.z e.0) (ap₂ same (agrees.n f.0) (agrees.v f.1))

  link_agrees : CoreAgrees p (linked_marks t) (linked core next) (linked core' next')
  link_agrees = put_agrees p t core core' agrees LR Known (sum next 1) (sum next' 1) (ap (λ (x : ℕ). sum x 1) follows)

  -- if marks depend on a known mark, nothing is said when it isn't known
  where_known : (k : Bool) (some : Option CoreMarks) (o o' : Outcome) → (k ≡ true → Lockstep p some o o') → Lockstep p (if k then some else None) o o'
  where_known true some o o' step = step refl
  where_known false some o o' step = tt

  either : (taken : Bool) (to to' : ℕ) → to' ≡ to →
      Lockstep p (Some (gone t)) (if taken then Ok (moved core to) else Ok (moved core next)) (if taken then Ok (moved core' to') else Ok (moved core' next'))
  either true to to' is = gone_agrees p t core core' agrees to to' is
  either false to to' is = gone_agrees p t core core' agrees next next' follows

  pub branch_agrees : (op : Branch) → Lockstep p (branch_marks t op) (branch core next op) (branch core' next' op)
  branch_agrees (Bx m) = where_known (known t m)
      (Some (gone t)) _ _ (λ k. exchange_agrees p t core core' _ _ _ _ agrees (operand_same p t core core' agrees m k))
  branch_agrees (Blx m) = where_known (known t m) (Some (gone (linked_marks t))) _ _
      (λ k. exchange_agrees p (linked_marks t) (linked core next) (linked core' next') _ _ _ _ link_agrees (operand_same p t core core' agrees m k))
  branch_agrees (Bcc condition i) = where_known (decides t condition) (Some (gone t)) _ _
      (λ k. rw (holds_same condition k) (either (holds core condition) _ _ (ap (λ (x : ℕ). branch_target 8 x i) at)))
  branch_agrees (B i) = gone_agrees p t core core' agrees _ _ (ap (λ (x : ℕ). branch_target 11 x i) at)
  branch_agrees (Bl i) = gone_agrees p (linked_marks t) (linked core next) (linked core' next') link_agrees _ _ (ap (λ (x : ℕ). branch_target 24 x i) at)
