-- Stores to the registers and to the cells, by a controller at hand and one with another address in its address register.
use Rattle.std.proofs.Common.{◌≡◌, ◌<◌, ◌≤◌, ◌+◌, ◌&&◌, ◌||◌, ℕ, suc, Bool, true, false, not, nat_eq, nat_le, if◌then◌else◌, List, ◌∷◌, length, take, drop}
use Rattle.std.proofs.Common.{slice_index, get_or, Option, Some, None, is_some, Result, Ok, refl, sym, ap, ap₂, subst, ◌∙◌, ⊎_elim, arith}
use Rattle.std.proofs.Common.{drop-cons}
use Rattle.std.proofs.Common.{eq-eqb, eqb-true, drop-drop}
use Rattle.std.proofs.lemmas.Bool.{and_parts, or_cases, cases_lt}
use Rattle.std.proofs.lemmas.List.{get_or_past}
use Rattle.std.proofs.Common.{◌⊎◌, [], map, inl, inr}
use Rattle.bench_model.specs.declared.bench_fault.BusEnd.{BusEnd}
use Rattle.flash_layout.specs.declared.area.Area.{Area}
use Rattle.flash_layout.specs.declared.area.Found.{Found}
use Rattle.flash_layout.specs.declared.work.Work.{Work}
use Rattle.flash_layout.specs.declared.work.Work.TheVariants as work
use Rattle.flash_layout.specs.declared.work.Operation.{Operation}
use Rattle.flash_layout.specs.Cells.{cells_at}
use Rattle.flash_layout.specs.Work.{unit_work}
use Rattle.flash_layout.specs.Lock.{is_unlocked}
use Rattle.flash_layout.specs.Maps.{FlashMap}
use Rattle.flash_driver.specs.declared.place.Place.TheVariants as place
use Rattle.flash_driver.specs.declared.state.Effect.{Effect}
use Rattle.flash_driver.specs.declared.state.Effect.TheVariants as effect
use Rattle.flash_driver.specs.Erasures.{all_are, begins_or, erases_first}
use Rattle.flash_driver.specs.Table.{store_at, begun, leaves, seen}
use Rattle.flash_controller.specs.declared.state.State.{State as Fc1State}
use Rattle.flash_controller.specs.Table.{store as fc1_store, started as fc1_started, program as fc1_program}
use Rattle.flash_controller.specs.Table.{is_ready, with_sequence, may_program as fc1_may_program}
use Rattle.fpec_controller.specs.declared.state.State.{State}
use Rattle.fpec_controller.specs.Table.{store as fpec_store, program as fpec_program, control_stored, started, with_bits, has_bit}
use Rattle.fpec_controller.specs.Table.{may_program, half_of, looks}
use Rattle.target_core.specs.declared.unit.AnyRegisters.{AnyRegisters}
use Rattle.target_core.specs.declared.unit.AnyRegisters.TheVariants.{Fc1, Fpec}
use Rattle.target_core.specs.AnyTable.{any_table, any_store, does_as}
use Rattle.target_core.specs.Units.{UnitState}
use Rattle.shadow_step.specs.declared.marks.Mark.{Mark}
use Rattle.shadow_step.specs.declared.marks.Mark.TheVariants.{Known, Any}
use Rattle.shadow_step.specs.Marks.{Pages, Says}
use Rattle.duty_proofs.specs.declared.cells.CellMark.{CellMark}
use Rattle.duty_proofs.specs.declared.cells.CellMark.TheVariants.{Blank, Holds}
use Rattle.duty_proofs.specs.TargetMarks.{TargetMarks, CellSays, with_address, Alike, WorkAgrees, RunsAgree}
use Rattle.duty_proofs.specs.TargetMarks.{is_blank, value_after, starts_sector, spares_address}
use Rattle.duty_proofs.specs.TargetMarks.{fc1_spares, spares, takes_address, programs_unit}

pub same_marks : (a b : TargetMarks) → Some a ≡ Some b → a ≡ b
same_marks a b e = cc

-- a store to a register depends on the operation only by whether one is open
pub store_alike : (map : FlashMap) (r : AnyRegisters) (o o' : Option Operation) (offset v : ℕ) → is_some o' ≡ is_some o →
    any_store map r o' offset v ≡ any_store map r o offset v
unfolding fc1_store fc1_started fpec_store control_stored
store_alike map (Fc1 r) o o' offset v some = rw some refl
store_alike map (Fpec r) o o' offset v some = rw some refl

alike_known : (k : Bool) (r r' : AnyRegisters) → k ≡ true → Alike k r r' → r' ≡ r
alike_known true r r' e alike = alike
alike_known false r r' e alike = cc

pub alike_same : (k : Bool) (r r' : AnyRegisters) → r' ≡ r → Alike k r r'
alike_same true r r' same = same
alike_same false (Fc1 r) r' same = (r.address, same)
alike_same false (Fpec r) r' same = (r.address, same)

same_work : (p : Pages) (x : Work) → WorkAgrees p Known x x
same_work p (work.Half v) = refl
same_work p (work.Word v) = refl
same_work p (work.Fill len v) = (refl, refl)

pub begun_agree : (p : Pages) (k : Mark) (o o' : Option Operation) (e : Effect) → RunsAgree p k o o' → RunsAgree p (value_after e k) (begun o e) (begun o' e)
begun_agree p k o o' (effect.Begins x) agree = (refl, refl, same_work p x.work)
begun_agree p k o o' effect.Fault agree = agree
begun_agree p k o o' effect.Taken agree = agree

not_true : (b : Bool) → not b ≡ true → b ≡ false
not_true true e = cc
not_true false e = refl

-- an effect and its registers, with another address in the address register
abbrev pub addressed : ℕ → Effect × AnyRegisters → Effect × AnyRegisters
addressed x q = (q.0, with_address q.1 x)

-- a store to the address register while no operation runs
address_stored_same : (map : FlashMap) (r : State) (x : ℕ) (o o' : Option Operation) (v : ℕ) → is_some o ≡ false → is_some o' ≡ false →
    any_store map (with_address (Fpec r) x) o' 0x14 v ≡ any_store map (Fpec r) o 0x14 v
unfolding fpec_store
address_stored_same map r x o o' v idle idle' = rw (idle, idle') refl

pick : (x : ℕ) (a b : Bool) (s t u s' t' u' : Effect × State) → does_as Fpec s' ≡ addressed x (does_as Fpec s) → does_as Fpec t' ≡ addressed x (does_as Fpec t)
    → does_as Fpec u' ≡ addressed x (does_as Fpec u)
    → does_as Fpec (if a then s' else if b then t' else u') ≡ addressed x (does_as Fpec (if a then s else if b then t else u))
pick x true b s t u s' t' u' one two three = one
pick x false true s t u s' t' u' one two three = two
pick x false false s t u s' t' u' one two three = three

-- the address doesn't matter for an operation that is begun, or none
begins_spared : (r : State) (x : ℕ) (o : Option Operation) → does_as Fpec (begins_or o (record r { address = x }) (record r {
  address =
      x;
})) ≡ addressed x (does_as Fpec (begins_or o r r))
begins_spared r x None = refl
begins_spared r x (Some o) = refl

-- the address doesn't matter for a start that isn't a sector erase
started_by : (map : FlashMap) (r : State) (x : ℕ) (all : Bool) → (r.erases_sector && not r.erases_all) ≡ false → (r.erases_all && not r.erases_sector) ≡ all
    → does_as Fpec (started map (record r { address = x })) ≡ addressed x (does_as Fpec (started map r))
unfolding started
started_by map r x true none all = rw (none, all) (begins_spared r x (erases_first map))
started_by map r x false none all = rw (none, all) refl

control_by : (map : FlashMap) (r : State) (x : ℕ) (o o' : Option Operation) (v : ℕ) (start : Bool) → is_some o' ≡ is_some o → has_bit v 64 ≡ start
    → (start && (has_bit v 2 && not (has_bit v 4))) ≡ false
    → any_store map (with_address (Fpec r) x) o' 0x10 v ≡ addressed x (any_store map (Fpec r) o 0x10 v)
unfolding fpec_store control_stored
control_by map r x o o' v false some is none = rw (some, is) (pick x (not (is_unlocked r.lock) || is_some o) (has_bit v 128) _ _ _ _ _ _ refl refl refl)
control_by map r x o o' v true some is none =
    rw (some, is) (pick x (not (is_unlocked r.lock) || is_some o) (has_bit v 128) _ _ _ _ _ _ refl refl
    (started_by map (with_bits r v) x (has_bit v 4 && not (has_bit v 2)) none refl))

control_spared : (map : FlashMap) (r : State) (x : ℕ) (o o' : Option Operation) (v : ℕ) → is_some o' ≡ is_some o → starts_sector v ≡ false →
    any_store map (with_address (Fpec r) x) o' 0x10 v ≡ addressed x (any_store map (Fpec r) o 0x10 v)
control_spared map r x o o' v some none = control_by map r x o o' v (has_bit v 64) some refl none

key_spared : (map : FlashMap) (r : State) (x : ℕ) (o o' : Option Operation) (v : ℕ) →
    any_store map (with_address (Fpec r) x) o' 0x04 v ≡ addressed x (any_store map (Fpec r) o 0x04 v)
unfolding fpec_store
key_spared map r x o o' v = refl

status_spared : (map : FlashMap) (r : State) (x : ℕ) (o o' : Option Operation) (v : ℕ) →
    any_store map (with_address (Fpec r) x) o' 0x0C v ≡ addressed x (any_store map (Fpec r) o 0x0C v)
unfolding fpec_store
status_spared map r x o o' v = refl

spared : (map : FlashMap) (r : State) (x : ℕ) (o o' : Option Operation) (offset v : ℕ) → is_some o' ≡ is_some o → spares_address offset v ≡ true →
    any_store map (with_address (Fpec r) x) o' offset v ≡ addressed x (any_store map (Fpec r) o offset v)
spared map r x o o' offset v some e =
    let Same : ℕ → Type 0 = λ n. any_store map (with_address (Fpec r) x) o' n v ≡ addressed x (any_store map (Fpec r) o n v) in
    ⊎_elim
    (λ (plain : (nat_eq offset 0x04 || nat_eq offset 0x0C) ≡ true). ⊎_elim
    (λ (key : nat_eq offset 0x04 ≡ true). let at : offset ≡ 0x04 = eqb-true _ _ key in subst Same (sym at) (key_spared map r x o o' v))
    (λ (status : nat_eq offset 0x0C ≡ true). let at : offset ≡ 0x0C = eqb-true _ _ status in subst Same (sym at) (status_spared map r x o o' v))
    (or_cases _ _ plain))
    (λ (control : (nat_eq offset 0x10 && not (starts_sector v)) ≡ true).
    let parts : (nat_eq offset 0x10 ≡ true) × (not (starts_sector v) ≡ true) = and_parts _ _ control in
    let at : offset ≡ 0x10 = eqb-true _ _ parts.0 in
    subst Same (sym at) (control_spared map r x o o' v some (not_true (starts_sector v) parts.1)))
    (or_cases _ _ e)

-- stores to FC1 that don't look at the address register

fc1_begins_spared : (r : Fc1State) (x : ℕ) (o : Option Operation) →
    does_as Fc1 (begins_or o (record r { address = x }) (with_sequence (record r { address = x })))
    ≡ addressed x (does_as Fc1 (begins_or o r (with_sequence r)))
fc1_begins_spared r x None = refl
fc1_begins_spared r x (Some o) = refl

fc1_key_spared : (map : FlashMap) (r : Fc1State) (x : ℕ) (o o' : Option Operation) (v : ℕ) →
    any_store map (with_address (Fc1 r) x) o' 0 v ≡ addressed x (any_store map (Fc1 r) o 0 v)
unfolding fc1_store
fc1_key_spared map r x o o' v = refl

fc1_status_spared : (map : FlashMap) (r : Fc1State) (x : ℕ) (o o' : Option Operation) (v : ℕ) →
    any_store map (with_address (Fc1 r) x) o' 4 v ≡ addressed x (any_store map (Fc1 r) o 4 v)
unfolding fc1_store
fc1_status_spared map r x o o' v = refl

command_by : (map : FlashMap) (r : Fc1State) (x : ℕ) (o o' : Option Operation) (v : ℕ) (may : Bool) → is_some o' ≡ is_some o →
    (is_ready r o && nat_le v 3) ≡ may →
    any_store map (with_address (Fc1 r) x) o' 8 v ≡ addressed x (any_store map (Fc1 r) o 8 v)
unfolding fc1_store
command_by map r x o o' v true some e = rw (some, e) refl
command_by map r x o o' v false some e = rw (some, e) refl

start_by : (map : FlashMap) (r : Fc1State) (x : ℕ) (o o' : Option Operation) (v : ℕ) (ready one all : Bool) → is_some o' ≡ is_some o → is_ready r o ≡ ready
    → nat_eq v 1 ≡ one → nat_eq r.command 3 ≡ all → nat_eq r.command 2 ≡ false
    → any_store map (with_address (Fc1 r) x) o' 16 v ≡ addressed x (any_store map (Fc1 r) o 16 v)
unfolding fc1_store fc1_started
start_by map r x o o' v true true true some e f g none = rw (some, e, f, g, none) (fc1_begins_spared r x (erases_first map))
start_by map r x o o' v true true false some e f g none = rw (some, e, f, g, none) refl
start_by map r x o o' v true false all some e f g none = rw (some, e, f) refl
start_by map r x o o' v false one all some e f g none = rw (some, e) refl

fc1_spared : (map : FlashMap) (r : Fc1State) (x : ℕ) (o o' : Option Operation) (offset v : ℕ) → is_some o' ≡ is_some o → fc1_spares r offset ≡ true →
    any_store map (with_address (Fc1 r) x) o' offset v ≡ addressed x (any_store map (Fc1 r) o offset v)
fc1_spared map r x o o' offset v some e =
    let Same : ℕ → Type 0 = λ n. any_store map (with_address (Fc1 r) x) o' n v ≡ addressed x (any_store map (Fc1 r) o n v) in
    ⊎_elim
    (λ (plain : (nat_eq offset 0 || nat_eq offset 4) ≡ true). ⊎_elim
    (λ (key : nat_eq offset 0 ≡ true). let at : offset ≡ 0 = eqb-true _ _ key in subst Same (sym at) (fc1_key_spared map r x o o' v))
    (λ (status : nat_eq offset 4 ≡ true). let at : offset ≡ 4 = eqb-true _ _ status in subst Same (sym at) (fc1_status_spared map r x o o' v))
    (or_cases _ _ plain))
    (λ (rest : (nat_eq offset 8 || (nat_eq offset 16 && not (nat_eq r.command 2))) ≡ true). ⊎_elim
    (λ (command : nat_eq offset 8 ≡ true). let at : offset ≡ 8 = eqb-true _ _ command in
    subst Same (sym at) (command_by map r x o o' v (is_ready r o && nat_le v 3) some refl))
    (λ (start : (nat_eq offset 16 && not (nat_eq r.command 2)) ≡ true).
    let parts : (nat_eq offset 16 ≡ true) × (not (nat_eq r.command 2) ≡ true) = and_parts _ _ start in
    let at : offset ≡ 16 = eqb-true _ _ parts.0 in
    subst Same (sym at) (start_by map r x o o' v (is_ready r o) (nat_eq v 1) (nat_eq r.command 3) some refl refl refl (not_true (nat_eq r.command 2) parts.1)))
    (or_cases _ _ rest))
    (or_cases _ _ e)

pub any_spared : (map : FlashMap) (r : AnyRegisters) (x : ℕ) (o o' : Option Operation) (offset v : ℕ) → is_some o' ≡ is_some o → spares r offset v ≡ true →
    any_store map (with_address r x) o' offset v ≡ addressed x (any_store map r o offset v)
any_spared map (Fc1 r) x o o' offset v some e = fc1_spared map r x o o' offset v some e
any_spared map (Fpec r) x o o' offset v some e = spared map r x o o' offset v some e

fc1_address_same : (map : FlashMap) (r : Fc1State) (x : ℕ) (o o' : Option Operation) (v : ℕ) → is_some o' ≡ is_some o → is_ready r o ≡ true →
    any_store map (with_address (Fc1 r) x) o' 12 v ≡ any_store map (Fc1 r) o 12 v
unfolding fc1_store
fc1_address_same map r x o o' v some ready = rw (some, ready) refl

pub any_taken : (map : FlashMap) (r : AnyRegisters) (x : ℕ) (o o' : Option Operation) (offset v : ℕ) → is_some o' ≡ is_some o →
    takes_address r o offset ≡ true →
    any_store map (with_address r x) o' offset v ≡ any_store map r o offset v
any_taken map (Fc1 r) x o o' offset v some e =
    let parts : (nat_eq offset 12 ≡ true) × (is_ready r o ≡ true) = and_parts _ _ e in
    let at : offset ≡ 12 = eqb-true _ _ parts.0 in
    subst (λ (n : ℕ). any_store map (with_address (Fc1 r) x) o' n v ≡ any_store map (Fc1 r) o n v) (sym at) (fc1_address_same map r x o o' v some parts.1)
any_taken map (Fpec r) x o o' offset v some e =
    let parts : (nat_eq offset 0x14 ≡ true) × (not (is_some o) ≡ true) = and_parts _ _ e in
    let at : offset ≡ 0x14 = eqb-true _ _ parts.0 in
    let idle : is_some o ≡ false = not_true (is_some o) parts.1 in
    subst (λ (n : ℕ). any_store map (with_address (Fpec r) x) o' n v ≡ any_store map (Fpec r) o n v) (sym at)
    (address_stored_same map r x o o' v idle (some ∙ idle))

-- the marks after a store outside the RAM, by the rows of both runs
pub record DeviceStored (p : Pages) (m m' : TargetMarks) (row row' : Result (Prim.Unit {0}) BusEnd × UnitState) : Type 0 where
  pub answer : row'.0 ≡ row.0
  pub state : row.1 ≡ m'.state
  pub registers : Alike m'.address m'.state.registers row'.1.registers
  pub runs : RunsAgree p m'.value m'.state.operation row'.1.operation
  pub base : m'.base ≡ m.base
  pub map : m'.map ≡ m.map
  pub ram : m'.ram ≡ m.ram
  pub from : m'.from ≡ m.from
  pub cells : m'.cells ≡ m.cells

-- two cells that are erased
pub blank_two : (cells : List ℕ) (at : ℕ) → at + 2 ≤ length cells → slice_index cells at ≡ 0xFF → slice_index cells (at + 1) ≡ 0xFF →
    all_are 0xFF (cells_at cells at 2) ≡ true
blank_two cells at fits one two =
    let next : at + 1 ≡ suc at = omega arith in
    let first : drop at cells ≡ slice_index cells at ∷ drop (suc at) cells = drop-cons cells at 0 (omega (arith, fits)) in
    let second : drop (suc at) cells ≡ slice_index cells (suc at) ∷ drop (suc (suc at)) cells = drop-cons cells (suc at) 0 (omega (arith, fits)) in
    let two' : slice_index cells (suc at) ≡ 0xFF = ap (slice_index cells) (sym next) ∙ two in
    ap (λ (l : List ℕ). all_are 0xFF (take 2 l)) (first ∙ ap (λ (l : List ℕ). slice_index cells at ∷ l) second)
    ∙ (rw (eq-eqb _ _ one, eq-eqb _ _ two') refl)

-- the operation of FPEC that programs a halfword over an erased one, whatever its value is
abbrev half_of_value : FlashMap → ℕ → ℕ → Operation
half_of_value map at v = record { work = work.Half v; place = at; ticks = map.program_ticks }

programs_by : (map : FlashMap) (r : State) (found : Found) (v : ℕ) (cells : List ℕ) (zero' : Bool) → nat_eq (half_of v) 0 ≡ zero' → may_program r ≡ true →
    all_are 0xFF (cells_at cells found.place 2) ≡ true
    → fpec_program map r found 2 v (seen (looks r 2 v) cells found.place 2) ≡ (effect.Begins (half_of_value map found.place v), r)
unfolding fpec_program
programs_by map r found v cells true e may blank = rw (may, e) refl
programs_by map r found v cells false e may blank = rw (may, e) (rw blank refl)

programs_half : (map : FlashMap) (r : State) (found : Found) (v : ℕ) (cells : List ℕ) → may_program r ≡ true →
    all_are 0xFF (cells_at cells found.place 2) ≡ true
    → fpec_program map r found 2 v (seen (looks r 2 v) cells found.place 2) ≡ (effect.Begins (half_of_value map found.place v), r)
programs_half map r found v cells may blank = programs_by map r found v cells (nat_eq (half_of v) 0) refl may blank

-- a cell marked as erased is one of the cells with marks
pub blank_within : (ms : List CellMark) (k : ℕ) → is_blank ms k ≡ true → k < length ms
blank_within ms k e = ⊎_elim
    (λ (below : k < length ms). below)
    (λ (past : length ms ≤ k).
    let none : get_or ms k (Holds Any) ≡ Holds Any = get_or_past ms k (Holds Any) past in
    let no : is_blank ms k ≡ false = ap (λ (c : CellMark). elim c as (λ _. Bool) [ Blank ↦ true | Holds x ↦ false ]) none in cc)
    (cases_lt k (length ms))

pub blank_says : (p : Pages) (c : CellMark) (v v' : ℕ) → (elim c as (λ _. Bool) [ Blank ↦ true | Holds x ↦ false ]) ≡ true → CellSays p c v v' →
    (v ≡ 0xFF) × (v' ≡ 0xFF)
blank_says p Blank v v' e says = says
blank_says p (Holds x) v v' e says = cc

half_row : (map : FlashMap) (r : State) (found : Found) (v : ℕ) (cells : List ℕ) → may_program r ≡ true → all_are 0xFF (cells_at cells found.place 2) ≡ true
    → store_at any_table map (record { registers = Fpec r; operation = None }) cells 2 v (place.Flash found)
    ≡ (Ok tt, record { registers = Fpec r; operation = Some (half_of_value map found.place v) })
half_row map r found v cells may blank =
    let before : UnitState = record { registers = Fpec r; operation = None } in
    ap (λ (q : Effect × State). leaves before (does_as Fpec q)) (programs_half map r found v cells may blank)

-- four bytes that are erased
four_by : (l : List ℕ) → all_are 0xFF (take 2 l) ≡ true → all_are 0xFF (take 2 (drop 2 l)) ≡ true → all_are 0xFF (take 4 l) ≡ true
four_by [] one two = refl
four_by (a ∷ []) one two = one
four_by (a ∷ b ∷ l) one two =
    let x : (nat_eq a 0xFF ≡ true) × ((nat_eq b 0xFF && true) ≡ true) = and_parts _ _ one in
    let y : (nat_eq b 0xFF ≡ true) × (true ≡ true) = and_parts _ _ x.1 in
    rw (x.0, y.0) two

pub blank_four : (cells : List ℕ) (at : ℕ) → all_are 0xFF (cells_at cells at 2) ≡ true → all_are 0xFF (cells_at cells (at + 2) 2) ≡ true →
    all_are 0xFF (cells_at cells at 4) ≡ true
blank_four cells at one two = four_by (drop at cells) one (subst (λ (l : List ℕ). all_are 0xFF (take 2 l) ≡ true) (sym (drop-drop 2 at cells)) two)

-- the operation that programs a unit over erased cells, whatever its value is
abbrev pub unit_of_value : FlashMap → ℕ → ℕ → ℕ → Operation
unit_of_value map at width v = record { work = unit_work width v; place = at; ticks = map.program_ticks }

fc1_programs : (map : FlashMap) (r : Fc1State) (found : Found) (width v : ℕ) (cells : List ℕ) → fc1_may_program r found.area width ≡ true →
    all_are found.area.empty (cells_at cells found.place width) ≡ true
    → fc1_program map r found width v (seen (fc1_may_program r found.area width) cells found.place width)
    ≡ (effect.Begins (unit_of_value map found.place width v), r)
unfolding fc1_program
fc1_programs map r found width v cells may blank = rw may (rw blank refl)

pub unit_row : (map : FlashMap) (r : AnyRegisters) (found : Found) (width v : ℕ) (cells : List ℕ) → programs_unit r found.area width ≡ true
    → all_are 0xFF (cells_at cells found.place width) ≡ true
    → store_at any_table map (record { registers = r; operation = None }) cells width v (place.Flash found)
    ≡ (Ok tt, record { registers = r; operation = Some (unit_of_value map found.place width v) })
unit_row map (Fc1 r) found width v cells may blank =
    let parts : ((nat_eq width 2 || nat_eq width 4) ≡ true) × ((nat_eq found.area.empty 0xFF && fc1_may_program r found.area width) ≡ true) =
    and_parts _ _ may in
    let more : (nat_eq found.area.empty 0xFF ≡ true) × (fc1_may_program r found.area width ≡ true) = and_parts _ _ parts.1 in
    let empty : found.area.empty ≡ 0xFF = eqb-true _ _ more.0 in
    let before : UnitState = record { registers = Fc1 r; operation = None } in
    ap (λ (q : Effect × Fc1State). leaves before (does_as Fc1 q)) (fc1_programs map r found width v cells more.1
    (subst (λ (n : ℕ). all_are n (cells_at cells found.place width) ≡ true) (sym empty) blank))
unit_row map (Fpec r) found width v cells may blank =
    let parts : (nat_eq width 2 ≡ true) × (may_program r ≡ true) = and_parts _ _ may in
    let wide : width ≡ 2 = eqb-true _ _ parts.0 in
    let blank' : all_are 0xFF (cells_at cells found.place 2) ≡ true = subst (λ (n : ℕ). all_are 0xFF (cells_at cells found.place n) ≡ true) wide blank in
    subst (λ (n : ℕ). store_at any_table map (record { registers = Fpec r; operation = None }) cells n v (place.Flash found)
    ≡ (Ok tt, record { registers = Fpec r; operation = Some (unit_of_value map found.place n v) })) (sym wide) (half_row map r found v cells parts.1 blank')

pub alike_programs : (k : Bool) (r r' : AnyRegisters) (area : Area) (width : ℕ) → Alike k r r' → programs_unit r' area width ≡ programs_unit r area width
alike_programs true r r' area width alike = ap (λ (q : AnyRegisters). programs_unit q area width) alike
alike_programs false (Fc1 r) r' area width alike = ap (λ (q : AnyRegisters). programs_unit q area width) alike.1
alike_programs false (Fpec r) r' area width alike = ap (λ (q : AnyRegisters). programs_unit q area width) alike.1

pub unit_width : (r : AnyRegisters) (area : Area) (width : ℕ) → programs_unit r area width ≡ true → (width ≡ 2) ⊎ (width ≡ 4)
unit_width (Fc1 r) area width may =
    let parts : ((nat_eq width 2 || nat_eq width 4) ≡ true) × ((nat_eq area.empty 0xFF && fc1_may_program r area width) ≡ true) = and_parts _ _ may in
    ⊎_elim (λ (x : nat_eq width 2 ≡ true). inl (eqb-true _ _ x)) (λ (x : nat_eq width 4 ≡ true). inr (eqb-true _ _ x)) (or_cases _ _ parts.0)
unit_width (Fpec r) area width may =
    let parts : (nat_eq width 2 ≡ true) × (may_program r ≡ true) = and_parts _ _ may in inl (eqb-true _ _ parts.0)

pub unit_agrees : (p : Pages) (k : Mark) (v v' : ℕ) (two : Bool) → Says p k v v' →
    WorkAgrees p k (if two then work.Half v else work.Word v) (if two then work.Half v' else work.Word v')
unit_agrees p k v v' true says = says
unit_agrees p k v v' false says = says

pub none_runs : (p : Pages) (k : Mark) (o : Option Operation) → RunsAgree p k None o → o ≡ None
none_runs p k None agree = refl
none_runs p k (Some o) agree = absurd agree

pub state_is : (s : UnitState) (r : AnyRegisters) (o : Option Operation) → s.registers ≡ r → s.operation ≡ o → s ≡ record { registers = r; operation = o }
state_is s r o a b = ap₂ (λ (x : AnyRegisters) (y : Option Operation). let t : UnitState = record { registers = x; operation = y } in t) a b
