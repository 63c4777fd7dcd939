-- Loads and stores of a list of registers, in rising order of register and address: the meaning of PUSH, POP, STM and LDM.
use Rattle.std.specs.Prelude.{ℕ, zero, suc, ◌+◌, ◌-◌, ◌*◌, ◌%◌, Bool, nat_eq, if◌then◌else◌, Result, Ok, Err, List, [], ◌∷◌, length}
use Rattle.armv6m_alu.specs.Bits.{is_bit_set}
use Rattle.armv6m_decode.specs.declared.instr.Many.{Many}
use Rattle.armv6m_decode.specs.declared.instr.Many.TheVariants.{Push, Pop, Stm, Ldm}
use Rattle.armv6m_decode.specs.declared.registers.TheConstants.{SP, LR}
use Rattle.armv6m_step.specs.declared.core_state.Core.{Core}
use Rattle.armv6m_step.specs.declared.ends.Stop.{Stop}
use Rattle.armv6m_step.specs.declared.ends.StepEnd.{StepEnd}
use Rattle.armv6m_step.specs.Ends.{Undefined, BadState, Outcome, stop_end}
use Rattle.armv6m_step.specs.Registers.{reg, written, moved, pc_of}
use Rattle.armv6m_step.specs.Numbers.{sum, difference}
use Rattle.armv6m_step.specs.MemoryRows.{went}
use Rattle.armv6m_step.specs.Meaning.{Meaning, Gives, Acts, Runs, load, store, stops}

-- the registers with their bit set in a list, in rising order, of the `count` registers from `first` on
unfoldable pub listed : ℕ → ℕ → ℕ → List ℕ
listed zero first list = []
listed (suc count) first list = if is_bit_set list first then first ∷ listed count (first + 1) list else listed count (first + 1) list

-- the low registers of a list, R0 to R7
abbrev pub low_registers : ℕ → List ℕ
low_registers list = listed 8 0 list

-- how many bytes the low registers of a list take
abbrev pub list_bytes : ℕ → ℕ
list_bytes list = 4 * length (low_registers list)

unfoldable pub store_each : Core → ℕ → List ℕ → Meaning → Meaning
store_each core at [] then' = then'
store_each core at (r ∷ rs) then' = store 4 at (reg core r) (store_each core (sum at 4) rs then')

unfoldable pub load_each : Core → ℕ → List ℕ → (Core → Meaning) → Meaning
load_each core at [] then' = then' core
load_each core at (r ∷ rs) then' = load 4 at (λ v. load_each (written core r v) (sum at 4) rs then')

-- A branch to a target with bit 0 set. With bit 0 clear the core would leave the Thumb state (BXWritePC), so the step ends at this
-- instruction's address.
abbrev pub branch_exchange : ℕ → Core → ℕ → Outcome
branch_exchange pc core target = if nat_eq (target % 2) 1 then Ok (moved core (target - 1)) else Err (BadState pc)

-- PUSH: the stores go up from the new SP, LR last
abbrev pub push : Core → ℕ → Bool → ℕ → Meaning
push core next lr list =
    let by = list_bytes list + (if lr then 4 else 0) in
    let start = difference (reg core SP) by in
    if nat_eq by 0 then stops (Undefined (pc_of core)) else
    store_each core start (low_registers list)
    (if lr then store 4 (sum start (list_bytes list)) (reg core LR) (went (written core SP start) next) else went (written core SP start) next)

-- POP: the loads go up from SP, PC last
abbrev pub pop : Core → ℕ → Bool → ℕ → Meaning
pop core next pc list =
    let by = list_bytes list + (if pc then 4 else 0) in
    let start = reg core SP in
    if nat_eq by 0 then stops (Undefined (pc_of core)) else
    load_each core start (low_registers list) (λ filled.
    if pc then load 4 (sum start (list_bytes list)) (λ v. Gives (branch_exchange (pc_of core) (written filled SP (sum start by)) v))
    else went (written filled SP (sum start by)) next)

abbrev pub many : Core → ℕ → Many → Meaning
many core next (Push lr list) = push core next lr list
many core next (Pop pc list) = pop core next pc list
many core next (Stm n list) =
    if nat_eq (list_bytes list) 0 then stops (Undefined (pc_of core)) else
    store_each core (reg core n) (low_registers list) (went (written core n (sum (reg core n) (list_bytes list))) next)
-- LDM doesn't write the base back if the base is in the list
many core next (Ldm n list) =
    if nat_eq (list_bytes list) 0 then stops (Undefined (pc_of core)) else
    load_each core (reg core n) (low_registers list) (λ filled.
    went (if is_bit_set list (n % 16) then filled else written filled n (sum (reg core n) (list_bytes list))) next)

-- ---- the parts of a list: after them a run continues from the last access, or ends there

unfoldable pub StoresEach : {B : Type 0} → Acts B → Core → ℕ → List ℕ → B → Result (Unit {0}) Stop → B → Type 0
StoresEach {B} acts core at rs before (Ok x) mid =
    (then' : Meaning) (e : StepEnd) (core' : Core) (after : B) → Runs acts then' core mid e core' after
    → Runs acts (store_each core at rs then') core before e core' after
StoresEach acts core at rs before (Err s) after = (then' : Meaning) → Runs acts (store_each core at rs then') core before (stop_end s) core after

unfoldable pub LoadsEach : {B : Type 0} → Acts B → Core → ℕ → List ℕ → B → Result Core Stop → B → Type 0
LoadsEach {B} acts core at rs before (Ok filled) mid =
    (then' : Core → Meaning) (e : StepEnd) (core' : Core) (after : B) → Runs acts (then' filled) core mid e core' after
    → Runs acts (load_each core at rs then') core before e core' after
LoadsEach acts core at rs before (Err s) after = (then' : Core → Meaning) → Runs acts (load_each core at rs then') core before (stop_end s) core after

-- a core whose registers were loaded in place, if no load stopped
abbrev pub all_loaded : Core → Result (Unit {0}) Stop → Result Core Stop
all_loaded core (Ok x) = Ok core
all_loaded core (Err s) = Err s

-- the core after an instruction, or the one before it if the instruction stopped
abbrev pub unless_stopped : Core → Core → Result (Unit {0}) Stop → Core
unless_stopped before after (Ok x) = after
unless_stopped before after (Err s) = before
