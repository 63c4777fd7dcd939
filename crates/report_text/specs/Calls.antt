-- How a call of an algorithm that didn't end as done is reported: by its number, its function and its end.
use Rattle.std.specs.Prelude.{ℕ, List, [], ◌∷◌, ◌++◌, codes, decimal}
use Rattle.std.specs.List.{concat}
use Rattle.octets.specs.Digit.{hex_text}
use Rattle.flm_descriptor.specs.Parts.{text_of}
use Rattle.flm_descriptor.specs.declared.fault.Name.{Name}
use Rattle.flm_descriptor.specs.declared.fault.Name.TheVariants as name
use Rattle.target_core.specs.declared.run.FaultKind.{FaultKind}
use Rattle.target_core.specs.declared.run.FaultKind.TheVariants as fault
use Rattle.target_core.specs.declared.run.RunEnd.{RunEnd}
use Rattle.target_core.specs.declared.run.RunEnd.TheVariants as run
use Rattle.algo_calls.specs.declared.call.Call.{Call}
use Rattle.algo_calls.specs.declared.call.Call.TheVariants as call
use Rattle.algo_calls.specs.declared.call.CallEnd.{CallEnd}
use Rattle.algo_calls.specs.declared.call.CallEnd.TheVariants as ends

-- the function that a call calls
abbrev pub function_of : Call → Name
function_of (call.Init kind) = name.Init
function_of (call.UnInit kind) = name.UnInit
function_of (call.EraseSector at) = name.EraseSector
function_of call.EraseChip = name.EraseChip
function_of (call.ProgramPage at) = name.ProgramPage
function_of (call.Verify at) = name.Verify

-- a call returned another value than the one for success
unfoldable pub answer_text : ℕ → List ℕ
answer_text r0 = concat (codes "answered " ∷ hex_text 8 r0 ∷ [])

-- what happened at an instruction, with its address
unfoldable pub place_text : List ℕ → ℕ → List ℕ
place_text what pc = concat (what ∷ codes " at " ∷ hex_text 8 pc ∷ [])

-- what happened at an instruction that accessed an address, with both addresses
unfoldable pub access_text : List ℕ → ℕ → ℕ → List ℕ
access_text what pc at = concat (what ∷ codes " at " ∷ hex_text 8 pc ∷ codes " address " ∷ hex_text 8 at ∷ [])

-- an instruction that the core could not do
unfoldable pub fault_text : FaultKind → ℕ → List ℕ
fault_text fault.Undefined pc = place_text (codes "undefined") pc
fault_text (fault.BusFault at) pc = access_text (codes "bus fault") pc at
fault_text (fault.Unaligned at) pc = access_text (codes "unaligned") pc at
fault_text fault.BadState pc = place_text (codes "bad state") pc

-- The text of how a run ended. A call that failed never has `Returned` or `DeviceFault`: one that returns ends as `Refused`, and a
-- fault of the device ends the session by its own name. Both have words here so that each end has some.
unfoldable pub run_text : RunEnd → List ℕ
run_text (run.Returned r0) = answer_text r0
run_text (run.NoFuel pc) = place_text (codes "no fuel") pc
run_text (run.StrayBreak pc) = place_text (codes "stray break") pc
run_text (run.Faulted kind pc) = fault_text kind pc
run_text run.DeviceFault = codes "device fault"

unfoldable pub end_text : CallEnd → List ℕ
end_text ends.Done = codes "done"
end_text (ends.Refused r0) = answer_text r0
end_text (ends.Ended end) = run_text end
end_text ends.DeviceFault = codes "device fault"

unfoldable pub failed_text : ℕ → Call → CallEnd → List ℕ
failed_text number called end = concat (codes "call " ∷ decimal number ∷ codes " " ∷ text_of (function_of called) ∷ codes ": " ∷ []) ++ end_text end
