-- A text has either a code or one refusal, out of memory aside.
use Rattle.std.specs.Prelude.{◌≡◌, ◌≢◌, ℕ, List}
use Rattle.armv6m_asm.specs.declared.code.Code.{Code}
use Rattle.armv6m_asm.specs.declared.fault.AsmFault.{AsmFault}
use Rattle.armv6m_asm.specs.declared.fault.AsmFault.TheVariants.{OutOfMemory}
use Rattle.armv6m_asm.specs.Assembly.{IsAssembled, IsRefused}

-- a text that is refused has no code, unless the fault is out of memory
abbrev pub RefusedOrAssembled : Type 0
RefusedOrAssembled = (text : List ℕ) (fault : AsmFault) (code : Code) → fault ≢ OutOfMemory → IsRefused text fault → IsAssembled text code → ⊥

-- a text has at most one refusal other than out of memory
abbrev pub OneRefusal : Type 0
OneRefusal = (text : List ℕ) (one other : AsmFault) → one ≢ OutOfMemory → other ≢ OutOfMemory → IsRefused text one → IsRefused text other → one ≡ other
