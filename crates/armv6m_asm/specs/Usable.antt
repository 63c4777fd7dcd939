-- What is known of a statement that was read: its names are ASCII, and the fields of its instruction fit their bits.
use Rattle.std.specs.Prelude.{IsTrue, IfSome}
use Rattle.std.specs.Str.{IsAscii}
use Rattle.armv6m_encode.specs.Encoding.{fields_fit}
use Rattle.armv6m_asm.specs.declared.statement.Destination.{Destination}
use Rattle.armv6m_asm.specs.declared.statement.Destination.TheVariants.{Label, Address}
use Rattle.armv6m_asm.specs.declared.statement.Operation.{Operation}
use Rattle.armv6m_asm.specs.declared.statement.Operation.TheVariants.{Plain, Aimed}
use Rattle.armv6m_asm.specs.declared.statement.Statement.{Statement}

abbrev pub HasAsciiName : Destination → Type 0
HasAsciiName (Label name) = IsAscii name.now
HasAsciiName (Address address) = Unit {0}

abbrev pub IsUsableOperation : Operation → Type 0
IsUsableOperation (Plain instr) = IsTrue (fields_fit instr)
IsUsableOperation (Aimed aim destination) = HasAsciiName destination
IsUsableOperation _ = Unit {0}

pub record IsUsable (s : Statement) : Type 0 where
  pub label : IfSome s.label (λ name. IsAscii name.now)
  pub operation : IsUsableOperation s.operation
