-- Statements that say the same, wherever the bytes of their names are in memory.
use Rattle.std.specs.Prelude.{◌≡◌, ℕ, List, Option, Some, None}
use Rattle.std.specs.Borrow.{Bor}
use Rattle.armv6m_asm.specs.declared.statement.Destination.{Destination}
use Rattle.armv6m_asm.specs.declared.statement.Destination.TheVariants.{Label, Address}
use Rattle.armv6m_asm.specs.declared.statement.Operation.{Operation}
use Rattle.armv6m_asm.specs.declared.statement.Operation.TheVariants.{Nothing, Word, Align, Plain, Aimed}
use Rattle.armv6m_asm.specs.declared.statement.Statement.{Statement}
use Rattle.armv6m_asm.specs.Statement.{IsStatement}

abbrev pub AreAlikeDestinations : Destination → Destination → Type 0
AreAlikeDestinations (Label one) (Label other) = one.now ≡ other.now
AreAlikeDestinations (Address one) (Address other) = one ≡ other
AreAlikeDestinations one other = ⊥

abbrev pub AreAlikeOperations : Operation → Operation → Type 0
AreAlikeOperations Nothing Nothing = Unit {0}
AreAlikeOperations (Word one) (Word other) = one ≡ other
AreAlikeOperations Align Align = Unit {0}
AreAlikeOperations (Plain one) (Plain other) = one ≡ other
AreAlikeOperations (Aimed one to) (Aimed other too) = (one ≡ other) × AreAlikeDestinations to too
AreAlikeOperations one other = ⊥

abbrev pub AreAlikeLabels : Option (Bor (List ℕ)) → Option (Bor (List ℕ)) → Type 0
AreAlikeLabels None None = Unit {0}
AreAlikeLabels (Some one) (Some other) = one.now ≡ other.now
AreAlikeLabels one other = ⊥

-- two statements have the same label and the same operation
abbrev pub AreAlike : Statement → Statement → Type 0
AreAlike one other = AreAlikeLabels one.label other.label × AreAlikeOperations one.operation other.operation

-- a line has one statement at most
abbrev pub OneStatementForEachLine : Type 0
OneStatementForEachLine = (line : List ℕ) (one other : Statement) → IsStatement line one → IsStatement line other → AreAlike one other
