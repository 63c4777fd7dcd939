-- What the words of a line spell, the place of each statement, and that a text has one code or one refusal.
pub mod Even
mod LawLemmas
mod ListLemmas
mod Names
mod NumberLemmas
mod OperandLemmas
pub mod OutcomeLemmas
mod Places
mod SpelledLemmas
mod StatementLemmas
mod Steps
mod SymbolLemmas
mod TokenLemmas
mod UsableLemmas
mod Widths
mod WordLemmas
