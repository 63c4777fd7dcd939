-- An instruction as a sequence of accesses, and that a quick step is the instruction of its halfword.
pub mod RunLemmas
pub mod ShiftLemmas
pub mod ListLemmas
pub mod InstructionLemmas
pub mod FunctionalLemmas
pub mod ArmLemmas
pub mod QuickLemmas
