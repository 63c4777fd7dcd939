-- The lines of Intel HEX: their bytes and faults, and that a text has one image or one fault.
pub mod Records
pub mod Pieces
pub mod Apart
pub mod LineLemmas
pub mod OneHex
