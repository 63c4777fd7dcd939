-- Digits and lines of records, and that what is gathered from a text is its one image or its one fault.
pub mod Pairs
pub mod Values
pub mod CellLemmas
pub mod Reading
pub mod OneReading
pub mod Stores
pub mod Unions
pub mod Gathering
