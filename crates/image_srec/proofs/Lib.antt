-- The lines of S-records: their faults, and that a text has one image or one fault.
pub mod LineLemmas
pub mod OneSrec
