-- Unions of images and ELF segments, and that a file has one image or one fault.
pub mod SegmentLemmas
pub mod UnionLemmas
pub mod RangeLemmas
pub mod SegmentLaws
pub mod FileLemmas
