-- Laws of the sections of an FLM file, and of runs, sectors and pages of its device.
pub mod CutLemmas
pub mod ItemLemmas
pub mod RunLemmas
pub mod LimitLemmas
pub mod DescribedLemmas
pub mod PartLemmas
pub mod Laws
