-- What the files of a command say and want of the cells, and what a refusal leaves of them.
pub mod FilesLemmas
pub mod ImageLemmas
pub mod TakeLemmas
pub mod WantedLemmas
pub mod TargetFilesLemmas
pub mod AnswerLemmas
pub mod FileLemmas
pub mod ReadingLemmas
pub mod PlaceLemmas
pub mod RefusalLemmas
