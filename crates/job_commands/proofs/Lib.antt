-- From the steps of a command on a job to its end.
pub mod TurnLemmas
pub mod KindLemmas
pub mod FinishLemmas
pub mod AddressLemmas
pub mod CarryLemmas
pub mod OpenLemmas
pub mod SurveyLemmas
pub mod CountLemmas
pub mod StartLemmas
pub mod BeginLemmas
pub mod RegionLemmas
pub mod EntryLemmas
pub mod GoOnLemmas
pub mod ProgramLemmas
pub mod FitLemmas
pub mod PrintLemmas
