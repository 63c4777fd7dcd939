-- Sessions: scripts as moves and turns, surveys, and algorithms that keep their duties and so lead to the goal.
pub mod Runs
pub mod Lists
pub mod Playing
mod OutcomeLemmas
mod FuelLemmas
mod RestLemmas
mod ItemLemmas
pub mod StepLemmas
mod MidwayLemmas
mod CallEnds
pub mod MachineLemmas
pub mod TurnLemmas
pub mod FitLemmas
mod UnreadLemmas
mod TurnMade
pub mod GuardLemmas
pub mod AloneLemmas
mod TakesLemmas
pub mod WholeLemmas
pub mod JobLemmas
pub mod GoLemmas
mod LentLemmas
pub mod PartLemmas
mod GoalLemmas
pub mod ReadLemmas
mod SurveyLemmas
mod FoundLemmas
mod Members
mod Leading
mod Passing
mod Serving
mod LegLemmas
pub mod ServedLemmas
pub mod LocalLemmas
