-- A campaign, call by call: each pair left is untouched, whole or finished.
pub mod CampaignLemmas
pub mod EntryLemmas
