mod AskLemmas
mod HandLemmas
mod GoingLemmas
mod BackLemmas
