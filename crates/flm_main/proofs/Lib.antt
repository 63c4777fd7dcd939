-- The pairs of file names among the words.
mod PairLemmas
