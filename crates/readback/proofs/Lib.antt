-- A comparison of cells with bytes, window by window.
pub mod ReadbackLemmas
