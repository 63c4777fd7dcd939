-- What a call in one of two windows leaves of both.
mod BothLemmas
