-- The generator of a demonstration. A draw takes the state to the next one, and gives the top byte of that.
use Rattle.std.specs.Prelude.{◌+◌, ◌*◌, ◌/◌, ◌%◌, ◌^◌, ℕ, zero, suc, List, [], ◌∷◌}

abbrev pub next : ℕ → ℕ
next state = (state * 1664525 + 1013904223) % 2 ^ 32

abbrev pub byte_of : ℕ → ℕ
byte_of state = next state / 2 ^ 24

-- the bytes of a number of draws, from a state on
unfoldable pub draws : ℕ → ℕ → List ℕ
draws zero state = []
draws (suc n) state = byte_of state ∷ draws n (next state)

-- the state after a number of draws
unfoldable pub after : ℕ → ℕ → ℕ
after zero state = state
after (suc n) state = after n (next state)
