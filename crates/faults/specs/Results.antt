-- Results of readers, for any type of errors: checks one after the other, and what a function answers beside what a
-- definition says.
use Rattle.std.specs.Prelude.{◌≡◌, ◌⊎◌, Result, Ok, Err}

-- a check and then another: the first one that fails is the answer
infixl 10 ◌>>=◌
abbrev pub ◌>>=◌ : {A B E : Type 0} → Result A E → (A → Result B E) → Result B E
(Ok x) >>= f = f x
(Err e) >>= f = Err e

-- This refusal is the one that the definition says, unless it is the free one: out of memory, which may be answered at
-- any time.
abbrev pub Fails : {A E : Type 0} → (free e : E) → Result A E → Type 0
Fails free e said = (e ≡ free) ⊎ (said ≡ Err e)

-- this answer, seen by view, is the one that the definition says, unless it is the free refusal
abbrev pub Gives : {A B E : Type 0} → (free : E) → (A → B) → Result A E → Result B E → Type 0
Gives free view (Ok x) said = said ≡ Ok (view x)
Gives free view (Err e) said = Fails free e said
