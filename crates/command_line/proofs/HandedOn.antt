-- What holds of a value that a function passes on from a call. The lemmas about the makers of commands use it.
use Rattle.std.proofs.Common.{◌≡◌, ◌∙◌, ◌||◌, ap, Bool, false, Result, Ok, Err, IfOk}

pub if_ok : {T E : Type 0} (r : Result T E) (P Q : T → Type 0) → ((x : T) → P x → Q x) → IfOk r P → IfOk r Q
if_ok (Ok x) P Q to holds = to x holds
if_ok (Err fault) P Q to holds = tt

pub no_either : {r a b : Bool} → r ≡ (a || b) → a ≡ false → b ≡ false → r ≡ false
no_either {b = b} is neither nor = is ∙ ap (λ (x : Bool). x || b) neither ∙ nor
