-- `text_of_name`: what `unwrap` requires.
use Rattle.std.proofs.Common.{refl}
use Rattle.std.specs.Prelude.{Result, Ok, Err, IsOk, MatchResult}
use Rattle.std.proofs.lemmas.Str.{IsUtf8-from_ascii}
use Rattle.armv6m_asm.proofs.find.text_of_name.Goals as goal

no_fault : {T E : Type 0} (r : Result T E) (P : T → Type 0) (Q : E → Type 0) → MatchResult r P Q → ((e : E) → Q e → ⊥) → IsOk r
no_fault (Ok x) P Q cases never = refl
no_fault (Err e) P Q cases never = absurd (never e cases)

pub unwrap-requires : goal.unwrap-requires
unwrap-requires c = no_fault c.from_utf8.result _ _ c.from_utf8.ensures.cases (λ e h. h.0 (IsUtf8-from_ascii c.args.name.now c.requires))
