-- The conditions and their codes.
use Rattle.std.proofs.Common.{◌≡◌, ◌∙◌, ◌<◌, ℕ, refl, sym, ap, get_or, lit<}
use Rattle.armv6m_decode.specs.declared.condition.Condition.{Condition}
use Rattle.armv6m_decode.specs.declared.condition.Condition.TheVariants.{Equal}
use Rattle.armv6m_decode.specs.declared.condition.TheConstants.Condition.{ALL}
use Rattle.armv6m_decode.specs.Conditions.{condition_code, condition_of}

-- the condition with the code of a condition is that condition
pub with_its_code : (c : Condition) (code : ℕ) → code ≡ condition_code c → condition_of code ≡ c
unfolding condition_of
with_its_code Equal code e = rw e refl
with_its_code c code e = rw e refl

-- no two conditions have one code
pub one_condition : (c d : Condition) → condition_code c ≡ condition_code d → c ≡ d
one_condition c d same = sym (with_its_code c (condition_code c) refl) ∙ ap condition_of same ∙ with_its_code d (condition_code d) refl

pub code_below : (c : Condition) → condition_code c < 14
code_below Equal = lit< tt
code_below c = lit< tt

-- the list of all conditions has each at its code
pub stands_at_its_code : (c : Condition) → get_or ALL (condition_code c) Equal ≡ c
stands_at_its_code Equal = refl
stands_at_its_code c = refl
