-- How a script ends on a bench: in just one way, once the bytes that broken-off operations leave are given.
-- The last lemma is the law `moves_have_one_end`.
use Rattle.std.proofs.Common.{◌≡◌, ◌<◌, ◌≤◌, ◌∙◌, ⊎_elim, ℕ, List, get_or, Result, Ok, Err, refl, sym, ap, subst, arith}
use Rattle.std.proofs.lemmas.List.{get_or-take}
use Rattle.std.proofs.lemmas.Bool.{cases_lt}
use Rattle.readback.specs.declared.compare.Difference.{Difference}
use Rattle.algo_calls.specs.declared.call.Call.{Call}
use Rattle.algo_calls.specs.declared.call.CallEnd.{CallEnd}
use Rattle.flash_session.specs.declared.session.SessionEnd.{SessionEnd}
use Rattle.flash_session.specs.declared.session.SessionEnd.TheVariants as end
use Rattle.flash_session.specs.Differs.{DiffersFirst}
use Rattle.flash_session.specs.Moves.{Move, Stand, Failure, failure, run}
use Rattle.flash_session.specs.Outcome.{GoTo, FailAt, IsEnd}

-- ---- there is one outcome

same_ok : (r : Result Stand Failure) (a b : Stand) → r ≡ Ok a → r ≡ Ok b → a ≡ b
same_ok r a b one two = cc

-- a first difference comes no later than any other first difference
one_place : (goal cells : List ℕ) (d e : Difference) → DiffersFirst goal cells d → DiffersFirst goal cells e → e.at ≤ d.at
one_place goal cells d e one two = ⊎_elim
    (λ (less : d.at < e.at).
    let same : get_or cells d.at 0 ≡ get_or goal d.at 0 = sym (get_or-take e.at cells d.at 0 less) ∙ ap (λ (l : List ℕ). get_or l d.at 0) two.before
    ∙ get_or-take e.at goal d.at 0 less in
    absurd (one.differ (sym one.wanted ∙ sym same ∙ one.found)))
    (λ (le : e.at ≤ d.at). le)
    (cases_lt d.at e.at)

same_difference : (d e : Difference) → d.at ≡ e.at → d.want ≡ e.want → d.got ≡ e.got → d ≡ e
same_difference d e at wanted found = λ i. record { at = at i; want = wanted i; got = found i }

one_difference : (goal cells : List ℕ) (d e : Difference) → DiffersFirst goal cells d → DiffersFirst goal cells e → d ≡ e
one_difference goal cells d e one two =
    let at : d.at ≡ e.at = omega (arith, one_place goal cells d e one two, one_place goal cells e d two one) in
    same_difference d e at (sym one.wanted ∙ ap (λ (i : ℕ). get_or goal i 0) at ∙ two.wanted) (sym one.found ∙ ap (λ (i : ℕ). get_or cells i 0) at ∙ two.found)

pub differs_somewhere : (goal cells : List ℕ) (d : Difference) → cells ≡ goal → DiffersFirst goal cells d → ⊥
differs_somewhere goal cells d same first = first.differ (sym first.wanted ∙ ap (λ (l : List ℕ). get_or l d.at 0) (sym same) ∙ first.found)

pub one_cells : (a : Stand) (moves : List Move) (c d : List ℕ) → GoTo a moves c → GoTo a moves d → c ≡ d
one_cells a moves c d one two = sym one.leaves ∙ ap (λ (x : Stand). x.world.cells) (same_ok (run a moves) one.last two.last one.ran two.ran) ∙ two.leaves

pub not_both : (r : Result Stand Failure) (a : Stand) (f : Failure) → r ≡ Ok a → r ≡ Err f → ⊥
not_both r a f one two = cc

same_err : (r : Result Stand Failure) (f g : Failure) → r ≡ Err f → r ≡ Err g → f ≡ g
same_err r f g one two = cc

one_failure : (a : Stand) (moves : List Move) (n m : ℕ) (x y : Call) (e f : CallEnd) (c d : List ℕ) → FailAt a moves n x e c → FailAt a moves m y f d
    → (end.CallFailed n x e ≡ end.CallFailed m y f) × (c ≡ d)
one_failure a moves n m x y e f c d one two =
    let same : failure n x e one.at ≡ failure m y f two.at = same_err (run a moves) _ _ one.ran two.ran in
    (ap (λ (g : Failure). end.CallFailed g.number g.call g.end) same, sym one.leaves ∙ ap (λ (g : Failure). g.world.cells) same ∙ two.leaves)

-- moves have one end and leave one list of cells, once the bytes that broken-off operations leave are given
pub one_outcome : (a : Stand) (moves : List Move) (goal : List ℕ) (e f : SessionEnd) (c d : List ℕ) → IsEnd a moves goal e c → IsEnd a moves goal f d → (e ≡ f)
    × (c ≡ d)
one_outcome a moves goal (end.Reached r) (end.Reached s) c d one two = (refl, one_cells a moves c d one.0 two.0)
one_outcome a moves goal (end.Reached r) (end.Mismatch y) c d one two =
    absurd (differs_somewhere goal d y (sym (one_cells a moves c d one.0 two.0) ∙ one.1) two.1)
one_outcome a moves goal (end.Reached r) (end.CallFailed number call e) c d one two = absurd (not_both (run a moves) _ _ one.0.ran two.ran)
one_outcome a moves goal (end.Mismatch x) (end.Reached s) c d one two = absurd (differs_somewhere goal c x (one_cells a moves c d one.0 two.0 ∙ two.1) one.1)
one_outcome a moves goal (end.Mismatch x) (end.Mismatch y) c d one two =
    let same : c ≡ d = one_cells a moves c d one.0 two.0 in
    (ap end.Mismatch (one_difference goal d x y (subst (λ (l : List ℕ). DiffersFirst goal l x) same one.1) two.1), same)
one_outcome a moves goal (end.Mismatch x) (end.CallFailed number call e) c d one two = absurd (not_both (run a moves) _ _ one.0.ran two.ran)
one_outcome a moves goal (end.CallFailed number call e) (end.Reached s) c d one two = absurd (not_both (run a moves) _ _ two.0.ran one.ran)
one_outcome a moves goal (end.CallFailed number call e) (end.Mismatch y) c d one two = absurd (not_both (run a moves) _ _ two.0.ran one.ran)
one_outcome a moves goal (end.CallFailed n x e) (end.CallFailed m y f) c d one two = one_failure a moves n m x y e f c d one two
one_outcome a moves goal end.DeviceFault f c d one two = absurd one
one_outcome a moves goal end.StoreFault f c d one two = absurd one
one_outcome a moves goal e f c d one two = absurd two
