-- Marks of the page are set one by one.
use Rattle.std.proofs.Common.{◌≡◌, ◌<◌, ◌+◌, ℕ, zero, suc, List, [], ◌∷◌, ◌++◌, length, take, drop, get_or, slice_set, refl, sym, ap, ◌∙◌, arith}
use Rattle.std.proofs.Common.{drop-cons, append_assoc, length-append, length-take, take-append-drop, append-nil}
use Rattle.std.proofs.lemmas.List.{set_at}
use Rattle.shadow_step.specs.declared.marks.Mark.{Mark}
use Rattle.shadow_step.specs.declared.marks.Mark.TheVariants.{Page, Any}
use Rattle.duty_proofs.specs.TargetMarks.{laid}
use Rattle.duty_proofs.specs.Starts.{names}

pub names_long : (x n : ℕ) → length (names x n) ≡ n
unfolding names
names_long x zero = refl
names_long x (suc n) = ap suc (names_long (x + 1) n)

pub names_snoc : (x n : ℕ) → names x (suc n) ≡ names x n ++ Page 1 (x + n) ∷ []
unfolding names
names_snoc x zero = let same : x ≡ x + 0 = omega arith in ap (λ (i : ℕ). Page 1 i ∷ []) same
names_snoc x (suc n) =
    let same : x + 1 + n ≡ x + suc n = omega arith in
    ap (λ (l : List Mark). Page 1 x ∷ l) (names_snoc (x + 1) n ∙ ap (λ (i : ℕ). names (x + 1) n ++ Page 1 i ∷ []) same)

pub no_names : (at : ℕ) (l : List Mark) → laid at (names 0 0) l ≡ l
unfolding names
no_names at l =
    let same : at + 0 ≡ at = omega arith in
    ap (λ (r : List Mark). r ++ drop (at + 0) l) (append-nil (take at l)) ∙ ap (λ (n : ℕ). take at l ++ drop n l) same ∙ take-append-drop at l

pub one_name_more : (at i : ℕ) (l : List Mark) → at + i < length l → slice_set (laid at (names 0 i) l) (at + i) (Page 1 i) ≡ laid at (names 0 (i + 1)) l
one_name_more at i l below =
    let ns : List Mark = names 0 i in
    let long : length ns ≡ i = names_long 0 i in
    let rest : List Mark = drop (suc (at + i)) l in
    let here : drop (at + length ns) l ≡ get_or l (at + i) Any ∷ rest = ap (λ (n : ℕ). drop (at + n) l) long ∙ drop-cons l (at + i) Any below in
    let before : length (take at l ++ ns) ≡ at + i = length-append (take at l) ns ∙ omega (arith, long, below, length-take at l) in
    let one : laid at ns l ≡ (take at l ++ ns) ++ get_or l (at + i) Any ∷ rest =
    ap (λ (r : List Mark). (take at l ++ ns) ++ r) here in
    let more : i + 1 ≡ suc i = omega arith in
    let same : 0 + i ≡ i = omega arith in
    let snoc : names 0 (i + 1) ≡ ns ++ Page 1 i ∷ [] = ap (names 0) more ∙ names_snoc 0 i ∙ ap (λ (n : ℕ). ns ++ Page 1 n ∷ []) same in
    let long' : at + length (ns ++ Page 1 i ∷ []) ≡ suc (at + i) = omega (arith, long, length-append ns (Page 1 i ∷ [])) in
    let two : laid at (names 0 (i + 1)) l ≡ (take at l ++ ns) ++ Page 1 i ∷ rest =
    ap (λ (n : List Mark). laid at n l) snoc
    ∙ ap (λ (n : ℕ). take at l ++ (ns ++ Page 1 i ∷ []) ++ drop n l) long'
    ∙ ap (λ (r : List Mark). r ++ rest) (sym (append_assoc (take at l) ns (Page 1 i ∷ []))) ∙ append_assoc (take at l ++ ns) (Page 1 i ∷ []) rest in
    ap (λ (r : List Mark). slice_set r (at + i) (Page 1 i)) one ∙ set_at (take at l ++ ns) (get_or l (at + i) Any) rest (Page 1 i) (at + i) before ∙ sym two
