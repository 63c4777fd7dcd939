-- Each place is even, and each label's place is in the code or at its end.
use Rattle.std.proofs.Common.{◌≡◌, ◌+◌, ◌%◌, ◌≤◌, ◌∙◌, ℕ, Bool, true, false, cond, List, [], ◌∷◌, ◌++◌, length, Option, Some, None, refl, ap, arith}
use Rattle.std.specs.Prelude.{◌==◌, All}
use Rattle.std.specs.Borrow.{Bor}
use Rattle.std.proofs.lemmas.Bool.Decides.{nat_tests}
use Rattle.std.proofs.lemmas.List.{length-append}
use Rattle.std.proofs.lemmas.List.Elements.{All-cons, All-nil}
use Rattle.armv6m_forms.specs.declared.form.Aim.{Aim}
use Rattle.armv6m_forms.specs.declared.form.Aim.TheVariants as aims
use Rattle.armv6m_asm.specs.declared.statement.Operation.{Operation}
use Rattle.armv6m_asm.specs.declared.statement.Operation.TheVariants as operations
use Rattle.armv6m_asm.specs.declared.statement.Statement.{Statement}
use Rattle.armv6m_asm.specs.declared.labels.Label.{Label}
use Rattle.armv6m_asm.specs.declared.code.Code.{Code}
use Rattle.armv6m_asm.specs.Assembly.{is_wide, aim_width, nop, size_of, place_after, label_at, labels_of, AlignPads, AreBytes, IsAssembled}
use Rattle.armv6m_asm.proofs.Places.{end_above}

sum_even : (a b : ℕ) → a % 2 ≡ 0 → b % 2 ≡ 0 → (a + b) % 2 ≡ 0
sum_even a b even also = omega arith

either_even : (b : Bool) → cond b 4 2 % 2 ≡ 0
either_even true = refl
either_even false = refl

padding_even : (b : Bool) → length (cond b [] nop) % 2 ≡ 0
padding_even true = refl
padding_even false = refl

aim_even : (aim : Aim) → aim_width aim % 2 ≡ 0
aim_even aims.Branch = refl
aim_even aim = refl

size_even : (operation : Operation) (at : ℕ) → size_of operation at % 2 ≡ 0
size_even operations.Nothing at = refl
size_even (operations.Word value) at = refl
size_even operations.Align at = padding_even (at % 4 == 0)
size_even (operations.Plain i) at = either_even (is_wide i)
size_even (operations.Aimed aim t) at = aim_even aim

end_even : (from : ℕ) (statements : List Statement) → from % 2 ≡ 0 → place_after from statements % 2 ≡ 0
end_even from [] even = even
end_even from (s ∷ statements) even = end_even (from + size_of s.operation from) statements
    (sum_even from (size_of s.operation from) even (size_even s.operation from))

pads : (at : ℕ) (b : Bool) → at % 2 ≡ 0 → (at % 4 == 0) ≡ b → (at + length (cond b [] nop)) % 4 ≡ 0
pads at true even is = let zero : at % 4 ≡ 0 = grind (arith, nat_tests) in omega arith
pads at false even is = let other : at % 4 ≡ 0 → ⊥ = grind (arith, nat_tests) in omega arith

pub align_pads : AlignPads
align_pads statements = let at = place_after 0 statements in pads at (at % 4 == 0) (end_even 0 statements refl) refl

-- a property of labels stays true of all when a statement adds its label or none
labels_more : (P : Label → Type 0) (label : Option (Bor (List ℕ))) (at : ℕ) (labels : List Label) → ((name : List ℕ) → P (record { name = name; place = at }))
    → All P labels → All P (label_at label at ++ labels)
labels_more P None at labels here all = all
labels_more P (Some name) at labels here all = All-cons P (record { name = name.now; place = at }) labels (here name.now) all

labels_even : (from : ℕ) (statements : List Statement) → from % 2 ≡ 0 → All (λ (label : Label). label.place % 2 ≡ 0) (labels_of from statements)
labels_even from [] even = All-nil (λ (label : Label). label.place % 2 ≡ 0)
labels_even from (s ∷ statements) even =
    labels_more (λ (label : Label). label.place % 2 ≡ 0) s.label from (labels_of (from + size_of s.operation from) statements) (λ name. even)
    (labels_even (from + size_of s.operation from) statements (sum_even from (size_of s.operation from) even (size_even s.operation from)))

labels_within : (from stop : ℕ) (statements : List Statement) → place_after from statements ≤ stop →
    All (λ (label : Label). label.place ≤ stop) (labels_of from statements)
labels_within from stop [] within = All-nil (λ (label : Label). label.place ≤ stop)
labels_within from stop (s ∷ statements) within =
    labels_more (λ (label : Label). label.place ≤ stop) s.label from (labels_of (from + size_of s.operation from) statements)
    (λ name. omega (arith, end_above from (s ∷ statements), within))
    (labels_within (from + size_of s.operation from) stop statements within)

-- the bytes of some statements end at the place after them
bytes_end : (labels : List Label) (from : ℕ) (statements : List Statement) (bytes : List ℕ) → AreBytes labels from statements bytes
    → from + length bytes ≡ place_after from statements
bytes_end labels from [] bytes none = let e : length bytes ≡ 0 = ap length none in omega arith
bytes_end labels from (s ∷ statements) bytes (own, rest, are, long, of_own, of_rest) =
    let e : length bytes ≡ length own + length rest = ap length are ∙ length-append own rest in
    omega (arith, long, bytes_end labels (from + size_of s.operation from) statements rest of_rest)

-- the places of a text's labels are even
pub label_even : (text : List ℕ) (code : Code) → IsAssembled text code → All (λ (label : Label). label.place % 2 ≡ 0) code.labels
label_even text code assembled =
    rw assembled.read.read.read.labels_are (labels_even 0 assembled.statements refl)

-- the places of a text's labels are at most the length of its code
pub label_within : (text : List ℕ) (code : Code) → IsAssembled text code → All (λ (label : Label). label.place ≤ length code.bytes) code.labels
label_within text code assembled =
    let stop : place_after 0 assembled.statements ≤ length code.bytes =
    omega (arith, bytes_end code.labels 0 assembled.statements code.bytes assembled.bytes) in
    rw assembled.read.read.read.labels_are (labels_within 0 (length code.bytes) assembled.statements stop)
