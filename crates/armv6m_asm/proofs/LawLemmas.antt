-- A line has one statement at most.
use Rattle.std.proofs.Common.{◌≡◌, ◌≤◌, ◌+◌, ◌==◌, ◌∙◌, ◌⊎◌, ⊎_elim, inl, inr, sym, ap, subst, refl, ℕ, true, false, if◌then◌else◌, List, [], ◌∷◌, ◌++◌}
use Rattle.std.proofs.Common.{get_or, drop, codes, Option, Some, None, arith}
use Rattle.std.specs.Borrow.{Bor}
use Rattle.std.specs.Str.Parse.{digits_value}
use Rattle.armv6m_decode.specs.declared.instr.Instr.{Instr}
use Rattle.armv6m_decode.specs.declared.condition.Condition.{Condition}
use Rattle.armv6m_decode.specs.declared.condition.Condition.TheVariants as conditions
use Rattle.armv6m_decode.specs.Conditions.{condition_code}
use Rattle.armv6m_decode.proofs.ConditionLemmas.{one_condition}
use Rattle.armv6m_forms.specs.declared.mnemonic.Mnemonic.{Mnemonic}
use Rattle.armv6m_forms.specs.declared.mnemonic.Mnemonic.TheVariants as mnemonics
use Rattle.armv6m_forms.specs.declared.form.Operands.{Operands}
use Rattle.armv6m_forms.specs.declared.form.Operands.TheVariants as operands
use Rattle.armv6m_forms.specs.declared.form.Aim.{Aim}
use Rattle.armv6m_forms.specs.declared.form.Aim.TheVariants as aims
use Rattle.armv6m_forms.specs.declared.form.Form.TheVariants as forms
use Rattle.armv6m_forms.specs.Form.{StandsFor}
use Rattle.armv6m_forms.specs.Text.{text_of, aim_text, condition_text}
use Rattle.armv6m_forms.proofs.RowLemmas.{row_of, row_is, one_for_each, with_field, row_immediate, row_one_immediate, row_two_immediate, row_base_list}
use Rattle.armv6m_forms.proofs.RowLemmas.{row_updated_list}
use Rattle.armv6m_forms.proofs.TextLemmas.{one_mnemonic}
use Rattle.armv6m_asm.specs.declared.statement.Destination.{Destination}
use Rattle.armv6m_asm.specs.declared.statement.Destination.TheVariants as destinations
use Rattle.armv6m_asm.specs.declared.statement.Operation.{Operation}
use Rattle.armv6m_asm.specs.declared.statement.Operation.TheVariants as operations
use Rattle.armv6m_asm.specs.Token.{Token, word, mark, tokens_of}
use Rattle.armv6m_asm.specs.Statement.{is_name, IsAddress, Are, number, low_register, comma, destination, Spell, ArePlain, AreAimed, AreOperation, AreStatement}
use Rattle.armv6m_asm.specs.Alike.{AreAlikeDestinations, AreAlikeOperations, AreAlikeLabels, OneStatementForEachLine}
use Rattle.armv6m_asm.specs.Reading.{is_text}
use Rattle.armv6m_asm.proofs.WordLemmas.{number_in-number}
use Rattle.armv6m_asm.proofs.OperandLemmas.{one_spelling}
use Rattle.armv6m_asm.proofs.StatementLemmas.{one_register, no_colon}

-- ---- the first words

-- a number for each first word of an instruction with a destination, and 0 for other words
key_of : List ℕ → ℕ
key_of bytes =
    if is_text (codes "B") bytes then 1 else if is_text (codes "BL") bytes then 2 else if is_text (codes "LDR") bytes then 3
    else if is_text (codes "ADR") bytes then 4
    else if is_text (codes "BEQ") bytes then 5
    else if is_text (codes "BNE") bytes then 6
    else if is_text (codes "BCS") bytes then 7
    else if is_text (codes "BCC") bytes then 8
    else if is_text (codes "BMI") bytes then 9
    else if is_text (codes "BPL") bytes then 10
    else if is_text (codes "BVS") bytes then 11
    else if is_text (codes "BVC") bytes then 12
    else if is_text (codes "BHI") bytes then 13
    else if is_text (codes "BLS") bytes then 14
    else if is_text (codes "BGE") bytes then 15
    else if is_text (codes "BLT") bytes then 16
    else if is_text (codes "BGT") bytes then 17
    else if is_text (codes "BLE") bytes then 18 else 0

key : Aim → ℕ
key aims.Branch = 1
key (aims.BranchIf condition) = 5 + condition_code condition
key aims.BranchLink = 2
key (aims.Load t) = 3
key (aims.Address d) = 4

condition_key : (condition : Condition) → key_of (codes "B" ++ condition_text condition) ≡ 5 + condition_code condition
unfolding key_of condition_text
condition_key conditions.Equal = refl
condition_key condition = refl

aimed_key : (aim : Aim) (to : Destination) (bytes : List ℕ) (rest : List Token) → AreAimed aim to (word bytes ∷ rest) → key_of bytes ≡ key aim
unfolding key key_of aim_text
aimed_key aims.Branch to bytes rest is = let same : bytes ≡ codes "B" = let e = is.0 in cc in ap key_of same
aimed_key (aims.BranchIf condition) to bytes rest is =
    let same : bytes ≡ codes "B" ++ condition_text condition = let e = is.0 in cc in ap key_of same ∙ condition_key condition
aimed_key aims.BranchLink to bytes rest is = let same : bytes ≡ codes "BL" = let e = is.0 in cc in ap key_of same
aimed_key (aims.Load t) to bytes rest is = let same : bytes ≡ codes "LDR" = let e = is.0 in cc in ap key_of same
aimed_key (aims.Address d) to bytes rest is = let same : bytes ≡ codes "ADR" = let e = is.0 in cc in ap key_of same

-- no mnemonic but `LDR` is the first word of an instruction with a destination
mnemonic_key : (m : Mnemonic) → (m ≡ mnemonics.Ldr) ⊎ (key_of (text_of m) ≡ 0)
unfolding key_of text_of
mnemonic_key mnemonics.Ldr = inl refl
mnemonic_key m = inr refl

load_key : key_of (text_of mnemonics.Ldr) ≡ 3
unfolding key_of text_of
load_key = refl

-- no first word of an instruction begins with a dot
mnemonic_begins : (m : Mnemonic) → (get_or (text_of m) 0 0 == 46) ≡ false
unfolding text_of
mnemonic_begins mnemonics.Lsls = refl
mnemonic_begins m = refl

-- which directive a word is: 1 for `.word`, 2 for another with a dot, 3 for none
directive : List ℕ → ℕ
directive bytes = if get_or bytes 0 0 == 46 then (if get_or bytes 1 0 == 119 then 1 else 2) else 3

-- the sort of the first token: as `directive` for a word, 4 for a mark, and 0 if there is no token
sort : List Token → ℕ
sort [] = 0
sort (word bytes ∷ rest) = directive bytes
sort (mark byte ∷ rest) = 4

sort_of : Operation → ℕ
sort_of operations.Nothing = 0
sort_of (operations.Word value) = 1
sort_of operations.Align = 2
sort_of (operations.Plain instr) = 3
sort_of (operations.Aimed aim to) = 3

aim_sort : (aim : Aim) (to : Destination) (tokens : List Token) → AreAimed aim to tokens → sort tokens ≡ 3
unfolding sort directive aim_text
aim_sort aims.Branch to [] is = absurd is
aim_sort aims.Branch to (token ∷ rest) is = let e = is.0 in rw e refl
aim_sort (aims.BranchIf condition) to [] is = absurd is
aim_sort (aims.BranchIf condition) to (token ∷ rest) is = let e = is.0 in rw e refl
aim_sort aims.BranchLink to [] is = absurd is
aim_sort aims.BranchLink to (token ∷ rest) is = let e = is.0 in rw e refl
aim_sort (aims.Load t) to [] is = absurd is
aim_sort (aims.Load t) to (token ∷ rest) is = let e = is.0 in rw e refl
aim_sort (aims.Address d) to [] is = absurd is
aim_sort (aims.Address d) to (token ∷ rest) is = let e = is.0 in rw e refl

plain_sort : (instr : Instr) (tokens : List Token) → ArePlain instr tokens → sort tokens ≡ 3
unfolding sort directive
plain_sort instr [] is = absurd is.spelled
plain_sort instr (token ∷ rest) is = let e = is.spelled.0 in let begins = mnemonic_begins is.mnemonic in rw (e, begins) refl

operation_sort : (operation : Operation) (tokens : List Token) → AreOperation operation tokens → sort tokens ≡ sort_of operation
unfolding sort sort_of directive
operation_sort operations.Nothing tokens is = rw is refl
operation_sort (operations.Word value) [] is = absurd is
operation_sort (operations.Word value) (token ∷ rest) is = let e = is.0 in rw e refl
operation_sort operations.Align [] is = absurd is
operation_sort operations.Align (token ∷ rest) is = let e = is.0 in rw e refl
operation_sort (operations.Plain instr) tokens is = plain_sort instr tokens is
operation_sort (operations.Aimed aim to) tokens is = aim_sort aim to tokens is

-- ---- destinations

begins_with_zero : (bytes : List ℕ) (address : ℕ) → IsAddress bytes address → is_name bytes ≡ false
begins_with_zero bytes address is = ap is_name is.value.bytes_are

one_address : (bytes : List ℕ) (a b : ℕ) → IsAddress bytes a → IsAddress bytes b → a ≡ b
one_address bytes a b one other =
    let same : one.value.digits ≡ other.value.digits = let x = one.value.bytes_are in let y = other.value.bytes_are in ap (drop 2) (sym x ∙ y) in
    one.value.value_is ∙ ap (digits_value 16) same ∙ sym other.value.value_is

one_destination : (one other : Destination) (token : Token) → destination one token → destination other token → AreAlikeDestinations one other
one_destination (destinations.Label a) (destinations.Label b) token x y = let p = x.0 in let q = y.0 in cc
one_destination (destinations.Label a) (destinations.Address b) (word bytes) x y =
    let same : bytes ≡ a.now = let e = x.0 in cc in
    let named : is_name a.now ≡ true = x.1 in
    let no = begins_with_zero bytes b y in
    let e = ap is_name same in
    cc
one_destination (destinations.Label a) (destinations.Address b) (mark byte) x y = absurd y
one_destination (destinations.Address a) (destinations.Label b) (word bytes) x y =
    let same : bytes ≡ b.now = let e = y.0 in cc in
    let named : is_name b.now ≡ true = y.1 in
    let no = begins_with_zero bytes a x in
    let e = ap is_name same in
    cc
one_destination (destinations.Address a) (destinations.Label b) (mark byte) x y = absurd x
one_destination (destinations.Address a) (destinations.Address b) (word bytes) x y = one_address bytes a b x y
one_destination (destinations.Address a) (destinations.Address b) (mark byte) x y = absurd x

one_last_destination : (one other : Destination) (tokens : List Token) → Are (destination one ∷ []) tokens → Are (destination other ∷ []) tokens →
    AreAlikeDestinations one other
one_last_destination one other [] x y = absurd x
one_last_destination one other (token ∷ rest) x y = one_destination one other token x.0 y.0

-- ---- operations

one_low : (a b : ℕ) (token : Token) → low_register a token → low_register b token → a ≡ b
one_low a b token x y =
    let small = x.1 in
    let low = y.1 in
    one_register a b (omega arith) (omega arith) (let p = x.0 in let q = y.0 in cc)

one_pair_load : (a b : ℕ) (to too : Destination) (tokens : List Token) → Are (low_register a ∷ comma ∷ destination to ∷ []) tokens →
    Are (low_register b ∷ comma ∷ destination too ∷ []) tokens
    → (aims.Load a ≡ aims.Load b) × AreAlikeDestinations to too
one_pair_load a b to too [] x y = absurd x
one_pair_load a b to too (first ∷ []) x y = absurd x.1
one_pair_load a b to too (first ∷ then_comma ∷ rest) x y = (ap aims.Load (one_low a b first x.0 y.0), one_last_destination to too rest x.1.1 y.1.1)

one_pair_address : (a b : ℕ) (to too : Destination) (tokens : List Token) → Are (low_register a ∷ comma ∷ destination to ∷ []) tokens →
    Are (low_register b ∷ comma ∷ destination too ∷ []) tokens
    → (aims.Address a ≡ aims.Address b) × AreAlikeDestinations to too
one_pair_address a b to too [] x y = absurd x
one_pair_address a b to too (first ∷ []) x y = absurd x.1
one_pair_address a b to too (first ∷ then_comma ∷ rest) x y = (ap aims.Address (one_low a b first x.0 y.0), one_last_destination to too rest x.1.1 y.1.1)

one_aimed : (one other : Aim) (to too : Destination) (bytes : List ℕ) (rest : List Token) → key one ≡ key other → AreAimed one to (word bytes ∷ rest) →
    AreAimed other too (word bytes ∷ rest)
    → (one ≡ other) × AreAlikeDestinations to too
unfolding key
one_aimed aims.Branch aims.Branch to too bytes rest same x y = (refl, one_last_destination to too rest x.1 y.1)
one_aimed (aims.BranchIf c) (aims.BranchIf d) to too bytes rest same x y =
    (ap aims.BranchIf (one_condition c d (omega (arith, same))), one_last_destination to too rest x.1 y.1)
one_aimed aims.BranchLink aims.BranchLink to too bytes rest same x y = (refl, one_last_destination to too rest x.1 y.1)
one_aimed (aims.Load c) (aims.Load d) to too bytes rest same x y = one_pair_load c d to too rest x.1 y.1
one_aimed (aims.Address c) (aims.Address d) to too bytes rest same x y = one_pair_address c d to too rest x.1 y.1
one_aimed one other to too bytes rest same x y = absurd (omega (arith, same))

with_nothing : (f : ℕ → Option Instr) (field : Option ℕ) (i : Instr) → ((x : ℕ) → f x ≡ None) → with_field f field ≡ Some i → ⊥
with_nothing f None i nothing is = absurd (cc)
with_nothing f (Some x) i nothing is = let none = nothing x in cc

no_bracket_destination : (to : Destination) (token : Token) → token ≡ mark 91 → destination to token → ⊥
no_bracket_destination (destinations.Label label) token is x = let e = x.0 in cc
no_bracket_destination (destinations.Address address) (word bytes) is x = absurd (cc)
no_bracket_destination (destinations.Address address) (mark byte) is x = x

-- `LDR` without a destination has a bracket among its operands
load_row : (o : Operands) (i : Instr) → row_of (forms.Plain mnemonics.Ldr o) 0 ≡ Some i → (t : ℕ) (to : Destination) (tokens : List Token) → Spell o tokens
    → Are (low_register t ∷ comma ∷ destination to ∷ []) tokens → ⊥
load_row (operands.Immediate v) i is t to tokens x y = with_nothing (row_immediate mnemonics.Ldr) _ i (λ field. refl) is
load_row (operands.OneImmediate d v) i is t to tokens x y = with_nothing (row_one_immediate mnemonics.Ldr d) _ i (λ field. refl) is
load_row (operands.TwoImmediate d n v) i is t to tokens x y = with_nothing (row_two_immediate mnemonics.Ldr d n) _ i (λ field. refl) is
load_row (operands.ByRegister a n m) i is t to [] x y = absurd y
load_row (operands.ByRegister a n m) i is t to (first ∷ []) x y = absurd y.1
load_row (operands.ByRegister a n m) i is t to (first ∷ second ∷ []) x y = absurd y.1.1
load_row (operands.ByRegister a n m) i is t to (first ∷ second ∷ third ∷ rest) x y = no_bracket_destination to third x.1.1.0 y.1.1.0
load_row (operands.ByOffset a n v) i is t to [] x y = absurd y
load_row (operands.ByOffset a n v) i is t to (first ∷ []) x y = absurd y.1
load_row (operands.ByOffset a n v) i is t to (first ∷ second ∷ []) x y = absurd y.1.1
load_row (operands.ByOffset a n v) i is t to (first ∷ second ∷ third ∷ rest) x y = no_bracket_destination to third x.1.1.0 y.1.1.0
load_row (operands.BaseList n list) i is t to tokens x y = with_nothing (row_base_list mnemonics.Ldr n) _ i (λ field. refl) is
load_row (operands.UpdatedList n list) i is t to tokens x y = with_nothing (row_updated_list mnemonics.Ldr n) _ i (λ field. refl) is
load_row o i is t to tokens x y = absurd (cc)

-- no tokens are both an instruction with a destination and one without
plain_or_aimed : (instr : Instr) (aim : Aim) (to : Destination) (bytes : List ℕ) (rest : List Token) → ArePlain instr (word bytes ∷ rest) →
    AreAimed aim to (word bytes ∷ rest) → ⊥
unfolding key
plain_or_aimed instr aim to bytes rest plain aimed = ⊎_elim
    (λ (ldr : plain.mnemonic ≡ mnemonics.Ldr). is_load aim aimed ldr)
    (λ (none : key_of (text_of plain.mnemonic) ≡ 0). some aim aimed (ap key_of text ∙ none))
    (mnemonic_key plain.mnemonic) where
      text : bytes ≡ text_of plain.mnemonic
      text = let e = plain.spelled.0 in cc

      some : (aim : Aim) → AreAimed aim to (word bytes ∷ rest) → key_of bytes ≡ 0 → ⊥
      some aims.Branch aimed none = omega (arith, aimed_key aims.Branch to bytes rest aimed, none)
      some (aims.BranchIf condition) aimed none = omega (arith, aimed_key (aims.BranchIf condition) to bytes rest aimed, none)
      some aims.BranchLink aimed none = omega (arith, aimed_key aims.BranchLink to bytes rest aimed, none)
      some (aims.Load t) aimed none = omega (arith, aimed_key (aims.Load t) to bytes rest aimed, none)
      some (aims.Address d) aimed none = omega (arith, aimed_key (aims.Address d) to bytes rest aimed, none)

      is_load : (aim : Aim) → AreAimed aim to (word bytes ∷ rest) → plain.mnemonic ≡ mnemonics.Ldr → ⊥
      is_load aims.Branch aimed ldr = omega (arith, aimed_key aims.Branch to bytes rest aimed, ap key_of (text ∙ ap text_of ldr), load_key)
      is_load (aims.BranchIf condition) aimed ldr = omega (
        arith,
        aimed_key (aims.BranchIf condition) to bytes rest aimed,
        ap key_of (text ∙ ap text_of ldr),
        load_key,
      )
      is_load aims.BranchLink aimed ldr = omega (arith, aimed_key aims.BranchLink to bytes rest aimed, ap key_of (text ∙ ap text_of ldr), load_key)
      is_load (aims.Load t) aimed ldr =
          load_row plain.operands instr (row_is instr 0 (forms.Plain mnemonics.Ldr plain.operands)
          (subst (λ (m : Mnemonic). StandsFor instr 0 (forms.Plain m plain.operands)) ldr (plain.stands 0)))
          t to rest plain.spelled.1 aimed.1
      is_load (aims.Address d) aimed ldr = omega (arith, aimed_key (aims.Address d) to bytes rest aimed, ap key_of (text ∙ ap text_of ldr), load_key)

one_plain : (one other : Instr) (bytes : List ℕ) (rest : List Token) → ArePlain one (word bytes ∷ rest) → ArePlain other (word bytes ∷ rest) → one ≡ other
one_plain one other bytes rest x y =
    let mnemonic : x.mnemonic ≡ y.mnemonic = one_mnemonic x.mnemonic y.mnemonic (let p = x.spelled.0 in let q = y.spelled.0 in cc) in
    let spelled : x.operands ≡ y.operands = one_spelling x.operands y.operands rest x.spelled.1 y.spelled.1 in
    one_for_each one other 0 (forms.Plain y.mnemonic y.operands)
    (subst (λ (o : Operands). StandsFor one 0 (forms.Plain y.mnemonic o)) spelled
    (subst (λ (m : Mnemonic). StandsFor one 0 (forms.Plain m x.operands)) mnemonic (x.stands 0)))
    (y.stands 0)

one_value : (a b : ℕ) (tokens : List Token) → Are (number a ∷ []) tokens → Are (number b ∷ []) tokens → a ≡ b
one_value a b [] x y = absurd x
one_value a b (word bytes ∷ rest) x y = let p = number_in-number bytes a x.0 in let q = number_in-number bytes b y.0 in cc
one_value a b (mark byte ∷ rest) x y = absurd x.0

-- two operations of one sort with the same tokens, which begin with a word, are alike
by_word : (one other : Operation) (bytes : List ℕ) (rest : List Token) → sort_of one ≡ sort_of other → AreOperation one (word bytes ∷ rest) →
    AreOperation other (word bytes ∷ rest)
    → AreAlikeOperations one other
unfolding sort_of
by_word operations.Nothing operations.Nothing bytes rest same x y = tt
by_word (operations.Word a) (operations.Word b) bytes rest same x y = one_value a b rest x.1 y.1
by_word operations.Align operations.Align bytes rest same x y = tt
by_word (operations.Plain a) (operations.Plain b) bytes rest same x y = one_plain a b bytes rest x y
by_word (operations.Plain a) (operations.Aimed b too) bytes rest same x y = absurd (plain_or_aimed a b too bytes rest x y)
by_word (operations.Aimed a to) (operations.Plain b) bytes rest same x y = absurd (plain_or_aimed b a to bytes rest y x)
by_word (operations.Aimed a to) (operations.Aimed b too) bytes rest same x y =
    one_aimed a b to too bytes rest (sym (aimed_key a to bytes rest x) ∙ aimed_key b too bytes rest y) x y
by_word one other bytes rest same x y = absurd (omega (arith, same))

none_of_none : (operation : Operation) → sort_of operation ≡ 0 → operation ≡ operations.Nothing
unfolding sort_of
none_of_none operations.Nothing is = refl
none_of_none operation is = absurd (omega (arith, is))

at_most_three : (operation : Operation) → sort_of operation ≤ 3
unfolding sort_of
at_most_three operations.Nothing = omega arith
at_most_three operation = omega arith

pub one_operation : (one other : Operation) (tokens : List Token) → AreOperation one tokens → AreOperation other tokens → AreAlikeOperations one other
unfolding sort
one_operation one other [] x y =
    let first = none_of_none one (sym (operation_sort one [] x)) in
    let second = none_of_none other (sym (operation_sort other [] y)) in
    subst (λ (o : Operation). AreAlikeOperations o other) (sym first) (subst (λ (o : Operation). AreAlikeOperations operations.Nothing o) (sym second) tt)
one_operation one other (word bytes ∷ rest) x y =
    by_word one other bytes rest (sym (operation_sort one (word bytes ∷ rest) x) ∙ operation_sort other (word bytes ∷ rest) y) x y
one_operation one other (mark byte ∷ rest) x y = absurd (omega (arith, operation_sort one (mark byte ∷ rest) x, at_most_three one))

-- ---- statements

no_label_too : (label : Bor (List ℕ)) (one other : Operation) (tokens : List Token) → AreStatement None one tokens → AreStatement (Some label) other tokens → ⊥
no_label_too label one other [] x y = y
no_label_too label one other (first ∷ []) x y = y.1
no_label_too label one other (first ∷ second ∷ rest) x y =
    no_colon label.now rest one (subst (λ (t : Token). AreOperation one (word label.now ∷ t ∷ rest)) y.1.0
    (subst (λ (t : Token). AreOperation one (t ∷ second ∷ rest)) y.0.0 x))

one_statement_of : (label too : Option (Bor (List ℕ))) (one other : Operation) (tokens : List Token) → AreStatement label one tokens →
    AreStatement too other tokens
    → AreAlikeLabels label too × AreAlikeOperations one other
one_statement_of None None one other tokens x y = (tt, one_operation one other tokens x y)
one_statement_of None (Some b) one other tokens x y = absurd (no_label_too b one other tokens x y)
one_statement_of (Some a) None one other tokens x y = absurd (no_label_too a other one tokens y x)
one_statement_of (Some a) (Some b) one other [] x y = absurd x
one_statement_of (Some a) (Some b) one other (first ∷ []) x y = absurd x.1
one_statement_of (Some a) (Some b) one other (first ∷ second ∷ rest) x y =
    ((let p = x.0.0 in let q = y.0.0 in cc), one_operation one other rest x.1.1 y.1.1)

pub one_statement : OneStatementForEachLine
one_statement line one other x y = one_statement_of one.label other.label one.operation other.operation (tokens_of line) x y
