-- Lemmas on names, destinations, operations and statements.
use Rattle.std.proofs.Common.{◌≡◌, ◌≢◌, ◌<◌, ◌≤◌, ◌-◌, ◌&&◌, ◌||◌, ◌∙◌, sym, ap, subst, refl, ℕ, true, false, List, [], ◌∷◌, length, get_or, take, drop, map}
use Rattle.std.proofs.Common.{codes, Option, Some, None, MatchOption, arith}
use Rattle.std.specs.List.{list_all}
use Rattle.std.specs.Borrow.{Bor}
use Rattle.armv6m_decode.specs.declared.instr.Instr.{Instr}
use Rattle.armv6m_forms.specs.declared.mnemonic.Mnemonic.{Mnemonic}
use Rattle.armv6m_forms.specs.declared.form.Operands.{Operands}
use Rattle.armv6m_forms.specs.declared.form.Aim.{Aim}
use Rattle.armv6m_forms.specs.declared.form.Aim.TheVariants as aims
use Rattle.armv6m_forms.specs.declared.form.Form.TheVariants as forms
use Rattle.armv6m_forms.specs.Form.{StandsFor, HasNoInstruction}
use Rattle.armv6m_forms.specs.Text.{text_of, aim_text, register_text, IsBranch}
use Rattle.armv6m_forms.proofs.TextLemmas.{one_mnemonic}
use Rattle.armv6m_asm.specs.declared.statement.Destination.{Destination}
use Rattle.armv6m_asm.specs.declared.statement.Destination.TheVariants as destinations
use Rattle.armv6m_asm.specs.declared.statement.Operation.{Operation}
use Rattle.armv6m_asm.specs.declared.statement.Operation.TheVariants as operations
use Rattle.armv6m_asm.specs.Token.{Token, word, mark, is_letter, is_digit}
use Rattle.armv6m_asm.specs.Statement.{is_name, IsNumber, IsAddress, Are, exactly, number, low_register, comma, destination, Spell, ArePlain, AreAimed}
use Rattle.armv6m_asm.specs.Statement.{AreOperation}
use Rattle.armv6m_asm.specs.Statement.{AreStatement}
use Rattle.armv6m_asm.specs.Reading.{register_of, operands_of, symbol_of}
use Rattle.armv6m_asm.proofs.WordLemmas.{register_of-text}
use Rattle.armv6m_asm.proofs.TokenLemmas.{lent_rest}
use Rattle.armv6m_asm.proofs.OperandLemmas.{operands_of-spell, one_spelling}

-- ---- names and destinations

pub is_name-first : (bytes : List ℕ) → 0 < length bytes
    → is_name bytes ≡ is_letter (get_or bytes 0 0) && list_all (λ byte. is_letter byte || is_digit byte) (take (length bytes - 1) (drop 1 bytes))
is_name-first [] some = absurd (omega arith)
is_name-first (first ∷ rest) some =
    ap (λ (r : List ℕ). is_letter first && list_all (λ byte. is_letter byte || is_digit byte) r) (sym (lent_rest (first ∷ rest) 1))

pub no_destination : (bytes : List ℕ) → is_name bytes ≡ false → ((address : ℕ) → IsAddress bytes address → ⊥) →
    (to : Destination) → destination to (word bytes) → ⊥
no_destination bytes no_name no_address (destinations.Label label) is =
    let same : bytes ≡ label.now = let e = is.0 in cc in
    let named : is_name label.now ≡ true = is.1 in
    let e = ap is_name same in
    cc
no_destination bytes no_name no_address (destinations.Address address) is = no_address address is

pub one_register : (a b : ℕ) → a < 16 → b < 16 → register_text a ≡ register_text b → a ≡ b
one_register a b low high same =
    let first = register_of-text a low in
    let second = register_of-text b high in
    let e = ap register_of same in
    cc

-- a register of 8 or above isn't a low register
pub no_low : (tokens rest : List Token) (bytes : List ℕ) (r : ℕ) → tokens ≡ word bytes ∷ rest → register_text r ≡ bytes → r < 16 → 8 ≤ r
    → (t : ℕ) (first : Token) (others : List Token) → low_register t first → tokens ≢ first ∷ others
no_low tokens rest bytes r begins is below high t first others low again =
    let text : register_text t ≡ register_text r = let e = low.0 in cc in
    let small = low.1 in
    let same = one_register t r (omega arith) below text in
    omega arith

pub no_pair : (tokens behind rest : List Token) (first : Token) → tokens ≡ first ∷ behind → behind ≡ mark 44 ∷ rest →
    ((to : Destination) → Are (destination to ∷ []) rest → ⊥)
    → (t : ℕ) (to : Destination) → Are (low_register t ∷ comma ∷ destination to ∷ []) tokens → ⊥
no_pair tokens behind rest first begins then_comma none t to are =
    none to (subst (λ (all : List Token). Are (low_register t ∷ comma ∷ destination to ∷ []) all) (begins ∙ ap (λ (r : List Token). first ∷ r) then_comma)
    are).1.1

-- ---- words of data

pub value_exact : (bytes number_bytes : List ℕ) (tokens : List Token) (behind : List Token) (found : Option ℕ) → bytes ≡ codes ".word" →
    tokens ≡ word number_bytes ∷ behind → behind ≡ []
    → MatchOption found ((value : ℕ) → IsNumber number_bytes value → ⊥) (λ value. IsNumber number_bytes value)
    → MatchOption found ((value : ℕ) → Are (exactly (codes ".word") ∷ number value ∷ []) (word bytes ∷ tokens) → ⊥)
    (λ value. Are (exactly (codes ".word") ∷ number value ∷ []) (word bytes ∷ tokens))
value_exact bytes number_bytes tokens behind None is all nothing none = λ value are.
    none value (subst (λ (t : List Token). Are (number value ∷ []) t) all are.1).0
value_exact bytes number_bytes tokens behind (Some value) is all nothing some =
    (ap word is, subst (λ (t : List Token). Are (number value ∷ []) t) (sym all) (some, nothing))

-- ---- instructions without a destination

pub no_mnemonic : (bytes : List ℕ) (tokens : List Token) → ((m : Mnemonic) → text_of m ≢ bytes) → (instr : Instr) → ArePlain instr (word bytes ∷ tokens) → ⊥
no_mnemonic bytes tokens none instr is = none is.mnemonic (let e = is.spelled.0 in cc)

pub no_operands : (bytes : List ℕ) (tokens : List Token) → ((o : Operands) → Spell o tokens → ⊥) → (instr : Instr) → ArePlain instr (word bytes ∷ tokens) → ⊥
no_operands bytes tokens none instr is = none is.operands is.spelled.1

pub plain_exact : (bytes : List ℕ) (tokens : List Token) (m : Mnemonic) (o : Operands) (found : Option Instr) → text_of m ≡ bytes → Spell o tokens
    → MatchOption found ((at : ℕ) → HasNoInstruction at (forms.Plain m o)) (λ instr. (at : ℕ) → StandsFor instr at (forms.Plain m o))
    → MatchOption found ((instr : Instr) → ArePlain instr (word bytes ∷ tokens) → ⊥) (λ instr. ArePlain instr (word bytes ∷ tokens))
plain_exact bytes tokens m o None is spelled none = λ instr it.
    let mnemonic : it.mnemonic ≡ m = one_mnemonic it.mnemonic m (let e = it.spelled.0 in cc) in
    let operands : it.operands ≡ o = one_spelling it.operands o tokens it.spelled.1 spelled in
    none 0 instr (subst (λ x. StandsFor instr 0 (forms.Plain m x)) operands (subst (λ x. StandsFor instr 0 (forms.Plain x it.operands)) mnemonic (it.stands 0)))
plain_exact bytes tokens m o (Some instr) is spelled stands = record { mnemonic = m; operands = o; spelled = (ap word (sym is), spelled); stands = stands }

-- ---- instructions with a destination

pub load_text : (t : ℕ) → aim_text (aims.Load t) ≡ codes "LDR"
unfolding aim_text
load_text t = refl

pub address_text : (d : ℕ) → aim_text (aims.Address d) ≡ codes "ADR"
unfolding aim_text
address_text d = refl

branch_begins : (aim : Aim) → IsBranch aim → get_or (aim_text aim) 0 0 ≡ 66
unfolding aim_text
branch_begins (aims.Load t) is = absurd is
branch_begins (aims.Address d) is = absurd is
branch_begins aim is = refl

no_branch : (bytes : List ℕ) (n : ℕ) → get_or bytes 0 0 ≡ n → n ≢ 66 → (aim : Aim) → IsBranch aim → aim_text aim ≢ bytes
no_branch bytes n first other aim is same = other (sym first ∙ ap (λ (b : List ℕ). get_or b 0 0) (sym same) ∙ branch_begins aim is)

-- a branch and its destination are an instruction with a destination
pub branch_aimed : (aim : Aim) (to : Destination) (bytes : List ℕ) (tokens : List Token) → IsBranch aim → aim_text aim ≡ bytes →
    Are (destination to ∷ []) tokens
    → AreAimed aim to (word bytes ∷ tokens)
branch_aimed (aims.Load t) to bytes tokens branch is aimed = absurd branch
branch_aimed (aims.Address d) to bytes tokens branch is aimed = absurd branch
branch_aimed aim to bytes tokens branch is aimed = (ap word (sym is), aimed)

same_word : (a b : List ℕ) → word a ≡ word b → a ≡ b
same_word a b is = cc

-- what an instruction with a destination comes to
pub no_aimed : (bytes : List ℕ) (tokens : List Token)
    → (bytes ≡ codes "LDR" → (t : ℕ) (to : Destination) → Are (low_register t ∷ comma ∷ destination to ∷ []) tokens → ⊥)
    → (bytes ≡ codes "ADR" → (d : ℕ) (to : Destination) → Are (low_register d ∷ comma ∷ destination to ∷ []) tokens → ⊥)
    → ((aim : Aim) → IsBranch aim → aim_text aim ≡ bytes → (to : Destination) → Are (destination to ∷ []) tokens → ⊥)
    → (aim : Aim) (to : Destination) → AreAimed aim to (word bytes ∷ tokens) → ⊥
no_aimed bytes tokens load address branch aims.Branch to is = branch aims.Branch tt (sym (same_word bytes (aim_text aims.Branch) is.0)) to is.1
no_aimed bytes tokens load address branch (aims.BranchIf condition) to is =
    branch (aims.BranchIf condition) tt (sym (same_word bytes (aim_text (aims.BranchIf condition)) is.0)) to is.1
no_aimed bytes tokens load address branch aims.BranchLink to is = branch aims.BranchLink tt (sym (same_word bytes (aim_text aims.BranchLink) is.0)) to is.1
no_aimed bytes tokens load address branch (aims.Load t) to is = load (same_word bytes (aim_text (aims.Load t)) is.0 ∙ load_text t) t to is.1
no_aimed bytes tokens load address branch (aims.Address d) to is = address (same_word bytes (aim_text (aims.Address d)) is.0 ∙ address_text d) d to is.1

load_is_no_address : (bytes : List ℕ) → bytes ≡ codes "LDR" → bytes ≡ codes "ADR" → ⊥
load_is_no_address bytes load address = omega (arith, ap (λ (b : List ℕ). get_or b 0 0) load, ap (λ (b : List ℕ). get_or b 0 0) address)

-- `LDR` and `ADR` are different words, and no branches
pub no_load : (bytes : List ℕ) (tokens : List Token) → bytes ≡ codes "LDR" →
    ((t : ℕ) (to : Destination) → Are (low_register t ∷ comma ∷ destination to ∷ []) tokens → ⊥)
    → (aim : Aim) (to : Destination) → AreAimed aim to (word bytes ∷ tokens) → ⊥
no_load bytes tokens is none =
    no_aimed bytes tokens (λ _. none) (λ other. absurd (load_is_no_address bytes is other))
    (λ aim branch same to aimed. no_branch bytes 76 (ap (λ (b : List ℕ). get_or b 0 0) is) (λ e. omega (arith, e)) aim branch same)

pub no_address : (bytes : List ℕ) (tokens : List Token) → bytes ≡ codes "ADR" →
    ((d : ℕ) (to : Destination) → Are (low_register d ∷ comma ∷ destination to ∷ []) tokens → ⊥)
    → (aim : Aim) (to : Destination) → AreAimed aim to (word bytes ∷ tokens) → ⊥
no_address bytes tokens is none =
    no_aimed bytes tokens (λ other. absurd (load_is_no_address bytes other is)) (λ _. none)
    (λ aim branch same to aimed. no_branch bytes 65 (ap (λ (b : List ℕ). get_or b 0 0) is) (λ e. omega (arith, e)) aim branch same)

-- ---- operations

pub no_operation : (bytes : List ℕ) (tokens : List Token) → (Are (exactly (codes ".align") ∷ []) (word bytes ∷ tokens) → ⊥)
    → ((value : ℕ) → Are (exactly (codes ".word") ∷ number value ∷ []) (word bytes ∷ tokens) → ⊥)
    → ((instr : Instr) → ArePlain instr (word bytes ∷ tokens) → ⊥)
    → ((aim : Aim) (to : Destination) → AreAimed aim to (word bytes ∷ tokens) → ⊥)
    → (operation : Operation) → AreOperation operation (word bytes ∷ tokens) → ⊥
no_operation bytes tokens align value plain aimed operations.Nothing is = absurd (cc)
no_operation bytes tokens align value plain aimed (operations.Word v) is = value v is
no_operation bytes tokens align value plain aimed operations.Align is = align is
no_operation bytes tokens align value plain aimed (operations.Plain instr) is = plain instr is
no_operation bytes tokens align value plain aimed (operations.Aimed aim to) is = aimed aim to is

-- no operands begin with a colon
colon_is_no_operand : (rest : List Token) → operands_of (map symbol_of (mark 58 ∷ rest)) ≡ None
unfolding operands_of symbol_of
colon_is_no_operand rest = refl

pub no_colon_destination : (to : Destination) → destination to (mark 58) → ⊥
no_colon_destination (destinations.Label label) is = let e = is.0 in cc
no_colon_destination (destinations.Address address) is = is

-- no operation has a colon as its second token
pub no_colon : (bytes : List ℕ) (rest : List Token) (operation : Operation) → AreOperation operation (word bytes ∷ mark 58 ∷ rest) → ⊥
no_colon bytes rest operations.Nothing is = absurd (cc)
no_colon bytes rest (operations.Word v) is = is.1.0
no_colon bytes rest operations.Align is = let e = is.1 in cc
no_colon bytes rest (operations.Plain instr) is =
    let some = operands_of-spell is.operands (mark 58 ∷ rest) is.spelled.1 in
    let none = colon_is_no_operand rest in
    cc
no_colon bytes rest (operations.Aimed aims.Branch to) is = no_colon_destination to is.1.0
no_colon bytes rest (operations.Aimed (aims.BranchIf condition) to) is = no_colon_destination to is.1.0
no_colon bytes rest (operations.Aimed aims.BranchLink to) is = no_colon_destination to is.1.0
no_colon bytes rest (operations.Aimed (aims.Load t) to) is = let e = is.1.0.0 in cc
no_colon bytes rest (operations.Aimed (aims.Address d) to) is = let e = is.1.0.0 in cc

-- ---- statements

-- a line with a colon as its second token is no statement if the tokens after it are no operation
pub no_rest : (tokens rest : List Token) (bytes : List ℕ) → tokens ≡ word bytes ∷ mark 58 ∷ rest → ((operation : Operation) → AreOperation operation rest → ⊥)
    → (label : Option (Bor (List ℕ))) (operation : Operation) → AreStatement label operation tokens → ⊥
no_rest tokens rest bytes all none None operation is = no_colon bytes rest operation (subst (AreOperation operation) all is)
no_rest tokens rest bytes all none (Some label) operation is = none operation (subst (AreStatement (Some label) operation) all is).1.1

-- a line with a colon as its second token is no statement if its first token is no name
pub no_label : (tokens rest : List Token) (bytes : List ℕ) → tokens ≡ word bytes ∷ mark 58 ∷ rest → is_name bytes ≡ false
    → (label : Option (Bor (List ℕ))) (operation : Operation) → AreStatement label operation tokens → ⊥
no_label tokens rest bytes all none None operation is = no_colon bytes rest operation (subst (AreOperation operation) all is)
no_label tokens rest bytes all none (Some label) operation is =
    let named = (subst (AreStatement (Some label) operation) all is).0 in
    let same : bytes ≡ label.now = let e = named.0 in cc in
    let is_one : is_name label.now ≡ true = named.1 in
    let e = ap is_name same in
    cc

-- a line without a colon as its second token is no statement if it is no operation
pub no_colon_then : (tokens : List Token) → ((bytes : List ℕ) (rest : List Token) → tokens ≢ word bytes ∷ mark 58 ∷ rest)
    → ((operation : Operation) → AreOperation operation tokens → ⊥)
    → (label : Option (Bor (List ℕ))) (operation : Operation) → AreStatement label operation tokens → ⊥
no_colon_then tokens other none None operation is = none operation is
no_colon_then [] other none (Some label) operation is = is
no_colon_then (first ∷ []) other none (Some label) operation is = is.1
no_colon_then (first ∷ second ∷ rest) other none (Some label) operation is = other label.now rest (rw (is.0.0, is.1.0) refl)
