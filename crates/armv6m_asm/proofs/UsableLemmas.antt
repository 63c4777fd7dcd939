-- What is known of the statement of a line: ASCII names, and fields that fit.
use Rattle.std.proofs.Common.{◌≡◌, ◌<◌, ℕ, zero, suc, Bool, true, false, ◌&&◌, ◌||◌, List, [], ◌∷◌, refl, arith}
use Rattle.std.specs.Prelude.{Option, Some, None}
use Rattle.std.specs.List.{list_all}
use Rattle.std.specs.Borrow.{Bor}
use Rattle.std.specs.Str.{IsAscii}
use Rattle.std.proofs.lemmas.Bool.Decides.{nat_tests}
use Rattle.armv6m_forms.specs.declared.form.Aim.{Aim}
use Rattle.armv6m_forms.specs.declared.form.Aim.TheVariants as aims
use Rattle.armv6m_asm.specs.declared.statement.Destination.TheVariants as destinations
use Rattle.armv6m_asm.specs.declared.statement.Operation.{Operation}
use Rattle.armv6m_asm.specs.declared.statement.Operation.TheVariants as operations
use Rattle.armv6m_asm.specs.declared.statement.Statement.{Statement}
use Rattle.armv6m_asm.specs.Token.{Token, is_letter, is_digit, tokens_of}
use Rattle.armv6m_asm.specs.Statement.{is_name, exactly, low_register, name, destination, comma, colon, Are, Begin, AreAimed, AreOperation, AreStatement}
use Rattle.armv6m_asm.specs.Statement.{IsStatement}
use Rattle.armv6m_asm.specs.Usable.{IsUsableOperation, IsUsable}

-- ---- names

letter_small : (byte : ℕ) → is_letter byte ≡ true → byte < 128
letter_small byte is = grind (arith, nat_tests)

of_name_small : (byte : ℕ) → (is_letter byte || is_digit byte) ≡ true → byte < 128
of_name_small byte is = grind (arith, nat_tests)

first_part : (a b : Bool) → (a && b) ≡ true → a ≡ true
first_part true b is = refl
first_part false b is = is

second_part : (a b : Bool) → (a && b) ≡ true → b ≡ true
second_part true b is = is
second_part false b is = absurd (cc)

rest_ascii : (rest : List ℕ) → list_all (λ byte. is_letter byte || is_digit byte) rest ≡ true → IsAscii rest
rest_ascii [] all i = omega arith
rest_ascii (byte ∷ rest) all zero = of_name_small byte (first_part _ (list_all (λ byte. is_letter byte || is_digit byte) rest) all)
rest_ascii (byte ∷ rest) all (suc i) = rest_ascii rest (second_part (is_letter byte || is_digit byte) _ all) i

-- a name is ASCII
name_ascii : (bytes : List ℕ) → is_name bytes ≡ true → IsAscii bytes
name_ascii [] is i = absurd (cc)
name_ascii (first ∷ rest) is zero = letter_small first (first_part _ (list_all (λ byte. is_letter byte || is_digit byte) rest) is)
name_ascii (first ∷ rest) is (suc i) = rest_ascii rest (second_part (is_letter first) _ is) i

-- ---- destinations

branch_name : (text : List ℕ) (label : Bor (List ℕ)) (tokens : List Token) → Are (exactly text ∷ destination (destinations.Label label) ∷ []) tokens →
    IsAscii label.now
branch_name text label [] are = absurd are
branch_name text label (t ∷ []) are = absurd are.1
branch_name text label (t ∷ u ∷ tokens) are = name_ascii label.now are.1.0.1

load_name : (text : List ℕ) (r : ℕ) (label : Bor (List ℕ)) (tokens : List Token) →
    Are (exactly text ∷ low_register r ∷ comma ∷ destination (destinations.Label label) ∷ []) tokens → IsAscii label.now
load_name text r label [] are = absurd are
load_name text r label (t ∷ []) are = absurd are.1
load_name text r label (t ∷ u ∷ []) are = absurd are.1.1
load_name text r label (t ∷ u ∷ v ∷ []) are = absurd are.1.1.1
load_name text r label (t ∷ u ∷ v ∷ w ∷ tokens) are = name_ascii label.now are.1.1.1.0.1

aimed_name : (aim : Aim) (label : Bor (List ℕ)) (tokens : List Token) → AreAimed aim (destinations.Label label) tokens → IsAscii label.now
aimed_name (aims.Load t) label tokens are = load_name _ t label tokens are
aimed_name (aims.Address d) label tokens are = load_name _ d label tokens are
aimed_name aim label tokens are = branch_name _ label tokens are

-- ---- statements

operation_usable : (operation : Operation) (tokens : List Token) → AreOperation operation tokens → IsUsableOperation operation
operation_usable (operations.Plain instr) tokens are = (are.stands 0).fields
operation_usable (operations.Aimed aim (destinations.Label label)) tokens are = aimed_name aim label tokens are
operation_usable operation tokens are = tt

labelled : (label : Bor (List ℕ)) (operation : Operation) (tokens : List Token) → Begin (name label.now ∷ colon ∷ []) (AreOperation operation) tokens →
    IsAscii label.now × IsUsableOperation operation
labelled label operation [] are = absurd are
labelled label operation (t ∷ []) are = absurd are.1
labelled label operation (t ∷ u ∷ tokens) are = (name_ascii label.now are.0.1, operation_usable operation tokens are.1.1)

usable : (label : Option (Bor (List ℕ))) (operation : Operation) (tokens : List Token) → AreStatement label operation tokens →
    IsUsable (record { label = label; operation = operation })
usable None operation tokens are = record { label = tt; operation = operation_usable operation tokens are }
usable (Some label) operation tokens are = let both = labelled label operation tokens are in record { label = both.0; operation = both.1 }

pub statement_usable : (line : List ℕ) (s : Statement) → IsStatement line s → IsUsable s
statement_usable line s is = usable s.label s.operation (tokens_of line) is
