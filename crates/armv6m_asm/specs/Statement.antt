-- The statement of a line, by its tokens.
use Rattle.std.specs.Prelude.{◌≡◌, ◌⊎◌, ◌<◌, ◌^◌, ◌&&◌, ◌||◌, ℕ, Bool, false, IsTrue, nat_eq, List, [], ◌∷◌, ◌++◌, length, All, sum_by, codes, Option, Some}
use Rattle.std.specs.Prelude.{None}
use Rattle.std.specs.List.{list_all, join_by, IsDistinct}
use Rattle.std.specs.Borrow.{Bor}
use Rattle.std.specs.Str.Parse.{IsNumeral, digits_value}
use Rattle.armv6m_decode.specs.declared.instr.Instr.{Instr}
use Rattle.armv6m_forms.specs.declared.mnemonic.Mnemonic.{Mnemonic}
use Rattle.armv6m_forms.specs.declared.form.Operands.{Operands}
use Rattle.armv6m_forms.specs.declared.form.Operands.TheVariants as operands
use Rattle.armv6m_forms.specs.declared.form.Aim.{Aim}
use Rattle.armv6m_forms.specs.declared.form.Aim.TheVariants as aims
use Rattle.armv6m_forms.specs.declared.form.Form.TheVariants as forms
use Rattle.armv6m_forms.specs.Form.{StandsFor}
use Rattle.armv6m_forms.specs.Text.{text_of, aim_text, register_text, special_text, IsSpecial}
use Rattle.armv6m_asm.specs.declared.statement.Destination.{Destination}
use Rattle.armv6m_asm.specs.declared.statement.Destination.TheVariants as destinations
use Rattle.armv6m_asm.specs.declared.statement.Operation.{Operation}
use Rattle.armv6m_asm.specs.declared.statement.Operation.TheVariants as operations
use Rattle.armv6m_asm.specs.declared.statement.Statement.{Statement}
use Rattle.armv6m_asm.specs.Token.{Token, word, mark, is_letter, is_digit, tokens_of}

-- ---- words

-- a name: a letter or `_`, then letters, digits and `_`
abbrev pub is_name : List ℕ → Bool
is_name [] = false
is_name (first ∷ rest) = is_letter first && list_all (λ byte. is_letter byte || is_digit byte) rest

-- a hexadecimal number: `0x`, then at least one digit, with letters of either case
pub record IsHexadecimal (bytes : List ℕ) (value : ℕ) : Type 0 where
  pub digits : List ℕ
  pub bytes_are : bytes ≡ codes "0x" ++ digits
  pub numeral : IsNumeral 16 digits
  pub value_is : value ≡ digits_value 16 digits

-- a decimal number: at least one digit
pub record IsDecimal (bytes : List ℕ) (value : ℕ) : Type 0 where
  pub numeral : IsNumeral 10 bytes
  pub value_is : value ≡ digits_value 10 bytes

-- a decimal or hexadecimal number below 2^32
abbrev pub IsNumber : List ℕ → ℕ → Type 0
IsNumber bytes value = (IsDecimal bytes value ⊎ IsHexadecimal bytes value) × (value < 2 ^ 32)

-- an address written as a destination: `0x` and eight hexadecimal digits
pub record IsAddress (bytes : List ℕ) (address : ℕ) : Type 0 where
  pub value : IsHexadecimal bytes address
  pub eight : length bytes ≡ 10

-- ---- tokens

abbrev pub exactly : List ℕ → Token → Type 0
exactly text token = token ≡ word text

abbrev pub register : ℕ → Token → Type 0
register number token = (token ≡ word (register_text number)) × (number < 16)

-- a register of R0 to R7, which three bits can name
abbrev pub low_register : ℕ → Token → Type 0
low_register number token = (token ≡ word (register_text number)) × (number < 8)

abbrev pub special_register : ℕ → Token → Type 0
special_register number token = (token ≡ word (special_text number)) × IsSpecial number

abbrev pub number : ℕ → Token → Type 0
number value (word bytes) = IsNumber bytes value
number value (mark byte) = ⊥

abbrev pub name : List ℕ → Token → Type 0
name bytes token = (token ≡ word bytes) × IsTrue (is_name bytes)

abbrev pub destination : Destination → Token → Type 0
destination (destinations.Label label) token = name label.now token
destination (destinations.Address address) (word bytes) = IsAddress bytes address
destination (destinations.Address address) (mark byte) = ⊥

abbrev pub comma : Token → Type 0
comma token = token ≡ mark 44

abbrev pub hash : Token → Type 0
hash token = token ≡ mark 35

abbrev pub colon : Token → Type 0
colon token = token ≡ mark 58

abbrev pub exclamation : Token → Type 0
exclamation token = token ≡ mark 33

abbrev pub open_bracket : Token → Type 0
open_bracket token = token ≡ mark 91

abbrev pub close_bracket : Token → Type 0
close_bracket token = token ≡ mark 93

-- tokens that begin with one token of each of these kinds. What is left of them satisfies `Rest`.
abbrev pub Begin : List (Token → Type 0) → (List Token → Type 0) → List Token → Type 0
Begin [] Rest tokens = Rest tokens
Begin (Kind ∷ kinds) Rest [] = ⊥
Begin (Kind ∷ kinds) Rest (token ∷ tokens) = Kind token × Begin kinds Rest tokens

abbrev pub AreNone : List Token → Type 0
AreNone tokens = tokens ≡ []

-- tokens that are one token of each of these kinds, and no more
abbrev pub Are : List (Token → Type 0) → List Token → Type 0
Are kinds tokens = Begin kinds AreNone tokens

-- ---- operands

-- the tokens of some registers, with a comma between each two
abbrev pub list_tokens : List ℕ → List Token
list_tokens registers = join_by (λ r. word (register_text r) ∷ []) (mark 44 ∷ []) registers

-- the tokens of a list of registers in braces: at least one register, in any order, and none of them twice
pub record AreList (list : ℕ) (tokens : List Token) : Type 0 where
  pub registers : List ℕ
  pub some : 0 < length registers
  pub each : All (λ r. r < 16) registers
  pub once : IsDistinct nat_eq registers
  pub list_is : list ≡ sum_by (λ r. 2 ^ r) registers
  pub tokens_are : tokens ≡ mark 123 ∷ (list_tokens registers ++ mark 125 ∷ [])

-- the tokens that spell some operands
abbrev pub Spell : Operands → List Token → Type 0
Spell operands.None = Are []
Spell (operands.One m) = Are (register m ∷ [])
Spell (operands.Two d m) = Are (register d ∷ comma ∷ register m ∷ [])
Spell (operands.Three d n m) = Are (register d ∷ comma ∷ register n ∷ comma ∷ register m ∷ [])
Spell (operands.Immediate immediate) = Are (hash ∷ number immediate ∷ [])
Spell (operands.OneImmediate d immediate) = Are (register d ∷ comma ∷ hash ∷ number immediate ∷ [])
Spell (operands.TwoImmediate d n immediate) = Are (register d ∷ comma ∷ register n ∷ comma ∷ hash ∷ number immediate ∷ [])
Spell (operands.ByRegister t n m) = Are (register t ∷ comma ∷ open_bracket ∷ register n ∷ comma ∷ register m ∷ close_bracket ∷ [])
Spell (operands.ByOffset t n offset) = Are (register t ∷ comma ∷ open_bracket ∷ register n ∷ comma ∷ hash ∷ number offset ∷ close_bracket ∷ [])
Spell (operands.List list) = AreList list
Spell (operands.BaseList n list) = Begin (register n ∷ comma ∷ []) (AreList list)
Spell (operands.UpdatedList n list) = Begin (register n ∷ exclamation ∷ comma ∷ []) (AreList list)
Spell operands.Interrupts = Are (exactly (codes "i") ∷ [])
Spell (operands.FromSpecial d special) = Are (register d ∷ comma ∷ special_register special ∷ [])
Spell (operands.ToSpecial special n) = Are (special_register special ∷ comma ∷ register n ∷ [])

-- ---- statements

-- the tokens of an instruction without a destination: its mnemonic and operands, which stand for it at every place
pub record ArePlain (instr : Instr) (tokens : List Token) : Type 0 where
  pub mnemonic : Mnemonic
  pub operands : Operands
  pub spelled : Begin (exactly (text_of mnemonic) ∷ []) (Spell operands) tokens
  pub stands : (at : ℕ) → StandsFor instr at (forms.Plain mnemonic operands)

-- the tokens of an instruction with a destination
abbrev pub AreAimed : Aim → Destination → List Token → Type 0
AreAimed aims.Branch to tokens = Are (exactly (aim_text aims.Branch) ∷ destination to ∷ []) tokens
AreAimed (aims.BranchIf condition) to tokens = Are (exactly (aim_text (aims.BranchIf condition)) ∷ destination to ∷ []) tokens
AreAimed aims.BranchLink to tokens = Are (exactly (aim_text aims.BranchLink) ∷ destination to ∷ []) tokens
AreAimed (aims.Load t) to tokens = Are (exactly (aim_text (aims.Load t)) ∷ low_register t ∷ comma ∷ destination to ∷ []) tokens
AreAimed (aims.Address d) to tokens = Are (exactly (aim_text (aims.Address d)) ∷ low_register d ∷ comma ∷ destination to ∷ []) tokens

-- the tokens of an operation
abbrev pub AreOperation : Operation → List Token → Type 0
AreOperation operations.Nothing tokens = AreNone tokens
AreOperation (operations.Word value) tokens = Are (exactly (codes ".word") ∷ number value ∷ []) tokens
AreOperation operations.Align tokens = Are (exactly (codes ".align") ∷ []) tokens
AreOperation (operations.Plain instr) tokens = ArePlain instr tokens
AreOperation (operations.Aimed aim to) tokens = AreAimed aim to tokens

-- the tokens of a statement: an operation, after a label and a colon if there is a label
abbrev pub AreStatement : Option (Bor (List ℕ)) → Operation → List Token → Type 0
AreStatement None operation tokens = AreOperation operation tokens
AreStatement (Some label) operation tokens = Begin (name label.now ∷ colon ∷ []) (AreOperation operation) tokens

-- a line reads as this statement
abbrev pub IsStatement : List ℕ → Statement → Type 0
IsStatement line statement = AreStatement statement.label statement.operation (tokens_of line)
