-- The operands that tokens spell, as a function that proofs compute with. Only contracts of private functions cite it. Statement states
-- what is read, and proofs/OperandLemmas shows that both agree.
use Rattle.std.specs.Prelude.{◌<◌, ◌+◌, ◌^◌, ◌==◌, ◌&&◌, ℕ, Bool, true, false, nat_lt, List, [], ◌∷◌, map, take, drop, length, codes, Option, Some, None}
use Rattle.std.specs.Prelude.{option_and_then, option_map, if◌then◌else◌}
use Rattle.std.specs.List.{list_all, find, range_with_len}
use Rattle.std.specs.Char.{digit_value}
use Rattle.std.specs.Str.Parse.{digits_value}
use Rattle.armv6m_alu.specs.Bits.{is_bit_set}
use Rattle.armv6m_forms.specs.declared.form.Operands.{Operands}
use Rattle.armv6m_forms.specs.declared.form.Operands.TheVariants as operands
use Rattle.armv6m_forms.specs.Text.{register_text, special_text}
use Rattle.armv6m_asm.specs.declared.symbol.Symbol.{Symbol}
use Rattle.armv6m_asm.specs.declared.symbol.Symbol.TheVariants.{Register, Special, Number, Interrupts, Comma, Hash, Exclamation, OpenBracket, CloseBracket}
use Rattle.armv6m_asm.specs.declared.symbol.Symbol.TheVariants.{OpenBrace, CloseBrace, Other}
use Rattle.armv6m_asm.specs.Token.{Token, word, mark, tokens_of}

-- ---- words

abbrev pub is_text : List ℕ → List ℕ → Bool
is_text [] [] = true
is_text (byte ∷ text) (other ∷ bytes) = (byte == other) && is_text text bytes
is_text text bytes = false

-- the number that these digits write in a radix, if it is below 2^32
unfoldable pub value_of : ℕ → List ℕ → Option ℕ
value_of radix digits =
    if (nat_lt 0 (length digits)) && (list_all (λ byte. nat_lt (digit_value byte) radix) digits && nat_lt (digits_value radix digits) (2 ^ 32))
    then Some (digits_value radix digits) else None

unfoldable pub number_in : List ℕ → Option ℕ
number_in bytes = if is_text (codes "0x") (take 2 bytes) then value_of 16 (drop 2 bytes) else value_of 10 bytes

unfoldable pub register_of : List ℕ → Option ℕ
register_of bytes = find (λ r. is_text (register_text r) bytes) (range_with_len 0 16)

unfoldable pub special_of : List ℕ → Option ℕ
special_of bytes = find (λ s. is_text (special_text s) bytes) (0 ∷ 8 ∷ 16 ∷ [])

-- ---- symbols

abbrev pub word_symbol : Option ℕ → Option ℕ → Option ℕ → Bool → Symbol
word_symbol (Some value) register special interrupts = Number value
word_symbol None (Some register) special interrupts = Register register
word_symbol None None (Some special) interrupts = Special special
word_symbol None None None true = Interrupts
word_symbol None None None false = Other

abbrev pub mark_symbol : ℕ → Symbol
mark_symbol byte =
    if byte == 44 then Comma else if byte == 35 then Hash else if byte == 33 then Exclamation else if byte == 91 then OpenBracket
    else if byte == 93 then CloseBracket else if byte == 123 then OpenBrace else if byte == 125 then CloseBrace else Other

unfoldable pub symbol_of : Token → Symbol
symbol_of (word bytes) = word_symbol (number_in bytes) (register_of bytes) (special_of bytes) (is_text (codes "i") bytes)
symbol_of (mark byte) = mark_symbol byte

unfoldable pub symbols_of : List ℕ → List Symbol
symbols_of line = map symbol_of (tokens_of line)

-- the number of a register symbol is below 16
abbrev pub IsLow : Symbol → Type 0
IsLow (Register number) = number < 16
IsLow symbol = Unit {0}

-- ---- lists

abbrev pub register_in : Symbol → Option ℕ
register_in (Register register) = Some register
register_in symbol = None

abbrev pub is_comma : Symbol → Bool
is_comma Comma = true
is_comma symbol = false

abbrev pub ends_list : List Symbol → Bool
ends_list (CloseBrace ∷ []) = true
ends_list symbols = false

-- a list of registers with one register more, or none if that register is missing or in the list already
abbrev pub with_one_more : ℕ → Option ℕ → Option ℕ
with_one_more list None = None
with_one_more list (Some register) = if is_bit_set list register then None else Some (list + 2 ^ register)

-- a list of registers with those that the symbols name up to the closing brace, or none if one occurs twice
unfoldable pub list_of : ℕ → List Symbol → Option ℕ
list_of list [] = None
list_of list (symbol ∷ []) = None
list_of list (symbol ∷ next ∷ rest) =
    if is_comma next then option_and_then (λ more. list_of more rest) (with_one_more list (register_in symbol))
    else if ends_list (next ∷ rest) then with_one_more list (register_in symbol) else None

-- ---- operands

abbrev pub behind_comma : List Symbol → Option (List Symbol)
behind_comma (Comma ∷ rest) = Some rest
behind_comma symbols = None

abbrev pub behind_open_brace : List Symbol → Option (List Symbol)
behind_open_brace (OpenBrace ∷ rest) = Some rest
behind_open_brace symbols = None

abbrev pub behind_close_bracket : List Symbol → Option (List Symbol)
behind_close_bracket (CloseBracket ∷ rest) = Some rest
behind_close_bracket symbols = None

-- the register that the symbols begin with, and the symbols after it
abbrev pub register_first : List Symbol → Option (ℕ × List Symbol)
register_first (Register register ∷ rest) = Some (register, rest)
register_first symbols = None

-- the number that the symbols begin with, and the symbols after it
abbrev pub number_first : List Symbol → Option (ℕ × List Symbol)
number_first (Number value ∷ rest) = Some (value, rest)
number_first symbols = None

-- these operands, if no symbol is left
abbrev pub at_end : Operands → List Symbol → Option Operands
at_end operands [] = Some operands
at_end operands (symbol ∷ rest) = None

-- these operands, if only a closing bracket is left
abbrev pub closed : Operands → List Symbol → Option Operands
closed operands symbols = option_and_then (at_end operands) (behind_close_bracket symbols)

-- the operands by the symbols after `special`
abbrev pub to_special : ℕ → List Symbol → Option Operands
to_special special symbols =
    option_and_then (λ rest. option_and_then (λ n. at_end (operands.ToSpecial special n.0) n.1) (register_first rest)) (behind_comma symbols)

-- the operands by the symbols after `t, [n,`
abbrev pub indexed : ℕ → ℕ → List Symbol → Option Operands
indexed t n [] = None
indexed t n (Register m ∷ rest) = closed (operands.ByRegister t n m) rest
indexed t n (Hash ∷ rest) = option_and_then (λ offset. closed (operands.ByOffset t n offset.0) offset.1) (number_first rest)
indexed t n symbols = None

-- the operands by the symbols after `t, [`
abbrev pub in_brackets : ℕ → List Symbol → Option Operands
in_brackets t symbols = option_and_then (λ n. option_and_then (indexed t n.0) (behind_comma n.1)) (register_first symbols)

-- the operands by the symbols after `#`, where `made` makes an operand of the number
abbrev pub immediate : (ℕ → Operands) → List Symbol → Option Operands
immediate made symbols = option_and_then (λ value. at_end (made value.0) value.1) (number_first symbols)

-- the operands by the symbols after `d, n,`
abbrev pub third : ℕ → ℕ → List Symbol → Option Operands
third d n [] = None
third d n (Register m ∷ rest) = at_end (operands.Three d n m) rest
third d n (Hash ∷ rest) = immediate (operands.TwoImmediate d n) rest
third d n symbols = None

-- the operands by the symbols after `d, n`
abbrev pub after_two : ℕ → ℕ → List Symbol → Option Operands
after_two d n [] = Some (operands.Two d n)
after_two d n (symbol ∷ rest) = option_and_then (third d n) (behind_comma (symbol ∷ rest))

-- the operands by the symbols after `d,`
abbrev pub second : ℕ → List Symbol → Option Operands
second d [] = None
second d (Register n ∷ rest) = after_two d n rest
second d (Special special ∷ rest) = at_end (operands.FromSpecial d special) rest
second d (Hash ∷ rest) = immediate (operands.OneImmediate d) rest
second d (OpenBracket ∷ rest) = in_brackets d rest
second d (OpenBrace ∷ rest) = option_map (operands.BaseList d) (list_of 0 rest)
second d symbols = None

-- the operands by the symbols after `n!`
abbrev pub updated : ℕ → List Symbol → Option Operands
updated n symbols =
    option_and_then (λ rest. option_map (operands.UpdatedList n) (option_and_then (list_of 0) (behind_open_brace rest))) (behind_comma symbols)

-- the operands by the symbols after `d`
abbrev pub after_one : ℕ → List Symbol → Option Operands
after_one d [] = Some (operands.One d)
after_one d (Comma ∷ rest) = second d rest
after_one d (Exclamation ∷ rest) = updated d rest
after_one d symbols = None

unfoldable pub operands_of : List Symbol → Option Operands
operands_of [] = Some operands.None
operands_of (Register d ∷ rest) = after_one d rest
operands_of (Special special ∷ rest) = to_special special rest
operands_of (Hash ∷ rest) = immediate operands.Immediate rest
operands_of (OpenBrace ∷ rest) = option_map operands.List (list_of 0 rest)
operands_of (Interrupts ∷ rest) = at_end operands.Interrupts rest
operands_of symbols = None
