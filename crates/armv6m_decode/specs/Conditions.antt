-- The conditions by their codes: Armv6-M Architecture Reference Manual, A6.3 "Conditional execution".
use Rattle.std.specs.Prelude.{ℕ, nat_eq, if◌then◌else◌}
use Rattle.armv6m_decode.specs.declared.condition.Condition.{Condition}
use Rattle.armv6m_decode.specs.declared.condition.Condition.TheVariants.{Equal, NotEqual, CarrySet, CarryClear, Minus, Plus, Overflow, NoOverflow, Higher}
use Rattle.armv6m_decode.specs.declared.condition.Condition.TheVariants.{LowerOrSame, GreaterOrEqual, LessThan, GreaterThan, LessOrEqual}

abbrev pub condition_code : Condition → ℕ
condition_code Equal = 0
condition_code NotEqual = 1
condition_code CarrySet = 2
condition_code CarryClear = 3
condition_code Minus = 4
condition_code Plus = 5
condition_code Overflow = 6
condition_code NoOverflow = 7
condition_code Higher = 8
condition_code LowerOrSame = 9
condition_code GreaterOrEqual = 10
condition_code LessThan = 11
condition_code GreaterThan = 12
condition_code LessOrEqual = 13

-- the condition with a code; no row has a code above 13
unfoldable pub condition_of : ℕ → Condition
condition_of code =
    if nat_eq code 0 then Equal else
    if nat_eq code 1 then NotEqual else
    if nat_eq code 2 then CarrySet else
    if nat_eq code 3 then CarryClear else
    if nat_eq code 4 then Minus else
    if nat_eq code 5 then Plus else
    if nat_eq code 6 then Overflow else
    if nat_eq code 7 then NoOverflow else
    if nat_eq code 8 then Higher else
    if nat_eq code 9 then LowerOrSame else
    if nat_eq code 10 then GreaterOrEqual else
    if nat_eq code 11 then LessThan else
    if nat_eq code 12 then GreaterThan else
    LessOrEqual
