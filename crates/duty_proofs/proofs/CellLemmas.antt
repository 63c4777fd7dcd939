-- The marks of cells as marks of bytes.
use Rattle.std.proofs.Common.{◌≡◌, ◌<◌, ◌≤◌, ◌-◌, ℕ, zero, suc, List, length, map, get_or, refl, ap, arith}
use Rattle.std.proofs.lemmas.List.{get_or_past, get_or-map, length-map}
use Rattle.shadow_step.specs.declared.marks.Mark.TheVariants.{Any}
use Rattle.duty_proofs.specs.declared.cells.CellMark.{CellMark}
use Rattle.flash_layout.specs.declared.work.Operation.{Operation}
use Rattle.flash_driver.specs.Table.{running}
use Rattle.duty_proofs.specs.TargetMarks.{TargetMarks, byte_of, settled, tick_left}

pub byte_there : (cells : List CellMark) (d : CellMark) (k : ℕ) → k < length cells → get_or (map byte_of cells) k Any ≡ byte_of (get_or cells k d)
byte_there cells d k below = get_or-map byte_of cells k d Any below

pub byte_past : (cells : List CellMark) (k : ℕ) → length cells ≤ k → get_or (map byte_of cells) k Any ≡ Any
byte_past cells k past = get_or_past (map byte_of cells) k Any (omega (arith, past, length-map cells byte_of))

-- a tick that isn't the last

pub left_more : (m : TargetMarks) (o : Operation) (left : ℕ) → 1 < left →
    tick_left m o left ≡ record m { state = running m.state (record o { ticks = left - 1 }) }
left_more m o zero more = absurd (omega (arith, more))
left_more m o (suc zero) more = absurd (omega (arith, more))
left_more m o (suc (suc left)) more =
    let less : suc left ≡ suc (suc left) - 1 = omega arith in
    ap (λ (n : ℕ). let y : TargetMarks = record m { state = running m.state (record o { ticks = n }) } in y) less

pub left_last : (m : TargetMarks) (o : Operation) (left : ℕ) → left ≤ 1 → tick_left m o left ≡ settled m o
left_last m o zero few = refl
left_last m o (suc zero) few = refl
left_last m o (suc (suc left)) few = absurd (omega (arith, few))
