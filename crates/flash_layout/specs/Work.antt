-- The operation that runs: the cells it covers, the bytes it leaves there, and the ticks it takes.
use Rattle.std.specs.Prelude.{ℕ, zero, suc, Bool, false, nat_eq, nat_le, if◌then◌else◌, ◌/◌, ◌%◌, List, [], ◌∷◌, replicate, Option, Some, None}
use Rattle.bench_model.specs.Calls.{written}
use Rattle.flash_layout.specs.declared.work.Work.{Work}
use Rattle.flash_layout.specs.declared.work.Work.TheVariants as work
use Rattle.flash_layout.specs.declared.work.Operation.{Operation}

-- how many cells an operation covers
abbrev pub work_len : Work → ℕ
work_len (work.Half value) = 2
work_len (work.Word value) = 4
work_len (work.Fill len value) = len

abbrev pub work_bytes : Work → List ℕ
work_bytes (work.Half value) = value % 0x100 ∷ value / 0x100 % 0x100 ∷ []
work_bytes (work.Word value) = value % 0x100 ∷ value / 0x100 % 0x100 ∷ value / 0x10000 % 0x100 ∷ value / 0x1000000 % 0x100 ∷ []
work_bytes (work.Fill len value) = replicate len value

-- what storing a unit leaves: a halfword for a width of 2, else a word
abbrev pub unit_work : ℕ → ℕ → Work
unit_work width value = if nat_eq width 2 then work.Half value else work.Word value

-- the range of cells of the operation that runs
abbrev pub range_of : Option Operation → Option (ℕ × ℕ)
range_of None = None
range_of (Some o) = Some (o.place, work_len o.work)

-- whether the next tick settles the operation
abbrev pub settles : Option Operation → Bool
settles None = false
settles (Some o) = nat_le o.ticks 1

-- A tick of an operation with this many ticks left, for a controller with states S. With the last tick the operation settles: the
-- controller's state is `ended`, and the cells have the operation's bytes. Otherwise the operation runs on with one tick less.
abbrev pub tick_at : {S : Type 0} → S → (Operation → S) → List ℕ → Operation → ℕ → S × List ℕ
tick_at ended running cells o zero = (ended, written o.place (work_bytes o.work) cells)
tick_at ended running cells o (suc zero) = (ended, written o.place (work_bytes o.work) cells)
tick_at ended running cells o (suc (suc left)) = (running (record o { ticks = suc left }), cells)
