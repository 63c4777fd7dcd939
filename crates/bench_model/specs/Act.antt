-- One call of a bench as it went: its arguments, its answer, and for a read the buffer before and after it.
use Rattle.std.specs.Prelude.{ℕ, List, Result}
use Rattle.bench_model.specs.declared.bench_fault.StoreFault.{StoreFault}
use Rattle.bench_model.specs.declared.bench_fault.DeviceFault.{DeviceFault}

pub data Act : Type 0 where
  FileLen : Result ℕ StoreFault → Act
  FileRead : (at : ℕ) → (before after : List ℕ) → Result (Unit {0}) StoreFault → Act
  FileWrite : (at : ℕ) → (bytes : List ℕ) → Result (Unit {0}) StoreFault → Act
  FileCut : (len : ℕ) → Result (Unit {0}) StoreFault → Act
  FileSync : Result (Unit {0}) StoreFault → Act
  CellsRead : (at : ℕ) → (before after : List ℕ) → Result (Unit {0}) DeviceFault → Act
  CellsOpen : (at len : ℕ) → Result (Unit {0}) DeviceFault → Act
  CellsSettle : (bytes : List ℕ) → Result (Unit {0}) DeviceFault → Act
  CellsSettleFill : (value : ℕ) → Result (Unit {0}) DeviceFault → Act
  CellsDrop : Result (Unit {0}) DeviceFault → Act
