-- A bench in memory as its contracts see it, and what each call does to it.
use Rattle.std.specs.Prelude.{ℕ, List, Option, None, slice_get, [], length, max}
use Rattle.faults.specs.Counts.{raised}
use Rattle.bench_model.specs.State.{BenchState}
use Rattle.faults.specs.FailingCalls.{Numbered, unused, went, failed}
use Rattle.bench_model.specs.Record.{Event, Recorded, at_rest, noted}
use Rattle.bench_model.specs.Memory.{memory_state}
use Rattle.bench_model.specs.declared.memory.MemoryBench.{MemoryBench}

pub record Memory : Type 0 where
  pub file : List ℕ
  pub cells : List ℕ
  pub operation : Option (ℕ × ℕ)
  -- the calls that changed something
  pub history : Recorded
  -- the longest file that a write may give
  pub file_room : ℕ
  -- the file calls and the cell calls that can fail
  pub store : Numbered
  pub device : Numbered
  -- the byte that each broken-off operation leaves, and how many were broken off
  pub garbage : List ℕ
  pub breaks : ℕ

abbrev pub shown : MemoryBench → Memory
shown m = record {
  file = m.file.items;
  cells = m.cells.items;
  operation = m.operation;
  history = m.history;
  file_room = m.file_room;
  store = m.store;
  device = m.device;
  garbage = m.garbage.items;
  breaks = m.breaks;
}

-- the meaning of a bench in memory as a bench
abbrev pub bench_of : MemoryBench → BenchState
bench_of m = memory_state m.file.items m.cells.items m.operation m.store.faults m.device.faults m.history

-- a bench in memory when it is made
abbrev pub made_bench : (cells file : List ℕ) (file_room call_room : ℕ) (store_fails device_fails garbage : List ℕ) → Memory
made_bench cells file file_room call_room store_fails device_fails garbage = record {
  file = file;
  cells = cells;
  operation = None;
  history = record { made = at_rest file cells; events = []; used = 0; room = call_room; longest = max (length file) file_room };
  file_room = file_room;
  store = unused store_fails;
  device = unused device_fails;
  garbage = garbage;
  breaks = 0;
}

-- a file call that succeeded and changed nothing, and one that failed
abbrev pub store_went : Memory → Memory
store_went m = record m { store = went m.store }

abbrev pub store_failed : Memory → Memory
store_failed m = record m { store = failed m.store }

-- a file call that succeeded, with its event and the file after it
abbrev pub stored : Event → List ℕ → Memory → Memory
stored e file m = record m { file = file; history = noted e m.history; store = went m.store }

-- a cell call that succeeded and changed nothing, one that failed, and one with its event, the cells and the operation after it
abbrev pub device_went : Memory → Memory
device_went m = record m { device = went m.device }

abbrev pub device_failed : Memory → Memory
device_failed m = record m { device = failed m.device }

abbrev pub worked : Event → List ℕ → Option (ℕ × ℕ) → Memory → Memory
worked e cells operation m = record m { cells = cells; operation = operation; history = noted e m.history; device = went m.device }

-- the byte that the next broken-off operation leaves, if there is one
abbrev pub next_garbage : Memory → Option ℕ
next_garbage m = slice_get m.garbage m.breaks

-- a cell call that broke off the open operation
abbrev pub let_go : Event → List ℕ → Memory → Memory
let_go e cells m = record (worked e cells None m) { breaks = raised m.breaks }
