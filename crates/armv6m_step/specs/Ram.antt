-- Bytes at the addresses from a base on, little-endian: which bytes an access is to, what it reads and writes, and how a bus of these bytes
-- alone answers.
use Rattle.std.specs.Prelude.{ℕ, ◌+◌, ◌-◌, ◌*◌, ◌/◌, ◌%◌, ◌||◌, nat_eq, nat_lt, if◌then◌else◌, Option, Some, None, Result, Ok, Err, List, length, slice_index}
use Rattle.std.specs.Prelude.{slice_set, option_map}
use Rattle.bench_model.specs.declared.bench_fault.BusEnd.{BusEnd}
use Rattle.bench_model.specs.declared.bench_fault.BusEnd.TheVariants.{Fault}
use Rattle.armv6m_step.specs.Access.{Access, Load, Store}

pub record Ram : Type 0 where
  pub base : ℕ
  pub bytes : List ℕ

abbrev pub ram_at : ℕ → List ℕ → Ram
ram_at base bytes = record { base = base; bytes = bytes }

-- the index of the first byte of an access, if the access is within the bytes
abbrev pub place_of : ℕ → ℕ → ℕ → ℕ → Option ℕ
place_of base len at width = if nat_lt at base || nat_lt (base + len) (at + width) then None else Some (at - base)

abbrev pub value_at : List ℕ → ℕ → ℕ → ℕ
value_at bytes width i =
    if nat_eq width 1 then slice_index bytes i else
    if nat_eq width 2 then slice_index bytes i + 0x100 * slice_index bytes (i + 1) else
    slice_index bytes i + 0x100 * slice_index bytes (i + 1) + 0x10000 * slice_index bytes (i + 2) + 0x1000000 * slice_index bytes (i + 3)

abbrev pub bytes_with : List ℕ → ℕ → ℕ → ℕ → List ℕ
bytes_with bytes width i v =
    if nat_eq width 1 then slice_set bytes i v else
    if nat_eq width 2 then slice_set (slice_set bytes i (v % 0x100)) (i + 1) (v / 0x100) else
    slice_set (slice_set (slice_set (slice_set bytes i (v % 0x100)) (i + 1) (v / 0x100 % 0x100)) (i + 2) (v / 0x10000 % 0x100)) (i + 3) (v / 0x1000000)

-- the value that a load reads, if it is within the bytes
abbrev pub loaded_from : Ram → ℕ → ℕ → Option ℕ
loaded_from r width at = option_map (λ i. value_at r.bytes width i) (place_of r.base (length r.bytes) at width)

-- the bytes that a store leaves, if it is within them
abbrev pub stored_in : Ram → ℕ → ℕ → ℕ → Option (List ℕ)
stored_in r width at v = option_map (λ i. bytes_with r.bytes width i v) (place_of r.base (length r.bytes) at width)

abbrev pub load_answer : Ram → Option ℕ → Result ℕ BusEnd × Ram
load_answer r None = (Err Fault, r)
load_answer r (Some value) = (Ok value, r)

abbrev pub store_answer : Ram → Option (List ℕ) → Result ℕ BusEnd × Ram
store_answer r None = (Err Fault, r)
store_answer r (Some bytes) = (Ok 0, record r { bytes = bytes })

-- an access within the bytes is answered, and any other is a bus fault
unfoldable pub ram_answer : Ram → Access → Result ℕ BusEnd × Ram
ram_answer r (Load width at) = load_answer r (loaded_from r width at)
ram_answer r (Store width at v) = store_answer r (stored_in r width at v)
