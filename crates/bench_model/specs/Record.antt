-- The record of a bench in memory: the calls that changed something, in their order.
use Rattle.std.specs.Prelude.{◌<◌, ◌≤◌, ◌+◌, ◌-◌, ◌≡◌, ◌++◌, ℕ, List, [], ◌∷◌, Bool, true, false, length, take, drop, replicate, slice_index_or, Option, Some}
use Rattle.std.specs.Prelude.{None}
use Rattle.bench_model.specs.Calls.{written}
use Rattle.bench_model.specs.State.{SameOutside}
use Rattle.bench_model.specs.History.{Half}
use Rattle.bench_model.specs.Kept.{Kept, IsLeft, IsWritten, IsPending, all_synced, after_write, after_cut}
use Rattle.bench_model.specs.declared.change.Change.{Change}
use Rattle.bench_model.specs.declared.change.Change.TheVariants.{Wrote, Cut, Synced, Opened, Settled, Filled, BrokenOff}

-- a recorded call, with the bytes that it got
pub data Event : Type 0 where
  wrote : ℕ → List ℕ → Event
  cut : ℕ → Event
  synced : Event
  opened : ℕ → ℕ → Event
  settled : List ℕ → Event
  filled : ℕ → Event
  broken_off : Option ℕ → Event

-- how many bytes a recorded call got
abbrev pub handed_of : Event → ℕ
handed_of (wrote at bytes) = length bytes
handed_of (settled bytes) = length bytes
handed_of _ = 0

-- the contents of a whole bench: its file, the cells and the open operation
pub record Held : Type 0 where
  pub kept : Kept
  pub cells : List ℕ
  pub operation : Option (ℕ × ℕ)

-- a bench where nothing is pending and no operation is open
abbrev pub at_rest : List ℕ → List ℕ → Held
at_rest file cells = record { kept = all_synced file; cells = cells; operation = None }

-- the cells with bytes in the operation's range, given as a function of the range's length
abbrev pub in_range : (ℕ → List ℕ) → Option (ℕ × ℕ) → List ℕ → List ℕ
in_range bytes None cells = cells
in_range bytes (Some range) cells = written range.0 (bytes range.1) cells

-- the cells after the operation is broken off: its range holds copies of one byte, or its old bytes if no byte is given
abbrev pub broken : Option ℕ → Option (ℕ × ℕ) → List ℕ → List ℕ
broken None operation cells = cells
broken (Some byte) operation cells = in_range (λ n. replicate n byte) operation cells

abbrev pub after : Event → Held → Held
after (wrote at bytes) h = record h { kept = after_write at bytes h.kept }
after (cut len) h = record h { kept = after_cut len h.kept }
after synced h = record h { kept = all_synced h.kept.file }
after (opened at len) h = record h { operation = Some (at, len) }
after (settled bytes) h = record h { cells = in_range (λ n. bytes) h.operation h.cells; operation = None }
after (filled value) h = record h { cells = in_range (λ n. replicate n value) h.operation h.cells; operation = None }
after (broken_off byte) h = record h { cells = broken byte h.operation h.cells; operation = None }

abbrev pub replay : List Event → Held → Held
replay [] h = h
replay (e ∷ es) h = replay es (after e h)

-- the record: the bench when it began, the calls since then with the units that they use, and the room for units and for the longest file
pub record Recorded : Type 0 where
  pub made : Held
  pub events : List Event
  pub used : ℕ
  pub room : ℕ
  pub longest : ℕ

-- the contents of the bench now, and at an earlier moment
abbrev pub held_now : Recorded → Held
held_now r = replay r.events r.made

abbrev pub held_at : ℕ → Recorded → Held
held_at k r = replay (take k r.events) r.made

-- the record with one call more, which uses one unit and one for each byte that it got
abbrev pub noted : Event → Recorded → Recorded
noted e r = record r { events = r.events ++ e ∷ []; used = r.used + (1 + handed_of e) }

-- there is room for a call that gets `bytes` bytes
abbrev pub HasRoom : ℕ → Recorded → Type 0
HasRoom bytes r = r.used + (1 + bytes) ≤ r.room

-- what a stop may leave at each moment, for each half
abbrev pub FileOf : Held → List ℕ → Type 0
FileOf h file = IsLeft h.kept file

abbrev pub CellsOf : Held → List ℕ → Type 0
CellsOf h cells = SameOutside h.operation h.cells cells

abbrev pub half_of : (Held → List ℕ → Type 0) → Recorded → Half
half_of L r = record { now = length r.events; at = λ k x. L (held_at k r) x }

-- How memory holds the calls: the bytes that they got follow one another.

abbrev pub handed : Change → ℕ
handed (Wrote at len) = len
handed (Settled len) = len
handed _ = 0

abbrev pub handed_all : List Change → ℕ
handed_all [] = 0
handed_all (c ∷ cs) = handed c + handed_all cs

abbrev pub event_of : Change → List ℕ → Event
event_of (Wrote at len) bytes = wrote at bytes
event_of (Cut len) bytes = cut len
event_of Synced bytes = synced
event_of (Opened at len) bytes = opened at len
event_of (Settled len) bytes = settled bytes
event_of (Filled value) bytes = filled value
event_of (BrokenOff byte) bytes = broken_off byte

abbrev pub events_of : List Change → List ℕ → List Event
events_of [] bytes = []
events_of (c ∷ cs) bytes = event_of c (take (handed c) bytes) ∷ events_of cs (drop (handed c) bytes)

-- for each byte up to the greatest length, whether it is pending: the marks with a range set
abbrev pub marked : ℕ → ℕ → List Bool → List Bool
marked from to old = take from old ++ replicate (to - from) true ++ drop to old

abbrev pub marked_by : Change → List Bool → List Bool
marked_by (Wrote at len) old = marked at (at + len) old
marked_by (Cut len) old = marked len (length old) old
marked_by _ old = old

-- the marks have room for those of this change
abbrev pub CanMark : Change → ℕ → ℕ → Type 0
CanMark (Wrote at len) marks longest = (at ≤ marks) × (at + len ≤ longest)
CanMark (Cut len) marks longest = len ≤ marks
CanMark Synced marks longest = ⊥
CanMark _ marks longest = Unit {0}

pub record IsMarked (k : Kept) (synced : List ℕ) (marks : List Bool) : Type 0 where
  pub same : k.synced ≡ synced
  pub long : length marks ≡ k.greatest
  pub enough : k.least ≤ length k.synced
  pub set : (i : ℕ) → i < k.greatest → IsPending k i → slice_index_or marks i true ≡ true
  pub clear : (i : ℕ) → i < k.least → (IsWritten k.ranges i → ⊥) → slice_index_or marks i true ≡ false

-- the buffers in memory agree with the record, and have room for all that it may grow to
pub record IsSound (made : Held) (changes : List Change) (bytes synced : List ℕ) (marks : List Bool)
    (used room longest change_room byte_room made_room synced_room mark_room : ℕ) : Type 0 where
  pub all : handed_all changes ≡ length bytes
  pub units : length changes + length bytes ≡ used
  pub within : used ≤ room
  pub is_marked : IsMarked (replay (events_of changes bytes) made).kept synced marks
  pub changes_fit : room ≤ change_room
  pub bytes_fit : room ≤ byte_room
  pub made_fits : longest ≤ made_room
  pub synced_fits : longest ≤ synced_room
  pub marks_fit : longest ≤ mark_room
