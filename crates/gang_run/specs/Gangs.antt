-- A gang: its windows, its benches, and what turns do to them.
use Rattle.std.specs.Prelude.{◌≡◌, ◌≢◌, ◌<◌, ◌≤◌, ℕ, zero, suc, Bool, true, false, IsTrue, List, [], ◌∷◌, ◌++◌, length, get_or}
use Rattle.std.specs.List.{sum_by}
use Rattle.bench_model.specs.declared.bench.Bench.{Ghosts}
use Rattle.flash_session.specs.declared.fault.SurveyFault.TheVariants as survey
use Rattle.flash_session.specs.Moves.{Move, Stand}
use Rattle.target_core.specs.Windows.{window_of}
use Rattle.flash_session.specs.declared.target_end.TargetEnd.TheVariants as ended
use Rattle.flash_session.specs.declared.target_end.Turn.TheVariants as turn
use Rattle.gang_run.specs.declared.gang.Asked.{Asked}
use Rattle.gang_run.specs.declared.gang.Gang.{Gang}
use Rattle.gang_run.specs.declared.slot.Slot.{Slot}
use Rattle.gang_run.specs.declared.slot.Slot.TheVariants as slot
use Rattle.gang_run.specs.Slots.{slot_turn, slot_togo, IsSlot, IsReady, SlotTurns, SlotTakes, SlotKept, SlotStands, SlotSince}

-- the slot of a target; a refused one for a number past the last target
abbrev pub slot_at : Gang → ℕ → Slot
slot_at g i = get_or g.slots.items i (slot.Refused (ended.Survey survey.StoreFault))

-- two targets with scripts have different windows of RAM
abbrev pub OtherWindow : Slot → Slot → Type 0
OtherWindow (slot.Refused e) other = Unit {0}
OtherWindow (slot.Open x) (slot.Refused e) = Unit {0}
OtherWindow (slot.Open x) (slot.Open y) = x.player.window ≢ y.player.window

pub record IsGang (g : Gang) : Type 0 where
  pub apart : (i j : ℕ) → i ≢ j → OtherWindow (slot_at g i) (slot_at g j)
  pub slots : (i : ℕ) → IsSlot (slot_at g i)

-- the most turns that a gang still takes
abbrev pub gang_togo : Gang → ℕ
gang_togo g = sum_by slot_togo g.slots.items

-- each target that hasn't ended fits its bench, and the only file that a stop may leave there stands for the target's job
abbrev pub AreReady : {B : Type 0} → Ghosts B → Gang → List B → Type 0
AreReady {B} G g benches = (i : ℕ) (d : B) → i < length benches → IsReady G.tells (slot_at g i) g.arena (G.state (get_or benches i d))

-- the window of a target is unchanged
abbrev pub SameWindow : Slot → List (List ℕ) → List (List ℕ) → Type 0
SameWindow (slot.Refused e) old new = Unit {0}
SameWindow (slot.Open x) old new = window_of new x.player.window ≡ window_of old x.player.window

-- one turn of a target: it touches only the target's own bench and window
pub record OneTurn {B : Type 0} (G : Ghosts B) (target : ℕ) (old : Gang) (benches : List B) (new : Gang) (benches' : List B) : Type 0 where
  pub turns : (d : B) → SlotTurns G (slot_at old target) old.arena (get_or benches target d) (slot_at new target) new.arena (get_or benches' target d)
  pub slots : (i : ℕ) → i ≢ target → slot_at new i ≡ slot_at old i
  pub others : (i : ℕ) (d : B) → i ≢ target → get_or benches' i d ≡ get_or benches i d
  pub windows : (i : ℕ) → i ≢ target → SameWindow (slot_at old i) old.arena new.arena
  pub count : length benches' ≡ length benches
  pub places : length new.slots.items ≡ length old.slots.items
  pub over : slot_turn (slot_at old target) ≡ turn.Ended → slot_turn (slot_at new target) ≡ turn.Ended
  pub nearer : slot_turn (slot_at old target) ≡ turn.More → gang_togo new < gang_togo old
  pub no_further : gang_togo new ≤ gang_togo old

-- the turn that is asked for: a turn of that target, of at most that many steps
pub record GivesTurn {B : Type 0} (G : Ghosts B) (asked : Asked) (old : Gang) (benches : List B) (new : Gang) (benches' : List B) : Type 0 where
  pub turn : OneTurn G asked.target old benches new benches'
  pub takes : (d : B) → SlotTakes G.tells asked.steps (slot_at old asked.target) old.arena (G.state (get_or benches asked.target d))
      (slot_at new asked.target) new.arena (G.state (get_or benches' asked.target d))

-- the turns of a list: each of them once, in the order of the list, and no others
abbrev pub GivesTurns : {B : Type 0} → Ghosts B → List Asked → Gang → List B → Gang → List B → Type 0
GivesTurns G [] old benches new benches' = (new ≡ old) × (benches' ≡ benches)
GivesTurns {B} G (next ∷ rest) old benches new benches' = (mid : Gang) × (between : List B) × GivesTurn G next old benches mid between
    × GivesTurns G rest mid between new benches'

-- the turns of a round: one for each target below the count, in order, each of at most `steps` steps
abbrev pub one_round : ℕ → ℕ → List Asked
one_round steps zero = []
one_round steps (suc count) = one_round steps count ++ record { target = count; steps = steps } ∷ []

-- the turns of a number of rounds, one round after the other
abbrev pub rounds_of : ℕ → ℕ → ℕ → List Asked
rounds_of steps count zero = []
rounds_of steps count (suc rounds) = rounds_of steps count rounds ++ one_round steps count

-- the turns that were given make whole rounds over all targets
abbrev pub GivesRounds : {B : Type 0} → Ghosts B → ℕ → Gang → List B → Gang → List B → Type 0
GivesRounds G steps old benches new benches' = (rounds : ℕ) × GivesTurns G (rounds_of steps (length benches) rounds) old benches new benches'

-- Each target continued its script from where it stood, over its own bench.
abbrev pub AllSince : {B : Type 0} → Ghosts B → Gang → List B → Gang → List B → Type 0
AllSince {B} G old benches new benches' = (i : ℕ) (d : B) (a : Stand) (way : List Move) → i < length benches → IsTrue G.tells
    → SlotStands a way (slot_at old i) old.arena (G.state (get_or benches i d))
    → SlotSince a way (slot_at old i) (G.state (get_or benches i d)) (slot_at new i) new.arena (G.state (get_or benches' i d))

-- The bench of each target without a script is unchanged, and a fault was counted exactly where a target ended by it. This holds whether or
-- not the benches tell their contents.
abbrev pub AllKept : {B : Type 0} → Ghosts B → Gang → List B → Gang → List B → Type 0
AllKept {B} G old benches new benches' = (i : ℕ) (d : B) → i < length benches → SlotKept G (slot_at old i) (get_or benches i d)
    (slot_at new i) (get_or benches' i d)

-- what turns have made of a gang and its benches
pub record Playing {B : Type 0} (G : Ghosts B) (old : Gang) (benches : List B) (new : Gang) (benches' : List B) : Type 0 where
  pub gang : IsGang new
  pub places : length benches' ≡ length new.slots.items
  pub count : length benches' ≡ length benches
  pub ready : AreReady G new benches'
  pub since : AllSince G old benches new benches'
  pub kept : AllKept G old benches new benches'

-- a round under way: the targets below `target` have had their turn
pub record Rounding {B : Type 0} (G : Ghosts B) (old : Gang) (benches : List B) (new : Gang) (benches' : List B) (target : ℕ) (goes_on : Bool) : Type 0 where
  pub gang : IsGang new
  pub places : length benches' ≡ length new.slots.items
  pub count : length benches' ≡ length benches
  pub ready : AreReady G new benches'
  -- the turns before this round, and those of the round so far, are turns as `Playing` says
  pub plays : (g : Gang) (first : List B) → Playing G g first old benches → Playing G g first new benches'
  pub nearer : goes_on ≡ true → gang_togo new < gang_togo old
  pub no_further : gang_togo new ≤ gang_togo old
  pub ended : goes_on ≡ false → (i : ℕ) → i < target → slot_turn (slot_at new i) ≡ turn.Ended
