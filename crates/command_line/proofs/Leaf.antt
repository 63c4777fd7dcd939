-- A command's words, walked by `clap` and scanned by the rule on words.
use Rattle.std.proofs.Common.{◌≡◌, ◌≤◌, ◌+◌, ℕ, Bool, true, false, List, [], ◌∷◌, ◌++◌, codes, length, Option, Some, None, refl, ap, sym, append_assoc}
use Rattle.std.proofs.Common.{length-append, ◌<◌, arith, inl, inr, slice_get, nat_lt, ◌==◌}
use Rattle.std.proofs.lemmas.Bool.{cases_Bool}
use Rattle.std.proofs.lemmas.Bool.Decides.{nat_tests}
use Rattle.clap.specs.declared.error.kind.ErrorKind.TheVariants as kind
use Rattle.std.proofs.lemmas.Slice.Eq.{bytes_eq-Decides}
use Rattle.std.specs.Str.{bytes_eq, chars}
use Rattle.clap.specs.Lexer.{long_of, short_of, usize_max}
use Rattle.clap.specs.Walk.{Rule, Row, Waiting, idle, positional, option as option_waits, Walk, walked, settled_rows, with_values, values_or_missing}
use Rattle.clap.specs.Simple.{Shape, with_index, filled, filled_from, built_leaf, inherited, with_leaf_noted, marked_built}
use Rattle.clap.specs.Kinds.{range_kinds}
use Rattle.clap.specs.Faults.{turn_fault, settle_fault, flags_fault, bundle_fault, values_fault}
use Rattle.clap.specs.declared.parser.matches.ValueSource.{ValueSource}
use Rattle.clap.specs.declared.builder.value_parser.Reading.{Reading}
use Rattle.command_line.specs.Made.{raw_rule, names_rule, leaf, tool}
use Rattle.command_line.specs.Rows.{told}
use Rattle.command_line.specs.Scan.{Text, dashes}

abbrev pub rules : List Rule
rules = filled_from 1 (raw_rule ∷ names_rule ∷ [])

-- what `clap` builds for a command of this name
abbrev pub built_as : Text → Shape
built_as name = built_leaf (inherited (with_leaf_noted (marked_built tool.top)) (leaf name).top)

-- a command as an example: the name changes nothing in the walk
abbrev pub sample : Shape
sample = built_as (codes "verify")

-- Rows.

told_same_at : (id : Text) (how : Reading) (s : ValueSource) (vs : List Text) (r : Row) (rs : List Row)
    → told id (with_values id how s vs rs) ≡ told id rs ++ vs
    → told id (with_values id how s vs (r ∷ rs)) ≡ told id (r ∷ rs) ++ vs
told_same_at id how s vs r rs ih = elim (cases_Bool (bytes_eq r.id id)) [
  | inl hit ↦ rw (hit, hit) refl
  | inr miss ↦ rw (miss, miss) ih
]

pub told-same : (id : Text) (how : Reading) (s : ValueSource) (vs : List Text) (rows : List Row) → bytes_eq id id ≡ true
    → told id (with_values id how s vs rows) ≡ told id rows ++ vs
told-same id how s vs [] same = rw same refl
told-same id how s vs (r ∷ rs) same = told_same_at id how s vs r rs (told-same id how s vs rs same)

told_other_at : (id id2 : Text) (how : Reading) (s : ValueSource) (vs : List Text) (r : Row) (rs : List Row) → bytes_eq id id2 ≡ false
    → told id2 (with_values id how s vs rs) ≡ told id2 rs
    → told id2 (with_values id how s vs (r ∷ rs)) ≡ told id2 (r ∷ rs)
told_other_at id id2 how s vs r rs differ ih = elim (cases_Bool (bytes_eq r.id id)) [
  | inl hit ↦
      let is : r.id ≡ id = (bytes_eq-Decides r.id id).0 hit in
      let miss : bytes_eq r.id id2 ≡ false = rw is differ in
      rw (hit, miss) refl
  | inr miss ↦ elim (cases_Bool (bytes_eq r.id id2)) [
    | inl here ↦ rw (miss, here) refl
    | inr there ↦ rw (miss, there) ih
  ]
]

pub told-other : (id id2 : Text) (how : Reading) (s : ValueSource) (vs : List Text) (rows : List Row) → bytes_eq id id2 ≡ false
    → told id2 (with_values id how s vs rows) ≡ told id2 rows
told-other id id2 how s vs [] differ = rw differ refl
told-other id id2 how s vs (r ∷ rs) differ = told_other_at id id2 how s vs r rs differ (told-other id id2 how s vs rs differ)

-- The state of the walk.

-- what isn't settled yet: nothing, positional words, or an address
pub data Stage : Type 0 where
  none : Stage
  name : List Text → Text → Stage
  raw : Text → Stage

abbrev pub pending_at : Stage → Option (Text × List Text)
pending_at none = None
pending_at (name vs v) = Some (codes "names", vs ++ v ∷ [])
pending_at (raw v) = Some (codes "raw-at", v ∷ [])

abbrev pub waiting_at : Stage → Waiting
waiting_at none = idle
waiting_at (name vs v) = positional
waiting_at (raw v) = idle

abbrev pub walk_at : Bool → Stage → List Row → Walk
walk_at trailing st rows = record {
  held = record { rows = rows; pending = pending_at st; skip = 0 };
  waiting = waiting_at st;
  position = 1;
  is_trailing = trailing;
  stopped = None;
}

-- the walk after `--raw-at`
abbrev pub wants_at : Bool → List Row → Walk
wants_at trailing rows = record {
  held = record { rows = rows; pending = Some (codes "raw-at", []); skip = 0 };
  waiting = option_waits (codes "raw-at");
  position = 1;
  is_trailing = trailing;
  stopped = None;
}

abbrev pub settled_at : Stage → List Row → List Row
settled_at st rows = settled_rows rules (pending_at st) rows

abbrev pub raws_at : Stage → List Row → List Text
raws_at none rows = told (codes "raw-at") rows
raws_at (name vs v) rows = told (codes "raw-at") rows
raws_at (raw v) rows = told (codes "raw-at") rows ++ v ∷ []

abbrev pub names_at : Stage → List Row → List Text
names_at none rows = told (codes "names") rows
names_at (name vs v) rows = told (codes "names") rows ++ (vs ++ v ∷ [])
names_at (raw v) rows = told (codes "names") rows

abbrev pub next_stage : Stage → Text → Stage
next_stage none w = name [] w
next_stage (name vs v) w = name (vs ++ v ∷ []) w
next_stage (raw v) w = name [] w

abbrev pub next_rows : Stage → List Row → List Row
next_rows none rows = rows
next_rows (name vs v) rows = rows
next_rows (raw v) rows = settled_at (raw v) rows

-- how many values aren't settled yet
abbrev pub width : Stage → ℕ
width none = 0
width (name vs v) = length vs + 1
width (raw v) = 0

abbrev pub raw_built : Rule
raw_built = with_index 1 (filled raw_rule)

abbrev pub names_built : Rule
names_built = with_index 1 (filled names_rule)

given : (vs : List Text) (v : Text) → values_or_missing names_built (vs ++ v ∷ []) ≡ vs ++ v ∷ []
given [] v = refl
given (x ∷ vs) v = refl

-- settling moves these values into the rows
pub told-raws : (st : Stage) (rows : List Row) → told (codes "raw-at") (settled_at st rows) ≡ raws_at st rows
told-raws none rows = refl
told-raws (name vs v) rows = rw (given vs v) (told-other (codes "names") (codes "raw-at") _ _ (vs ++ v ∷ []) rows refl)
told-raws (raw v) rows = told-same (codes "raw-at") _ _ (v ∷ []) rows refl

pub told-names : (st : Stage) (rows : List Row) → told (codes "names") (settled_at st rows) ≡ names_at st rows
told-names none rows = refl
told-names (name vs v) rows = rw (given vs v) (told-same (codes "names") _ _ (vs ++ v ∷ []) rows refl)
told-names (raw v) rows = told-other (codes "raw-at") (codes "names") _ _ (v ∷ []) rows refl

pub raws-next : (st : Stage) (rows : List Row) (w : Text) → raws_at (next_stage st w) (next_rows st rows) ≡ raws_at st rows
raws-next none rows w = refl
raws-next (name vs v) rows w = refl
raws-next (raw v) rows w = told-raws (raw v) rows

pub names-next : (st : Stage) (rows : List Row) (w : Text) → names_at (next_stage st w) (next_rows st rows) ≡ names_at st rows ++ w ∷ []
names-next none rows w = refl
names-next (name vs v) rows w = sym (append_assoc (told (codes "names") rows) (vs ++ v ∷ []) (w ∷ []))
names-next (raw v) rows w = ap (λ (ns : List Text). ns ++ w ∷ []) (told-names (raw v) rows)

-- any value is accepted
passes_all : (xs : List Text) → values_fault names_built xs ≡ []
passes_all [] = refl
passes_all (x ∷ xs) = passes_all xs

counted : (n : ℕ) (xs : List Text) → n ≡ length xs → 0 < n → n ≤ usize_max → range_kinds 1 usize_max n ≡ []
counted n xs e some fits =
    let not_none : (n == 0) ≡ false = grind (arith, nat_tests) in
    let not_few : nat_lt n 1 ≡ false = grind (arith, nat_tests) in
    let not_many : nat_lt usize_max n ≡ false = grind (arith, nat_tests) in
    rw (not_none, not_few, not_many) refl

-- the values settle without a fault
pub settles : (st : Stage) (rows : List Row) → width st ≤ usize_max
    → settle_fault rules false (record { rows = rows; pending = pending_at st; skip = 0 }) ≡ []
settles none rows fits = refl
settles (name vs v) rows fits =
    let range : range_kinds 1 usize_max (length (vs ++ v ∷ [])) ≡ [] =
    counted (length (vs ++ v ∷ [])) (vs ++ v ∷ []) refl (omega (arith, length-append vs (v ∷ []))) (omega (arith, length-append vs (v ∷ []))) in
    rw (range, given vs v, passes_all (vs ++ v ∷ [])) refl
settles (raw v) rows fits = refl

-- One word.

pub plain_step : (st : Stage) (rows : List Row) (w : Text) → bytes_eq w dashes ≡ false → long_of w ≡ None → short_of w ≡ None
    → walked rules [] (walk_at false st rows) w ≡ walk_at false (next_stage st w) (next_rows st rows)
unfolding walked
plain_step none rows w d l s = rw (d, l, s) refl
plain_step (name vs v) rows w d l s = rw (d, l, s) refl
plain_step (raw v) rows w d l s = rw (d, l, s) refl

pub plain_fault : (st : Stage) (rows : List Row) (w : Text) → bytes_eq w dashes ≡ false → long_of w ≡ None → short_of w ≡ None
    → turn_fault sample [] (walk_at false st rows) w ≡ []
plain_fault none rows w d l s = rw (d, l, s) refl
plain_fault (name vs v) rows w d l s = rw (d, l, s) refl
plain_fault (raw v) rows w d l s = rw (d, l, s) refl

pub trailing_step : (st : Stage) (rows : List Row) (w : Text)
    → walked rules [] (walk_at true st rows) w ≡ walk_at true (next_stage st w) (next_rows st rows)
unfolding walked
trailing_step none rows w = refl
trailing_step (name vs v) rows w = refl
trailing_step (raw v) rows w = refl

pub trailing_fault : (st : Stage) (rows : List Row) (w : Text) → turn_fault sample [] (walk_at true st rows) w ≡ []
trailing_fault none rows w = refl
trailing_fault (name vs v) rows w = refl
trailing_fault (raw v) rows w = refl

pub dashes_step : (st : Stage) (rows : List Row) (w : Text) → bytes_eq w dashes ≡ true
    → walked rules [] (walk_at false st rows) w ≡ walk_at true st rows
unfolding walked
dashes_step none rows w d = rw d refl
dashes_step (name vs v) rows w d = rw d refl
dashes_step (raw v) rows w d = rw d refl

pub dashes_fault : (st : Stage) (rows : List Row) (w : Text) → bytes_eq w dashes ≡ true → turn_fault sample [] (walk_at false st rows) w ≡ []
dashes_fault none rows w d = rw d refl
dashes_fault (name vs v) rows w d = rw d refl
dashes_fault (raw v) rows w d = rw d refl

-- a word `--raw-at=ADDR`
pub attached_step : (st : Stage) (rows : List Row) (w nm v : Text) → bytes_eq w dashes ≡ false → long_of w ≡ Some (nm, Some v)
    → bytes_eq (codes "raw-at") nm ≡ true
    → walked rules [] (walk_at false st rows) w ≡ walk_at false none (settled_at (raw v) (settled_at st rows))
unfolding walked
attached_step none rows w nm v d l n = rw (d, l, n) refl
attached_step (name vs u) rows w nm v d l n = rw (d, l, n) refl
attached_step (raw u) rows w nm v d l n = rw (d, l, n) refl

pub attached_fault : (st : Stage) (rows : List Row) (w nm v : Text) → width st ≤ usize_max → bytes_eq w dashes ≡ false → long_of w ≡ Some (nm, Some v)
    → bytes_eq (codes "raw-at") nm ≡ true
    → turn_fault sample [] (walk_at false st rows) w ≡ []
attached_fault none rows w nm v fits d l n = rw (d, l, n) refl
attached_fault (name vs u) rows w nm v fits d l n = rw (d, l, n, settles (name vs u) rows fits) refl
attached_fault (raw u) rows w nm v fits d l n = rw (d, l, n) refl

-- the word `--raw-at`
pub wants_step : (st : Stage) (rows : List Row) (w nm : Text) → bytes_eq w dashes ≡ false → long_of w ≡ Some (nm, None) → bytes_eq (codes "raw-at") nm ≡ true
    → walked rules [] (walk_at false st rows) w ≡ wants_at false (settled_at st rows)
unfolding walked
wants_step none rows w nm d l n = rw (d, l, n) refl
wants_step (name vs u) rows w nm d l n = rw (d, l, n) refl
wants_step (raw u) rows w nm d l n = rw (d, l, n) refl

pub wants_fault : (st : Stage) (rows : List Row) (w nm : Text) → width st ≤ usize_max → bytes_eq w dashes ≡ false → long_of w ≡ Some (nm, None)
    → bytes_eq (codes "raw-at") nm ≡ true
    → turn_fault sample [] (walk_at false st rows) w ≡ []
wants_fault none rows w nm fits d l n = rw (d, l, n) refl
wants_fault (name vs u) rows w nm fits d l n = rw (d, l, n, settles (name vs u) rows fits) refl
wants_fault (raw u) rows w nm fits d l n = rw (d, l, n) refl

-- Words that are refused.

bundle_unknown : (flags : Text) (x : ℕ) (rows : List Row) (pending : Option (Text × List Text)) → slice_get (chars flags) 0 ≡ Some x
    → bundle_fault rules false flags (record { rows = rows; pending = pending; skip = 0 }) ≡ kind.UnknownArgument ∷ []
unfolding flags_fault chars
bundle_unknown [] x rows pending first = cc
bundle_unknown (y ∷ ys) x rows pending first = rw first refl

pub short_fault_at : (st : Stage) (rows : List Row) (w flags : Text) (x : ℕ) → bytes_eq w dashes ≡ false → long_of w ≡ None → short_of w ≡ Some flags
    → slice_get (chars flags) 0 ≡ Some x
    → turn_fault sample [] (walk_at false st rows) w ≡ kind.UnknownArgument ∷ []
short_fault_at none rows w flags x d l s first = rw (d, l, s, bundle_unknown flags x rows None first) refl
short_fault_at (name vs v) rows w flags x d l s first = rw (d, l, s, bundle_unknown flags x rows (pending_at (name vs v)) first) refl
short_fault_at (raw v) rows w flags x d l s first = rw (d, l, s, bundle_unknown flags x rows (pending_at (raw v)) first) refl

pub long_fault_at : (st : Stage) (rows : List Row) (w nm : Text) (v : Option Text) → bytes_eq w dashes ≡ false → long_of w ≡ Some (nm, v)
    → bytes_eq (codes "raw-at") nm ≡ false
    → turn_fault sample [] (walk_at false st rows) w ≡ kind.UnknownArgument ∷ []
long_fault_at none rows w nm v d l n = rw (d, l, n) refl
long_fault_at (name vs u) rows w nm v d l n = rw (d, l, n) refl
long_fault_at (raw u) rows w nm v d l n = rw (d, l, n) refl

-- After `--raw-at`.

pub wants_plain_step : (rows : List Row) (w : Text) → bytes_eq w dashes ≡ false → long_of w ≡ None → short_of w ≡ None
    → walked rules [] (wants_at false rows) w ≡ walk_at false (raw w) rows
unfolding walked
wants_plain_step rows w d l s = rw (d, l, s) refl

pub wants_plain_fault : (rows : List Row) (w : Text) → bytes_eq w dashes ≡ false → long_of w ≡ None → short_of w ≡ None
    → turn_fault sample [] (wants_at false rows) w ≡ []
wants_plain_fault rows w d l s = rw (d, l, s) refl

pub wants_dashes_step : (rows : List Row) (w : Text) → bytes_eq w dashes ≡ true → walked rules [] (wants_at false rows) w ≡ wants_at true rows
unfolding walked
wants_dashes_step rows w d = rw d refl

pub wants_dashes_fault : (rows : List Row) (w : Text) → bytes_eq w dashes ≡ true → turn_fault sample [] (wants_at false rows) w ≡ []
wants_dashes_fault rows w d = rw d refl

pub wants_trailing_fault : (rows : List Row) (w : Text) → turn_fault sample [] (wants_at true rows) w ≡ kind.InvalidValue ∷ []
wants_trailing_fault rows w = refl

pub wants_short_fault : (rows : List Row) (w flags : Text) (x : ℕ) → bytes_eq w dashes ≡ false → long_of w ≡ None → short_of w ≡ Some flags
    → slice_get (chars flags) 0 ≡ Some x
    → turn_fault sample [] (wants_at false rows) w ≡ kind.UnknownArgument ∷ []
wants_short_fault rows w flags x d l s first = rw (d, l, s, bundle_unknown flags x rows (Some (codes "raw-at", [])) first) refl

pub wants_long_other : (rows : List Row) (w nm : Text) (v : Option Text) → bytes_eq w dashes ≡ false → long_of w ≡ Some (nm, v)
    → bytes_eq (codes "raw-at") nm ≡ false
    → turn_fault sample [] (wants_at false rows) w ≡ kind.UnknownArgument ∷ []
wants_long_other rows w nm v d l n = rw (d, l, n) refl

pub wants_long_raw : (rows : List Row) (w nm : Text) (v : Option Text) → bytes_eq w dashes ≡ false → long_of w ≡ Some (nm, v)
    → bytes_eq (codes "raw-at") nm ≡ true
    → turn_fault sample [] (wants_at false rows) w ≡ kind.InvalidValue ∷ []
wants_long_raw rows w nm None d l n = rw (d, l, n) refl
wants_long_raw rows w nm (Some v) d l n = rw (d, l, n) refl
