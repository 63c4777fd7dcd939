-- The rest of a script, move by move.
use Rattle.std.proofs.Common.{◌≡◌, ◌<◌, ◌≤◌, ◌+◌, ◌-◌, ◌∙◌, ℕ, zero, suc, Bool, true, false, cond, is_some, Option, Some, None, List, [], ◌∷◌, ◌++◌}
use Rattle.std.proofs.Common.{length, option_to_list, refl, sym, ap, arith, append_assoc}
use Rattle.std.proofs.lemmas.List.{append-nil}
use Rattle.algo_calls.specs.declared.call.Call.TheVariants as call
use Rattle.algo_calls.specs.Setups.{Setup}
use Rattle.flash_session.specs.Moves.{Move, Reset, Load, Make}
use Rattle.flash_session.specs.Regions.{RegionIndex, First, Second}
use Rattle.flash_session.specs.Script.{RegionWork, Torn, Leg, Broken, torn_first, torn_rest, each_below, sector_moves, erase_moves, page_at, page_moves}
use Rattle.flash_session.specs.Script.{has_verify}
use Rattle.flash_session.specs.Script.{verify_moves, phase, phases, legs_of, script, kind_of}
use Rattle.flash_session.proofs.Lists.{each_none, each_more, phase_none, phase_is}
use Rattle.flash_session.specs.declared.phase.Phase.{Phase}
use Rattle.flash_session.specs.declared.phase.Phase.TheVariants as stage
use Rattle.flash_session.specs.declared.cursor.Cursor.TheVariants as at
use Rattle.flash_session.specs.Rest.{each_from, from_on, calls_from, phase_calls, torn_of, with_torn, after_phase, from_phase, closing, Legs}
use Rattle.flash_session.specs.Rest.{all_legs, leg_at, torn_at, last_reset, second_rest, later_than, rest_of, after_region, after}

-- ---- the numbers from one on

from_nothing : (f : ℕ → List Move) (k : ℕ) → each_from f k 0 ≡ []
unfolding each_from
from_nothing f k = refl

from_one : (f : ℕ → List Move) (k m : ℕ) → each_from f k (suc m) ≡ f k ++ each_from f (k + 1) m
unfolding each_from
from_one f k m = refl

pub from_take : (f : ℕ → List Move) (n k : ℕ) → k < n → from_on f n k ≡ f k ++ from_on f n (k + 1)
from_take f n k less = let one : n - k ≡ suc (n - (k + 1)) = omega arith in ap (each_from f k) one ∙ from_one f k (n - (k + 1))

pub from_skip : (f : ℕ → List Move) (n k : ℕ) → k < n → f k ≡ [] → from_on f n k ≡ from_on f n (k + 1)
from_skip f n k less nothing = from_take f n k less ∙ ap (λ (l : List Move). l ++ from_on f n (k + 1)) nothing

pub from_none : (f : ℕ → List Move) (n k : ℕ) → n ≤ k → from_on f n k ≡ []
from_none f n k past = let zero_is : n - k ≡ 0 = omega arith in ap (each_from f k) zero_is ∙ from_nothing f k

from_end : (f : ℕ → List Move) (k m : ℕ) → each_from f k (suc m) ≡ each_from f k m ++ f (k + m)
from_end f k zero =
    let same : k ≡ k + 0 = omega arith in
    from_one f k 0 ∙ ap (λ (l : List Move). f k ++ l) (from_nothing f (k + 1)) ∙ append-nil (f k) ∙ ap f same
    ∙ ap (λ (l : List Move). l ++ f (k + 0)) (sym (from_nothing f k))
from_end f k (suc m) =
    let same : k + 1 + m ≡ k + suc m = omega arith in
    from_one f k (suc m)
    ∙ ap (λ (l : List Move). f k ++ l) (from_end f (k + 1) m)
    ∙ sym (append_assoc (f k) (each_from f (k + 1) m) (f (k + 1 + m)))
    ∙ ap (λ (i : ℕ). (f k ++ each_from f (k + 1) m) ++ f i) same
    ∙ ap (λ (l : List Move). l ++ f (k + suc m)) (sym (from_one f k m))

from_all : (f : ℕ → List Move) (n : ℕ) → each_from f 0 n ≡ each_below n f
from_all f zero = from_nothing f 0 ∙ sym (each_none f)
from_all f (suc n) =
    let same : 0 + n ≡ n = omega arith in
    let more : n + 1 ≡ suc n = omega arith in
    from_end f 0 n ∙ ap (λ (i : ℕ). each_from f 0 n ++ f i) same ∙ ap (λ (l : List Move). l ++ f n) (from_all f n) ∙ sym (each_more n f)
    ∙ ap (λ (i : ℕ). each_below i f) more

on_all : (f : ℕ → List Move) (n : ℕ) → from_on f n 0 ≡ each_below n f
on_all f n = let same : n - 0 ≡ n = omega arith in ap (each_from f 0) same ∙ from_all f n

-- ---- the calls of a phase

same_either : (d : Bool) (x y z : List Move) → y ≡ z → cond d x y ≡ cond d x z
same_either d x y z is = ap (λ (l : List Move). cond d x l) is

same_whether : (d : Bool) (x y z : List Move) → x ≡ y → cond d x z ≡ cond d y z
same_whether d x y z is = ap (λ (l : List Move). cond d l z) is

pub calls_all : (s : Setup) (t : RegionWork) (p : Phase) → calls_from s t p 0 ≡ phase_calls s t p
unfolding erase_moves page_moves
calls_all s t stage.Erase = same_either t.planned.plan.chip (Make s call.EraseChip [] ∷ []) _ _
    (on_all (sector_moves s t.planned) (length t.planned.layout.sectors))
calls_all s t stage.Program = on_all (page_at false s t) (length t.planned.layout.pages)
calls_all s t stage.Verify = same_whether (has_verify s) _ _ [] (on_all (page_at true s t) (length t.planned.layout.pages))

-- ---- phases

opened : (s : Setup) (kind : ℕ) (torn : List ℕ) (calls later : List Move) → (calls ≡ [] → ⊥)
    → phase s kind torn calls ++ later ≡ Reset s torn ∷ Load s ∷ Make s (call.Init kind) [] ∷ (calls ++ (Make s (call.UnInit kind) [] ∷ later))
opened s kind torn calls later some =
    ap (λ (l : List Move). l ++ later) (phase_is s kind torn calls some)
    ∙ ap (λ (l : List Move). Reset s torn ∷ Load s ∷ Make s (call.Init kind) [] ∷ l) (append_assoc calls (Make s (call.UnInit kind) [] ∷ []) later)

-- a phase that has calls begins with a reset and a load, whatever cells the reset leaves
pub begin_is : (l : Legs) (r : RegionIndex) (p : Phase) → (phase_calls (leg_at l r).setup (leg_at l r).region_work p ≡ [] → ⊥) → (b : Broken) (torn : List ℕ)
    → rest_of l (at.Begin r p) (with_torn r p torn b) ≡ Reset (leg_at l r).setup torn ∷ Load (leg_at l r).setup ∷ rest_of l (at.Init r p) b
begin_is l First stage.Erase some b torn =
    opened l.first.setup 1 torn (phase_calls l.first.setup l.first.region_work stage.Erase)
    (after_phase l.first.setup l.first.region_work stage.Erase (torn_at First b) (later_than l First b)) some
begin_is l First stage.Program some b torn =
    opened l.first.setup 2 torn (phase_calls l.first.setup l.first.region_work stage.Program)
    (after_phase l.first.setup l.first.region_work stage.Program (torn_at First b) (later_than l First b)) some
begin_is l First stage.Verify some b torn =
    opened l.first.setup 3 torn (phase_calls l.first.setup l.first.region_work stage.Verify)
    (after_phase l.first.setup l.first.region_work stage.Verify (torn_at First b) (later_than l First b)) some
begin_is l Second stage.Erase some b torn =
    opened (leg_at l Second).setup 1 torn (phase_calls (leg_at l Second).setup (leg_at l Second).region_work stage.Erase)
    (after_phase (leg_at l Second).setup (leg_at l Second).region_work stage.Erase (torn_at Second b) (later_than l Second b)) some
begin_is l Second stage.Program some b torn =
    opened (leg_at l Second).setup 2 torn (phase_calls (leg_at l Second).setup (leg_at l Second).region_work stage.Program)
    (after_phase (leg_at l Second).setup (leg_at l Second).region_work stage.Program (torn_at Second b) (later_than l Second b)) some
begin_is l Second stage.Verify some b torn =
    opened (leg_at l Second).setup 3 torn (phase_calls (leg_at l Second).setup (leg_at l Second).region_work stage.Verify)
    (after_phase (leg_at l Second).setup (leg_at l Second).region_work stage.Verify (torn_at Second b) (later_than l Second b)) some

-- a phase without calls is left out
pub skip_is : (l : Legs) (r : RegionIndex) (p : Phase) → phase_calls (leg_at l r).setup (leg_at l r).region_work p ≡ [] → (b : Broken)
    → rest_of l (at.Begin r p) b ≡ after_phase (leg_at l r).setup (leg_at l r).region_work p (torn_at r b) (later_than l r b)
skip_is l r p nothing b =
    ap (λ (m : List Move). m ++ after_phase (leg_at l r).setup (leg_at l r).region_work p (torn_at r b) (later_than l r b))
    (phase_none (leg_at l r).setup (kind_of p) (torn_of p (torn_at r b)) (phase_calls (leg_at l r).setup (leg_at l r).region_work p) nothing)

-- the second region, if there is one, follows the first
behind_first : (first : Leg) (second : Option Leg) (b : Broken) → let l : Legs = record { first = first; second = second } in
    later_than l First b ≡ rest_of l (after_region (is_some second) First) b
behind_first first None b = refl
behind_first first (Some m) b = refl

pub behind_is : (l : Legs) (r : RegionIndex) (b : Broken) → later_than l r b ≡ rest_of l (after_region (is_some l.second) r) b
behind_is l First b = behind_first l.first l.second b
behind_is l Second b = refl

pub after_is : (l : Legs) (r : RegionIndex) (p : Phase) (b : Broken)
    → after_phase (leg_at l r).setup (leg_at l r).region_work p (torn_at r b) (later_than l r b) ≡ rest_of l (after (is_some l.second) r p) b
after_is l r stage.Erase b = refl
after_is l r stage.Program b = refl
after_is l r stage.Verify b = behind_is l r b

-- after the Init of a phase come its calls, and then its UnInit
pub init_is : (l : Legs) (r : RegionIndex) (p : Phase) (b : Broken) → rest_of l (at.Init r p) b ≡ Make (leg_at l r).setup (call.Init (kind_of p)) [] ∷ rest_of l
    (at.Calls r p 0) b
init_is l r p b =
    ap (λ (m : List Move). Make (leg_at l r).setup (call.Init (kind_of p)) [] ∷
    (m ++ closing (leg_at l r).setup (leg_at l r).region_work p (torn_at r b) (later_than l r b)))
    (sym (calls_all (leg_at l r).setup (leg_at l r).region_work p))

pub call_is : (l : Legs) (r : RegionIndex) (p : Phase) (k next : ℕ) (m : Move)
    → calls_from (leg_at l r).setup (leg_at l r).region_work p k ≡ m ∷ calls_from (leg_at l r).setup (leg_at l r).region_work p next → (b : Broken)
    → rest_of l (at.Calls r p k) b ≡ m ∷ rest_of l (at.Calls r p next) b
call_is l r p k next m is b = ap (λ (n : List Move). n ++ closing (leg_at l r).setup (leg_at l r).region_work p (torn_at r b) (later_than l r b)) is

pub uninit_is : (l : Legs) (r : RegionIndex) (p : Phase) (k : ℕ) → calls_from (leg_at l r).setup (leg_at l r).region_work p k ≡ [] → (b : Broken)
    → rest_of l (at.Calls r p k) b ≡ Make (leg_at l r).setup (call.UnInit (kind_of p)) [] ∷ rest_of l (after (is_some l.second) r p) b
uninit_is l r p k nothing b =
    ap (λ (n : List Move). n ++ closing (leg_at l r).setup (leg_at l r).region_work p (torn_at r b) (later_than l r b)) nothing
    ∙ ap (λ (n : List Move). Make (leg_at l r).setup (call.UnInit (kind_of p)) [] ∷ n) (after_is l r p b)

-- ---- a script is the moves left from its first phase on

three_of : (s : Setup) (t : RegionWork) (b : Torn) (later : List Move) → phases s t b ++ later ≡ from_phase s t stage.Erase b later
unfolding phases
three_of s t b later =
    append_assoc (phase s 1 b.erase (erase_moves s t.planned)) (phase s 2 b.program (page_moves false s t) ++ phase s 3 b.verify (verify_moves s t)) later
    ∙ ap (λ (m : List Move). phase s 1 b.erase (erase_moves s t.planned) ++ m)
    (append_assoc (phase s 2 b.program (page_moves false s t)) (phase s 3 b.verify (verify_moves s t)) later)

pub legs_none : (torn : List Torn) → legs_of [] torn ≡ []
unfolding legs_of
legs_none torn = refl

pub legs_more : (l : Leg) (rest : List Leg) (torn : List Torn) → legs_of (l ∷ rest) torn ≡ phases l.setup l.region_work (torn_first torn) ++ legs_of rest
    (torn_rest torn)
unfolding legs_of
legs_more l rest torn = refl

second_is : (second : Option Leg) (torn : List Torn) (later : List Move)
    → legs_of (option_to_list second) torn ++ later ≡ second_rest second (torn_first torn) later
second_is None torn later = ap (λ (m : List Move). m ++ later) (legs_none torn)
second_is (Some m) torn later =
    ap (λ (x : List Move). x ++ later) (legs_more m [] torn ∙ ap (λ (x : List Move). phases m.setup m.region_work (torn_first torn) ++ x)
    (legs_none (torn_rest torn)) ∙ append-nil (phases m.setup m.region_work (torn_first torn)))
    ∙ three_of m.setup m.region_work (torn_first torn) later

script_more : (l : Legs) (b : Broken) → script (all_legs l) b ≡ legs_of (all_legs l) b.legs ++ last_reset l b
unfolding script
script_more l b = refl

pub script_is : (l : Legs) (b : Broken) → script (all_legs l) b ≡ rest_of l (at.Begin First stage.Erase) b
script_is l b =
    let one : List Move = phases l.first.setup l.first.region_work (torn_first b.legs) in
    let two : List Move = legs_of (option_to_list l.second) (torn_rest b.legs) in
    script_more l b
    ∙ ap (λ (m : List Move). m ++ last_reset l b) (legs_more l.first (option_to_list l.second) b.legs)
    ∙ append_assoc one two (last_reset l b)
    ∙ ap (λ (m : List Move). one ++ m) (second_is l.second (torn_rest b.legs) (last_reset l b))
    ∙ three_of l.first.setup l.first.region_work (torn_first b.legs) (later_than l First b)
