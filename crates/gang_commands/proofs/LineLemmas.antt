-- The lines of targets, one after the other, and the status of the first that isn't done.
use Rattle.std.proofs.Common.{◌≡◌, ◌<◌, ◌≤◌, ◌+◌, ◌∙◌, refl, sym, ap, arith, ℕ, zero, suc, Bool, List, [], ◌∷◌, ◌++◌, length, get_or, take, drop, append_assoc}
use Rattle.std.proofs.Common.{append-nil, Option, Some, None, Result, Ok, Err, IsErr}
use Rattle.std.proofs.lemmas.List.{take_more, take_all, take-append-drop, length-take, length-map, get_or-map}
use Rattle.outside_io.specs.Puts.{Puts}
use Rattle.outside_io.specs.State.{SinkState}
use Rattle.outside_io.specs.declared.sink.OutputFault.{OutputFault}
use Rattle.outside_io.proofs.PutTexts.{puts_nothing, puts_as, puts_then, puts_stops}
use Rattle.report_text.specs.Refusal.{Refusal, status_of}
use Rattle.report_text.specs.Target.{target_line}
use Rattle.report_text.proofs.StatusLemmas.{some_status}
use Rattle.flash_session.specs.declared.fault.SurveyFault.TheVariants as survey
use Rattle.flash_session.specs.declared.target_end.TargetEnd.TheVariants as ended
use Rattle.gang_run.specs.declared.gang.Gang.{Gang}
use Rattle.gang_run.specs.declared.slot.Slot.TheVariants as slot
use Rattle.gang_run.specs.Gangs.{slot_at}
use Rattle.command_files.specs.Call.{SinkCall, sink_call}
use Rattle.command_files.specs.Said.{TookPart}
use Rattle.gang_commands.specs.Lines.{Outcome, reason, lines_from, lines_of, status_before, status_in}
use Rattle.gang_commands.specs.Puts.{status_behind, PutsEnds}
use Rattle.gang_commands.proofs.OutcomeLemmas.{outcome_at, outcomes}

-- ---- the text

lines_more : (n : ℕ) (xs ys : List Outcome) → lines_from n (xs ++ ys) ≡ lines_from n xs ++ lines_from (n + length xs) ys
lines_more n [] ys = let is : n ≡ n + 0 = omega arith in ap (λ (k : ℕ). lines_from k ys) is
lines_more n (x ∷ xs) ys =
    let next : (n + 1) + length xs ≡ n + length (x ∷ xs) = omega arith in
    let line : List ℕ = target_line n (reason x) in
    ap (λ (l : List ℕ). line ++ l) (lines_more (n + 1) xs ys)
    ∙ ap (λ (k : ℕ). line ++ (lines_from (n + 1) xs ++ lines_from k ys)) next
    ∙ sym (append_assoc line (lines_from (n + 1) xs) (lines_from (n + length (x ∷ xs)) ys))

one_more : (ends : List Outcome) (k : ℕ) (d : Outcome) → k < length ends
    → lines_of (take (k + 1) ends) ≡ lines_of (take k ends) ++ target_line (k + 1) (reason (get_or ends k d))
one_more ends k d less =
    let x : Outcome = get_or ends k d in
    let index : 1 + length (take k ends) ≡ k + 1 = omega (arith, length-take k ends, less) in
    ap lines_of (take_more ends k d less) ∙ lines_more 1 (take k ends) (x ∷ []) ∙ ap (λ (m : ℕ). lines_of (take k ends) ++ lines_from m (x ∷ [])) index
    ∙ ap (λ (l : List ℕ). lines_of (take k ends) ++ l) (append-nil (target_line (k + 1) (reason x)))

whole_lines : (ends : List Outcome) (k : ℕ) → lines_of (take k ends) ++ lines_from (1 + length (take k ends)) (drop k ends) ≡ lines_of ends
whole_lines ends k = sym (lines_more 1 (take k ends) (drop k ends)) ∙ ap lines_of (take-append-drop k ends)

-- ---- the status

pub status_kept : (n : ℕ) (r : Option Refusal) → 1 ≤ n → status_behind n r ≡ n
status_kept zero r some = absurd (omega (arith, some))
status_kept (suc n) r some = refl

first_behind : (r : Option Refusal) → status_before r 0 ≡ status_behind 0 r
first_behind None = refl
first_behind (Some r) = refl

before_all : (r last : Option Refusal) (all rest : ℕ) → all ≡ status_behind rest last → status_before r all ≡ status_behind (status_before r rest) last
before_all None last all rest is = is
before_all (Some r) last all rest is = sym (status_kept (status_of r) last (some_status r))

status_more : (xs : List Outcome) (x : Outcome) → status_in (xs ++ (x ∷ [])) ≡ status_behind (status_in xs) (reason x)
status_more [] x = first_behind (reason x)
status_more (y ∷ ys) x = before_all (reason y) (reason x) (status_in (ys ++ (x ∷ []))) (status_in ys) (status_more ys x)

-- ---- the lines that were put so far

abbrev pub PutsUpto : Bool → SinkState → SinkState → List Outcome → ℕ → ℕ → Type 0
PutsUpto tells old now ends k status = Puts tells old now (lines_of (take k ends)) (Ok tt) × (status ≡ status_in (take k ends))

pub puts_first : (tells : Bool) (a : SinkState) (ends : List Outcome) → PutsUpto tells a a ends 0 0
puts_first tells a ends = (puts_nothing tells a tt, refl)

module _ (tells : Bool) (a b c : SinkState) (ends : List Outcome) (k status : ℕ) (d : Outcome) (less : k < length ends)
    (upto : PutsUpto tells a b ends k status) (said : Option Refusal) (is : said ≡ reason (get_or ends k d)) where
  pub puts_one : (u : Unit {0}) (next : ℕ) → Puts tells b c (target_line (k + 1) said) (Ok u) → next ≡ status_behind status said
      → PutsUpto tells a c ends (k + 1) next
  puts_one u next put next_is =
      let x : Outcome = get_or ends k d in
      let line : target_line (k + 1) said ≡ target_line (k + 1) (reason x) = ap (λ (r : Option Refusal). target_line (k + 1) r) is in (
        puts_as (ap (λ (l : List ℕ). lines_of (take k ends) ++ l) line ∙ sym (one_more ends k d less)) (puts_then (Ok u) upto.0 put),
        next_is ∙ ap (λ (n : ℕ). status_behind n said) upto.1 ∙ ap (λ (r : Option Refusal). status_behind (status_in (take k ends)) r) is
            ∙ sym (ap status_in (take_more ends k d less) ∙ status_more (take k ends) x),
      )

  pub puts_cut : (e : OutputFault) → Puts tells b c (target_line (k + 1) said) (Err e) → TookPart (sink_call tells a c) (lines_of ends)
  puts_cut e put =
      let x : Outcome = get_or ends k d in
      let rest : List ℕ = lines_from (1 + length (take (k + 1) ends)) (drop (k + 1) ends) in
      let text : (lines_of (take k ends) ++ target_line (k + 1) said) ++ rest ≡ lines_of ends =
      ap (λ (r : Option Refusal). (lines_of (take k ends) ++ target_line (k + 1) r) ++ rest) is ∙ ap (λ (l : List ℕ). l ++ rest) (sym (one_more ends k d less))
      ∙ whole_lines ends (k + 1) in
      let puts : Puts tells a c (lines_of ends) (Err e) = puts_as text (puts_stops rest (puts_then (Err e) upto.0 put)) in
      record { taken = puts.err; later = puts.cause.later; rose = puts.cause.on_fault refl }

pub puts_all : (tells : Bool) (a b : SinkState) (ends : List Outcome) (k status : ℕ) → length ends ≤ k → PutsUpto tells a b ends k status
    → PutsEnds (sink_call tells a b) ends (Ok status)
puts_all tells a b ends k status most upto =
    let puts : Puts tells a b (lines_of ends) (Ok tt) = puts_as (ap lines_of (take_all k ends most)) upto.0 in
    (record { taken = puts.ok; faults = puts.cause.on_ok refl }, upto.1 ∙ ap status_in (take_all k ends most))

-- a fault of the sink comes after a beginning of the lines
pub puts_ended : (out : SinkCall) (ends : List Outcome) (r : Result ℕ OutputFault) → IsErr r → TookPart out (lines_of ends) → PutsEnds out ends r
puts_ended out ends (Ok status) failed part = absurd (cc failed)
puts_ended out ends (Err e) failed part = part

-- the refusal of a target, at its place among the outcomes
pub in_place : (g : Gang) (i : ℕ) (d : Outcome) (said : Option Refusal) → i < length g.slots.items → said ≡ reason (outcome_at (slot_at g i))
    → said ≡ reason (get_or (outcomes g) i d)
in_place g i d said less is = is ∙ ap reason (sym (get_or-map outcome_at g.slots.items i (slot.Refused (ended.Survey survey.StoreFault)) d less))

pub within : (g : Gang) (i : ℕ) → i < length g.slots.items → i < length (outcomes g)
within g i less = omega (arith, less, length-map g.slots.items outcome_at)

pub any_outcome : Outcome
any_outcome = record { end = ended.StoreFault; regions = None }
