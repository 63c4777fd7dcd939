-- A call after one that only read or synced, for `file_write` after a call that left the file as it was.
use Rattle.std.proofs.Common.{refl, ℕ, List, arith}
use Rattle.bench_model.specs.History.{Half, left, Leaves, AddsNothing, Stays}
use Rattle.bench_model.specs.Calls.{Follows, Cut}
use Rattle.bench_model.proofs.Moments.{leaves_then, leaves_as, leaves_left, adds_nothing_then, stays_adds_nothing}

-- a step that may change nothing
pub adds_nothing_follows : {a b : Half} (step : List ℕ → List ℕ → Type 0) → ((x : List ℕ) → step x x) → AddsNothing a b → Leaves a b (Follows step a)
adds_nothing_follows {a} step none one = leaves_as (left a) (Follows step a) (λ x is. (x, is, none x)) one

pub adds_nothing_then_follows : {a b c : Half} (step : List ℕ → List ℕ → Type 0) → ((x : List ℕ) → step x x) → AddsNothing a b → Leaves b c (Follows step b)
    → Leaves a c (Follows step a)
adds_nothing_then_follows {a} {b} step none one two =
    leaves_then (Follows step a) (adds_nothing_follows step none one)
    (leaves_as (Follows step b) (Follows step a) (λ y (x, is, steps). (x, leaves_left (left a) one x is, steps)) two)

pub adds_nothing_then_stays : {a b c : Half} → AddsNothing a b → Stays b c → AddsNothing a c
adds_nothing_then_stays one two = adds_nothing_then one (stays_adds_nothing two)

pub stays_then_adds_nothing : {a b c : Half} → Stays a b → AddsNothing b c → AddsNothing a c
stays_then_adds_nothing one two = adds_nothing_then (stays_adds_nothing one) two

pub cut_here : (n : ℕ) (x : List ℕ) → Cut n x x
cut_here n x = record { front = refl; no_longer = omega arith }
