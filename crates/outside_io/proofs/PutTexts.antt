-- Texts that are put one after another. Every command joins what it has put by these lemmas.
use Rattle.std.proofs.Common.{◌≡◌, ◌<◌, ◌+◌, ◌++◌, ◌∙◌, sym, ap, subst, refl, arith, Bool, ℕ, List, [], take, drop, length, get_or, append_assoc, append-nil}
use Rattle.std.proofs.Common.{add-one, Result, Ok, Err, IsErr}
use Rattle.std.proofs.Math.Seq.{take-suc}
use Rattle.std.proofs.lemmas.List.{take-append-drop}
use Rattle.std.proofs.lemmas.Grind.{flat_map-append}
use Rattle.std.specs.List.{flat_map}
use Rattle.faults.specs.Counts.{Rose}
use Rattle.outside_io.specs.State.{SinkState}
use Rattle.outside_io.specs.declared.sink.OutputFault.{OutputFault}
use Rattle.outside_io.proofs.AppendsLemmas.{AppendsPart-first, AppendsPart-second}
use Rattle.outside_io.specs.Puts.{Puts}

-- nothing was put
pub puts_nothing : (tells : Bool) (a : SinkState) (u : Unit {0}) → Puts tells a a [] (Ok u)
puts_nothing tells a u = record {
  ok = λ told. sym (append-nil a.taken);
  err = λ told. tt;
  cause = record { later = omega arith; on_fault = λ failed. absurd (cc failed); on_ok = λ fine. refl };
}

-- putting an equal text
pub puts_as : {tells : Bool} {a b : SinkState} {text other : List ℕ} {r : Result (Unit {0}) OutputFault}
    → text ≡ other → Puts tells a b text r → Puts tells a b other r
puts_as {tells} {a} {b} {text} {other} {r} same puts = subst (λ (t : List ℕ). Puts tells a b t r) same puts

-- a text that went out whole, and what was put after it
pub puts_then : {tells : Bool} {a b c : SinkState} {first second : List ℕ} {u : Unit {0}} (r : Result (Unit {0}) OutputFault)
    → Puts tells a b first (Ok u) → Puts tells b c second r → Puts tells a c (first ++ second) r
puts_then {tells} {a} {b} {c} {first} {second} (Ok v) one two = record {
  ok = λ told. two.ok told ∙ ap (λ (l : List ℕ). l ++ second) (one.ok told) ∙ append_assoc a.taken first second;
  err = λ told. tt;
  cause = record {
    later = omega (arith, one.cause.on_ok refl, two.cause.later);
    on_fault = λ failed. subst (λ (n : ℕ). Rose n c.faults) (one.cause.on_ok refl) (two.cause.on_fault failed);
    on_ok = λ fine. two.cause.on_ok fine ∙ one.cause.on_ok refl;
  };
}
puts_then {tells} {a} {b} {c} {first} {second} (Err e) one two = record {
  ok = λ told. tt;
  err = λ told. AppendsPart-second a.taken b.taken c.taken first second (one.ok told) (two.err told);
  cause = record {
    later = omega (arith, one.cause.on_ok refl, two.cause.later);
    on_fault = λ failed. subst (λ (n : ℕ). Rose n c.faults) (one.cause.on_ok refl) (two.cause.on_fault failed);
    on_ok = λ fine. two.cause.on_ok fine ∙ one.cause.on_ok refl;
  };
}

-- a text that a fault broke off, before the rest
pub puts_stops : {tells : Bool} {a b : SinkState} {first : List ℕ} {e : OutputFault} (rest : List ℕ)
    → Puts tells a b first (Err e) → Puts tells a b (first ++ rest) (Err e)
puts_stops {tells} {a} {b} {first} rest puts = record {
  ok = λ told. tt;
  err = λ told. AppendsPart-first a.taken b.taken first rest (puts.err told);
  cause = puts.cause;
}

-- a call that answers the fault of a call in it
pub puts_failed : {tells : Bool} {a b : SinkState} {text : List ℕ} {e : OutputFault} (r : Result (Unit {0}) OutputFault)
    → IsErr r → Puts tells a b text (Err e) → Puts tells a b text r
puts_failed (Ok u) failed puts = absurd (cc failed)
puts_failed (Err f) failed puts = record {
  ok = λ told. tt;
  err = puts.err;
  cause = record { later = puts.cause.later; on_fault = λ failed. puts.cause.on_fault refl; on_ok = λ fine. absurd (cc fine) };
}

-- The texts of a list, one after another.
module _ {A : Type 0} (text : A → List ℕ) (items : List A) (i : ℕ) (d : A) (less : i < length items) where
  pub next_text : flat_map text (take i items) ++ text (get_or items i d) ≡ flat_map text (take (i + 1) items)
  next_text = sym (rw (add-one, take-suc items i d less, flat_map-append)
      (ap (λ (l : List ℕ). flat_map text (take i items) ++ l) (append-nil (text (get_or items i d)))))

  pub rest_text : flat_map text (take (i + 1) items) ++ flat_map text (drop (i + 1) items) ≡ flat_map text items
  rest_text = sym (flat_map-append text (take (i + 1) items) (drop (i + 1) items)) ∙ ap (flat_map text) (take-append-drop (i + 1) items)

  -- one more text of the list was put
  pub puts_more : {tells : Bool} {a b c : SinkState} {u v : Unit {0}}
      → Puts tells a b (flat_map text (take i items)) (Ok u) → Puts tells b c (text (get_or items i d)) (Ok v)
      → Puts tells a c (flat_map text (take (i + 1) items)) (Ok v)
  puts_more one two = puts_as next_text (puts_then _ one two)

  -- a fault broke off a text of the list
  pub puts_breaks : {tells : Bool} {a b c : SinkState} {u : Unit {0}} {e : OutputFault}
      → Puts tells a b (flat_map text (take i items)) (Ok u) → Puts tells b c (text (get_or items i d)) (Err e)
      → Puts tells a c (flat_map text items) (Err e)
  puts_breaks one two = puts_as rest_text (puts_stops (flat_map text (drop (i + 1) items)) (puts_as next_text (puts_then _ one two)))
