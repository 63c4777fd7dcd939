-- Texts that are gathered one after another, for `Gathered`, which puts them in long pieces.
use Rattle.std.proofs.Common.{◌≡◌, ◌<◌, ◌+◌, ◌++◌, ◌∙◌, sym, ap, subst, refl, arith, Bool, ℕ, List, [], length, take, drop, get_or, append_assoc, append-nil}
use Rattle.std.proofs.Common.{Result, Ok, Err, OnOk, IsErr}
use Rattle.std.specs.List.{flat_map}
use Rattle.faults.specs.Counts.{Rose}
use Rattle.outside_io.specs.State.{SinkState}
use Rattle.outside_io.specs.Appends.{AppendsPart}
use Rattle.outside_io.specs.declared.sink.OutputFault.{OutputFault}
use Rattle.outside_io.proofs.AppendsLemmas.{AppendsPart-first}
use Rattle.outside_io.specs.Gathers.{AppendsUpTo, Gathers}
use Rattle.outside_io.specs.Puts.{Puts}
use Rattle.outside_io.proofs.PutTexts.{next_text, rest_text}

-- A beginning of what waited and a first text, followed by a beginning of what is left and a second text.
module _ (before first second mid : List ℕ) (a b c : List ℕ) where
  goes_on : AppendsUpTo mid (before ++ first) a b → AppendsPart (mid ++ second) b c → AppendsPart (before ++ (first ++ second)) a c
  goes_on one two = record {
    part = one.part ++ two.part;
    rest = two.rest;
    piece_is = sym (append_assoc before first second) ∙ ap (λ (l : List ℕ). l ++ second) one.text_is ∙ append_assoc one.part mid second
        ∙ ap (λ (l : List ℕ). one.part ++ l) two.piece_is ∙ sym (append_assoc one.part two.part two.rest);
    appended = two.appended ∙ ap (λ (l : List ℕ). l ++ two.part) one.appended ∙ append_assoc a one.part two.part;
  }

  goes_up_to : (rest : List ℕ) → AppendsUpTo mid (before ++ first) a b → AppendsUpTo rest (mid ++ second) b c
      → AppendsUpTo rest (before ++ (first ++ second)) a c
  goes_up_to rest one two = record {
    part = one.part ++ two.part;
    text_is = sym (append_assoc before first second) ∙ ap (λ (l : List ℕ). l ++ second) one.text_is ∙ append_assoc one.part mid second
        ∙ ap (λ (l : List ℕ). one.part ++ l) two.text_is ∙ sym (append_assoc one.part two.part rest);
    appended = two.appended ∙ ap (λ (l : List ℕ). l ++ two.part) one.appended ∙ append_assoc a one.part two.part;
  }

-- a text that waits after those that wait already
pub gathers_here : (tells : Bool) (a : SinkState) (w x text : List ℕ) (u : Unit {0}) → x ≡ w ++ text → Gathers tells a a w x text (Ok u)
gathers_here tells a w x text u is = record {
  ok = λ told. record { part = []; text_is = sym is; appended = sym (append-nil a.taken) };
  err = λ told. tt;
  cause = record { later = omega arith; on_fault = λ failed. absurd (cc failed); on_ok = λ fine. refl };
}

-- gathering an empty text
pub gathers_nothing : (tells : Bool) (a : SinkState) (w : List ℕ) (u : Unit {0}) → Gathers tells a a w w [] (Ok u)
gathers_nothing tells a w u = gathers_here tells a w w [] u (sym (append-nil w))

-- a text that was put where none waited
pub gathers_put : {tells : Bool} {a b : SinkState} {w x text : List ℕ} (r : Result (Unit {0}) OutputFault)
    → w ≡ [] → x ≡ [] → Puts tells a b text r → Gathers tells a b w x text r
gathers_put {tells} {a} {b} {w} {x} {text} (Ok u) none no_more puts = record {
  ok = λ told. record {
    part = text;
    text_is = ap (λ (l : List ℕ). l ++ text) none ∙ sym (append-nil text) ∙ ap (λ (l : List ℕ). text ++ l) (sym no_more);
    appended = puts.ok told;
  };
  err = λ told. tt;
  cause = puts.cause;
}
gathers_put {tells} {a} {b} {w} {x} {text} (Err e) none no_more puts = record {
  ok = λ told. tt;
  err = λ told. subst (λ (l : List ℕ). AppendsPart (l ++ text) a.taken b.taken) (sym none) (puts.err told);
  cause = puts.cause;
}

-- all that waited was put
pub gathers_waiting : {tells : Bool} {a b : SinkState} {w x : List ℕ} (r : Result (Unit {0}) OutputFault)
    → OnOk r (x ≡ []) → Puts tells a b w r → Gathers tells a b w x [] r
gathers_waiting {tells} {a} {b} {w} {x} (Ok u) none puts = record {
  ok = λ told. record { part = w; text_is = ap (λ (l : List ℕ). w ++ l) (sym none); appended = puts.ok told };
  err = λ told. tt;
  cause = puts.cause;
}
gathers_waiting {tells} {a} {b} {w} {x} (Err e) none puts = record {
  ok = λ told. tt;
  err = λ told. subst (λ (l : List ℕ). AppendsPart l a.taken b.taken) (sym (append-nil w)) (puts.err told);
  cause = puts.cause;
}

-- a text that was gathered where none waited, with nothing left waiting
pub gathers_alone : {tells : Bool} {a b : SinkState} {w x text : List ℕ} (r : Result (Unit {0}) OutputFault)
    → w ≡ [] → OnOk r (x ≡ []) → Gathers tells a b w x text r → Puts tells a b text r
gathers_alone {tells} {a} {b} {w} {x} {text} (Ok u) none no_more gathers = record {
  ok = λ told. (gathers.ok told).appended
      ∙ ap (λ (l : List ℕ). a.taken ++ l) (sym (append-nil (gathers.ok told).part) ∙ ap (λ (l : List ℕ). (gathers.ok told).part ++ l) (sym no_more)
      ∙ sym (gathers.ok told).text_is ∙ ap (λ (l : List ℕ). l ++ text) none);
  err = λ told. tt;
  cause = gathers.cause;
}
gathers_alone {tells} {a} {b} {w} {x} {text} (Err e) none no_more gathers = record {
  ok = λ told. tt;
  err = λ told. subst (λ (l : List ℕ). AppendsPart (l ++ text) a.taken b.taken) none (gathers.err told);
  cause = gathers.cause;
}

-- gathering an equal text
pub gathers_as : {tells : Bool} {a b : SinkState} {w x text other : List ℕ} {r : Result (Unit {0}) OutputFault}
    → text ≡ other → Gathers tells a b w x text r → Gathers tells a b w x other r
gathers_as {tells} {a} {b} {w} {x} {text} {other} {r} same gathers = subst (λ (t : List ℕ). Gathers tells a b w x t r) same gathers

-- a text that was gathered whole, and what was gathered after it
pub gathers_then : {tells : Bool} {a b c : SinkState} {v w x first second : List ℕ} {u : Unit {0}} (r : Result (Unit {0}) OutputFault)
    → Gathers tells a b v w first (Ok u) → Gathers tells b c w x second r → Gathers tells a c v x (first ++ second) r
gathers_then {tells} {a} {b} {c} {v} {w} {x} {first} {second} (Ok i) one two = record {
  ok = λ told. goes_up_to v first second w a.taken b.taken c.taken x (one.ok told) (two.ok told);
  err = λ told. tt;
  cause = record {
    later = omega (arith, one.cause.on_ok refl, two.cause.later);
    on_fault = λ failed. subst (λ (n : ℕ). Rose n c.faults) (one.cause.on_ok refl) (two.cause.on_fault failed);
    on_ok = λ fine. two.cause.on_ok fine ∙ one.cause.on_ok refl;
  };
}
gathers_then {tells} {a} {b} {c} {v} {w} {x} {first} {second} (Err e) one two = record {
  ok = λ told. tt;
  err = λ told. goes_on v first second w a.taken b.taken c.taken (one.ok told) (two.err told);
  cause = record {
    later = omega (arith, one.cause.on_ok refl, two.cause.later);
    on_fault = λ failed. subst (λ (n : ℕ). Rose n c.faults) (one.cause.on_ok refl) (two.cause.on_fault failed);
    on_ok = λ fine. two.cause.on_ok fine ∙ one.cause.on_ok refl;
  };
}

-- a text that a fault broke off, before the rest
pub gathers_stops : {tells : Bool} {a b : SinkState} {w x first : List ℕ} {e : OutputFault} (rest : List ℕ)
    → Gathers tells a b w x first (Err e) → Gathers tells a b w x (first ++ rest) (Err e)
gathers_stops {tells} {a} {b} {w} {x} {first} rest gathers = record {
  ok = λ told. tt;
  err = λ told. subst (λ (l : List ℕ). AppendsPart l a.taken b.taken) (append_assoc w first rest)
      (AppendsPart-first a.taken b.taken (w ++ first) rest (gathers.err told));
  cause = gathers.cause;
}

-- a call that answers the fault of a call in it
pub gathers_failed : {tells : Bool} {a b : SinkState} {w x text : List ℕ} {e : OutputFault} (r : Result (Unit {0}) OutputFault)
    → IsErr r → Gathers tells a b w x text (Err e) → Gathers tells a b w x text r
gathers_failed (Ok u) failed gathers = absurd (cc failed)
gathers_failed (Err f) failed gathers = record {
  ok = λ told. tt;
  err = gathers.err;
  cause = record { later = gathers.cause.later; on_fault = λ failed. gathers.cause.on_fault refl; on_ok = λ fine. absurd (cc fine) };
}

-- The texts of a list, one after another.
module _ {A : Type 0} (text : A → List ℕ) (items : List A) (i : ℕ) (d : A) (less : i < length items) where
  -- one more text of the list was gathered
  pub gathers_more : {tells : Bool} {a b c : SinkState} {v w x : List ℕ} {j k : Unit {0}}
      → Gathers tells a b v w (flat_map text (take i items)) (Ok j) → Gathers tells b c w x (text (get_or items i d)) (Ok k)
      → Gathers tells a c v x (flat_map text (take (i + 1) items)) (Ok k)
  gathers_more one two = gathers_as (next_text text items i d less) (gathers_then _ one two)

  -- a fault broke off a text of the list
  pub gathers_breaks : {tells : Bool} {a b c : SinkState} {v w x : List ℕ} {j : Unit {0}} {e : OutputFault}
      → Gathers tells a b v w (flat_map text (take i items)) (Ok j) → Gathers tells b c w x (text (get_or items i d)) (Err e)
      → Gathers tells a c v x (flat_map text items) (Err e)
  gathers_breaks one two = gathers_as (rest_text text items i d less)
      (gathers_stops (flat_map text (drop (i + 1) items)) (gathers_as (next_text text items i d less) (gathers_then _ one two)))
