-- What one call more does to a record. `MemoryLemmas` has the lemmas of each kind of call.
use Rattle.std.proofs.Common.{◌≡◌, ◌↔◌, ⊎_elim, ◌<◌, ◌≤◌, ◌+◌, ◌∙◌, ap, subst, sym, refl, ℕ, List, [], ◌∷◌, ◌++◌, length, take, drop, arith, length-append}
use Rattle.std.proofs.Common.{length-drop}
use Rattle.std.proofs.lemmas.List.{take-append-le, drop-append-le, take_all}
use Rattle.std.proofs.lemmas.Bool.{cases_lt}
use Rattle.bench_model.specs.History.{GoesOn, Leaves, Stays}
use Rattle.bench_model.specs.Record.{Event, Held, Recorded, after, replay, held_now, held_at, noted, half_of, handed, handed_all, handed_of, event_of}
use Rattle.bench_model.specs.Record.{events_of}
use Rattle.bench_model.specs.declared.change.Change.{Change}
use Rattle.bench_model.specs.declared.change.Change.TheVariants.{Wrote, Cut, Synced, Opened, Settled, Filled, BrokenOff}

empty : (bytes : List ℕ) → 0 ≡ length bytes → bytes ≡ []
empty [] is = refl
empty (b ∷ bytes) is = absurd (omega arith)

pub handed_all-push : (cs : List Change) (c : Change) → handed_all (cs ++ c ∷ []) ≡ handed_all cs + handed c
handed_all-push [] c = omega arith
handed_all-push (d ∷ cs) c = omega (arith, handed_all-push cs c)

pub handed_of-event_of : (c : Change) (bytes : List ℕ) → handed c ≡ length bytes → handed_of (event_of c bytes) ≡ length bytes
handed_of-event_of (Wrote at len) bytes is = refl
handed_of-event_of (Cut len) bytes is = is
handed_of-event_of Synced bytes is = is
handed_of-event_of (Opened at len) bytes is = is
handed_of-event_of (Settled len) bytes is = refl
handed_of-event_of (Filled value) bytes is = is
handed_of-event_of (BrokenOff byte) bytes is = is

-- the events of the changes with one more at the end
pub events_of-push : (cs : List Change) (c : Change) (bytes bs : List ℕ) → handed_all cs ≡ length bytes → handed c ≡ length bs
    → events_of (cs ++ c ∷ []) (bytes ++ bs) ≡ events_of cs bytes ++ event_of c bs ∷ []
events_of-push [] c bytes bs used is =
    let whole : take (handed c) bs ≡ bs = take_all (handed c) bs (omega (arith, is)) in
    ap (λ (l : List ℕ). event_of c (take (handed c) (l ++ bs)) ∷ []) (empty bytes used) ∙ ap (λ (l : List ℕ). event_of c l ∷ []) whole
events_of-push (d ∷ cs) c bytes bs used is =
    let fits : handed d ≤ length bytes = omega (arith, used) in
    let rest : handed_all cs ≡ length (drop (handed d) bytes) = omega (arith, used, length-drop (handed d) bytes) in
    ap (λ (l : List ℕ). event_of d l ∷ events_of (cs ++ c ∷ []) (drop (handed d) (bytes ++ bs))) (take-append-le (handed d) bytes bs fits)
    ∙ ap (λ (l : List ℕ). event_of d (take (handed d) bytes) ∷ events_of (cs ++ c ∷ []) l) (drop-append-le (handed d) bytes bs fits)
    ∙ ap (λ (l : List Event). event_of d (take (handed d) bytes) ∷ l) (events_of-push cs c (drop (handed d) bytes) bs rest is)

pub replay-push : (es : List Event) (e : Event) (h : Held) → replay (es ++ e ∷ []) h ≡ after e (replay es h)
replay-push [] e h = refl
replay-push (d ∷ es) e h = replay-push es e (after d h)

-- the events and the replay after one change more, for lists that are equal to these
module _ (cs cs' : List Change) (c : Change) (bytes bytes' bs : List ℕ) (used : handed_all cs ≡ length bytes) (is : handed c ≡ length bs)
    (cs-is : cs' ≡ cs ++ c ∷ []) (bytes-is : bytes' ≡ bytes ++ bs) where
  pub events-after : events_of cs' bytes' ≡ events_of cs bytes ++ event_of c bs ∷ []
  events-after = ap (λ (l : List Change). events_of l bytes') cs-is ∙ ap (λ (l : List ℕ). events_of (cs ++ c ∷ []) l) bytes-is ∙
      events_of-push cs c bytes bs used is

  pub replay-after : (h : Held) → replay (events_of cs' bytes') h ≡ after (event_of c bs) (replay (events_of cs bytes) h)
  replay-after h = ap (λ (es : List Event). replay es h) events-after ∙ replay-push (events_of cs bytes) (event_of c bs) h

  pub used-after : handed_all cs' ≡ length bytes'
  used-after = omega (arith, ap handed_all cs-is, handed_all-push cs c, ap length bytes-is, length-append bytes bs, used, is)

  pub units-after : length cs' + length bytes' ≡ length cs + length bytes + (1 + length bs)
  units-after = omega (arith, ap length cs-is, length-append cs (c ∷ []), ap length bytes-is, length-append bytes bs)

-- the record after one call more
pub recorded : (made : Held) (es : List Event) (used n room longest : ℕ) (e : Event) (es' : List Event) (r : Recorded) → es' ≡ es ++ e ∷ [] → handed_of e ≡ n
    → record { made = made; events = es; used = used; room = room; longest = longest } ≡ r
    → record { made = made; events = es'; used = used + (1 + n); room = room; longest = longest } ≡ noted e r
recorded made es used n room longest e es' r more handed is =
    ap (λ (l : List Event). record { made = made; events = l; used = used + (1 + n); room = room; longest = longest }) more
    ∙ ap (λ (m : ℕ). record { made = made; events = es ++ e ∷ []; used = used + (1 + m); room = room; longest = longest }) (sym handed)
    ∙ ap (λ (q : Recorded). noted e q) is

-- What a stop may leave of a half now is what it leaves at the last moment.
module _ (L : Held → List ℕ → Type 0) (r : Recorded) where
  pub half_now : (x : List ℕ) → L (held_at (length r.events) r) x ↔ L (held_now r) x
  half_now x =
      let all : take (length r.events) r.events ≡ r.events = take_all (length r.events) r.events (omega arith) in (
        (λ at. subst (λ (l : List Event). L (replay l r.made) x) all at),
        (λ at. subst (λ (l : List Event). L (replay l r.made) x) (sym all) at),
      )

  module _ (e : Event) where
    past : (k : ℕ) → k ≤ length r.events → held_at k (noted e r) ≡ held_at k r
    past k le = ap (λ (l : List Event). replay l r.made) (take-append-le k r.events (e ∷ []) le)

    now : (k : ℕ) → length r.events < k → held_at k (noted e r) ≡ after e (held_now r)
    now k late =
        let all : take k (r.events ++ e ∷ []) ≡ r.events ++ e ∷ [] = take_all k (r.events ++ e ∷ []) (omega (arith, late, length-append r.events (e ∷ []))) in
        ap (λ (l : List Event). replay l r.made) all ∙ replay-push r.events e r.made

    here : (k : ℕ) (x : List ℕ) → k ≤ length r.events → length r.events ≤ k → L (held_at k (noted e r)) x ↔ L (held_now r) x
    here k x le ge =
        let is : k ≡ length r.events = omega (arith, le, ge) in
        let same : held_at k (noted e r) ≡ held_at (length r.events) r = past k le ∙ ap (λ (n : ℕ). held_at n r) is in (
          (λ at. (half_now x).0 (subst (λ (h : Held). L h x) same at)),
          (λ at. subst (λ (h : Held). L h x) (sym same) ((half_now x).1 at)),
        )

    noted_goes_on : GoesOn (half_of L r) (half_of L (noted e r))
    noted_goes_on = record {
      later = omega (arith, length-append r.events (e ∷ []));
      past = λ k x le. (
        (λ at. subst (λ (h : Held). L h x) (past k le) at),
        (λ at. subst (λ (h : Held). L h x) (sym (past k le)) at),
      );
    }

    pub noted_leaves : (P : List ℕ → Type 0) → ((x : List ℕ) → L (held_now r) x → P x) → ((x : List ℕ) → L (after e (held_now r)) x → P x)
        → Leaves (half_of L r) (half_of L (noted e r)) P
    noted_leaves P before next = record {
      goes_on = noted_goes_on;
      each = λ k x from to at. ⊎_elim
          (λ (late : length r.events < k). next x (subst (λ (h : Held). L h x) (now k late) at))
          (λ (le : k ≤ length r.events). before x ((here k x le from).0 at))
          (cases_lt (length r.events) k);
    }

    pub noted_stays : ((x : List ℕ) → L (after e (held_now r)) x ↔ L (held_now r) x) → Stays (half_of L r) (half_of L (noted e r))
    noted_stays same = record {
      goes_on = noted_goes_on;
      same = λ k x from to. ⊎_elim
          (λ (late : length r.events < k). (
            (λ at. (half_now x).1 ((same x).0 (subst (λ (h : Held). L h x) (now k late) at))),
            (λ at. subst (λ (h : Held). L h x) (sym (now k late)) ((same x).1 ((half_now x).0 at))),
          ))
          (λ (le : k ≤ length r.events). (
            (λ at. (half_now x).1 ((here k x le from).0 at)),
            (λ at. (here k x le from).1 ((half_now x).0 at)),
          ))
          (cases_lt (length r.events) k);
    }
