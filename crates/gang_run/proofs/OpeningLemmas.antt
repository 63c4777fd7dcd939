-- The opening of a gang, bench after bench.
use Rattle.std.proofs.Common.{◌≡◌, ◌≢◌, ◌<◌, ◌≤◌, ◌+◌, ◌*◌, ◌^◌, ◌∙◌, ⊎_elim, ℕ, Bool, All, List, [], ◌∷◌, ◌++◌, length, get_or, set, replicate, refl, sym, ap}
use Rattle.std.proofs.Common.{subst, arith, ◌⊎◌, inl, inr, Ok}
use Rattle.faults.specs.declared.out_of_memory.OutOfMemory.{OutOfMemory}
use Rattle.std.proofs.lemmas.List.{length-append, length-map, length-set, get_or_append_left, get_or_push, get_or_past, get_or-map, get_or-set_other}
use Rattle.std.proofs.lemmas.List.{get_or-set_same, get_or_read}
use Rattle.std.proofs.lemmas.List.Elements.{All-append, All-replicate, All-rest}
use Rattle.std.proofs.lemmas.Bool.{cases_lt, cases_eq}
use Rattle.bench_model.specs.declared.bench.Bench.{Ghosts}
use Rattle.bench_model.specs.State.{BenchState, file_half, cells_half}
use Rattle.bench_model.proofs.MemoryLemmas.{same_outside_all}
use Rattle.bench_model.proofs.Moments.{goes_here}
use Rattle.board_file.specs.Limits.{most_ram}
use Rattle.job_file.specs.First.{SyncsFirst}
use Rattle.job_file.proofs.FirstLemmas.{syncs_as}
use Rattle.job_text.specs.Stands.{StandsFor}
use Rattle.ram_arena.specs.Windows.{total, blank}
use Rattle.target_core.specs.Windows.{window_of}
use Rattle.flash_session.specs.declared.fault.SurveyFault.TheVariants as survey
use Rattle.flash_session.specs.declared.target_end.TargetEnd.{TargetEnd}
use Rattle.flash_session.specs.declared.target_end.TargetEnd.TheVariants as ended
use Rattle.gang_run.specs.declared.target.GangTarget.{GangTarget}
use Rattle.gang_run.specs.declared.gang.Gang.{Gang}
use Rattle.gang_run.specs.declared.slot.Slot.{Slot}
use Rattle.gang_run.specs.declared.slot.Slot.TheVariants as slot
use Rattle.gang_run.specs.Gangs.{slot_at, OtherWindow, IsGang, AreReady}
use Rattle.gang_run.specs.Opening.{IsLookedAt, IsRefused, IsOpened, AreOpened, AreSynced, unread}
use Rattle.gang_run.specs.Opens.{ram_for, IsReadyIn, Opens, sizes_with, SlotAdded, slot_in, OpensAmong, Opening}
use Rattle.gang_run.specs.Slots.{EndsByScript, IsSlot, IsReady}

abbrev none_slot : Slot
none_slot = slot.Refused (ended.Survey survey.StoreFault)

-- ---- the windows

sizes_long : (s : Slot) (sizes : List ℕ) → length sizes ≤ length (sizes_with s sizes)
sizes_long (slot.Refused e) sizes = omega arith
sizes_long (slot.Open x) sizes = omega (arith, length-append sizes (ram_for x ∷ []))

sizes_more : (s : Slot) (sizes : List ℕ) → length (sizes_with s sizes) ≤ length sizes + 1
sizes_more (slot.Refused e) sizes = omega arith
sizes_more (slot.Open x) sizes = omega (arith, length-append sizes (ram_for x ∷ []))

sizes_stay : (s : Slot) (sizes : List ℕ) (i : ℕ) → i < length sizes → get_or (sizes_with s sizes) i 0 ≡ get_or sizes i 0
sizes_stay (slot.Refused e) sizes i less = refl
sizes_stay (slot.Open x) sizes i less = get_or_append_left sizes (ram_for x ∷ []) 0 i less

sizes_small : (s : Slot) (sizes : List ℕ) → All (λ n. n ≤ most_ram) sizes → All (λ n. n ≤ most_ram) (sizes_with s sizes)
sizes_small (slot.Refused e) sizes small = small
sizes_small (slot.Open x) sizes small = All-append (λ n. n ≤ most_ram) sizes (ram_for x ∷ []) small
    (All-replicate (λ n. n ≤ most_ram) 1 (ram_for x) x.job.board.ram_is_small)

still_among : (tells : Bool) (sizes : List ℕ) (new p : Slot) (s t : BenchState) → OpensAmong tells sizes p s t → OpensAmong tells (sizes_with new sizes) p s t
still_among tells sizes new (slot.Refused e) s t is = is
still_among tells sizes new (slot.Open x) s t is = (omega (arith, is.0, sizes_long new sizes), sizes_stay new sizes x.player.window is.0 ∙ is.1, is.2)

now_among : (tells : Bool) (sizes : List ℕ) (p : Slot) (s t : BenchState) → Opens tells (length sizes) p s t → OpensAmong tells (sizes_with p sizes) p s t
now_among tells sizes (slot.Refused e) s t is = is
now_among tells sizes (slot.Open x) s t is = (
  omega (arith, is.window_is, length-append sizes (ram_for x ∷ [])),
  ap (λ (i : ℕ). get_or (sizes ++ (ram_for x ∷ [])) i 0) is.window_is ∙ get_or_push sizes (ram_for x) 0 (length sizes) refl,
  subst (λ (i : ℕ). IsReadyIn tells i x s t) (sym is.window_is) is,
)

-- the next window is none of those before it
next_apart : (tells : Bool) (sizes : List ℕ) (p q : Slot) (s t u v : BenchState) → OpensAmong tells sizes p s t → Opens tells (length sizes) q u v
    → OtherWindow p q × OtherWindow q p
next_apart tells sizes (slot.Refused e) (slot.Refused f) s t u v one two = (tt, tt)
next_apart tells sizes (slot.Refused e) (slot.Open y) s t u v one two = (tt, tt)
next_apart tells sizes (slot.Open x) (slot.Refused f) s t u v one two = (tt, tt)
next_apart tells sizes (slot.Open x) (slot.Open y) s t u v one two =
    (λ same. absurd (omega (arith, same, one.0, two.window_is)), λ same. absurd (omega (arith, same, one.0, two.window_is)))

none_apart : (p : Slot) → OtherWindow p none_slot
none_apart (slot.Refused e) = tt
none_apart (slot.Open x) = tt

-- ---- bench after bench

module _ {B : Type 0} (G : Ghosts B) where
  pub opening_first : (first : List B) → Opening G first first [] [] 0
  opening_first first = record {
    count = refl;
    within = omega arith;
    places = refl;
    opened = λ i d less. absurd (omega (arith, less));
    looked = λ i d less. absurd (omega (arith, less));
    synced = λ i d less. absurd (omega (arith, less));
    still = λ i d after. refl;
    apart = λ i j other. tt;
    few = omega arith;
    small = λ i d less. absurd (omega (arith, less));
  }

  module _ (first now : List B) (slots : List Slot) (sizes : List ℕ) (upto : ℕ) (b b' : B) (slots' : List Slot) (sizes' : List ℕ)
      (was : Opening G first now slots sizes upto) (inside : upto < length now) (bench : b ≡ get_or now upto b)
      (added : SlotAdded G.tells slots sizes (G.state b) slots' sizes' (G.state b')) (looked : IsLookedAt G.tells (G.state b) (G.state b'))
      (synced : SyncsFirst G.tells G.state G.acts b b' (slots' ≡ slots ++ (unread ∷ []))) where
    abbrev after : List B
    after = set now upto b'

    was_here : (d : B) → get_or first upto d ≡ b
    was_here d = sym (was.still upto d (omega arith)) ∙ sym (get_or_read now upto b inside bench d)

    now_here : (d : B) → get_or after upto d ≡ b'
    now_here d = get_or-set_same now upto b' d inside

    now_other : (i : ℕ) (d : B) → i ≢ upto → get_or after i d ≡ get_or now i d
    now_other i d other = get_or-set_other now upto i b' d other

    slot_before : (i : ℕ) → i < upto → slot_in slots' i ≡ slot_in slots i
    slot_before i less = ap (λ (l : List Slot). slot_in l i) added.slots_are
        ∙ get_or_append_left slots (added.slot ∷ []) none_slot i (omega (arith, less, was.places))

    slot_here : slot_in slots' upto ≡ added.slot
    slot_here = ap (λ (l : List Slot). slot_in l upto) added.slots_are ∙ get_or_push slots added.slot none_slot upto was.places

    slot_past : (i : ℕ) → upto < i → slot_in slots' i ≡ none_slot
    slot_past i more = ap (λ (l : List Slot). slot_in l i) added.slots_are
        ∙ get_or_past (slots ++ (added.slot ∷ [])) i none_slot (omega (arith, length-append slots (added.slot ∷ []), was.places, more))

    opened_now : (i : ℕ) (d : B) → i < upto + 1 → OpensAmong G.tells sizes' (slot_in slots' i) (G.state (get_or first i d)) (G.state (get_or after i d))
    opened_now i d less = ⊎_elim
        (λ (before : i < upto).
        subst (λ (l : List ℕ). OpensAmong G.tells l (slot_in slots' i) (G.state (get_or first i d)) (G.state (get_or after i d))) (sym added.sizes_are)
        (subst (λ (p : Slot). OpensAmong G.tells (sizes_with added.slot sizes) p (G.state (get_or first i d)) (G.state (get_or after i d)))
        (sym (slot_before i before))
        (subst (λ (c : B). OpensAmong G.tells (sizes_with added.slot sizes) (slot_in slots i) (G.state (get_or first i d)) (G.state c))
        (sym (now_other i d (λ same. omega (arith, same, before))))
        (still_among G.tells sizes added.slot (slot_in slots i) (G.state (get_or first i d)) (G.state (get_or now i d)) (was.opened i d before)))))
        (λ (past : upto ≤ i).
        let here : i ≡ upto = omega (arith, past, less) in
        subst (λ (k : ℕ). OpensAmong G.tells sizes' (slot_in slots' k) (G.state (get_or first k d)) (G.state (get_or after k d))) (sym here)
        (subst (λ (l : List ℕ). OpensAmong G.tells l (slot_in slots' upto) (G.state (get_or first upto d)) (G.state (get_or after upto d)))
        (sym added.sizes_are)
        (subst (λ (p : Slot). OpensAmong G.tells (sizes_with added.slot sizes) p (G.state (get_or first upto d)) (G.state (get_or after upto d)))
        (sym slot_here)
        (subst (λ (c : B). OpensAmong G.tells (sizes_with added.slot sizes) added.slot (G.state c) (G.state (get_or after upto d))) (sym (was_here d))
        (subst (λ (c : B). OpensAmong G.tells (sizes_with added.slot sizes) added.slot (G.state b) (G.state c)) (sym (now_here d))
        (now_among G.tells sizes added.slot (G.state b) (G.state b') added.opens))))))
        (cases_lt i upto)

    looked_now : (i : ℕ) (d : B) → i < upto + 1 → IsLookedAt G.tells (G.state (get_or first i d)) (G.state (get_or after i d))
    looked_now i d less = ⊎_elim
        (λ (before : i < upto). subst (λ (c : B). IsLookedAt G.tells (G.state (get_or first i d)) (G.state c))
        (sym (now_other i d (λ same. omega (arith, same, before)))) (was.looked i d before))
        (λ (past : upto ≤ i).
        let here : i ≡ upto = omega (arith, past, less) in
        subst (λ (k : ℕ). IsLookedAt G.tells (G.state (get_or first k d)) (G.state (get_or after k d))) (sym here)
        (subst (λ (c : B). IsLookedAt G.tells (G.state c) (G.state (get_or after upto d))) (sym (was_here d))
        (subst (λ (c : B). IsLookedAt G.tells (G.state b) (G.state c)) (sym (now_here d)) looked)))
        (cases_lt i upto)

    synced_now : (i : ℕ) (d : B) → i < upto + 1
        → SyncsFirst G.tells G.state G.acts (get_or first i d) (get_or after i d) (slot_in slots' i ≡ unread)
    synced_now i d less = ⊎_elim
        (λ (before : i < upto).
        subst (λ (c : B). SyncsFirst G.tells G.state G.acts (get_or first i d) c (slot_in slots' i ≡ unread))
        (sym (now_other i d (λ same. omega (arith, same, before))))
        (syncs_as (was.synced i d before) (λ is. slot_before i before ∙ is)))
        (λ (past : upto ≤ i).
        let here : i ≡ upto = omega (arith, past, less) in
        subst (λ (k : ℕ). SyncsFirst G.tells G.state G.acts (get_or first k d) (get_or after k d) (slot_in slots' k ≡ unread)) (sym here)
        (subst (λ (c : B). SyncsFirst G.tells G.state G.acts c (get_or after upto d) (slot_in slots' upto ≡ unread)) (sym (was_here d))
        (subst (λ (c : B). SyncsFirst G.tells G.state G.acts b c (slot_in slots' upto ≡ unread)) (sym (now_here d))
        (syncs_as synced (λ is. ap (λ (l : List Slot). slot_in l upto) is ∙ get_or_push slots unread none_slot upto was.places)))))
        (cases_lt i upto)

    apart_here : (i : ℕ) → i ≢ upto → OtherWindow (slot_in slots' i) added.slot × OtherWindow added.slot (slot_in slots' i)
    apart_here i other = ⊎_elim
        (λ (before : i < upto).
        subst (λ (p : Slot). OtherWindow p added.slot × OtherWindow added.slot p) (sym (slot_before i before))
        (next_apart G.tells sizes (slot_in slots i) added.slot (G.state (get_or first i b)) (G.state (get_or now i b)) (G.state b) (G.state b')
        (was.opened i b before) added.opens))
        (λ (past : upto ≤ i). subst (λ (p : Slot). OtherWindow p added.slot × OtherWindow added.slot p) (sym (slot_past i (omega (arith, past, other))))
        (tt, none_apart added.slot))
        (cases_lt i upto)

    -- a slot other than this one is unchanged
    slot_other : (i : ℕ) → i ≢ upto → slot_in slots' i ≡ slot_in slots i
    slot_other i other = ⊎_elim
        (λ (before : i < upto). slot_before i before)
        (λ (past : upto ≤ i). slot_past i (omega (arith, past, other)) ∙ sym (get_or_past slots i none_slot (omega (arith, was.places, past))))
        (cases_lt i upto)

    apart_now : (i j : ℕ) → i ≢ j → OtherWindow (slot_in slots' i) (slot_in slots' j)
    apart_now i j other = ⊎_elim
        (λ (at_i : i ≡ upto). subst (λ (p : Slot). OtherWindow p (slot_in slots' j)) (sym (ap (slot_in slots') at_i ∙ slot_here))
        (apart_here j (λ same. other (at_i ∙ sym same))).1)
        (λ (not_i : i ≢ upto). ⊎_elim
        (λ (at_j : j ≡ upto). subst (λ (p : Slot). OtherWindow (slot_in slots' i) p) (sym (ap (slot_in slots') at_j ∙ slot_here)) (apart_here i not_i).0)
        (λ (not_j : j ≢ upto). subst (λ (p : Slot). OtherWindow p (slot_in slots' j)) (sym (slot_other i not_i))
        (subst (λ (p : Slot). OtherWindow (slot_in slots i) p) (sym (slot_other j not_j)) (was.apart i j other)))
        (cases_eq j upto))
        (cases_eq i upto)

    pub opening_on : Opening G first after slots' sizes' (upto + 1)
    opening_on = record {
      count = length-set now upto b' ∙ was.count;
      within = omega (arith, inside, was.count);
      places = omega (arith, ap (λ (l : List Slot). length l) added.slots_are, length-append slots (added.slot ∷ []), was.places);
      opened = opened_now;
      looked = looked_now;
      synced = synced_now;
      still = λ i d past. now_other i d (λ same. omega (arith, same, past)) ∙ was.still i d (omega (arith, past));
      apart = apart_now;
      few = omega (arith, ap (λ (l : List ℕ). length l) added.sizes_are, sizes_more added.slot sizes, was.few);
      small = subst (λ (l : List ℕ). All (λ n. n ≤ most_ram) l) (sym added.sizes_are) (sizes_small added.slot sizes was.small);
    }

-- ---- all of them

total_small : (sizes : List ℕ) → All (λ n. n ≤ most_ram) sizes → total sizes ≤ length sizes * 1048576
total_small [] small = omega arith
total_small (n ∷ sizes) small =
    let here : n ≤ 1048576 = small 0 0 (omega arith) in
    omega (arith, here, total_small sizes (All-rest (λ k. k ≤ most_ram) n sizes (n ∷ sizes) refl small))

pub sizes_fit : (sizes : List ℕ) (n : ℕ) → All (λ n. n ≤ most_ram) sizes → length sizes ≤ n → n ≤ 16 → (length sizes ≤ 64) × (total sizes ≤ 2 ^ 30)
sizes_fit sizes n small few less = (omega (arith, few, less), omega (arith, total_small sizes small, few, less))

pub all_synced : {B : Type 0} (G : Ghosts B) (first now : List B) (g : Gang) (sizes : List ℕ) (upto : ℕ) → Opening G first now g.slots.items sizes upto
    → length first ≤ upto → AreSynced {E = OutOfMemory} G first now (Ok g)
all_synced G first now g sizes upto was all i d less = was.synced i d (omega (arith, less, all))

-- each bench so far was synced first, and the others are unchanged
pub synced_so_far : {B : Type 0} (G : Ghosts B) (first now : List B) (slots : List Slot) (sizes : List ℕ) (upto : ℕ) → Opening G first now slots sizes upto
    → (i : ℕ) (d : B) → (get_or now i d ≡ get_or first i d) ⊎ SyncsFirst G.tells G.state G.acts (get_or first i d) (get_or now i d) (Unit {0})
synced_so_far G first now slots sizes upto was i d = ⊎_elim
    (λ (before : i < upto). inr (syncs_as (was.synced i d before) (λ is. tt)))
    (λ (past : upto ≤ i). inl (was.still i d past))
    (cases_lt i upto)

-- where memory ran out at this bench, each bench was synced first or is unchanged
pub synced_last : {B F : Type 0} (G : Ghosts B) (first now : List B) (slots : List Slot) (sizes : List ℕ) (upto : ℕ) (b b' : B)
    → Opening G first now slots sizes upto → upto < length now → b ≡ get_or now upto b → SyncsFirst G.tells G.state G.acts b b' F
    → (i : ℕ) (d : B) → (get_or (set now upto b') i d ≡ get_or first i d)
    ⊎ SyncsFirst G.tells G.state G.acts (get_or first i d) (get_or (set now upto b') i d) (Unit {0})
synced_last {B} {F} G first now slots sizes upto b b' was inside bench synced i d = ⊎_elim
    (λ (at : i ≡ upto). inr (
    subst (λ (k : ℕ). SyncsFirst G.tells G.state G.acts (get_or first k d) (get_or (set now upto b') k d) (Unit {0})) (sym at)
    (subst (λ (c : B). SyncsFirst G.tells G.state G.acts c (get_or (set now upto b') upto d) (Unit {0}))
    (get_or_read now upto b inside bench d ∙ was.still upto d (omega arith))
    (subst (λ (c : B). SyncsFirst G.tells G.state G.acts b c (Unit {0})) (sym (get_or-set_same now upto b' d inside)) (syncs_as synced (λ is. tt))))))
    (λ (other : i ≢ upto).
    subst (λ (c : B). (c ≡ get_or first i d) ⊎ SyncsFirst G.tells G.state G.acts (get_or first i d) c (Unit {0}))
    (sym (get_or-set_other now upto i b' d other)) (synced_so_far G first now slots sizes upto was i d))
    (cases_eq i upto)

module _ {B : Type 0} (G : Ghosts B) (first now : List B) (g : Gang) (sizes : List ℕ) (upto : ℕ) (was : Opening G first now g.slots.items sizes upto)
    (all : length first ≤ upto) (arena : g.arena ≡ blank sizes) where
  window_blank : (x : GangTarget) → x.player.window < length sizes → get_or sizes x.player.window 0 ≡ ram_for x → (x.player.window < length g.arena)
      × (window_of g.arena x.player.window ≡ replicate (ram_for x) 0)
  window_blank x inside size = (
    omega (arith, inside, ap (λ (l : List (List ℕ)). length l) arena, length-map sizes (λ (n : ℕ). replicate {A = ℕ} n 0)),
    ap (λ (l : List (List ℕ)). window_of l x.player.window) arena ∙ get_or-map (λ (n : ℕ). replicate {A = ℕ} n 0) sizes x.player.window 0 [] inside
        ∙ ap (λ (n : ℕ). replicate {A = ℕ} n 0) size,
  )

  opened_by : (p : Slot) (s t : BenchState) → IsLookedAt G.tells s t → OpensAmong G.tells sizes p s t → IsOpened G.tells p g.arena s t
      × IsReady G.tells p g.arena t × IsSlot p
  opened_by (slot.Refused e) s t looked is = ((looked, is), tt, refused_so e is)
    where
      refused_so : (e : TargetEnd) → IsRefused G.tells e s t → IsSlot (slot.Refused e)
      refused_so ended.Done is = is
      refused_so (ended.Open fault) is = is.memory
      refused_so (ended.Survey fault) is = is.memory
      refused_so (ended.CallFailed number call e) is = is
      refused_so (ended.Mismatch d) is = is
      refused_so ended.StoreFault is = is
      refused_so ended.DeviceFault is = is
  opened_by (slot.Open x) s t looked is =
      let window = window_blank x is.0 is.1 in
      let both = is.2.begins g.arena window.0 window.1 in (
        (looked, both.0),
        λ going. record {
          fit = both.1;
          size = is.2.size;
          stands = λ told. subst (λ (f : List ℕ). StandsFor x.job f) (sym (looked.file told)) (both.0.stands told);
          only = both.0.only;
        },
        subst EndsByScript (sym both.0.place) tt,
      )

  pub all_opened : AreOpened G first g now
  all_opened i d less = (opened_by (slot_in g.slots.items i) (G.state (get_or first i d)) (G.state (get_or now i d)) (was.looked i d (omega (arith, less, all)))
      (was.opened i d (omega (arith, less, all)))).0

  pub all_ready : AreReady G g now
  all_ready i d less = (opened_by (slot_in g.slots.items i) (G.state (get_or first i d)) (G.state (get_or now i d))
      (was.looked i d (omega (arith, less, was.count, all))) (was.opened i d (omega (arith, less, was.count, all)))).1

  slot_past_all : (i : ℕ) → upto ≤ i → IsSlot (slot_at g i)
  slot_past_all i past = subst IsSlot (sym (get_or_past g.slots.items i none_slot (omega (arith, past, was.places)))) tt

  slot_lawful : (d : B) (i : ℕ) → IsSlot (slot_at g i)
  slot_lawful d i = ⊎_elim
      (λ (less : i < upto). (opened_by (slot_in g.slots.items i) (G.state (get_or first i d)) (G.state (get_or now i d)) (was.looked i d less)
      (was.opened i d less)).2)
      (λ (past : upto ≤ i). slot_past_all i past)
      (cases_lt i upto)

  all_lawful : (benches : List B) → upto ≤ length benches → (i : ℕ) → IsSlot (slot_at g i)
  all_lawful [] none i = slot_past_all i (omega (arith, none))
  all_lawful (d ∷ rest) some i = slot_lawful d i

  pub is_gang : upto ≤ length first → IsGang g
  is_gang upto_all = record { apart = was.apart; slots = all_lawful first upto_all }

-- a bench that isn't touched counts as one that was only looked at
pub looked_here : (tells : Bool) (s : BenchState) → IsLookedAt tells s s
looked_here tells s = record {
  file = λ told. refl;
  same = λ told. same_outside_all s.operation s.cells s.cells refl;
  count = refl;
  pairs = record {
    files = goes_here (file_half s);
    cells = goes_here (cells_half s);
    each = λ k f c low high file cells. let now : k ≡ s.moment = omega (arith, low, high) in
        (subst (λ (m : ℕ). s.files_at m f) now file, subst (λ (m : ℕ). s.cells_at m c) now cells);
  };
}

pub looked_so_far : {B : Type 0} (G : Ghosts B) (first now : List B) (slots : List Slot) (sizes : List ℕ) (upto : ℕ) → Opening G first now slots sizes upto
    → (i : ℕ) (d : B) → IsLookedAt G.tells (G.state (get_or first i d)) (G.state (get_or now i d))
looked_so_far {B} G first now slots sizes upto was i d = ⊎_elim
    (λ (before : i < upto). was.looked i d before)
    (λ (past : upto ≤ i). subst (λ (c : B). IsLookedAt G.tells (G.state (get_or first i d)) (G.state c)) (sym (was.still i d past))
    (looked_here G.tells (G.state (get_or first i d))))
    (cases_lt i upto)

-- where memory ran out at this bench, each bench was only looked at
pub looked_last : {B : Type 0} (G : Ghosts B) (first now : List B) (slots : List Slot) (sizes : List ℕ) (upto : ℕ) (b b' : B)
    → Opening G first now slots sizes upto → upto < length now → b ≡ get_or now upto b → IsLookedAt G.tells (G.state b) (G.state b')
    → (i : ℕ) (d : B) → IsLookedAt G.tells (G.state (get_or first i d)) (G.state (get_or (set now upto b') i d))
looked_last {B} G first now slots sizes upto b b' was inside bench looked i d = ⊎_elim
    (λ (at : i ≡ upto).
    subst (λ (k : ℕ). IsLookedAt G.tells (G.state (get_or first k d)) (G.state (get_or (set now upto b') k d))) (sym at)
    (subst (λ (c : B). IsLookedAt G.tells (G.state c) (G.state (get_or (set now upto b') upto d)))
    (get_or_read now upto b inside bench d ∙ was.still upto d (omega arith))
    (subst (λ (c : B). IsLookedAt G.tells (G.state b) (G.state c)) (sym (get_or-set_same now upto b' d inside)) looked)))
    (λ (other : i ≢ upto). subst (λ (c : B). IsLookedAt G.tells (G.state (get_or first i d)) (G.state c)) (sym (get_or-set_other now upto i b' d other))
    (looked_so_far G first now slots sizes upto was i d))
    (cases_eq i upto)
