-- A call from a state between two calls: its first point, and what its end decides.
use Rattle.std.proofs.Common.{◌≡◌, ◌<◌, ◌≤◌, ◌+◌, ◌-◌, ◌^◌, ℕ, Bool, true, false, List, [], ◌∷◌, map, length, slice_index, get_or, Option, Some, None}
use Rattle.std.proofs.Common.{is_some, IfSome, IfOk, Result, Ok, Err, refl, sym, ap, subst, ◌∙◌, ⊎_elim, arith}
use Rattle.std.proofs.lemmas.Bool.{cases_lt}
use Rattle.std.proofs.lemmas.List.{get_or-map, get_or_past, length-map}
use Rattle.armv6m_step.specs.Registers.{pc_of}
use Rattle.flash_layout.specs.declared.work.Operation.{Operation}
use Rattle.flash_layout.specs.Maps.{FlashMap}
use Rattle.flash_layout.specs.Work.{range_of}
use Rattle.target_core.specs.declared.unit.AnyRegisters.{AnyRegisters}
use Rattle.target_core.specs.declared.unit.AnyRegisters.TheVariants.{Fc1, Fpec}
use Rattle.target_core.specs.Units.{UnitState, state_op}
use Rattle.target_core.specs.World.{World}
use Rattle.target_core.specs.Path.{Point}
use Rattle.algo_calls.specs.Setups.{Setup}
use Rattle.algo_calls.specs.Frames.{asked, fuel_of, first_point}
use Rattle.algo_calls.proofs.KeptLemmas.{board_in, whole_board}
use Rattle.shadow_step.specs.declared.marks.Mark.{Mark}
use Rattle.shadow_step.specs.declared.marks.Mark.TheVariants.{Known, Page, Any}
use Rattle.shadow_step.specs.Marks.{Pages, Says, known_if, is_known}
use Rattle.shadow_step.specs.Shadow.{Marks}
use Rattle.duty_proofs.specs.Lockstep.{PointAgrees}
use Rattle.duty_proofs.specs.TargetMarks.{TargetMarks, TargetAgrees, Alike, CellsAgree, RunsAgree}
use Rattle.duty_proofs.specs.Starts.{unnamed, forgotten}
use Rattle.duty_proofs.specs.Runs.{start_marks}
use Rattle.duty_proofs.specs.Decided.{over}
use Rattle.duty_proofs.proofs.StartLemmas.{start_agrees}
use Rattle.duty_runs.specs.declared.ask.Ask.{Ask}
use Rattle.duty_runs.specs.declared.between.Between.{Between}
use Rattle.duty_runs.specs.declared.hand.Hand.{Hand}
use Rattle.duty_runs.specs.declared.step.RunMarks.{RunMarks}
use Rattle.duty_runs.specs.Asks.{place_in, before_in, own_page}
use Rattle.duty_runs.specs.States.{state_marks, state_of, state_world}
use Rattle.duty_runs.specs.Hands.{hand_point, run_marks}
use Rattle.duty_runs.specs.declared.went.Went.{Went}
use Rattle.duty_runs.specs.declared.went.Went.TheVariants as went
use Rattle.duty_runs.specs.Runs.{Decides, IfBack, Leaves, Returns}
use Rattle.duty_runs.proofs.GoingLemmas.{Going, begins, own}

-- ---- a state fits its own marks

known_says : (p : Pages) (k : Bool) (v : ℕ) → Says p (known_if k) v v
known_says p true v = refl
known_says p false v = tt

byte_says : (p : Pages) (known : List Bool) (k v : ℕ) → Says p (get_or (map known_if known) k Any) v v
byte_says p known k v = ⊎_elim
    (λ (below : k < length known). let e : get_or (map known_if known) k Any ≡ known_if (get_or known k false) = get_or-map known_if known k false Any below in
    rw e (known_says p (get_or known k false) v))
    (λ (past : length known ≤ k). let e : get_or (map known_if known) k Any ≡ Any =
    get_or_past (map known_if known) k Any (omega (arith, past, length-map known known_if)) in rw e tt)
    (cases_lt k (length known))

alike_self : (address : Bool) (r : AnyRegisters) → Alike address r r
alike_self true r = refl
alike_self false (Fc1 r) = (r.address, refl)
alike_self false (Fpec r) = (r.address, refl)

idle_runs : (p : Pages) (k : Mark) (o : Option Operation) → o ≡ None → RunsAgree p k o o
idle_runs p k None is = tt
idle_runs p k (Some o) is = cc

state_agrees : (p : Pages) (base : ℕ) (layout : FlashMap) (cells : List ℕ) (b : Between) →
    TargetAgrees p (state_marks base layout b) (state_world base layout cells b) (state_world base layout cells b)
state_agrees p base layout cells b =
    let long : length b.ram.items ≡ length (map known_if b.known.items) = sym b.long ∙ sym (length-map b.known.items known_if) in
    record {
      base = refl;
      base' = refl;
      map = refl;
      map' = refl;
      ram = record { here = long; there = long; says = λ k. byte_says p b.known.items k (slice_index b.ram.items k) };
      state = refl;
      registers = alike_self b.address b.state.registers;
      runs = idle_runs p Known b.state.operation b.idle;
      cells = record { here = omega arith; there = refl; says = λ k. tt };
    }

starts_agree : (s : Setup) (base : ℕ) (layout : FlashMap) (cells : List ℕ) (b : Between) (a : Ask) →
    CellsAgree (own_page a.bytes.now) a.from (before_in a.task a.many) cells cells
    → s.layout.buffer_at - s.layout.return_at + length a.bytes.now ≤ length b.known.items
    → PointAgrees (own_page a.bytes.now) (TargetAgrees (own_page a.bytes.now))
    (start_marks s (state_marks base layout b) (length a.bytes.now) a.from (before_in a.task a.many))
    (first_point s (state_world base layout cells b) (asked a.call a.bytes.now)) (first_point s (state_world base layout cells b) (asked a.call a.bytes.now))
starts_agree s base layout cells b a fits room =
    start_agrees (own_page a.bytes.now) s a.call (state_marks base layout b) (state_world base layout cells b) (state_world base layout cells b) a.from
    (before_in a.task a.many) (state_agrees (own_page a.bytes.now) base layout cells b) fits refl (omega (arith, room, length-map b.known.items known_if))

-- the run of a call begins
pub call_begins : (s : Setup) (base : ℕ) (layout : FlashMap) (cells : List ℕ) (b : Between) (a : Ask) (x : Point) (r : Marks TargetMarks) →
    x ≡ first_point s (state_world base layout cells b) (asked a.call a.bytes.now)
    → r ≡ start_marks s (state_marks base layout b) (length a.bytes.now) a.from (before_in a.task a.many)
    → ((k : ℕ) → slice_index a.bytes.now k < 2 ^ 8) → CellsAgree (own_page a.bytes.now) a.from (before_in a.task a.many) cells cells
    → s.layout.buffer_at - s.layout.return_at + length a.bytes.now ≤ length b.known.items
    → Going s (place_in a.task a.from a.many) (state_marks base layout b) (state_world base layout cells b) a.call a.bytes.now a.from
    (before_in a.task a.many) 0 r x
call_begins s base layout cells b a x r here is small fits room =
    begins s (place_in a.task a.from a.many) (state_marks base layout b) (state_world base layout cells b) a.call a.bytes.now a.from
    (before_in a.task a.many) x r here is b.idle (record { here = small; there = small }) (starts_agree s base layout cells b a fits room)

-- ---- what is left

plain_mark : (m : Mark) → known_if (is_known m) ≡ unnamed m
plain_mark Known = refl
plain_mark (Page w i) = refl
plain_mark Any = refl

plain_marks : (ms : List Mark) → map known_if (map is_known ms) ≡ map unnamed ms
plain_marks [] = refl
plain_marks (m ∷ ms) = ap (λ (l : List Mark). known_if (is_known m) ∷ l) (plain_marks ms) ∙ ap (λ (k : Mark). k ∷ map unnamed ms) (plain_mark m)

marks_so : (m : TargetMarks) (base : ℕ) (layout : FlashMap) (ram : List Mark) (state : UnitState) (address : Bool) → base ≡ m.base → layout ≡ m.map →
    ram ≡ map unnamed m.ram → state ≡ m.state → address ≡ m.address
    → ◌≡◌ {A = TargetMarks} (record {
      base = base;
      map = layout;
      ram = ram;
      state = state;
      address = address;
      value = Known;
      from = 0;
      cells = [];
    }) (forgotten m)
marks_so m base layout ram state address a b c d e = rw (a, b, c, d, e) refl

world_so : (w : World) (base : ℕ) (layout : FlashMap) (ram : List ℕ) (state : UnitState) (cells : List ℕ) → base ≡ w.ram_base → layout ≡ w.map →
    ram ≡ w.ram → state ≡ w.state
    → ◌≡◌ {A = World} (record { ram_base = base; ram = ram; map = layout; state = state; cells = cells }) (over w cells)
world_so w base layout ram state cells a b c d = rw (a, b, c, d) refl

module _ (s : Setup) (base : ℕ) (layout : FlashMap) (a : Ask) (n : ℕ) (cells here end : List ℕ) (b left : Between) (h : Hand) (marks : RunMarks)
    (going : Going s (place_in a.task a.from a.many) (state_marks base layout b) (state_world base layout here b) a.call a.bytes.now a.from
    (before_in a.task a.many) n (run_marks marks) (hand_point h end))
    (returns : Returns h marks a left) where
  abbrev x : Point
  x = hand_point h end

  abbrev first : Point
  first = first_point s (state_world base layout here b) (asked a.call a.bytes.now)

  bus : TargetAgrees (own_page a.bytes.now) (run_marks marks).bus x.world x.world
  bus = (own s (place_in a.task a.from a.many) (state_marks base layout b) (state_world base layout here b) a.call a.bytes.now a.from
      (before_in a.task a.many) n (run_marks marks) x going).bus

  board : board_in x.world ≡ (base, layout)
  unfolding first_point
  board = ap (λ (y : Point). board_in y.world) going.here ∙ whole_board first n

  left_marks : state_marks base layout left ≡ forgotten (run_marks marks).bus
  left_marks =
      let at : base ≡ (run_marks marks).bus.base = sym (ap (λ (y : ℕ × FlashMap). y.0) board) ∙ bus.base in
      let by : layout ≡ (run_marks marks).bus.map = sym (ap (λ (y : ℕ × FlashMap). y.1) board) ∙ bus.map in
      let ram : map known_if left.known.items ≡ map unnamed (run_marks marks).bus.ram =
      ap (λ (l : List Bool). map known_if l) returns.known ∙ plain_marks (run_marks marks).bus.ram in
      marks_so (run_marks marks).bus base layout (map known_if left.known.items) left.state left.address at by ram returns.state returns.address

  left_world : state_world base layout cells left ≡ over x.world cells
  left_world =
      let at : base ≡ x.world.ram_base = sym (ap (λ (y : ℕ × FlashMap). y.0) board) in
      let by : layout ≡ x.world.map = sym (ap (λ (y : ℕ × FlashMap). y.1) board) in
      let state : left.state ≡ x.world.state = returns.state ∙ sym bus.state in
      world_so x.world base layout left.ram.items left.state cells at by returns.ram state

  pub decides : n ≤ fuel_of s a.call → pc_of h.calls.machine.core ≡ s.layout.return_at
      → s.layout.buffer_at - s.layout.return_at + length a.bytes.now ≤ length b.known.items
      → CellsAgree (own_page a.bytes.now) a.from (before_in a.task a.many) here here
      → length cells ≡ length here → length end ≡ length here
      → Decides s a.task (state_of base layout cells b) a.call a.bytes.now a.from a.many here n (state_of base layout cells left)
  decides within back room fits long stays = record {
    goes = record {
      cells = here;
      steps = n;
      end = run_marks marks;
      many = sym long;
      ran = record {
        alike = going.alike;
        within = within;
        back = record {
          counter = returns.counter;
          value = returns.value;
          here = ap (λ (y : Point). pc_of y.core) (sym going.here) ∙ back;
          success = ap (λ (y : Point). slice_index y.core.regs 0) (sym going.here) ∙ returns.success;
          idle = ap (λ (y : Point). state_op y.world.state) (sym going.here) ∙ ap state_op bus.state ∙ ap range_of returns.idle;
          none = returns.idle;
        };
        room = omega (arith, room, length-map b.known.items known_if);
      };
      from' = returns.from;
      all = returns.all;
      then' = subst (λ (y : Point). Leaves (state_of base layout cells left) (forgotten (run_marks marks).bus) y.world) going.here
          (record { marks = sym left_marks; world = sym left_world; cells = stays ∙ sym long });
    };
    over' = refl;
    steps' = refl;
    marked = fits;
  }

-- ---- results

pub some_holds : {A : Type 0} (o : Option A) (x : A) (P : A → Type 0) → o ≡ Some x → IfSome o P → P x
some_holds (Some y) x P is holds = let same : y ≡ x = cc in subst P same holds
some_holds None x P is holds = cc

pub back_holds : {E : Type 0} (r : Result Went E) (P Q : Between → ℕ → Type 0) → ((left : Between) (n : ℕ) → P left n → Q left n) →
    IfOk r (λ w. IfBack w P) → IfOk r (λ w. IfBack w Q)
back_holds (Ok (went.Back left steps)) P Q to holds = to left steps holds
back_holds (Ok (went.Undecided pc why)) P Q to holds = tt
back_holds (Err e) P Q to holds = tt

pub none_of : {A : Type 0} (o : Option A) → is_some o ≡ false → o ≡ None
none_of None is = refl
none_of (Some x) is = cc
