-- A load from the RAM, a load of a register, and a store to the RAM, for the loads and stores of `Line`.
use Rattle.std.proofs.Common.{◌≡◌, ◌+◌, ℕ, List, length, Option, Some, None, IfSome, option_map, Result, Ok, refl, sym, ap, subst, arith, ◌∙◌, inr}
use Rattle.std.proofs.lemmas.Bool.{false≢true}
use Rattle.bench_model.specs.declared.bench.Bench.{Ghosts}
use Rattle.bench_model.specs.declared.bench_fault.BusEnd.{BusEnd}
use Rattle.armv6m_step.specs.Access.{Access, Load, Store}
use Rattle.armv6m_step.specs.Ram.{place_of, value_at, bytes_with}
use Rattle.flash_layout.specs.Bench.{Accesses}
use Rattle.flash_driver.proofs.TouchLemmas.{accesses_here}
use Rattle.target_core.specs.declared.line.Line.{Line}
use Rattle.target_core.specs.Units.{unit_map, unit_state, bus_load}
use Rattle.target_core.specs.World.{World, load_answer, store_answer, world_answer}
use Rattle.target_core.specs.Line.{ram_of, world_of, SameLine, line_acts}
use Rattle.target_core.proofs.StepLemmas.{Law, same_here, world_stays, world_with}

from_ram : (base len size at width offset : ℕ) → len ≡ size → Some offset ≡ place_of base size at width → place_of base len at width ≡ Some offset
from_ram base len size at width offset same is = ap (λ (n : ℕ). place_of base n at width) same ∙ sym is

-- an access that is answered by its row, without a call of the bench
row_gives : {B : Type 0} {G : Ghosts B} → Law G → (l m : Line B G) (access : Access) (v : ℕ) → SameLine l m → m.bench.now ≡ l.bench.now →
    (◌≡◌ {A = Result ℕ BusEnd} (Ok v) (world_answer (world_of l) access).0) × (world_of m ≡ (world_answer (world_of l) access).1) →
    line_acts l access (Ok v) m
row_gives {B} {G} law l m access v same bench row =
    let A : B → Type 0 = λ b. Accesses G.tells (G.state l.bench.now) (G.state b) in
    record {
      row = λ told. inr row;
      asks = λ fault. absurd (false≢true fault);
      bench = subst A (sym bench) (accesses_here G.tells (G.state l.bench.now) (λ c told. law l.bench.now c told));
      cause = record {
        later = omega (arith, ap (λ (b : B). (G.state b).device_faults) bench);
        on_fault = λ fault. absurd (false≢true fault);
        on_other =
            λ fine. ap (λ (b : B). (G.state b).device_faults) bench;
      };
      idle = λ told fault. absurd (false≢true fault);
      same = same;
    }

pub loads : {B : Type 0} {G : Ghosts B} → Law G → (l m : Line B G) (width at offset v : ℕ) → SameLine l m → m.unit.now ≡ l.unit.now →
    m.arena.now ≡ l.arena.now → m.bench.now ≡ l.bench.now
    → Some offset ≡ place_of l.ram_base l.ram_size at width → v ≡ value_at (ram_of l) width offset → line_acts l (Load width at) (Ok v) m
unfolding world_answer
loads {B} {G} law l m width at offset v same unit arena bench place is =
    let w : World = world_of l in
    let read : ℕ → ℕ = λ i. value_at (ram_of l) width i in
    let found : place_of l.ram_base (length (ram_of l)) at width ≡ Some offset =
    from_ram l.ram_base (length (ram_of l)) l.ram_size at width offset l.ram.1 place in
    let P : Option ℕ → Type 0 = λ o. (◌≡◌ {A = Result ℕ BusEnd} (Ok v) (load_answer w width at (option_map read o)).0) ×
    (world_of m ≡ (load_answer w width at (option_map read o)).1) in
    let good : P (Some offset) = (ap (λ (n : ℕ). let r : Result ℕ BusEnd = Ok n in r) is, world_stays l m same unit arena bench) in
    row_gives law l m (Load width at) v same bench (subst P (sym found) good)

from_none : (base len size at width : ℕ) → len ≡ size → None ≡ place_of base size at width → place_of base len at width ≡ None
from_none base len size at width same is = ap (λ (n : ℕ). place_of base n at width) same ∙ sym is

pub stores : {B : Type 0} {G : Ghosts B} → Law G → (l m : Line B G) (width at offset v : ℕ) → SameLine l m → m.unit.now ≡ l.unit.now →
    m.bench.now ≡ l.bench.now → Some offset ≡ place_of l.ram_base l.ram_size at width → ram_of m ≡ bytes_with (ram_of l) width offset v
    → line_acts l (Store width at v) (Ok 0) m
unfolding world_answer
stores {B} {G} law l m width at offset v same unit bench place is =
    let w : World = world_of l in
    let put : ℕ → List ℕ = λ i. bytes_with (ram_of l) width i v in
    let found : place_of l.ram_base (length (ram_of l)) at width ≡ Some offset =
    from_ram l.ram_base (length (ram_of l)) l.ram_size at width offset l.ram.1 place in
    let P : Option ℕ → Type 0 = λ o. (◌≡◌ {A = Result ℕ BusEnd} (Ok 0) (store_answer w width at v (option_map put o)).0) ×
    (world_of m ≡ (store_answer w width at v (option_map put o)).1) in
    let good : P (Some offset) = (refl, world_with l m (put offset) same unit is bench) in
    row_gives law l m (Store width at v) 0 same bench (subst P (sym found) good)

-- a load outside the RAM whose answer needs no cell and no call of the bench
quiet_load : {B : Type 0} {G : Ghosts B} → Law G → (l : Line B G) (at v : ℕ) → None ≡ place_of l.ram_base l.ram_size at 4
    → ((cells : List ℕ) → bus_load (unit_map l.unit.now) (unit_state l.unit.now) cells at 4 ≡ Ok v) → line_acts l (Load 4 at) (Ok v) l
unfolding world_answer
quiet_load {B} {G} law l at v place is =
    let w : World = world_of l in
    let read : ℕ → ℕ = λ i. value_at (ram_of l) 4 i in
    let found : place_of l.ram_base (length (ram_of l)) at 4 ≡ None = from_none l.ram_base (length (ram_of l)) l.ram_size at 4 l.ram.1 place in
    let P : Option ℕ → Type 0 = λ o. (◌≡◌ {A = Result ℕ BusEnd} (Ok v) (load_answer w 4 at (option_map read o)).0) ×
    (w ≡ (load_answer w 4 at (option_map read o)).1) in
    let good : P None = (sym (is w.cells), refl) in
    row_gives law l l (Load 4 at) v (same_here l) refl (subst P (sym found) good)

pub peeks : {B : Type 0} {G : Ghosts B} → Law G → (l : Line B G) (at offset : ℕ) (answer : Option ℕ) → at ≡ (unit_map l.unit.now).base + offset
    → None ≡ place_of l.ram_base l.ram_size at 4
    → IfSome answer (λ v. (cells : List ℕ) → bus_load (unit_map l.unit.now) (unit_state l.unit.now) cells ((unit_map l.unit.now).base + offset) 4 ≡ Ok v)
    → IfSome answer (λ v. line_acts l (Load 4 at) (Ok v) l)
peeks law l at offset None there place is = tt
peeks law l at offset (Some v) there place is = quiet_load law l at v place
    (λ cells. ap (λ (n : ℕ). bus_load (unit_map l.unit.now) (unit_state l.unit.now) cells n 4) there ∙ is cells)
