-- Ticks that call no bench, because no operation runs or it has more than one tick left; and the tick that ends an operation.
use Rattle.std.proofs.Common.{◌≡◌, ◌<◌, ◌≤◌, ◌-◌, ℕ, Bool, true, false, IsTrue, is_some, List, [], Option, Some, None, refl, ap, sym, ◌∙◌}
use Rattle.std.proofs.lemmas.Bool.{false≢true}
use Rattle.bench_model.specs.Calls.{written}
use Rattle.flash_layout.specs.declared.work.Operation.{Operation}
use Rattle.flash_layout.specs.Work.{work_bytes, tick_at}
use Rattle.flash_layout.proofs.WorkLemmas.{tick_more, tick_last}
use Rattle.flash_driver.specs.declared.state.State.{State}
use Rattle.flash_driver.specs.Calls.{LowersTo}
use Rattle.flash_driver.specs.Table.{Table, is_running, done, running, tick_on, tick_row}

on_idle : {R : Type 0} (t : Table R) (s : State R) (cells : List ℕ) (o : Option Operation) → is_some o ≡ false → tick_on t s cells o ≡ (s, cells)
on_idle t s cells None none = refl
on_idle t s cells (Some o) none = cc

pub idle_tick : {R : Type 0} (t : Table R) (s : State R) (cells : List ℕ) → is_running s ≡ false → tick_row t s cells ≡ (s, cells)
unfolding tick_row
idle_tick t s cells none = on_idle t s cells s.operation none

on_more : {R : Type 0} (t : Table R) (s : State R) (cells : List ℕ) (o : Option Operation) (p : Operation) → o ≡ Some p → 1 < p.ticks →
    tick_on t s cells o ≡ (record s { operation = Some (record p { ticks = p.ticks - 1 }) }, cells)
on_more t s cells o p same more = ap (λ (x : Option Operation). tick_on t s cells x) same ∙ tick_more (done t s) (running s) cells p p.ticks more

lower : {R : Type 0} (t : Table R) (s : State R) (cells : List ℕ) (next : Option Operation) → LowersTo s.operation next true →
    (record s { operation = next }, cells) ≡ tick_row t s cells
unfolding tick_row
lower {R} t s cells next (p, same, more, is) =
    ap (λ (o : Option Operation). let x : State R × List ℕ = (record s { operation = o }, cells) in x) is
    ∙ sym (on_more t s cells s.operation p same more)

pub lower_tick : {R : Type 0} (t : Table R) (s : State R) (cells : List ℕ) (next : Option Operation) (b : Bool) → IsTrue b → LowersTo s.operation next b →
    (record s { operation = next }, cells) ≡ tick_row t s cells
lower_tick t s cells next true was lowers = lower t s cells next lowers
lower_tick t s cells next false was lowers = absurd (false≢true was)

-- the tick that ends an operation: the state and the cells after it
pub last_tick : {R : Type 0} (t : Table R) (s : State R) (ended : R) (o : Operation) → ended ≡ t.ended s.registers → o.ticks ≤ 1 →
    (record { registers = ended; operation = None }) ≡ (tick_at (done t s) (running s) [] o o.ticks).0
last_tick {R} t s ended o end few =
    cc (tick_last (done t s) (running s) [] o o.ticks few)

pub last_cells : {R : Type 0} (t : Table R) (s : State R) (ended : R) (o : Operation) (cells now : List ℕ) → ended ≡ t.ended s.registers → o.ticks ≤ 1 →
    now ≡ written o.place (work_bytes o.work) cells → (record { registers = ended; operation = None }, now) ≡ tick_at (done t s) (running s) cells o o.ticks
last_cells {R} t s ended o cells now end few last =
    cc (tick_last (done t s) (running s) cells o o.ticks few)
