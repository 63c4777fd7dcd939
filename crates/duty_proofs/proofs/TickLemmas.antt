-- What the marks of a target say stays true over a tick.
use Rattle.std.proofs.Common.{◌≡◌, ◌<◌, ◌≤◌, ◌+◌, ◌-◌, ◌/◌, ◌%◌, ◌^◌, ◌&&◌, ℕ, zero, suc, Bool, true, false, nat_eq, nat_le, if◌then◌else◌, List, [], ◌++◌}
use Rattle.std.proofs.Common.{length, take, drop, replicate, slice_index, get_or, Option, Some, None, refl, sym, ap, subst, ◌∙◌, ⊎_elim, arith, eqb-true}
use Rattle.std.proofs.Common.{length-append, length-take, length-drop}
use Rattle.std.proofs.lemmas.Bool.{and_parts, leb-true, cases_lt}
use Rattle.std.proofs.lemmas.List.{length-replicate, get_or-replicate}
use Rattle.bench_model.specs.Calls.{written}
use Rattle.flash_layout.specs.declared.work.Work.{Work}
use Rattle.flash_layout.specs.declared.work.Work.TheVariants as work
use Rattle.flash_layout.specs.declared.work.Operation.{Operation}
use Rattle.flash_layout.specs.Work.{work_len, work_bytes, tick_at}
use Rattle.flash_driver.specs.Table.{done, running, tick_row, tick_on}
use Rattle.target_core.specs.declared.unit.AnyRegisters.{AnyRegisters}
use Rattle.target_core.specs.declared.unit.AnyRegisters.TheVariants.{Fc1, Fpec}
use Rattle.target_core.specs.AnyTable.{any_table, any_ended}
use Rattle.target_core.specs.Units.{UnitState}
use Rattle.target_core.specs.World.{World, world_tick}
use Rattle.shadow_step.specs.declared.marks.Mark.{Mark}
use Rattle.shadow_step.specs.declared.marks.Mark.TheVariants.{Known, Any}
use Rattle.shadow_step.specs.Marks.{Pages, ArePages}
use Rattle.shadow_step.proofs.BytesLemmas.{part_says, half_parts, word_parts}
use Rattle.duty_proofs.specs.declared.cells.CellMark.{CellMark}
use Rattle.duty_proofs.specs.declared.cells.CellMark.TheVariants.{Blank, Holds}
use Rattle.duty_proofs.specs.TargetMarks.{TargetMarks, CellSays, Alike, WorkAgrees, RunsAgree, CellsAgree, TargetAgrees}
use Rattle.duty_proofs.specs.TargetMarks.{laid, work_marks, lies_there, settled, tick_left, tick_by, target_tick}
use Rattle.duty_proofs.proofs.LaidLemmas.{laid_len, laid_before, laid_in, laid_after}

alike_ended : (k : Bool) (r r' : AnyRegisters) → Alike k r r' → Alike k (any_ended r) (any_ended r')
alike_ended true r r' alike = ap any_ended alike
alike_ended false (Fc1 r) r' alike = (alike.0, ap any_ended alike.1)
alike_ended false (Fpec r) r' alike = (alike.0, ap any_ended alike.1)

bytes_long : (x : Work) → length (work_bytes x) ≡ work_len x
bytes_long (work.Half v) = refl
bytes_long (work.Word v) = refl
bytes_long (work.Fill len v) = length-replicate len v

marks_long : (k : Mark) (x : Work) → length (work_marks k x) ≡ work_len x
marks_long k (work.Half v) = refl
marks_long k (work.Word v) = refl
marks_long k (work.Fill len v) = length-replicate len (if nat_eq v 0xFF then Blank else Holds Known)

same_length : (p : Pages) (k : Mark) (a b : Work) → WorkAgrees p k a b → work_len b ≡ work_len a
same_length p k (work.Half v) (work.Half v') agree = refl
same_length p k (work.Word v) (work.Word v') agree = refl
same_length p k (work.Fill len v) (work.Fill len' v') agree = agree.0
same_length p k _ _ agree = absurd agree

filled_says : (p : Pages) (v v' : ℕ) (blank : Bool) → nat_eq v 0xFF ≡ blank → v' ≡ v → CellSays p (if blank then Blank else Holds Known) v v'
filled_says p v v' true e same = (eqb-true _ _ e, same ∙ eqb-true _ _ e)
filled_says p v v' false e same = same

-- the marks of the cells that an operation leaves
work_says : (p : Pages) → ArePages p → (k : Mark) (a b : Work) → WorkAgrees p k a b → (i : ℕ) → i < work_len a →
    CellSays p (get_or (work_marks k a) i (Holds Any)) (slice_index (work_bytes a) i) (slice_index (work_bytes b) i)
work_says p bytes k (work.Half v) (work.Half v') agree zero below =
    part_says p 2 0 k v v' (λ n. n % 0x100) agree (λ x is. (half_parts p.here x v bytes.here is).0) (λ x is. (half_parts p.there x v' bytes.there is).0)
work_says p bytes k (work.Half v) (work.Half v') agree (suc zero) below =
    part_says p 2 1 k v v' (λ n. n / 0x100 % 0x100) agree
    (λ x is. let small : slice_index p.here (x + 1) < 2 ^ 8 = bytes.here (x + 1) in omega (arith, (half_parts p.here x v bytes.here is).1))
    (λ x is. let small : slice_index p.there (x + 1) < 2 ^ 8 = bytes.there (x + 1) in omega (arith, (half_parts p.there x v' bytes.there is).1))
work_says p bytes k (work.Half v) (work.Half v') agree (suc (suc i)) below = absurd (omega (arith, below))
work_says p bytes k (work.Word v) (work.Word v') agree zero below =
    part_says p 4 0 k v v' (λ n. n % 0x100) agree (λ x is. (word_parts p.here x v bytes.here is).first) (λ x is. (word_parts p.there x v' bytes.there is).first)
work_says p bytes k (work.Word v) (work.Word v') agree (suc zero) below =
    part_says p 4 1 k v v' (λ n. n / 0x100 % 0x100) agree (λ x is. (word_parts p.here x v bytes.here is).second)
    (λ x is. (word_parts p.there x v' bytes.there is).second)
work_says p bytes k (work.Word v) (work.Word v') agree (suc (suc zero)) below =
    part_says p 4 2 k v v' (λ n. n / 0x10000 % 0x100) agree (λ x is. (word_parts p.here x v bytes.here is).third)
    (λ x is. (word_parts p.there x v' bytes.there is).third)
work_says p bytes k (work.Word v) (work.Word v') agree (suc (suc (suc zero))) below =
    part_says p 4 3 k v v' (λ n. n / 0x1000000 % 0x100) agree
    (λ x is. let small : slice_index p.here (x + 3) < 2 ^ 8 = bytes.here (x + 3) in omega (arith, (word_parts p.here x v bytes.here is).fourth))
    (λ x is. let small : slice_index p.there (x + 3) < 2 ^ 8 = bytes.there (x + 3) in omega (arith, (word_parts p.there x v' bytes.there is).fourth))
work_says p bytes k (work.Word v) (work.Word v') agree (suc (suc (suc (suc i)))) below = absurd (omega (arith, below))
work_says p bytes k (work.Fill len v) (work.Fill len' v') agree i below =
    let a : get_or (replicate len (if nat_eq v 0xFF then Blank else Holds Known)) i (Holds Any) ≡ (if nat_eq v 0xFF then Blank else Holds Known) =
    get_or-replicate len i (if nat_eq v 0xFF then Blank else Holds Known) (Holds Any) below in
    let b : slice_index (replicate len v) i ≡ v = get_or-replicate len i v 0 below in
    let c : slice_index (replicate len' v') i ≡ v' = get_or-replicate len' i v' 0 (omega (arith, below, agree.0)) in
    rw (a, b, c) (filled_says p v v' (nat_eq v 0xFF) refl agree.1)
work_says p bytes k _ _ agree i below = absurd agree

written_long : (at : ℕ) (new new' old old' : List ℕ) → length new' ≡ length new → length old' ≡ length old →
    length (written at new' old') ≡ length (written at new old)
written_long at new new' old old' a b =
    let e : length (written at new old) ≡ length (take at old ++ new) + length (drop (at + length new) old) =
    length-append (take at old ++ new) (drop (at + length new) old) in
    let f : length (written at new' old') ≡ length (take at old' ++ new') + length (drop (at + length new') old') =
    length-append (take at old' ++ new') (drop (at + length new') old') in
    omega (
      arith,
      a,
      b,
      e,
      f,
      length-append (take at old) new,
      length-append (take at old') new',
      length-take at old,
      length-take at old',
      length-drop (at + length new) old,
      length-drop (at + length new') old',
    )

module _ (p : Pages) (bytes : ArePages p) (k : Mark) (a b : Work) (agree : WorkAgrees p k a b) (at from : ℕ) (ms : List CellMark) (cells cells' : List ℕ)
    (cs : CellsAgree p from ms cells cells') where
  abbrev new : List ℕ
  new = written at (work_bytes a) cells

  abbrev new' : List ℕ
  new' = written at (work_bytes b) cells'

  long : length new' ≡ length new
  long = written_long at (work_bytes a) (work_bytes b) cells cells' (bytes_long b ∙ same_length p k a b agree ∙ sym (bytes_long a)) cs.there

  nothing_left : CellsAgree p 0 [] new new'
  nothing_left = record { here = omega arith; there = long; says = λ j. tt }

  laid_over : from ≤ at → at + work_len a ≤ from + length ms → CellsAgree p from (laid (at - from) (work_marks k a) ms) new new'
  laid_over low high =
      let am : length (work_bytes a) ≡ work_len a = bytes_long a in
      let bm : length (work_bytes b) ≡ work_len a = bytes_long b ∙ same_length p k a b agree in
      let km : length (work_marks k a) ≡ work_len a = marks_long k a in
      let fit : at + length (work_bytes a) ≤ length cells = omega (arith, am, high, cs.here) in
      let fit' : at + length (work_bytes b) ≤ length cells' = omega (arith, bm, high, cs.here, cs.there) in
      let fit_marks : at - from + length (work_marks k a) ≤ length ms = omega (arith, km, low, high) in
      record {
        here = omega (arith, cs.here, laid_len (at - from) (work_marks k a) ms fit_marks, laid_len at (work_bytes a) cells fit);
        there = long;
        says = λ j. ⊎_elim
            (λ (before : j < at - from).
            let x : get_or (laid (at - from) (work_marks k a) ms) j (Holds Any) ≡ get_or ms j (Holds Any) =
            laid_before (at - from) (work_marks k a) ms fit_marks j (Holds Any) before in
            let y : slice_index new (from + j) ≡ slice_index cells (from + j) = laid_before at (work_bytes a) cells fit (from + j) 0 (omega (arith, before)) in
            let z : slice_index new' (from + j) ≡ slice_index cells' (from + j) =
            laid_before at (work_bytes b) cells' fit' (from + j) 0 (omega (arith, before)) in
            rw (x, y, z) (cs.says j))
            (λ (behind : at - from ≤ j). ⊎_elim
            (λ (within : j < at - from + work_len a).
            let i : ℕ = j - (at - from) in
            let e : at - from + i ≡ j = omega (arith, behind) in
            let f : at + i ≡ from + j = omega (arith, behind, low) in
            let small : i < work_len a = omega (arith, within, behind) in
            let x : get_or (laid (at - from) (work_marks k a) ms) j (Holds Any) ≡ get_or (work_marks k a) i (Holds Any) =
            ap (λ (n : ℕ). get_or (laid (at - from) (work_marks k a) ms) n (Holds Any)) (sym e)
            ∙ laid_in (at - from) (work_marks k a) ms fit_marks i (Holds Any) (omega (arith, small, km)) in
            let y : slice_index new (from + j) ≡ slice_index (work_bytes a) i =
            ap (slice_index new) (sym f) ∙ laid_in at (work_bytes a) cells fit i 0 (omega (arith, small, am)) in
            let z : slice_index new' (from + j) ≡ slice_index (work_bytes b) i =
            ap (slice_index new') (sym f) ∙ laid_in at (work_bytes b) cells' fit' i 0 (omega (arith, small, bm)) in
            rw (x, y, z) (work_says p bytes k a b agree i small))
            (λ (past : at - from + work_len a ≤ j).
            let x : get_or (laid (at - from) (work_marks k a) ms) j (Holds Any) ≡ get_or ms j (Holds Any) =
            laid_after (at - from) (work_marks k a) ms fit_marks j (Holds Any) (omega (arith, past, km)) in
            let y : slice_index new (from + j) ≡ slice_index cells (from + j) =
            laid_after at (work_bytes a) cells fit (from + j) 0 (omega (arith, past, am, low)) in
            let z : slice_index new' (from + j) ≡ slice_index cells' (from + j) =
            laid_after at (work_bytes b) cells' fit' (from + j) 0 (omega (arith, past, bm, low)) in
            rw (x, y, z) (cs.says j))
            (cases_lt j (at - from + work_len a)))
            (cases_lt j (at - from));
      }

  pub settled_cells : (lies : Bool) → (nat_le from at && nat_le (at + work_len a) (from + length ms)) ≡ lies →
      CellsAgree p (if lies then from else 0) (if lies then laid (at - from) (work_marks k a) ms else []) new new'
  settled_cells true e =
      let parts : (nat_le from at ≡ true) × (nat_le (at + work_len a) (from + length ms) ≡ true) = and_parts _ _ e in
      laid_over (leb-true _ _ parts.0) (leb-true _ _ parts.1)
  settled_cells false e = nothing_left

module _ (p : Pages) (bytes : ArePages p) (m : TargetMarks) (w w' : World) (agrees : TargetAgrees p m w w') where
  -- the world after a tick that leaves this controller and these cells
  abbrev with_state : World → UnitState × List ℕ → World
  with_state x q = record x { state = q.0; cells = q.1 }

  settles : (o o' : Operation) → RunsAgree p m.value (Some o) (Some o') →
      TargetAgrees p (settled m o) (with_state w (done any_table w.state, written o.place (work_bytes o.work) w.cells))
      (with_state w' (done any_table w'.state, written o'.place (work_bytes o'.work) w'.cells))
  settles o o' runs = record {
    base = agrees.base;
    base' = agrees.base';
    map = agrees.map;
    map' = agrees.map';
    ram = agrees.ram;
    state = ap (λ (s : UnitState). done any_table s) agrees.state;
    registers = alike_ended m.address m.state.registers w'.state.registers agrees.registers;
    runs = tt;
    cells = subst (λ (n : ℕ). CellsAgree p (settled m o).from (settled m o).cells (written o.place (work_bytes o.work) w.cells)
        (written n (work_bytes o'.work) w'.cells))
        (sym runs.0) (settled_cells p bytes m.value o.work o'.work runs.2 o.place m.from m.cells w.cells w'.cells agrees.cells (lies_there m o) refl);
  }

  left_by : (o o' : Operation) (n : ℕ) → RunsAgree p m.value (Some o) (Some o') →
      TargetAgrees p (tick_left m o n) (with_state w (tick_at (done any_table w.state) (running w.state) w.cells o n))
      (with_state w' (tick_at (done any_table w'.state) (running w'.state) w'.cells o' n))
  left_by o o' zero runs = settles o o' runs
  left_by o o' (suc zero) runs = settles o o' runs
  left_by o o' (suc (suc n)) runs = record {
    base = agrees.base;
    base' = agrees.base';
    map = agrees.map;
    map' = agrees.map';
    ram = agrees.ram;
    cells = agrees.cells;
    state = ap (λ (s : UnitState). running s (record o { ticks = suc n })) agrees.state;
    registers = agrees.registers;
    runs = (runs.0, refl, runs.2);
  }

  by_operation : (o o' : Option Operation) → RunsAgree p m.value o o' →
      TargetAgrees p (tick_by m o) (with_state w (tick_on any_table w.state w.cells o)) (with_state w' (tick_on any_table w'.state w'.cells o'))
  by_operation None None runs = agrees
  by_operation (Some o) (Some o') runs =
      subst (λ (n : ℕ). TargetAgrees p (tick_left m o o.ticks) (with_state w (tick_at (done any_table w.state) (running w.state) w.cells o o.ticks))
      (with_state w' (tick_at (done any_table w'.state) (running w'.state) w'.cells o' n))) (sym runs.1) (left_by o o' o.ticks runs)
  by_operation None (Some o') runs = absurd runs
  by_operation (Some o) None runs = absurd runs

  pub target_ticks : TargetAgrees p (target_tick m w) (world_tick w) (world_tick w')
  unfolding tick_row
  target_ticks =
      subst (λ (o : Option Operation). TargetAgrees p (target_tick m w) (with_state w (tick_on any_table w.state w.cells o))
      (with_state w' (tick_on any_table w'.state w'.cells w'.state.operation))) (sym (ap (λ (s : UnitState). s.operation) agrees.state))
      (by_operation m.state.operation w'.state.operation agrees.runs)
