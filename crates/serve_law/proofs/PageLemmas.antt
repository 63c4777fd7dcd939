-- ProgramPage, by induction on the units.
use Rattle.std.proofs.Common.{◌≡◌, ◌+◌, ◌-◌, ◌*◌, ◌<◌, ◌≤◌, ◌^◌, ◌%◌, ◌/◌, ℕ, zero, suc, Bool, true, false, nat_eq, nat_le, List, [], ◌∷◌, length, slice_index}
use Rattle.std.proofs.Common.{All, Option, Some, None, Result, Ok, refl, sym, ap, subst, ◌∙◌, arith, ap₂}
use Rattle.bench_model.specs.declared.bench_fault.BusEnd.{BusEnd}
use Rattle.bench_model.specs.Calls.{written}
use Rattle.armv6m_alu.specs.Sums.{sum_with_carry}
use Rattle.armv6m_step.specs.declared.core_state.Core.{Core}
use Rattle.armv6m_step.specs.Access.{stored}
use Rattle.armv6m_step.specs.DataRows.{subtraction}
use Rattle.armv6m_step.specs.Functional.{outcome}
use Rattle.armv6m_step.specs.ListRows.{branch_exchange}
use Rattle.armv6m_step.specs.Meaning.{Meaning, Gives, load, store}
use Rattle.armv6m_step.specs.Ram.{value_at}
use Rattle.armv6m_step.specs.Registers.{pc_of, moved}
use Rattle.flm_descriptor.specs.Shape.{Range}
use Rattle.flash_layout.specs.declared.work.Work.TheVariants as work
use Rattle.flash_layout.specs.Cells.{cells_at}
use Rattle.flash_driver.specs.Erasures.{all_are}
use Rattle.flash_driver.specs.Table.{store_row, store_at, tick_row}
use Rattle.flash_controller.specs.Table.{program}
use Rattle.target_core.specs.AnyTable.{any_table}
use Rattle.target_core.specs.Units.{UnitState}
use Rattle.target_core.specs.World.{World, store_answer, world_answer, world_tick}
use Rattle.target_core.specs.Path.{Point}
use Rattle.algo_calls.specs.declared.call.Call.TheVariants as a_call
use Rattle.algo_calls.specs.Frames.{Request, asked, first_point, fuel_of}
use Rattle.algo_calls.specs.Duties.{OpensIn}
use Rattle.serve_law.proofs.Ranges.{span}
use Rattle.serve_law.proofs.Computed.{computed}
use Rattle.serve_law.proofs.GoesLemmas.{Goes, goes_then, all_idle, idle_goes, run_goes, AllIn}
use Rattle.serve_law.proofs.StepLemmas.{word_at, gone, meaning_at, outcome_load, outcome_store, step_by, ram_loads, stored_here, stored_len, unit_stores}
use Rattle.serve_law.proofs.StepLemmas.{with_word}
use Rattle.serve_law.proofs.ListLemmas.{written_len, written_after, written_in, blank_two, put_all, put_all_is}
use Rattle.serve_law.proofs.NumberLemmas.{difference_zero, difference_two, one_odd, sum_small}
use Rattle.serve_law.proofs.FrameLemmas.{IsFrame, Held, held_from, flash_place, loads_word, outcome_stores, ram_words, ram_written, with_words, word_even}
use Rattle.serve_law.proofs.FrameLemmas.{words_before}
use Rattle.serve_law.proofs.DoneLemmas.{IsDone, run_done}
use Rattle.serve_law.proofs.Setup.{Given, IsFit, IsQuick, IsRam, need, a1_setup, a1_world, a1_map, regs, resting, unlocked, top_is, top_whole, page_fuel}

abbrev page_core : ℕ → ℕ → ℕ → ℕ → ℕ → Bool → Bool → Bool → Bool → ℕ → Core
page_core low r0 r1 r2 r5 n z c v pc = record {
  regs = r0 ∷ r1 ∷ r2 ∷ 0x40022000 ∷ 1 ∷ r5 ∷ 0 ∷ 0 ∷ 0 ∷ 0x200000B0 ∷ 0 ∷ 0 ∷ 0 ∷ (0x20000000 + low) ∷ 0x20000001 ∷ pc ∷ [];
  n = n;
  z = z;
  c = c;
  v = v;
  primask = false;
}

-- the controller with command 1, and no flag but perhaps DONE
abbrev ready : ℕ → Bool → UnitState
ready a d = resting (record (regs 1 a) { done = d })

abbrev busy : ℕ → Bool → ℕ → ℕ → ℕ → UnitState
busy a d value place t = record (ready a d) { operation = Some (record { work = work.Half value; place = place; ticks = t }) }

-- how many steps the poll takes with this number of ticks left, until it sees the status settled
poll_steps : ℕ → ℕ
poll_steps zero = 0
poll_steps (suc (suc (suc (suc t)))) = 3 + poll_steps (suc t)
poll_steps x = 3

poll_bound : (t : ℕ) → poll_steps t ≤ t + 2
unfolding poll_steps
poll_bound (suc (suc (suc (suc t)))) = omega (arith, poll_bound (suc t))
poll_bound t = omega arith

even_at : (b : ℕ) → b % 2 ≡ 0 → (0x20000000 + b) % 2 ≡ 0
even_at b even = omega arith

even_flash : (p : ℕ) → p % 2 ≡ 0 → (0x08000000 + p) % 2 ≡ 0
even_flash p even = omega arith

module _ (g : Given) (r : Option (ℕ × ℕ)) (a low : ℕ) (ram : List ℕ) (frame : IsFrame g ram low (low + 4 + 4)) where
  abbrev at_pc : ℕ → ℕ → ℕ → ℕ → ℕ → Bool → Bool → Bool → Bool → UnitState → List ℕ → Point
  at_pc pc r0 r1 r2 r5 n z c v st cells = record { core = page_core low r0 r1 r2 r5 n z c v pc; world = a1_world g ram st cells }

  -- the steps that wait for one unit
  module _ (r0 r1 r2 value p : ℕ) (c v : Bool) (lies : OpensIn r (Some (p, 2))) where
    abbrev polling : ℕ → Bool → Bool → UnitState → List ℕ → Point
    polling r5 n z st cells = at_pc 0x2000006C r0 r1 r2 r5 n z c v st cells

    abbrev left : List ℕ → List ℕ
    left cells = written p (value % 0x100 ∷ value / 0x100 % 0x100 ∷ []) cells

    polls : (d : Bool) (t r5 : ℕ) (n z : Bool) (cells : List ℕ) →
        (r5' : ℕ) × Goes r (poll_steps (suc t)) (polling r5 n z (busy a d value p (suc t)) cells) (polling r5' false false (ready a true) (left cells))
    unfolding poll_steps computed AllIn
    polls true zero r5 n z cells = (3, run_goes r 3 (polling r5 n z (busy a true value p 1) cells) frame.home refl (lies, lies, (tt, tt, (tt, tt, tt))))
    polls false zero r5 n z cells = (1, run_goes r 3 (polling r5 n z (busy a false value p 1) cells) frame.home refl (lies, lies, (tt, tt, (tt, tt, tt))))
    polls true (suc zero) r5 n z cells = (
      3,
      run_goes r 3 (polling r5 n z (busy a true value p 2) cells) frame.home refl
          (lies, lies, (lies, lies, (tt, tt, tt))),
    )
    polls false (suc zero) r5 n z cells = (
      1,
      run_goes r 3 (polling r5 n z (busy a false value p 2) cells) frame.home refl
          (lies, lies, (lies, lies, (tt, tt, tt))),
    )
    polls true (suc (suc zero)) r5 n z cells = (
      3,
      run_goes r 3 (polling r5 n z (busy a true value p 3) cells) frame.home refl
          (lies, lies, (lies, lies, (lies, lies, tt))),
    )
    polls false (suc (suc zero)) r5 n z cells = (
      1,
      run_goes r 3 (polling r5 n z (busy a false value p 3) cells) frame.home refl
          (lies, lies, (lies, lies, (lies, lies, tt))),
    )
    polls true (suc (suc (suc t))) r5 n z cells =
        let rest : (r5' : ℕ) × Goes r (poll_steps (suc t)) (polling 3 false false (busy a true value p (suc t)) cells)
        (polling r5' false false (ready a true) (left cells)) = polls true t 3 false false cells in (
          rest.0,
          goes_then r 3 (poll_steps (suc t)) _ _ _ (run_goes r 3 (polling r5 n z (busy a true value p (suc (suc (suc (suc t))))) cells) frame.home refl
              (lies, lies, (lies, lies, (lies, lies, tt)))) rest.1,
        )
    polls false (suc (suc (suc t))) r5 n z cells =
        let rest : (r5' : ℕ) × Goes r (poll_steps (suc t)) (polling 1 false false (busy a false value p (suc t)) cells)
        (polling r5' false false (ready a true) (left cells)) = polls false t 1 false false cells in (
          rest.0,
          goes_then r 3 (poll_steps (suc t)) _ _ _ (run_goes r 3 (polling r5 n z (busy a false value p (suc (suc (suc (suc t))))) cells) frame.home refl
              (lies, lies, (lies, lies, (lies, lies, tt)))) rest.1,
        )

    -- the steps from a settled unit to the head of the loop
    settles : (r5 : ℕ) (n z : Bool) (cells : List ℕ) → Goes r 10 (polling r5 n z (ready a true) cells)
        (at_pc 0x20000064 (sum_with_carry r0 2 false).value (subtraction r1 2).value (sum_with_carry r2 2 false).value 0
        (nat_le (2 ^ 31) (subtraction r1 2).value) (nat_eq (subtraction r1 2).value 0) (subtraction r1 2).carry (subtraction r1 2).overflow
        (ready a true) cells)
    unfolding computed all_idle
    settles r5 n z cells = idle_goes r 10 (polling r5 n z (ready a true) cells) frame.home refl refl

  -- the head of the loop, with `r1` bytes left
  heads : (r0 r1 r2 r5 : ℕ) (n z c v : Bool) (st : Bool) (cells : List ℕ) → Goes r 1 (at_pc 0x20000064 r0 r1 r2 r5 n z c v (ready a st) cells)
      (at_pc 0x20000066 r0 r1 r2 r5 (nat_le (2 ^ 31) (subtraction r1 0).value) (nat_eq (subtraction r1 0).value 0) (subtraction r1 0).carry
      (subtraction r1 0).overflow (ready a st) cells)
  unfolding computed all_idle
  heads r0 r1 r2 r5 n z c v st cells = idle_goes r 1 (at_pc 0x20000064 r0 r1 r2 r5 n z c v (ready a st) cells) frame.home refl refl

  falls : (r0 r1 r2 r5 : ℕ) (n c v : Bool) (st : Bool) (cells : List ℕ) → Goes r 1 (at_pc 0x20000066 r0 r1 r2 r5 n false c v (ready a st) cells)
      (at_pc 0x20000068 r0 r1 r2 r5 n false c v (ready a st) cells)
  unfolding computed all_idle
  falls r0 r1 r2 r5 n c v st cells = idle_goes r 1 (at_pc 0x20000066 r0 r1 r2 r5 n false c v (ready a st) cells) frame.home refl refl

  -- the step that loads a unit from the buffer
  reads : (r0 r1 b r5 : ℕ) (n z c v st : Bool) (cells : List ℕ) → b % 2 ≡ 0 → b + 2 ≤ length ram →
      Goes r 1 (at_pc 0x20000068 r0 r1 (0x20000000 + b) r5 n z c v (ready a st) cells)
      (at_pc 0x2000006A r0 r1 (0x20000000 + b) (value_at ram 2 b) n z c v (ready a st) cells)
  unfolding computed meaning_at outcome
  reads r0 r1 b r5 n z c v st cells even within =
      let p : Point = at_pc 0x20000068 r0 r1 (0x20000000 + b) r5 n z c v (ready a st) cells in
      let next : ℕ → Core = λ x. page_core low r0 r1 (0x20000000 + b) x n z c v 0x2000006A in
      let low' : b < 0x80000000 = omega (arith, frame.home.short, within) in
      let at : (0x20000000 + b + 0) % 2 ^ 32 ≡ 0x20000000 + b = omega arith in
      let place : 0x20000000 + b - 0x20000000 ≡ b = omega arith in
      step_by r p 0x20000068 (next (value_at ram 2 b)) p.world refl frame.home refl
      (ap (λ (x : ℕ). outcome world_answer (load 2 x (λ y. Gives (Ok (next y)))) p.core p.world) at
      ∙ outcome_load 2 (0x20000000 + b) (value_at ram 2 b) (λ y. Gives (Ok (next y))) p.core p.world (ap (λ (x : ℕ). nat_eq x 0) (even_at b even))
      (ram_loads p.world 2 (0x20000000 + b) (omega arith) (omega (arith, within)) ∙ ap (λ (x : ℕ). (Ok (value_at ram 2 x), p.world)) place))
      tt tt

  -- the step that stores a unit to the flash
  flash_row : (d : Bool) (p value : ℕ) (cells : List ℕ) → p < g.size → all_are g.empty (cells_at cells p 2) ≡ true →
      store_row any_table (a1_map g) (ready a d) cells (0x08000000 + p) 2 value ≡ (Ok tt, busy a d value p g.program_ticks)
  unfolding store_row program
  flash_row d p value cells inside blank = ap (store_at any_table (a1_map g) (ready a d) cells 2 value) (flash_place g p 2 frame.flash inside) ∙ (rw blank refl)

  flash_answer : (d : Bool) (p value : ℕ) (cells : List ℕ) → p < g.size → all_are g.empty (cells_at cells p 2) ≡ true →
      store_answer (a1_world g ram (ready a d) cells) 2 (0x08000000 + p) value None ≡ (Ok 0, a1_world g ram (busy a d value p g.program_ticks) cells)
  flash_answer d p value cells inside blank = ap (λ (x : Result (Unit {0}) BusEnd × UnitState). (stored x.0, a1_world g ram x.1 cells))
      (flash_row d p value cells inside blank)

  writes : (p r1 r2 value : ℕ) (n z c v d : Bool) (cells : List ℕ) → p % 2 ≡ 0 → p < g.size → value < 2 ^ 16 → all_are g.empty (cells_at cells p 2) ≡ true →
      OpensIn r (Some (p, 2))
      → Goes r 1 (at_pc 0x2000006A (0x08000000 + p) r1 r2 value n z c v (ready a d) cells)
      (record {
        core = page_core low (0x08000000 + p) r1 r2 value n z c v 0x2000006C;
        world =
            world_tick (a1_world g ram (busy a d value p g.program_ticks) cells);
      })
  unfolding computed meaning_at outcome
  writes p r1 r2 value n z c v d cells even inside small blank lies =
      let q : Point = at_pc 0x2000006A (0x08000000 + p) r1 r2 value n z c v (ready a d) cells in
      let next : Core = page_core low (0x08000000 + p) r1 r2 value n z c v 0x2000006C in
      let w : World = a1_world g ram (busy a d value p g.program_ticks) cells in
      let at : (0x08000000 + p + 0) % 2 ^ 32 ≡ 0x08000000 + p = omega (arith, frame.flash) in
      let same : value % 2 ^ 16 ≡ value = omega arith in
      step_by r q 0x2000006A next w refl frame.home refl
      (ap (λ (x : ℕ). outcome world_answer (store 2 x (value % 2 ^ 16) (Gives (Ok next))) q.core q.world) at
      ∙ ap (λ (x : ℕ). outcome world_answer (store 2 (0x08000000 + p) x (Gives (Ok next))) q.core q.world) same
      ∙ outcome_store 2 (0x08000000 + p) value (Gives (Ok next)) q.core q.world w (ap (λ (x : ℕ). nat_eq x 0) (even_flash p even))
      (unit_stores q.world 2 (0x08000000 + p) value (omega (arith, frame.flash)) ∙ flash_answer d p value cells inside blank))
      tt lies

  -- the steps of the return
  module _ (r0 r1 r2 r5 : ℕ) (n z c v : Bool) (cells : List ℕ) where
    abbrev here : Point
    here = at_pc 0x2000008A r0 r1 r2 r5 n z c v (unlocked 1 a) cells

    abbrev popped : ℕ → ℕ → ℕ → Core
    popped x y pc = record {
      regs = r0 ∷ r1 ∷ r2 ∷ 0x40022000 ∷ x ∷ y ∷ 0 ∷ 0 ∷ 0 ∷ 0x200000B0 ∷ 0 ∷ 0 ∷ 0 ∷ ((0x20000000 + low + 12) % 2 ^ 32 / 4 * 4) ∷ 0x20000001 ∷ pc ∷ [];
      n = n;
      z = z;
      c = c;
      v = v;
      primask = false;
    }

    abbrev pop_at : ℕ → ℕ → ℕ → Meaning
    pop_at i j k = load 4 i (λ x. load 4 j (λ y. load 4 k (λ u. Gives (branch_exchange 0x2000008A (popped x y 0x2000008A) u))))

    pop_means : meaning_at 0x2000008A here.core ≡ pop_at (0x20000000 + low) ((0x20000000 + low + 4) % 2 ^ 32) ((0x20000000 + low + 8) % 2 ^ 32)
    unfolding computed meaning_at
    pop_means = refl

    pop_does : outcome world_answer (meaning_at 0x2000008A here.core) here.core here.world ≡ gone (popped (word_at ram low) (word_at ram (low + 4)) 0x20000000)
        here.world
    unfolding outcome moved
    pop_does =
        let e4 : (0x20000000 + low + 4) % 2 ^ 32 ≡ 0x20000000 + (low + 4) = omega (arith, frame.high, frame.home.short) in
        let e8 : (0x20000000 + low + 8) % 2 ^ 32 ≡ 0x20000000 + (low + 4 + 4) = omega (arith, frame.high, frame.home.short) in
        ap (λ (m : Meaning). outcome world_answer m here.core here.world) pop_means
        ∙ ap₂ (λ (j k : ℕ). outcome world_answer (pop_at (0x20000000 + low) j k) here.core here.world) e4 e8
        ∙ outcome_load 4 (0x20000000 + low) (word_at ram low) _ here.core here.world (word_even low frame.whole)
        (loads_word here.world low refl (omega (arith, frame.high)))
        ∙ outcome_load 4 (0x20000000 + (low + 4)) (word_at ram (low + 4)) _ here.core here.world (word_even (low + 4) (omega (arith, frame.whole)))
        (loads_word here.world (low + 4) refl (omega (arith, frame.high)))
        ∙ outcome_load 4 (0x20000000 + (low + 4 + 4)) (word_at ram (low + 4 + 4)) _ here.core here.world (word_even (low + 4 + 4) (omega (arith, frame.whole)))
        (loads_word here.world (low + 4 + 4) refl (omega (arith, frame.high)))
        ∙ ap (λ (u : ℕ). outcome world_answer (Gives (branch_exchange 0x2000008A (popped (word_at ram low) (word_at ram (low + 4)) 0x2000008A) u)) here.core
        here.world) frame.back

    pops : Goes r 1 here (record { core = popped (word_at ram low) (word_at ram (low + 4)) 0x20000000; world = here.world })
    unfolding tick_row
    pops = step_by r here 0x2000008A (popped (word_at ram low) (word_at ram (low + 4)) 0x20000000) here.world refl frame.home refl pop_does tt tt

  -- the steps from the head of the loop with no byte left
  ends : (r0 r2 r5 : ℕ) (n z c v d : Bool) (cells : List ℕ) → Goes r 6 (at_pc 0x20000064 r0 0 r2 r5 n z c v (ready a d) cells)
      (here 0 0 r2 0x1E false false true false cells)
  unfolding computed all_idle
  ends r0 r2 r5 n z c v true cells = idle_goes r 6 (at_pc 0x20000064 r0 0 r2 r5 n z c v (ready a true) cells) frame.home refl refl
  ends r0 r2 r5 n z c v false cells = idle_goes r 6 (at_pc 0x20000064 r0 0 r2 r5 n z c v (ready a false) cells) frame.home refl refl

  -- a run that returns with success
  pub record Returns (n : ℕ) (p : Point) (cells : List ℕ) : Type 0 where
    pub last : Point
    pub goes : Goes r n p last
    pub back : pc_of last.core ≡ 0x20000000
    pub success : slice_index last.core.regs 0 ≡ 0
    pub leaves : last.world ≡ a1_world g ram (unlocked 1 a) cells

  returns : (r0 r2 r5 : ℕ) (n z c v d : Bool) (cells : List ℕ) → Returns 7 (at_pc 0x20000064 r0 0 r2 r5 n z c v (ready a d) cells) cells
  returns r0 r2 r5 n z c v d cells = record {
    last = record {
      core = popped 0 0 r2 0x1E false false true false cells (word_at ram low) (word_at ram (low + 4)) 0x20000000;
      world =
          a1_world g ram (unlocked 1 a) cells;
    };
    goes = goes_then r 6 1 _ _ _ (ends r0 r2 r5 n z c v d cells) (pops 0 0 r2 0x1E false false true false cells);
    back = refl;
    success = refl;
    leaves = refl;
  }

  -- a run before a run that returns also returns
  then_returns : (n m : ℕ) (p q : Point) (cells : List ℕ) → Goes r n p q → Returns m q cells → Returns (n + m) p cells
  then_returns n m p q cells one two = record {
    last = two.last;
    goes = goes_then r n m p q two.last one two.goes;
    back = two.back;
    success = two.success;
    leaves = two.leaves;
  }

  -- the steps for each unit
  begun_steps : ℕ → ℕ
  begun_steps (suc (suc t)) = poll_steps (suc t) + 10
  begun_steps x = 10

  begun_bound : (t : ℕ) → begun_steps t ≤ t + 12
  unfolding begun_steps
  begun_bound (suc (suc t)) = omega (arith, poll_bound (suc t))
  begun_bound t = omega arith

  -- how many steps the loop takes for `n` bytes
  unit_steps : ℕ → ℕ → ℕ
  unit_steps t (suc (suc n)) = 1 + (1 + (1 + (1 + (begun_steps t + unit_steps t n))))
  unit_steps t x = 7

  unit_bound : (t n : ℕ) → 2 * unit_steps t n ≤ n * (t + 16) + 14
  unfolding unit_steps
  unit_bound t (suc (suc n)) = grind (arith, unit_bound t n, begun_bound t)
  unit_bound t n = omega arith

  -- the steps from the begin of a unit to the head of the loop
  module _ (r1 b value p : ℕ) (n z c v : Bool) (lies : OpensIn r (Some (p, 2))) where
    abbrev begun : Bool → ℕ → List ℕ → Point
    begun d t cells = record {
      core = page_core low (0x08000000 + p) r1 (0x20000000 + b) value n z c v 0x2000006C;
      world =
          world_tick (a1_world g ram (busy a d value p t) cells);
    }

    abbrev next_head : List ℕ → Point
    next_head cells = at_pc 0x20000064 (sum_with_carry (0x08000000 + p) 2 false).value (subtraction r1 2).value (sum_with_carry (0x20000000 + b) 2 false).value
        0
        (nat_le (2 ^ 31) (subtraction r1 2).value) (nat_eq (subtraction r1 2).value 0) (subtraction r1 2).carry (subtraction r1 2).overflow (ready a true) cells

    begun_goes : (d : Bool) (t : ℕ) (cells : List ℕ) → Goes r (begun_steps t) (begun d t cells)
        (next_head (left (0x08000000 + p) r1 (0x20000000 + b) value p c v lies cells))
    unfolding begun_steps tick_row
    begun_goes d (suc (suc t)) cells =
        let after : (r5' : ℕ) × Goes r (poll_steps (suc t)) (polling (0x08000000 + p) r1 (0x20000000 + b) value p c v lies value n z
        (busy a d value p (suc t)) cells) (polling (0x08000000 + p) r1 (0x20000000 + b) value p c v lies r5' false false (ready a true)
        (left (0x08000000 + p) r1 (0x20000000 + b) value p c v lies cells)) =
        polls (0x08000000 + p) r1 (0x20000000 + b) value p c v lies d t value n z cells in
        goes_then r (poll_steps (suc t)) 10 _ _ _ after.1 (settles (0x08000000 + p) r1 (0x20000000 + b) value p c v lies after.0 false false
        (left (0x08000000 + p) r1 (0x20000000 + b) value p c v lies cells))
    begun_goes d t cells = settles (0x08000000 + p) r1 (0x20000000 + b) value p c v lies value n z
        (left (0x08000000 + p) r1 (0x20000000 + b) value p c v lies cells)

-- what holds before the rest of a page's bytes is programmed
pub record Rest (g : Given) (x : Range) (ram : List ℕ) (p b : ℕ) (bytes cells : List ℕ) : Type 0 where
  pub even : length bytes % 2 ≡ 0
  pub place_even : p % 2 ≡ 0
  pub buffer_even : b % 2 ≡ 0
  pub held : Held ram b bytes
  pub in_ram : b + length bytes ≤ length ram
  pub from : x.start ≤ p
  pub to : p + length bytes ≤ x.stop
  pub in_area : x.stop ≤ g.size
  pub in_cells : x.stop ≤ length cells
  pub blank : (j : ℕ) → p ≤ j → j < p + length bytes → slice_index cells j ≡ g.empty
  pub few : length bytes < 2 ^ 31

-- what holds before the rest, after one unit more
module _ (g : Given) (x : Range) (ram : List ℕ) (p b y z : ℕ) (bytes cells : List ℕ) (rest : Rest g x ram p b (y ∷ z ∷ bytes) cells) where
  abbrev put : List ℕ
  put = written p (y ∷ z ∷ []) cells

  put_fits : p + 2 ≤ length cells
  put_fits = omega (arith, rest.to, rest.in_cells)

  next_rest : Rest g x ram (p + 2) (b + 2) bytes put
  next_rest =
      let long : length put ≡ length cells = written_len p (y ∷ z ∷ []) cells put_fits in
      let next : b + 1 + 1 ≡ b + 2 = omega arith in
      record {
        even = omega (arith, rest.even);
        place_even = omega (arith, rest.place_even);
        buffer_even = omega (arith, rest.buffer_even);
        held = subst (λ (i : ℕ). Held ram i bytes) next rest.held.2.2;
        in_ram = omega (arith, rest.in_ram);
        from = omega (arith, rest.from);
        to = omega (arith, rest.to);
        in_area = rest.in_area;
        in_cells = omega (arith, rest.in_cells, long);
        blank = λ j from below. written_after p (y ∷ z ∷ []) cells j put_fits from ∙ rest.blank j (omega (arith, from)) (omega (arith, below));
        few = omega (arith, rest.few);
      }

  unit_is : value_at ram 2 b ≡ y + 0x100 * z
  unit_is = rw (rest.held.0, rest.held.2.0) refl

  unit_blank : all_are g.empty (cells_at cells p 2) ≡ true
  unit_blank = blank_two cells p g.empty put_fits (rest.blank p (omega arith) (omega arith)) (rest.blank (p + 1) (omega arith) (omega arith))

same_unit : (p y w value : ℕ) (cells : List ℕ) → value ≡ y + 0x100 * w → y < 2 ^ 8 → w < 2 ^ 8 →
    written p (value % 0x100 ∷ value / 0x100 % 0x100 ∷ []) cells ≡ written p (y ∷ w ∷ []) cells
same_unit p y w value cells is first second =
    let low : value % 0x100 ≡ y = omega arith in
    let high : value / 0x100 % 0x100 ≡ w = omega arith in
    ap₂ (λ (m n : ℕ). written p (m ∷ n ∷ []) cells) low high

module _ (g : Given) (x : Range) (a low : ℕ) (ram : List ℕ) (frame : IsFrame g ram low (low + 4 + 4)) where
  abbrev place : Option (ℕ × ℕ)
  place = Some (span x)

  abbrev head : ℕ → ℕ → ℕ → ℕ → Bool → Bool → Bool → Bool → Bool → List ℕ → Point
  head p l b r5 n z c v d cells = at_pc g place a low ram frame 0x20000064 (0x08000000 + p) l (0x20000000 + b) r5 n z c v (ready a d) cells

  units : (bytes : List ℕ) (p b r5 : ℕ) (n z c v d : Bool) (cells : List ℕ) → Rest g x ram p b bytes cells
      → Returns g place a low ram frame (unit_steps g place a low ram frame g.program_ticks (length bytes)) (head p (length bytes) b r5 n z c v d cells)
      (put_all p bytes cells)
  unfolding unit_steps put_all
  units [] p b r5 n z c v d cells rest = returns g place a low ram frame (0x08000000 + p) (0x20000000 + b) r5 n z c v d cells
  units (y ∷ []) p b r5 n z c v d cells rest = absurd (one_odd rest.even)
  units (y ∷ w ∷ bytes) p b r5 n z c v d cells rest =
      let l : ℕ = length bytes in
      let r1 : ℕ = suc (suc l) in
      let value : ℕ = value_at ram 2 b in
      let lies : OpensIn place (Some (p, 2)) = (rest.from, omega (arith, rest.from, rest.to)) in
      let some : nat_eq (subtraction r1 0).value 0 ≡ false = difference_zero r1 (omega arith) (omega (arith, rest.few)) in
      let small : value < 2 ^ 16 = omega (arith, unit_is g x ram p b y w bytes cells rest, rest.held.1, rest.held.2.1) in
      let nf : Bool = nat_le (2 ^ 31) (subtraction r1 0).value in
      let cf : Bool = (subtraction r1 0).carry in
      let vf : Bool = (subtraction r1 0).overflow in
      let one : Goes place 1 (head p r1 b r5 n z c v d cells)
      (at_pc g place a low ram frame 0x20000066 (0x08000000 + p) r1 (0x20000000 + b) r5 nf false cf vf (ready a d) cells) =
      subst (λ (t : Bool). Goes place 1 (head p r1 b r5 n z c v d cells)
      (at_pc g place a low ram frame 0x20000066 (0x08000000 + p) r1 (0x20000000 + b) r5 nf t cf vf (ready a d) cells)) some
      (heads g place a low ram frame (0x08000000 + p) r1 (0x20000000 + b) r5 n z c v d cells) in
      let two = falls g place a low ram frame (0x08000000 + p) r1 (0x20000000 + b) r5 nf cf vf d cells in
      let three = reads g place a low ram frame (0x08000000 + p) r1 b r5 nf false cf vf d cells rest.buffer_even (omega (arith, rest.in_ram)) in
      let four = writes g place a low ram frame p r1 (0x20000000 + b) value nf false cf vf d cells rest.place_even (omega (arith, rest.to, rest.in_area)) small
      (unit_blank g x ram p b y w bytes cells rest) lies in
      let five = begun_goes g place a low ram frame r1 b value p nf false cf vf lies d g.program_ticks cells in
      let e0 : (sum_with_carry (0x08000000 + p) 2 false).value ≡ 0x08000000 + (p + 2) =
      sum_small (0x08000000 + p) 2 (omega (arith, frame.flash, rest.to, rest.in_area)) (omega arith) ∙ omega arith in
      let e1 : (subtraction r1 2).value ≡ l = difference_two l (omega (arith, rest.few)) in
      let e2 : (sum_with_carry (0x20000000 + b) 2 false).value ≡ 0x20000000 + (b + 2) =
      sum_small (0x20000000 + b) 2 (omega (arith, frame.home.short, rest.in_ram)) (omega arith) ∙ omega arith in
      let ec : written p (value % 0x100 ∷ value / 0x100 % 0x100 ∷ []) cells ≡ put g x ram p b y w bytes cells rest =
      same_unit p y w value cells (unit_is g x ram p b y w bytes cells rest) rest.held.1 rest.held.2.1 in
      let n2 : Bool = nat_le (2 ^ 31) (subtraction r1 2).value in
      let z2 : Bool = nat_eq (subtraction r1 2).value 0 in
      let c2 : Bool = (subtraction r1 2).carry in
      let v2 : Bool = (subtraction r1 2).overflow in
      let next : next_head g place a low ram frame r1 b value p nf false cf vf lies (written p (value % 0x100 ∷ value / 0x100 % 0x100 ∷ []) cells) ≡ head
      (p + 2) l (b + 2) 0 n2 z2 c2 v2 true (put g x ram p b y w bytes cells rest) =
      λ i. at_pc g place a low ram frame 0x20000064 (e0 i) (e1 i) (e2 i) 0 n2 z2 c2 v2 (ready a true) (ec i) in
      let more = units bytes (p + 2) (b + 2) 0 n2 z2 c2 v2 true (put g x ram p b y w bytes cells rest) (next_rest g x ram p b y w bytes cells rest) in
      then_returns g place a low ram frame 1 _ _ _ _ one
      (then_returns g place a low ram frame 1 _ _ _ _ two
      (then_returns g place a low ram frame 1 _ _ _ _ three
      (then_returns g place a low ram frame 1 _ _ _ _ four
      (then_returns g place a low ram frame (begun_steps g place a low ram frame g.program_ticks) _ _ _ _ five
      (subst (λ (q : Point). Returns g place a low ram frame (unit_steps g place a low ram frame g.program_ticks l) q
      (put_all (p + 2) bytes (put g x ram p b y w bytes cells rest))) (sym next) more)))))

-- The call.

-- the bytes fit the page, and the page is empty
pub record PageFits (g : Given) (x : Range) (bytes cells : List ℕ) : Type 0 where
  pub even : length bytes % 2 ≡ 0
  pub some : 0 < length bytes
  pub page : length bytes ≤ g.page
  pub place_even : x.start % 2 ≡ 0
  pub ends : x.start + length bytes ≡ x.stop
  pub in_area : x.stop ≤ g.size
  pub in_cells : x.stop ≤ length cells
  pub blank : (j : ℕ) → x.start ≤ j → j < x.stop → slice_index cells j ≡ g.empty
  pub small : All (λ v. v < 2 ^ 8) bytes

module _ (g : Given) (x : Range) (bytes : List ℕ) (c a0 : ℕ) (ram cells : List ℕ) (is_ram : IsRam g ram) (fit : IsFit g) (quick : IsQuick g)
    (fits : PageFits g x bytes cells) where
  abbrev at : ℕ
  at = 0x08000000 + x.start

  abbrev request : Request
  request = asked (a_call.ProgramPage at) bytes

  abbrev r : Option (ℕ × ℕ)
  r = Some (span x)

  abbrev start : World
  start = a1_world g ram (unlocked c a0) cells

  abbrev first : Point
  first = first_point (a1_setup g) start request

  abbrev len : ℕ
  len = length bytes

  abbrev pub base : ℕ
  base = need g - 12

  abbrev pub ram0 : List ℕ
  ram0 = written 176 bytes ram

  -- the registers that are pushed: R4, R5 and LR
  abbrev saved : List ℕ
  saved = 0 ∷ 0 ∷ 0x20000001 ∷ []

  abbrev pub ram3 : List ℕ
  ram3 = with_words ram0 base saved

  is_ram0 : IsRam g ram0
  is_ram0 = ram_written g ram bytes (omega (arith, fit.room, fits.page)) is_ram

  above : 176 + len ≤ base
  above = omega (arith, fits.page, fit.stack_some)

  pub is_ram3 : IsRam g ram3
  is_ram3 = ram_words g ram0 base saved (omega (arith, above)) is_ram0

  whole : base % 4 ≡ 0
  whole = omega (arith, top_whole g fit, above)

  ends_ram : base + 12 ≤ g.ram_size
  ends_ram = omega (arith, fit.room, above)

  frame : IsFrame g ram3 base (base + 4 + 4)
  frame = record {
    home = is_ram3.home;
    back = stored_here (with_word (with_word ram0 base 0) (base + 4) 0) (base + 4 + 4) 0x20000001
        (omega (arith, stored_len (with_word ram0 base 0) (base + 4) 0, stored_len ram0 base 0, is_ram0.size, ends_ram)) (omega arith);
    high = omega (arith, is_ram3.size, ends_ram);
    whole = whole;
    flash = fit.below_ram;
  }

  held : Held ram3 176 bytes
  held = held_from ram3 176 bytes (λ j below.
      words_before ram0 base saved (176 + j) (omega (arith, above, below))
      ∙ written_in 176 bytes ram j (omega (arith, is_ram.size, fit.room, fits.page)) below) fits.small

  -- the stack pointer before the push
  abbrev sp : ℕ
  sp = (0x20000000 + need g) % 2 ^ 32

  abbrev pushed : ℕ → Core
  pushed low = record {
    regs = at ∷ len ∷ 0x200000B0 ∷ 0 ∷ 0 ∷ 0 ∷ 0 ∷ 0 ∷ 0 ∷ 0x200000B0 ∷ 0 ∷ 0 ∷ 0 ∷ low ∷ 0x20000001 ∷ 0x2000005E ∷ [];
    n = false;
    z = false;
    c = false;
    v = false;
    primask = false;
  }

  abbrev push_at : ℕ → ℕ → ℕ → ℕ → Meaning
  push_at i j k low = store 4 i 0 (store 4 j 0 (store 4 k 0x20000001 (Gives (Ok (pushed low)))))

  push_means : meaning_at 0x2000005C first.core ≡ push_at ((sp + 4294967284) % 2 ^ 32) (((sp + 4294967284) % 2 ^ 32 + 4) % 2 ^ 32)
      (((sp + 4294967284) % 2 ^ 32 + 8) % 2 ^ 32) ((sp + 4294967284) % 2 ^ 32 / 4 * 4)
  unfolding computed meaning_at first_point
  push_means = refl

  push_does : outcome world_answer (meaning_at 0x2000005C first.core) first.core (a1_world g ram0 (unlocked c a0) cells) ≡ gone (pushed (0x20000000 + base))
      (a1_world g ram3 (unlocked c a0) cells)
  unfolding outcome
  push_does =
      let down : (sp + 4294967284) % 2 ^ 32 ≡ 0x20000000 + base = ap (λ (n : ℕ). (n + 4294967284) % 2 ^ 32) (top_is g fit) ∙
      omega (arith, fit.room, fit.ram_small, above) in
      let e4 : ((sp + 4294967284) % 2 ^ 32 + 4) % 2 ^ 32 ≡ 0x20000000 + (base + 4) = ap (λ (n : ℕ). (n + 4) % 2 ^ 32) down ∙
      omega (arith, ends_ram, fit.ram_small) in
      let e8 : ((sp + 4294967284) % 2 ^ 32 + 8) % 2 ^ 32 ≡ 0x20000000 + (base + 4 + 4) = ap (λ (n : ℕ). (n + 8) % 2 ^ 32) down ∙
      omega (arith, ends_ram, fit.ram_small) in
      let es : (sp + 4294967284) % 2 ^ 32 / 4 * 4 ≡ 0x20000000 + base = ap (λ (n : ℕ). n / 4 * 4) down ∙ omega (arith, whole) in
      let w : World = a1_world g ram0 (unlocked c a0) cells in
      ap (λ (m : Meaning). outcome world_answer m first.core w) push_means
      ∙ (λ i. outcome world_answer (push_at (down i) (e4 i) (e8 i) (es i)) first.core w)
      ∙ outcome_stores saved base (Gives (Ok (pushed (0x20000000 + base)))) first.core w refl whole (omega (arith, is_ram0.size, ends_ram))

  abbrev second : Point
  second = record { core = pushed (0x20000000 + base); world = a1_world g ram3 (unlocked c a0) cells }

  push_goes : Goes r 1 first second
  unfolding first_point tick_row
  push_goes = step_by r first 0x2000005C (pushed (0x20000000 + base)) (a1_world g ram3 (unlocked c a0) cells) refl is_ram0.home refl push_does tt tt

  abbrev looping : Point
  looping = head g x a0 base ram3 frame x.start len 176 0 false false false false false cells

  set_up : Goes r 3 second looping
  unfolding computed all_idle
  set_up = idle_goes r 3 second is_ram3.home refl refl

  rest : Rest g x ram3 x.start 176 bytes cells
  rest = record {
    even = fits.even;
    place_even = fits.place_even;
    buffer_even = omega arith;
    held = held;
    in_ram = omega (arith, is_ram3.size, ends_ram, above);
    from = omega arith;
    to = omega (arith, fits.ends);
    in_area = fits.in_area;
    in_cells = fits.in_cells;
    blank = λ j from below. fits.blank j from (omega (arith, below, fits.ends));
    few = omega (arith, fits.page, fit.page_small);
  }

  all : Returns g r a0 base ram3 frame (unit_steps g r a0 base ram3 frame g.program_ticks len) looping (put_all x.start bytes cells)
  all = units g x a0 base ram3 frame bytes x.start 176 0 false false false false false cells rest

  abbrev steps : ℕ
  steps = 1 + (3 + unit_steps g r a0 base ram3 frame g.program_ticks len)

  runs : Goes r steps first all.last
  runs = goes_then r 1 _ first second all.last push_goes (goes_then r 3 _ second looping all.last set_up all.goes)

  quick_page : steps ≤ 100 * g.steps_per_ms
  quick_page = grind (arith, unit_bound g r a0 base ram3 frame g.program_ticks len, quick.page, fits.page, fits.some)

  enough : steps ≤ fuel_of (a1_setup g) (a_call.ProgramPage at)
  enough = page_fuel g at steps quick_page quick.steps_small

  cells_are : put_all x.start bytes cells ≡ written x.start bytes cells
  cells_are = put_all_is x.start bytes cells (omega (arith, fits.ends, fits.in_cells)) fits.even

  pub page_done : IsDone (a1_setup g) start request r (a1_world g ram3 (unlocked 1 a0) (written x.start bytes cells))
  page_done = run_done (a1_setup g) start request r steps all.last refl enough runs all.back all.success _
      (all.leaves ∙ ap (λ (l : List ℕ). a1_world g ram3 (unlocked 1 a0) l) cells_are) refl
