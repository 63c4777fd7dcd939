-- What the marks of a target say stays true over each access that is answered.
use Rattle.std.proofs.Common.{◌≡◌, ◌<◌, ◌≤◌, ◌+◌, ◌-◌, ◌&&◌, ◌||◌, ℕ, Bool, true, false, nat_eq, nat_le, if◌then◌else◌, List, ◌∷◌, length, take, drop}
use Rattle.std.proofs.Common.{slice_index, get_or, option_map, Option, Some, None, is_some, Result, Ok, Err, refl, sym, ap, ap₂, subst, ◌∙◌, ⊎_elim, arith}
use Rattle.std.proofs.Common.{eqb-true}
use Rattle.std.proofs.lemmas.Bool.{and_parts, or_cases, leb-true, cases_lt}
use Rattle.std.proofs.lemmas.List.{get_or_past, get_or-map, length-map}
use Rattle.std.proofs.Common.{◌⊎◌, [], ◌*◌, map, inl, inr, add_assoc, length-take, length-drop, get_or-take, get_or-drop}
use Rattle.bench_model.specs.declared.bench_fault.BusEnd.{BusEnd}
use Rattle.bench_model.specs.declared.bench_fault.BusEnd.TheVariants as bus
use Rattle.armv6m_step.specs.Access.{Load, Store, stored}
use Rattle.armv6m_step.specs.Ram.{ram_at, place_of, loaded_from, value_at, bytes_with}
use Rattle.flash_layout.specs.declared.area.Found.{Found}
use Rattle.flash_layout.specs.declared.work.Work.{Work}
use Rattle.flash_layout.specs.declared.work.Work.TheVariants as work
use Rattle.flash_layout.specs.declared.work.Operation.{Operation}
use Rattle.flash_layout.specs.Cells.{cells_at, value_of}
use Rattle.flash_layout.specs.Work.{work_len, range_of}
use Rattle.flash_layout.specs.Maps.{FlashMap, in_quiet}
use Rattle.flash_driver.specs.declared.place.Place.{Place}
use Rattle.flash_driver.specs.declared.place.Place.TheVariants as place
use Rattle.flash_driver.specs.declared.state.Effect.{Effect}
use Rattle.flash_driver.specs.Erasures.{all_are}
use Rattle.flash_driver.specs.Places.{place_of as device_place}
use Rattle.flash_driver.specs.Table.{or_quiet, answered, load_at, load_row, store_at, store_row, begun, answer_of}
use Rattle.flash_controller.specs.Table.{load as fc1_load}
use Rattle.fpec_controller.specs.Table.{load as fpec_load}
use Rattle.fpec_controller.specs.Table.{is_erasure, is_fill}
use Rattle.target_core.specs.declared.unit.AnyRegisters.{AnyRegisters}
use Rattle.target_core.specs.declared.unit.AnyRegisters.TheVariants.{Fc1, Fpec}
use Rattle.target_core.specs.AnyTable.{any_table, any_load, any_store}
use Rattle.target_core.specs.Units.{UnitState, state_op}
use Rattle.target_core.specs.World.{World, Answer, load_answer, store_answer, world_answer}
use Rattle.shadow_step.specs.declared.marks.Mark.{Mark}
use Rattle.shadow_step.specs.declared.marks.Mark.TheVariants.{Known, Any}
use Rattle.shadow_step.specs.Marks.{Pages, ArePages, Says, is_known}
use Rattle.shadow_step.specs.Bytes.{BytesAgree, number_mark, marks_with}
use Rattle.shadow_step.specs.Shadow.{IsShadow, LoadAgrees}
use Rattle.shadow_step.proofs.MarkLemmas.{known_same}
use Rattle.shadow_step.proofs.BytesLemmas.{number_says, with_agrees}
use Rattle.duty_proofs.specs.declared.cells.CellMark.{CellMark}
use Rattle.duty_proofs.specs.declared.cells.CellMark.TheVariants.{Blank, Holds}
use Rattle.duty_proofs.specs.TargetMarks.{TargetMarks, CellSays, with_address, Alike, WorkAgrees, RunsAgree, CellsAgree, TargetAgrees}
use Rattle.duty_proofs.specs.TargetMarks.{device_load, ram_or, is_blank, half_blank, value_after, registered, unaddressed}
use Rattle.duty_proofs.specs.TargetMarks.{begins_unit, device_store, ram_or_store}
use Rattle.duty_proofs.specs.TargetMarks.{is_address, spares, takes_address, programs_unit, unit_blank}
use Rattle.duty_proofs.specs.TargetMarks.{target_shadow}
use Rattle.duty_proofs.specs.TargetMarks.{byte_of, cells_mark}
use Rattle.duty_proofs.proofs.StoreLemmas.{DeviceStored, addressed, unit_of_value, same_marks, store_alike, alike_same, begun_agree, any_spared, any_taken}
use Rattle.duty_proofs.proofs.StoreLemmas.{blank_two, blank_within, blank_says}
use Rattle.duty_proofs.proofs.StoreLemmas.{blank_four, unit_row, alike_programs, unit_width, unit_agrees, none_runs, state_is}

-- ---- the operations of two runs

work_len_same : (p : Pages) (k : Mark) (a b : Work) → WorkAgrees p k a b → work_len b ≡ work_len a
work_len_same p k (work.Half v) (work.Half v') agree = refl
work_len_same p k (work.Word v) (work.Word v') agree = refl
work_len_same p k (work.Fill len v) (work.Fill len' v') agree = agree.0
work_len_same p k _ _ agree = absurd agree

fill_same : (p : Pages) (k : Mark) (a b : Work) → WorkAgrees p k a b → is_fill b ≡ is_fill a
fill_same p k (work.Half v) (work.Half v') agree = refl
fill_same p k (work.Word v) (work.Word v') agree = refl
fill_same p k (work.Fill len v) (work.Fill len' v') agree = refl
fill_same p k _ _ agree = absurd agree

some_same : (p : Pages) (k : Mark) (a b : Option Operation) → RunsAgree p k a b → is_some b ≡ is_some a
some_same p k None None agree = refl
some_same p k (Some o) (Some o') agree = refl
some_same p k None (Some o') agree = absurd agree
some_same p k (Some o) None agree = absurd agree

erasure_same : (p : Pages) (k : Mark) (a b : Option Operation) → RunsAgree p k a b → is_erasure b ≡ is_erasure a
erasure_same p k None None agree = refl
erasure_same p k (Some o) (Some o') agree = fill_same p k o.work o'.work agree.2
erasure_same p k None (Some o') agree = absurd agree
erasure_same p k (Some o) None agree = absurd agree

range_same : (p : Pages) (k : Mark) (a b : Option Operation) → RunsAgree p k a b → range_of b ≡ range_of a
range_same p k None None agree = refl
range_same p k (Some o) (Some o') agree = ap₂ (λ (x y : ℕ). let r : ℕ × ℕ = (x, y) in Some r) agree.0 (work_len_same p k o.work o'.work agree.2)
range_same p k None (Some o') agree = absurd agree
range_same p k (Some o) None agree = absurd agree

-- the open operations of both runs cover the same cells
pub same_operation : (p : Pages) (m : TargetMarks) (w w' : World) → TargetAgrees p m w w' → state_op w'.state ≡ state_op w.state
same_operation p m w w' agrees = range_same p m.value m.state.operation w'.state.operation agrees.runs ∙ sym (ap (λ (s : UnitState). state_op s) agrees.state)

-- ---- loads

-- a load of a register other than the address register is alike in both runs
load_same : (r : AnyRegisters) (x : ℕ) (o o' : Option Operation) (offset : ℕ) → is_some o' ≡ is_some o → is_erasure o' ≡ is_erasure o →
    is_address r offset ≡ false →
    any_load (with_address r x) o' offset ≡ any_load r o offset
unfolding fc1_load fpec_load
load_same (Fc1 r) x o o' offset some erasure other = rw (other, some) refl
load_same (Fpec r) x o o' offset some erasure other = rw (other, some, erasure) refl

load_alike : (r : AnyRegisters) (o o' : Option Operation) (offset : ℕ) → is_some o' ≡ is_some o → is_erasure o' ≡ is_erasure o →
    any_load r o' offset ≡ any_load r o offset
unfolding fc1_load fpec_load
load_alike (Fc1 r) o o' offset some erasure = rw some refl
load_alike (Fpec r) o o' offset some erasure = rw (some, erasure) refl

same_answer : (p : Pages) (quiet : Bool) (a a' : Result ℕ BusEnd) (v : ℕ) → a' ≡ a → or_quiet 0 quiet a ≡ Ok v → LoadAgrees p Known v (or_quiet 0 quiet a')
same_answer p quiet a a' v same is = record { value = v; answered = ap (or_quiet 0 quiet) same ∙ is; says = refl }

any_answer : (p : Pages) (quiet : Bool) (v u : ℕ) → LoadAgrees p Any v (or_quiet 0 quiet (Ok u))
any_answer p true v u = record { value = u; answered = refl; says = tt }
any_answer p false v u = record { value = u; answered = refl; says = tt }

-- a load of the address register is answered in both runs, and nothing is said of its value
address_loads : (p : Pages) (quiet : Bool) (r : AnyRegisters) (x v offset : ℕ) (o o' : Option Operation) → is_address r offset ≡ true →
    or_quiet 0 quiet (answered (any_load r o offset)) ≡ Ok v → LoadAgrees p Any v (or_quiet 0 quiet (answered (any_load (with_address r x) o' offset)))
unfolding fc1_load fpec_load
address_loads p quiet (Fc1 r) x v offset o o' e is =
    let at : offset ≡ 12 = eqb-true _ _ e in
    subst (λ (n : ℕ). LoadAgrees p Any v (or_quiet 0 quiet (answered (any_load (with_address (Fc1 r) x) o' n)))) (sym at) (any_answer p quiet v x)
address_loads p quiet (Fpec r) x v offset o o' e is =
    let at : offset ≡ 0x14 = eqb-true _ _ e in
    subst (λ (n : ℕ). LoadAgrees p Any v (or_quiet 0 quiet (answered (any_load (with_address (Fpec r) x) o' n)))) (sym at) (any_answer p quiet v x)

-- the mark of a cell as the mark of a byte
byte_says : (p : Pages) (c : CellMark) (v v' : ℕ) → CellSays p c v v' → Says p (byte_of c) v v'
byte_says p Blank v v' says = says.1 ∙ sym says.0
byte_says p (Holds x) v v' says = says

-- the cells of a load, as one number

one_value : (l : List ℕ) → slice_index l 0 ≡ value_of (take 1 l)
one_value [] = refl
one_value (a ∷ l) = omega arith

two_value : (l : List ℕ) → slice_index l 0 + 0x100 * slice_index l 1 ≡ value_of (take 2 l)
two_value [] = refl
two_value (a ∷ []) = refl
two_value (a ∷ b ∷ l) = omega arith

four_value : (l : List ℕ) → slice_index l 0 + 0x100 * slice_index l 1 + 0x10000 * slice_index l 2 + 0x1000000 * slice_index l 3 ≡ value_of (take 4 l)
four_value [] = refl
four_value (a ∷ []) = omega arith
four_value (a ∷ b ∷ []) = omega arith
four_value (a ∷ b ∷ c ∷ []) = omega arith
four_value (a ∷ b ∷ c ∷ d ∷ l) = omega arith

module _ (p : Pages) (m : TargetMarks) (w w' : World) (agrees : TargetAgrees p m w w') where
  abbrev runs' : Option Operation
  runs' = w'.state.operation

  is_some_same : is_some runs' ≡ is_some m.state.operation
  is_some_same = some_same p m.value m.state.operation runs' agrees.runs

  is_erasure_same : is_erasure runs' ≡ is_erasure m.state.operation
  is_erasure_same = erasure_same p m.value m.state.operation runs' agrees.runs

  register_loads : (quiet : Bool) (offset v : ℕ) (known : Bool) → Alike known m.state.registers w'.state.registers → (ar : Bool) →
      is_address m.state.registers offset ≡ ar
      → or_quiet 0 quiet (answered (any_load m.state.registers m.state.operation offset)) ≡ Ok v
      → LoadAgrees p (if known then Known else if ar then Any else Known) v (or_quiet 0 quiet (answered (any_load w'.state.registers runs' offset)))
  register_loads quiet offset v true alike ar e is = same_answer p quiet _ _ v
      (ap answered (ap (λ (r : AnyRegisters). any_load r runs' offset) alike
      ∙ load_alike m.state.registers m.state.operation runs' offset is_some_same is_erasure_same)) is
  register_loads quiet offset v false alike false e is = same_answer p quiet _ _ v
      (ap answered (ap (λ (r : AnyRegisters). any_load r runs' offset) alike.1
      ∙ load_same m.state.registers alike.0 m.state.operation runs' offset is_some_same is_erasure_same e)) is
  register_loads quiet offset v false alike true e is =
      subst (λ (r : AnyRegisters). LoadAgrees p Any v (or_quiet 0 quiet (answered (any_load r runs' offset)))) (sym alike.1)
      (address_loads p quiet m.state.registers alike.0 v offset m.state.operation runs' e is)

  flash_by : (quiet : Bool) (x x' v : ℕ) (k : Mark) (busy : Bool) → Says p k x x' → or_quiet 0 quiet (if busy then Err bus.Fault else Ok x) ≡ Ok v →
      LoadAgrees p (if busy then Known else k) v (or_quiet 0 quiet (if busy then Err bus.Fault else Ok x'))
  flash_by quiet x x' v k true says is = same_answer p quiet (Err bus.Fault) (Err bus.Fault) v refl is
  flash_by true x x' v k false says is = let same : x ≡ v = cc in record { value = x'; answered = refl; says = subst (λ (n : ℕ). Says p k n x') same says }
  flash_by false x x' v k false says is = let same : x ≡ v = cc in record { value = x'; answered = refl; says = subst (λ (n : ℕ). Says p k n x') same says }

  -- the bytes of the cells that have marks
  seen_cells : List ℕ → List ℕ
  seen_cells cells = take (length m.cells) (drop m.from cells)

  seen_at : (cells : List ℕ) (k : ℕ) → k < length m.cells → slice_index (seen_cells cells) k ≡ slice_index cells (m.from + k)
  unfolding seen_cells
  seen_at cells k below = get_or-take (length m.cells) (drop m.from cells) k 0 below ∙ get_or-drop m.from cells k 0

  seen_long : (cells : List ℕ) → m.from + length m.cells ≤ length cells → length (seen_cells cells) ≡ length (map byte_of m.cells)
  unfolding seen_cells
  seen_long cells fits = length-take (length m.cells) (drop m.from cells) ∙ omega (arith, fits, length-drop m.from cells, length-map m.cells byte_of)

  seen_agree : BytesAgree p (map byte_of m.cells) (seen_cells w.cells) (seen_cells w'.cells)
  seen_agree = record {
    here = seen_long w.cells agrees.cells.here;
    there = seen_long w'.cells (omega (arith, agrees.cells.here, agrees.cells.there));
    says = λ k. ⊎_elim
        (λ (below : k < length m.cells).
        let e : get_or (map byte_of m.cells) k Any ≡ byte_of (get_or m.cells k (Holds Any)) = get_or-map byte_of m.cells k (Holds Any) Any below in
        rw (e, seen_at w.cells k below, seen_at w'.cells k below) (byte_says p (get_or m.cells k (Holds Any)) _ _ (agrees.cells.says k)))
        (λ (past : length m.cells ≤ k).
        let e : get_or (map byte_of m.cells) k Any ≡ Any = get_or_past (map byte_of m.cells) k Any (omega (arith, past, length-map m.cells byte_of)) in rw e tt)
        (cases_lt k (length m.cells));
  }

  -- a number of the cells that have marks is the same number of all cells
  number_seen : (cells : List ℕ) (width i : ℕ) → (width ≡ 1) ⊎ ((width ≡ 2) ⊎ (width ≡ 4)) → i + width ≤ length m.cells
      → value_at (seen_cells cells) width i ≡ value_of (cells_at cells (m.from + i) width)
  number_seen cells width i wide fits =
      let at : (j : ℕ) → i + j < length m.cells → slice_index (seen_cells cells) (i + j) ≡ slice_index (drop (m.from + i) cells) j =
      λ j below. seen_at cells (i + j) below ∙ ap (slice_index cells) (sym (add_assoc m.from i j)) ∙ sym (get_or-drop (m.from + i) cells j 0) in
      let zero' : i + 0 ≡ i = omega arith in
      ⊎_elim
      (λ (one : width ≡ 1). rw one (ap (slice_index (seen_cells cells)) (sym zero') ∙ at 0 (omega (arith, fits, one)) ∙ one_value (drop (m.from + i) cells)))
      (λ (more : (width ≡ 2) ⊎ (width ≡ 4)). ⊎_elim
      (λ (two : width ≡ 2). rw two
      (ap₂ (λ (x y : ℕ). x + 0x100 * y) (ap (slice_index (seen_cells cells)) (sym zero') ∙ at 0 (omega (arith, fits, two))) (at 1 (omega (arith, fits, two)))
      ∙ two_value (drop (m.from + i) cells)))
      (λ (four : width ≡ 4).
      let a : slice_index (seen_cells cells) i ≡ slice_index (drop (m.from + i) cells) 0 = ap (slice_index (seen_cells cells)) (sym zero')
      ∙ at 0 (omega (arith, fits, four)) in
      let b : slice_index (seen_cells cells) (i + 1) ≡ slice_index (drop (m.from + i) cells) 1 = at 1 (omega (arith, fits, four)) in
      let c : slice_index (seen_cells cells) (i + 2) ≡ slice_index (drop (m.from + i) cells) 2 = at 2 (omega (arith, fits, four)) in
      let d : slice_index (seen_cells cells) (i + 3) ≡ slice_index (drop (m.from + i) cells) 3 = at 3 (omega (arith, fits, four)) in
      rw four (rw (a, b, c, d) (four_value (drop (m.from + i) cells))))
      more)
      wide

  cells_by : (width at : ℕ) (hit : Bool) → (nat_le m.from at && (nat_le (at - m.from + width)
      (length m.cells) && (nat_eq width 1 || (nat_eq width 2 || nat_eq width 4)))) ≡ hit
      → Says p (if hit then number_mark (map byte_of m.cells) width (at - m.from) else Any) (value_of (cells_at w.cells at width))
      (value_of (cells_at w'.cells at width))
  cells_by width at true e =
      let one : (nat_le m.from at ≡ true) × ((nat_le (at - m.from + width)
      (length m.cells) && (nat_eq width 1 || (nat_eq width 2 || nat_eq width 4))) ≡ true) = and_parts _ _ e in
      let two : (nat_le (at - m.from + width) (length m.cells) ≡ true) × ((nat_eq width 1 || (nat_eq width 2 || nat_eq width 4)) ≡ true) =
      and_parts _ _ one.1 in
      let low : m.from ≤ at = leb-true _ _ one.0 in
      let fits : at - m.from + width ≤ length m.cells = leb-true _ _ two.0 in
      let wide : (width ≡ 1) ⊎ ((width ≡ 2) ⊎ (width ≡ 4)) = ⊎_elim
      (λ (x : nat_eq width 1 ≡ true). inl (eqb-true _ _ x))
      (λ (more : (nat_eq width 2 || nat_eq width 4) ≡ true). inr (⊎_elim (λ (x : nat_eq width 2 ≡ true). inl (eqb-true _ _ x))
      (λ (x : nat_eq width 4 ≡ true). inr (eqb-true _ _ x)) (or_cases _ _ more)))
      (or_cases _ _ two.1) in
      let there : m.from + (at - m.from) ≡ at = omega (arith, low) in
      let number : (cells : List ℕ) → value_at (seen_cells cells) width (at - m.from) ≡ value_of (cells_at cells at width) =
      λ cells. number_seen cells width (at - m.from) wide fits ∙ ap (λ (n : ℕ). value_of (cells_at cells n width)) there in
      subst (λ (n : ℕ). Says p (number_mark (map byte_of m.cells) width (at - m.from)) n (value_of (cells_at w'.cells at width))) (number w.cells)
      (subst (λ (n : ℕ). Says p (number_mark (map byte_of m.cells) width (at - m.from)) (value_at (seen_cells w.cells) width (at - m.from)) n) (number w'.cells)
      (number_says p (map byte_of m.cells) (seen_cells w.cells) (seen_cells w'.cells) seen_agree width (at - m.from)))
  cells_by width at false e = tt

  device_loads : (quiet : Bool) (width v : ℕ) (at : Place) → or_quiet 0 quiet (load_at any_table m.state w.cells width at) ≡ Ok v →
      LoadAgrees p (device_load m width at) v (or_quiet 0 quiet (load_at any_table w'.state w'.cells width at))
  device_loads quiet width v (place.Register offset) is = register_loads quiet offset v m.address agrees.registers (is_address m.state.registers offset) refl is
  device_loads quiet width v (place.Flash found) is = rw is_some_same (flash_by quiet _ _ v (cells_mark m width found.place) (is_some m.state.operation)
      (cells_by width found.place _ refl) is)
  device_loads quiet width v place.Nowhere is = same_answer p quiet (Err bus.Fault) (Err bus.Fault) v refl is

  load_by : (width at v : ℕ) (o : Option ℕ) → (load_answer w width at (option_map (λ i. value_at w.ram width i) o)).0 ≡ Ok v →
      LoadAgrees p (ram_or m width at o) v (load_answer w' width at (option_map (λ i. value_at w'.ram width i) o)).0
  unfolding load_row
  load_by width at v (Some i) is =
      let same : value_at w.ram width i ≡ v = cc in
      record {
        value = value_at w'.ram width i;
        answered = refl;
        says = subst (λ (n : ℕ). Says p (number_mark m.ram width i) n (value_at w'.ram width i)) same
            (number_says p m.ram w.ram w'.ram agrees.ram width i);
      }
  load_by width at v None is =
      let here : (map : FlashMap) (s : UnitState) → Result ℕ BusEnd =
      λ map s. or_quiet 0 (in_quiet map.quiet at) (load_at any_table s w.cells width (device_place map at width)) in
      let there : (map : FlashMap) → Result ℕ BusEnd =
      λ map. or_quiet 0 (in_quiet map.quiet at) (load_at any_table w'.state w'.cells width (device_place map at width)) in
      subst (λ (a : Result ℕ BusEnd). LoadAgrees p (device_load m width (device_place m.map at width)) v a) (sym (ap there agrees.map'))
      (device_loads (in_quiet m.map.quiet at) width v (device_place m.map at width) (sym (ap₂ here agrees.map agrees.state) ∙ is))

  place_here : (at width : ℕ) → place_of w.ram_base (length w.ram) at width ≡ place_of m.base (length m.ram) at width
  place_here at width = ap₂ (λ (b n : ℕ). place_of b n at width) agrees.base agrees.ram.here

  place_there : (at width : ℕ) → place_of w'.ram_base (length w'.ram) at width ≡ place_of m.base (length m.ram) at width
  place_there at width = ap₂ (λ (b n : ℕ). place_of b n at width) agrees.base' agrees.ram.there

  target_loads : (width at v : ℕ) → (world_answer w (Load width at)).0 ≡ Ok v →
      LoadAgrees p (ram_or m width at (place_of m.base (length m.ram) at width)) v (world_answer w' (Load width at)).0
  unfolding world_answer
  target_loads width at v is =
      let here : (o : Option ℕ) → Result ℕ BusEnd = λ o. (load_answer w width at (option_map (λ i. value_at w.ram width i) o)).0 in
      let there : (o : Option ℕ) → Result ℕ BusEnd = λ o. (load_answer w' width at (option_map (λ i. value_at w'.ram width i) o)).0 in
      let o : Option ℕ = place_of m.base (length m.ram) at width in
      subst (λ (a : Result ℕ BusEnd). LoadAgrees p (ram_or m width at o) v a) (sym (ap there (place_there at width)))
      (load_by width at v o (sym (ap here (place_here at width)) ∙ is))

load_stays : (w : World) (width at : ℕ) (o : Option ℕ) → (load_answer w width at o).1 ≡ w
load_stays w width at None = refl
load_stays w width at (Some v) = refl

target_stays : (w : World) (width at : ℕ) → (world_answer w (Load width at)).1 ≡ w
unfolding world_answer
target_stays w width at = load_stays w width at (loaded_from (ram_at w.ram_base w.ram) width at)

-- ---- stores

module _ (p : Pages) (m : TargetMarks) (w w' : World) (agrees : TargetAgrees p m w w') where
  abbrev row : ℕ → ℕ → Place → Result (Prim.Unit {0}) BusEnd × UnitState
  row width v at = store_at any_table m.map m.state w.cells width v at

  abbrev row' : ℕ → ℕ → Place → Result (Prim.Unit {0}) BusEnd × UnitState
  row' width v at = store_at any_table m.map w'.state w'.cells width v at

  abbrev done : ℕ → ℕ → Effect × AnyRegisters
  done offset v = any_store m.map m.state.registers m.state.operation offset v

  abbrev done' : ℕ → ℕ → Effect × AnyRegisters
  done' offset v = any_store m.map w'.state.registers w'.state.operation offset v

  is_some' : is_some w'.state.operation ≡ is_some m.state.operation
  is_some' = some_same p m.value m.state.operation w'.state.operation agrees.runs

  -- the effect is the same in both runs, and so are the registers in all but perhaps the address
  register_by : (width offset v : ℕ) (known : Bool) → (done' offset v).0 ≡ (done offset v).0 → Alike known (done offset v).1 (done' offset v).1
      → DeviceStored p m (record (registered m offset v) { address = known }) (row width v (place.Register offset)) (row' width v (place.Register offset))
  register_by width offset v known same alike = record {
    answer = ap (λ (e : Effect). answer_of e) same;
    state = refl;
    registers = alike;
    runs = subst (λ (x : Effect). RunsAgree p (value_after (done offset v).0 m.value) (begun m.state.operation (done offset v).0) (begun w'.state.operation x))
        (sym same) (begun_agree p m.value m.state.operation w'.state.operation (done offset v).0 agrees.runs);
    base = refl;
    map = refl;
    ram = refl;
    from = refl;
    cells = refl;
  }

  address_known : (width offset v : ℕ) → w'.state.registers ≡ m.state.registers → (known : Bool)
      → DeviceStored p m (record (registered m offset v) { address = known }) (row width v (place.Register offset)) (row' width v (place.Register offset))
  address_known width offset v registers known =
      let same : done' offset v ≡ done offset v = ap (λ (r : AnyRegisters). any_store m.map r w'.state.operation offset v) registers
      ∙ store_alike m.map m.state.registers m.state.operation w'.state.operation offset v is_some' in
      register_by width offset v known (ap (λ (q : Effect × AnyRegisters). q.0) same)
      (alike_same known (done offset v).1 (done' offset v).1 (ap (λ (q : Effect × AnyRegisters). q.1) same))

  -- a store where the address register isn't known
  unaddressed_by : (width offset v x : ℕ) (m' : TargetMarks) (takes spared' : Bool) → w'.state.registers ≡ with_address m.state.registers x
      → takes_address m.state.registers m.state.operation offset ≡ takes → spares m.state.registers offset v ≡ spared' → m.address ≡ false
      → (if takes then Some (let y : TargetMarks = record (registered m offset v) {
        address =
            true;
      } in y) else if spared' then Some (registered m offset v) else None) ≡ Some m'
      → DeviceStored p m m' (row width v (place.Register offset)) (row' width v (place.Register offset))
  unaddressed_by width offset v x m' true spared' other e f unknown is =
      let same : done' offset v ≡ done offset v =
      ap (λ (q : AnyRegisters). any_store m.map q w'.state.operation offset v) other
      ∙ any_taken m.map m.state.registers x m.state.operation w'.state.operation offset v is_some' e in
      let y : TargetMarks = record (registered m offset v) { address = true } in
      subst (λ (z : TargetMarks). DeviceStored p m z (row width v (place.Register offset)) (row' width v (place.Register offset))) (same_marks y m' is)
      (register_by width offset v true (ap (λ (q : Effect × AnyRegisters). q.0) same) (ap (λ (q : Effect × AnyRegisters). q.1) same))
  unaddressed_by width offset v x m' false true other e f unknown is =
      let same : done' offset v ≡ addressed x (done offset v) =
      ap (λ (q : AnyRegisters). any_store m.map q w'.state.operation offset v) other
      ∙ any_spared m.map m.state.registers x m.state.operation w'.state.operation offset v is_some' f in
      subst (λ (z : TargetMarks). DeviceStored p m z (row width v (place.Register offset)) (row' width v (place.Register offset)))
      (same_marks (registered m offset v) m' is)
      (subst (λ (known : Bool). DeviceStored p m (record (registered m offset v) { address = known }) (row width v (place.Register offset))
      (row' width v (place.Register offset))) (sym unknown)
      (register_by width offset v false (ap (λ (q : Effect × AnyRegisters). q.0) same) (x, ap (λ (q : Effect × AnyRegisters). q.1) same)))
  unaddressed_by width offset v x m' false false other e f unknown is = cc

  unaddressed_stores : (width offset v : ℕ) (m' : TargetMarks) → m.address ≡ false → Alike false m.state.registers w'.state.registers
      → unaddressed m offset v ≡ Some m' → DeviceStored p m m' (row width v (place.Register offset)) (row' width v (place.Register offset))
  unaddressed_stores width offset v m' unknown alike is =
      unaddressed_by width offset v alike.0 m' (takes_address m.state.registers m.state.operation offset) (spares m.state.registers offset v)
      alike.1 refl refl unknown is

  register_known : (width offset v : ℕ) (m' : TargetMarks) (known : Bool) → m.address ≡ known → Alike known m.state.registers w'.state.registers
      → (if known then Some (registered m offset v) else unaddressed m offset v) ≡ Some m'
      → DeviceStored p m m' (row width v (place.Register offset)) (row' width v (place.Register offset))
  register_known width offset v m' true e alike is =
      subst (λ (z : TargetMarks). DeviceStored p m z (row width v (place.Register offset)) (row' width v (place.Register offset)))
      (same_marks (registered m offset v) m' is)
      (address_known width offset v alike m.address)
  register_known width offset v m' false e alike is = unaddressed_stores width offset v m' e alike is

  register_stores : (width offset v v' : ℕ) (k : Mark) (m' : TargetMarks) (hit : Bool) → is_known k ≡ hit → Says p k v v'
      → (if hit then (if m.address then Some (registered m offset v) else unaddressed m offset v) else None) ≡ Some m'
      → DeviceStored p m m' (row width v (place.Register offset)) (row' width v' (place.Register offset))
  register_stores width offset v v' k m' true e says is =
      subst (λ (n : ℕ). DeviceStored p m m' (row width v (place.Register offset)) (row' width n (place.Register offset))) (sym (known_same p k v v' says e))
      (register_known width offset v m' m.address refl agrees.registers is)
  register_stores width offset v v' k m' false e says is = cc

  half_is_blank : (at : ℕ) → half_blank m at ≡ true → (all_are 0xFF (cells_at w.cells at 2) ≡ true) × (all_are 0xFF (cells_at w'.cells at 2) ≡ true)
  half_is_blank at e =
      let one : (nat_le m.from at ≡ true) × ((is_blank m.cells (at - m.from) && is_blank m.cells (at - m.from + 1)) ≡ true) = and_parts _ _ e in
      let two : (is_blank m.cells (at - m.from) ≡ true) × (is_blank m.cells (at - m.from + 1) ≡ true) = and_parts _ _ one.1 in
      let low : m.from ≤ at = leb-true _ _ one.0 in
      let first : m.from + (at - m.from) ≡ at = omega (arith, low) in
      let second : m.from + (at - m.from + 1) ≡ at + 1 = omega (arith, low) in
      let within : at - m.from + 1 < length m.cells = blank_within m.cells (at - m.from + 1) two.1 in
      let fits : at + 2 ≤ length w.cells = omega (arith, within, low, agrees.cells.here) in
      let a : (slice_index w.cells (m.from + (at - m.from)) ≡ 0xFF) × (slice_index w'.cells (m.from + (at - m.from)) ≡ 0xFF) =
      blank_says p _ _ _ two.0 (agrees.cells.says (at - m.from)) in
      let b : (slice_index w.cells (m.from + (at - m.from + 1)) ≡ 0xFF) × (slice_index w'.cells (m.from + (at - m.from + 1)) ≡ 0xFF) =
      blank_says p _ _ _ two.1 (agrees.cells.says (at - m.from + 1)) in
      let here : (cells : List ℕ) → Type 0 = λ cells. (at + 2 ≤ length cells) → (slice_index cells (m.from + (at - m.from)) ≡ 0xFF) →
      (slice_index cells (m.from + (at - m.from + 1)) ≡ 0xFF) → all_are 0xFF (cells_at cells at 2) ≡ true in
      let all : (cells : List ℕ) → here cells = λ cells f x y. blank_two cells at f (ap (slice_index cells) (sym first)
      ∙ x) (ap (slice_index cells) (sym second) ∙ y) in
      (all w.cells fits a.0 b.0, all w'.cells (omega (arith, fits, agrees.cells.there)) a.1 b.1)

  unit_is_blank : (width at : ℕ) → (width ≡ 2) ⊎ (width ≡ 4) → unit_blank m width at ≡ true
      → (all_are 0xFF (cells_at w.cells at width) ≡ true) × (all_are 0xFF (cells_at w'.cells at width) ≡ true)
  unit_is_blank width at (inl two) e =
      let parts : (half_blank m at ≡ true) × ((nat_eq width 2 || half_blank m (at + 2)) ≡ true) = and_parts _ _ e in
      subst (λ (n : ℕ). (all_are 0xFF (cells_at w.cells at n) ≡ true) × (all_are 0xFF (cells_at w'.cells at n) ≡ true)) (sym two) (half_is_blank at parts.0)
  unit_is_blank width at (inr four) e =
      let parts : (half_blank m at ≡ true) × ((nat_eq width 2 || half_blank m (at + 2)) ≡ true) = and_parts _ _ e in
      let other : nat_eq width 2 ≡ false = ap (λ (n : ℕ). nat_eq n 2) four in
      let last : half_blank m (at + 2) ≡ true = subst (λ (x : Bool). (x || half_blank m (at + 2)) ≡ true) other parts.1 in
      let a : (all_are 0xFF (cells_at w.cells at 2) ≡ true) × (all_are 0xFF (cells_at w'.cells at 2) ≡ true) = half_is_blank at parts.0 in
      let b : (all_are 0xFF (cells_at w.cells (at + 2) 2) ≡ true) × (all_are 0xFF (cells_at w'.cells (at + 2) 2) ≡ true) = half_is_blank (at + 2) last in
      subst (λ (n : ℕ). (all_are 0xFF (cells_at w.cells at n) ≡ true) × (all_are 0xFF (cells_at w'.cells at n) ≡ true)) (sym four)
      (blank_four w.cells at a.0 b.0, blank_four w'.cells at a.1 b.1)

  units : (found : Found) (v v' : ℕ) (k : Mark) (m' : TargetMarks) (width : ℕ) (hit : Bool)
      → (programs_unit m.state.registers found.area width && unit_blank m width found.place) ≡ hit → Says p k v v' → m.state.operation ≡ None
      → (if hit then Some (let x : TargetMarks = record m {
        state = record { registers = m.state.registers; operation = Some (unit_of_value m.map found.place width v) };
        value = k;
      } in x) else None) ≡ Some m' → DeviceStored p m m' (row width v (place.Flash found)) (row' width v' (place.Flash found))
  units found v v' k m' width true e says none is =
      let one : (programs_unit m.state.registers found.area width ≡ true) × (unit_blank m width found.place ≡ true) = and_parts _ _ e in
      let blank : (all_are 0xFF (cells_at w.cells found.place width) ≡ true) × (all_are 0xFF (cells_at w'.cells found.place width) ≡ true) =
      unit_is_blank width found.place (unit_width m.state.registers found.area width one.0) one.1 in
      let may' : programs_unit w'.state.registers found.area width ≡ true =
      alike_programs m.address m.state.registers w'.state.registers found.area width agrees.registers ∙ one.0 in
      let runs : w'.state.operation ≡ None =
      none_runs p m.value w'.state.operation (subst (λ (o : Option Operation). RunsAgree p m.value o w'.state.operation) none agrees.runs) in
      let here : row width v (place.Flash found) ≡ (
        Ok tt,
        record {
          registers = m.state.registers;
          operation =
              Some (unit_of_value m.map found.place width v);
        },
      ) =
      ap (λ (s : UnitState). store_at any_table m.map s w.cells width v (place.Flash found)) (state_is m.state m.state.registers None refl none)
      ∙ unit_row m.map m.state.registers found width v w.cells one.0 blank.0 in
      let there : row' width v' (place.Flash found) ≡ (
        Ok tt,
        record {
          registers = w'.state.registers;
          operation =
              Some (unit_of_value m.map found.place width v');
        },
      ) =
      ap (λ (s : UnitState). store_at any_table m.map s w'.cells width v' (place.Flash found)) (state_is w'.state w'.state.registers None refl runs)
      ∙ unit_row m.map w'.state.registers found width v' w'.cells may' blank.1 in
      let x : TargetMarks = record m {
        state = record {
          registers = m.state.registers;
          operation =
              Some (unit_of_value m.map found.place width v);
        };
        value = k;
      } in
      subst (λ (y : TargetMarks). DeviceStored p m y (row width v (place.Flash found)) (row' width v' (place.Flash found))) (same_marks x m' is)
      (record {
        answer = ap (λ (q : Result (Prim.Unit {0}) BusEnd × UnitState). q.0) there ∙ sym (ap (λ (q : Result (Prim.Unit {0}) BusEnd × UnitState). q.0) here);
        state = ap (λ (q : Result (Prim.Unit {0}) BusEnd × UnitState). q.1) here;
        registers = subst (λ (q : Result (Prim.Unit {0}) BusEnd × UnitState). Alike m.address m.state.registers q.1.registers) (sym there) agrees.registers;
        runs = subst (λ (q : Result (Prim.Unit {0}) BusEnd × UnitState). RunsAgree p k (Some (unit_of_value m.map found.place width v)) q.1.operation)
            (sym there)
            (refl, refl, unit_agrees p k v v' (nat_eq width 2) says);
        base = refl;
        map = refl;
        ram = refl;
        from = refl;
        cells = refl;
      })
  units found v v' k m' width false e says none is = cc

  flash_stores : (found : Found) (width v v' : ℕ) (k : Mark) (m' : TargetMarks) (o : Option Operation) → Says p k v v'
      → m.state.operation ≡ o → begins_unit m width v found k o ≡ Some m'
      → DeviceStored p m m' (row width v (place.Flash found)) (row' width v' (place.Flash found))
  flash_stores found width v v' k m' None says none is =
      units found v v' k m' width (programs_unit m.state.registers found.area width && unit_blank m width found.place) refl says none is
  flash_stores found width v v' k m' (Some o) says none is = cc

  device_stores : (width v v' : ℕ) (k : Mark) (m' : TargetMarks) (at : Place) → Says p k v v' → device_store m width v k at ≡ Some m'
      → DeviceStored p m m' (row width v at) (row' width v' at)
  device_stores width v v' k m' (place.Register offset) says is = register_stores width offset v v' k m' (is_known k) refl says is
  device_stores width v v' k m' (place.Flash found) says is = flash_stores found width v v' k m' m.state.operation says refl is
  device_stores width v v' k m' place.Nowhere says is =
      subst (λ (x : TargetMarks). DeviceStored p m x (row width v place.Nowhere) (row' width v' place.Nowhere)) (same_marks m m' is)
      (record {
        answer = refl;
        state = refl;
        registers = agrees.registers;
        runs = agrees.runs;
        base = refl;
        map = refl;
        ram = refl;
        from = refl;
        cells = refl;
      })

  device_agrees : (width at v v' x : ℕ) (k : Mark) (m' : TargetMarks) → Says p k v v' → device_store m width v k (device_place m.map at width) ≡ Some m'
      → (store_answer w width at v None).0 ≡ Ok x
      → ((store_answer w' width at v' None).0 ≡ Ok x) × TargetAgrees p m' (store_answer w width at v None).1 (store_answer w' width at v' None).1
  unfolding store_row
  device_agrees width at v v' x k m' says is answered =
      let pl : Place = device_place m.map at width in
      let d : DeviceStored p m m' (row width v pl) (row' width v' pl) = device_stores width v v' k m' pl says is in
      let rh : Result (Prim.Unit {0}) BusEnd × UnitState = store_at any_table w.map w.state w.cells width v (device_place w.map at width) in
      let rt : Result (Prim.Unit {0}) BusEnd × UnitState = store_at any_table w'.map w'.state w'.cells width v' (device_place w'.map at width) in
      let here : rh ≡ row width v pl =
      ap₂ (λ (map : FlashMap) (s : UnitState). store_at any_table map s w.cells width v (device_place map at width)) agrees.map agrees.state in
      let there : rt ≡ row' width v' pl = ap (λ (map : FlashMap). store_at any_table map w'.state w'.cells width v' (device_place map at width)) agrees.map' in
      let same : rt.0 ≡ rh.0 = ap (λ (q : Result (Prim.Unit {0}) BusEnd × UnitState). q.0) there ∙ d.answer ∙
      sym (ap (λ (q : Result (Prim.Unit {0}) BusEnd × UnitState). q.0) here) in
      let maps : w'.map ≡ w.map = agrees.map' ∙ sym agrees.map in (
        ap₂ (λ (map : FlashMap) (a : Result (Prim.Unit {0}) BusEnd). stored (or_quiet tt (in_quiet map.quiet at) a)) maps same ∙ answered,
        record {
          base = agrees.base ∙ sym d.base;
          base' = agrees.base' ∙ sym d.base;
          map = agrees.map ∙ sym d.map;
          map' = agrees.map' ∙ sym d.map;
          ram = subst (λ (ms : List Mark). BytesAgree p ms w.ram w'.ram) (sym d.ram) agrees.ram;
          state = ap (λ (q : Result (Prim.Unit {0}) BusEnd × UnitState). q.1) here ∙ d.state;
          registers = subst (λ (q : Result (Prim.Unit {0}) BusEnd × UnitState). Alike m'.address m'.state.registers q.1.registers) (sym there) d.registers;
          runs = subst (λ (q : Result (Prim.Unit {0}) BusEnd × UnitState). RunsAgree p m'.value m'.state.operation q.1.operation) (sym there) d.runs;
          cells = subst (λ (n : ℕ). CellsAgree p n m'.cells w.cells w'.cells) (sym d.from)
              (subst (λ (ms : List CellMark). CellsAgree p m.from ms w.cells w'.cells) (sym d.cells) agrees.cells);
        },
      )

  stored_by : ArePages p → (width at v v' x : ℕ) (k : Mark) (m' : TargetMarks) (o : Option ℕ) → Says p k v v' → ram_or_store m width at v k o ≡ Some m'
      → (store_answer w width at v (option_map (λ i. bytes_with w.ram width i v) o)).0 ≡ Ok x
      → ((store_answer w' width at v' (option_map (λ i. bytes_with w'.ram width i v') o)).0 ≡ Ok x)
      × TargetAgrees p m' (store_answer w width at v (option_map (λ i. bytes_with w.ram width i v) o)).1
      (store_answer w' width at v' (option_map (λ i. bytes_with w'.ram width i v') o)).1
  stored_by bytes width at v v' x k m' (Some i) says is answered =
      let y : TargetMarks = record m { ram = marks_with m.ram width i k } in (
        answered,
        subst (λ (z : TargetMarks). TargetAgrees p z (record w { ram = bytes_with w.ram width i v }) (record w' { ram = bytes_with w'.ram width i v' }))
            (same_marks y m' is)
            (record {
              base = agrees.base;
              base' = agrees.base';
              map = agrees.map;
              map' = agrees.map';
              ram = with_agrees p bytes m.ram w.ram w'.ram width i k v v' agrees.ram says;
              state = agrees.state;
              registers = agrees.registers;
              runs = agrees.runs;
              cells = agrees.cells;
            }),
      )
  stored_by bytes width at v v' x k m' None says is answered = device_agrees width at v v' x k m' says is answered

  target_stores : ArePages p → (width at v v' x : ℕ) (k : Mark) (m' : TargetMarks) → Says p k v v'
      → ram_or_store m width at v k (place_of m.base (length m.ram) at width) ≡ Some m' → (world_answer w (Store width at v)).0 ≡ Ok x
      → ((world_answer w' (Store width at v')).0 ≡ Ok x) × TargetAgrees p m' (world_answer w (Store width at v)).1 (world_answer w' (Store width at v')).1
  unfolding world_answer
  target_stores bytes width at v v' x k m' says is answered =
      let here : (o : Option ℕ) → Answer = λ o. store_answer w width at v (option_map (λ i. bytes_with w.ram width i v) o) in
      let there : (o : Option ℕ) → Answer = λ o. store_answer w' width at v' (option_map (λ i. bytes_with w'.ram width i v') o) in
      let o : Option ℕ = place_of m.base (length m.ram) at width in
      let a : here (place_of w.ram_base (length w.ram) at width) ≡ here o = ap here (place_here p m w w' agrees at width) in
      let b : there (place_of w'.ram_base (length w'.ram) at width) ≡ there o = ap there (place_there p m w w' agrees at width) in
      let both : ((there o).0 ≡ Ok x) × TargetAgrees p m' (here o).1 (there o).1 =
      stored_by bytes width at v v' x k m' o says is (sym (ap (λ (q : Answer). q.0) a) ∙ answered) in (
        ap (λ (q : Answer). q.0) b ∙ both.0,
        subst (λ (q : Answer). TargetAgrees p m' q.1 (there (place_of w'.ram_base (length w'.ram) at width)).1) (sym a)
            (subst (λ (q : Answer). TargetAgrees p m' (here o).1 q.1) (sym b) both.1),
      )

some_mark : (a b : Mark) → Some a ≡ Some b → a ≡ b
some_mark a b e = cc

-- the marks of a target are a shadow of it
pub is_shadow : (p : Pages) → ArePages p → IsShadow p world_answer (TargetAgrees p) target_shadow
is_shadow p bytes = record {
  stays = target_stays;
  loads = λ m w w' width at v k agrees marked answered.
      subst (λ (x : Mark). LoadAgrees p x v (world_answer w' (Load width at)).0)
      (some_mark (ram_or m width at (place_of m.base (length m.ram) at width)) k marked) (target_loads p m w w' agrees width at v answered);
  stores = λ m m' w w' width at v v' x k agrees says marked answered. target_stores p m w w' agrees bytes width at v v' x k m' says marked answered;
}
