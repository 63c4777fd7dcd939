-- The marks at the beginning of a call hold, and the marks that it leaves between calls hold for every page.
use Rattle.std.proofs.Common.{◌≡◌, ◌<◌, ◌≤◌, ◌+◌, ◌-◌, ℕ, zero, suc, List, [], ◌∷◌, map, length, replicate, slice_index, get_or}
use Rattle.std.proofs.Common.{Option, Some, None, refl, sym, ap, subst, ◌∙◌, ⊎_elim, arith}
use Rattle.std.proofs.lemmas.Bool.{cases_lt}
use Rattle.std.proofs.lemmas.List.{get_or-replicate, get_or_past, length-replicate, length-map}
use Rattle.bench_model.specs.Calls.{written}
use Rattle.flash_layout.specs.declared.work.Operation.{Operation}
use Rattle.target_core.specs.World.{World}
use Rattle.target_core.specs.Targets.{core_at}
use Rattle.algo_calls.specs.declared.call.Call.{Call}
use Rattle.algo_calls.specs.Setups.{Setup}
use Rattle.algo_calls.specs.Frames.{asked, registers, first_point}
use Rattle.shadow_step.specs.declared.marks.Mark.{Mark}
use Rattle.shadow_step.specs.declared.marks.Mark.TheVariants.{Known, Page, Any}
use Rattle.shadow_step.specs.Marks.{Pages, Says, CoreAgrees}
use Rattle.shadow_step.specs.Bytes.{BytesAgree}
use Rattle.duty_proofs.specs.Lockstep.{PointAgrees}
use Rattle.duty_proofs.specs.declared.cells.CellMark.{CellMark}
use Rattle.duty_proofs.specs.TargetMarks.{TargetMarks, CellsAgree, RunsAgree, TargetAgrees, laid}
use Rattle.duty_proofs.specs.Starts.{all_known, names, started, unnamed, forgotten}
use Rattle.duty_proofs.proofs.NameLemmas.{names_long}
use Rattle.duty_proofs.proofs.LaidLemmas.{laid_len, laid_before, laid_in, laid_after}

-- the frame of a call

known_or_any : (p : Pages) (k v : ℕ) → Says p (get_or (replicate 16 Known) k Any) v v
known_or_any p k v = ⊎_elim
    (λ (below : k < 16). let e : get_or (replicate 16 Known) k Any ≡ Known = get_or-replicate 16 k Known Any below in rw e refl)
    (λ (past : 16 ≤ k). let e : get_or (replicate 16 Known) k Any ≡ Any =
    get_or_past (replicate 16 Known) k Any (omega (arith, past, length-replicate 16 Known)) in
    rw e tt)
    (cases_lt k 16)

frame_agrees : (p : Pages) (regs : List ℕ) → length regs ≡ 16 → CoreAgrees p all_known (core_at regs) (core_at regs)
frame_agrees p regs long = record {
  many = length-replicate 16 Known;
  here = long;
  there = long;
  regs = λ k. known_or_any p k (slice_index regs k);
  n = λ h. refl;
  z = λ h. refl;
  c = λ h. refl;
  v = λ h. refl;
  primask = λ h. refl;
}

-- the buffer of a call

pub name_at : (i n j : ℕ) (d : Mark) → j < n → get_or (names i n) j d ≡ Page 1 (i + j)
unfolding names
name_at i zero j d below = absurd (omega (arith, below))
name_at i (suc n) zero d below = let e : i ≡ i + 0 = omega arith in ap (Page 1) e
name_at i (suc n) (suc j) d below =
    let e : i + 1 + j ≡ i + suc j = omega arith in name_at (i + 1) n j d (omega (arith, below)) ∙ ap (Page 1) e

buffer_agrees : (p : Pages) (at : ℕ) (ms : List Mark) (ram ram' : List ℕ) → BytesAgree p ms ram ram' → length p.there ≡ length p.here →
    at + length p.here ≤ length ms →
    BytesAgree p (laid at (names 0 (length p.here)) ms) (written at p.here ram) (written at p.there ram')
buffer_agrees p at ms ram ram' agree same fits =
    let n : ℕ = length p.here in
    let km : length (names 0 (length p.here)) ≡ length p.here = names_long 0 (length p.here) in
    let fit_marks : at + length (names 0 (length p.here)) ≤ length ms = omega (arith, fits, km) in
    let fit : at + length p.here ≤ length ram = omega (arith, fits, agree.here) in
    let fit' : at + length p.there ≤ length ram' = omega (arith, fits, same, agree.there) in
    let l : length (laid at (names 0 (length p.here)) ms) ≡ length ms = laid_len at (names 0 (length p.here)) ms fit_marks in
    record {
      here = laid_len at p.here ram fit ∙ agree.here ∙ sym l;
      there = laid_len at p.there ram' fit' ∙ agree.there ∙ sym l;
      says = λ j. ⊎_elim
          (λ (before : j < at).
          let x : get_or (laid at (names 0 (length p.here)) ms) j Any ≡ get_or ms j Any = laid_before at (names 0 (length p.here)) ms fit_marks j Any before in
          let y : slice_index (written at p.here ram) j ≡ slice_index ram j = laid_before at p.here ram fit j 0 before in
          let z : slice_index (written at p.there ram') j ≡ slice_index ram' j = laid_before at p.there ram' fit' j 0 before in
          rw (x, y, z) (agree.says j))
          (λ (behind : at ≤ j). ⊎_elim
          (λ (within : j < at + length p.here).
          let i : ℕ = j - at in
          let e : at + i ≡ j = omega (arith, behind) in
          let small : i < length p.here = omega (arith, within, behind) in
          let zero' : 0 + i ≡ i = omega arith in
          let x : get_or (laid at (names 0 (length p.here)) ms) j Any ≡ Page 1 i =
          ap (λ (q : ℕ). get_or (laid at (names 0 (length p.here)) ms) q Any) (sym e)
          ∙ laid_in at (names 0 (length p.here)) ms fit_marks i Any (omega (arith, small, km))
          ∙ name_at 0 (length p.here) i Any small ∙ ap (Page 1) zero' in
          let y : slice_index (written at p.here ram) j ≡ slice_index p.here i =
          ap (slice_index (written at p.here ram)) (sym e) ∙ laid_in at p.here ram fit i 0 small in
          let z : slice_index (written at p.there ram') j ≡ slice_index p.there i =
          ap (slice_index (written at p.there ram')) (sym e) ∙ laid_in at p.there ram' fit' i 0 (omega (arith, small, same)) in
          rw (x, y, z) (refl, refl))
          (λ (past : at + length p.here ≤ j).
          let x : get_or (laid at (names 0 (length p.here)) ms) j Any ≡ get_or ms j Any =
          laid_after at (names 0 (length p.here)) ms fit_marks j Any (omega (arith, past, km)) in
          let y : slice_index (written at p.here ram) j ≡ slice_index ram j = laid_after at p.here ram fit j 0 past in
          let z : slice_index (written at p.there ram') j ≡ slice_index ram' j = laid_after at p.there ram' fit' j 0 (omega (arith, past, same)) in
          rw (x, y, z) (agree.says j))
          (cases_lt j (at + length p.here)))
          (cases_lt j at);
    }

-- the first points of a call at hand and of another run agree, with the same number of bytes
pub start_agrees : (p : Pages) (s : Setup) (c : Call) (m : TargetMarks) (w w' : World) (from : ℕ) (cells : List CellMark) → TargetAgrees p m w w' →
    CellsAgree p from cells w.cells w'.cells → length p.there ≡ length p.here → s.layout.buffer_at - s.layout.return_at + length p.here ≤ length m.ram
    → PointAgrees p (TargetAgrees p)
    (record { core = all_known; bus = started m (s.layout.buffer_at - s.layout.return_at) (length p.here) from cells })
    (first_point s w (asked c p.here)) (first_point s w' (asked c p.there))
unfolding first_point
start_agrees p s c m w w' from cells agrees marked same fits = record {
  core = subst (λ (n : ℕ). CoreAgrees p all_known (core_at (registers s c (length p.here))) (core_at (registers s c n))) (sym same)
      (frame_agrees p (registers s c (length p.here)) refl);
  bus = record {
    base = agrees.base;
    base' = agrees.base';
    map = agrees.map;
    map' = agrees.map';
    state = agrees.state;
    registers = agrees.registers;
    runs = agrees.runs;
    ram = buffer_agrees p (s.layout.buffer_at - s.layout.return_at) m.ram w.ram w'.ram agrees.ram same fits;
    cells = marked;
  };
}

-- the marks between calls

unnamed_says : (p q : Pages) (m : Mark) (v v' : ℕ) → Says p m v v' → Says q (unnamed m) v v'
unnamed_says p q Known v v' says = says
unnamed_says p q (Page w x) v v' says = tt
unnamed_says p q Any v v' says = tt

unnamed_at : (ms : List Mark) (k : ℕ) → get_or (map unnamed ms) k Any ≡ unnamed (get_or ms k Any)
unnamed_at [] k = refl
unnamed_at (m ∷ ms) zero = refl
unnamed_at (m ∷ ms) (suc k) = unnamed_at ms k

no_run : (p q : Pages) (k : Mark) (o o' : Option Operation) → o ≡ None → RunsAgree p k o o' → RunsAgree q Known o o'
no_run p q k None None e runs = tt
no_run p q k None (Some o') e runs = absurd runs
no_run p q k (Some o) o' e runs = cc

-- the marks after a call without an open operation hold for every page
pub forgotten_agrees : (p q : Pages) (m : TargetMarks) (w w' : World) → m.state.operation ≡ None → TargetAgrees p m w w' → TargetAgrees q (forgotten m) w w'
forgotten_agrees p q m w w' idle agrees = record {
  base = agrees.base;
  base' = agrees.base';
  map = agrees.map;
  map' = agrees.map';
  state = agrees.state;
  registers = agrees.registers;
  ram = record {
    here = agrees.ram.here ∙ sym (length-map m.ram unnamed);
    there = agrees.ram.there ∙ sym (length-map m.ram unnamed);
    says = λ k. let e : get_or (map unnamed m.ram) k Any ≡ unnamed (get_or m.ram k Any) = unnamed_at m.ram k in
        rw e (unnamed_says p q (get_or m.ram k Any) _ _ (agrees.ram.says k));
  };
  runs = no_run p q m.value m.state.operation w'.state.operation idle agrees.runs;
  cells = record { here = omega arith; there = agrees.cells.there; says = λ k. tt };
}
