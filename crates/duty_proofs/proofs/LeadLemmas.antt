-- From one run of a call to its duty in every run.
use Rattle.std.proofs.Common.{◌≡◌, ◌<◌, ◌≤◌, ◌+◌, ◌-◌, ℕ, Bool, false, List, [], length, slice_index, get_or, Option, Some, None, refl, sym, ap, subst, ◌∙◌}
use Rattle.std.proofs.Common.{arith}
use Rattle.flash_layout.specs.declared.work.Operation.{Operation}
use Rattle.flm_descriptor.specs.Shape.{Range, range, range_at}
use Rattle.page_geometry.specs.Geometry.{IsGeometry}
use Rattle.page_geometry.specs.Cells.{IsEmpty}
use Rattle.page_geometry.specs.Ideal.{EraseChip, EraseSector, ProgramPage}
use Rattle.target_core.specs.World.{World}
use Rattle.target_core.specs.Path.{whole}
use Rattle.algo_calls.specs.declared.call.Call.{Call}
use Rattle.algo_calls.specs.declared.call.Call.TheVariants as call
use Rattle.algo_calls.specs.Ends.{success_of}
use Rattle.algo_calls.specs.Setups.{Setup}
use Rattle.algo_calls.specs.Frames.{Request, asked, after, first_point}
use Rattle.algo_calls.specs.Duties.{Acting, Duty, Quiet, Site, part, place_of, request_of}
use Rattle.shadow_step.specs.declared.marks.Mark.{Mark}
use Rattle.shadow_step.specs.declared.marks.Mark.TheVariants.{Known, Page, Any}
use Rattle.shadow_step.specs.Marks.{Pages, ArePages, Says, is_known}
use Rattle.shadow_step.specs.Shadow.{Marks}
use Rattle.duty_proofs.specs.Kept.{Leads}
use Rattle.duty_proofs.specs.Lockstep.{RunAgrees}
use Rattle.duty_proofs.specs.declared.cells.CellMark.{CellMark}
use Rattle.duty_proofs.specs.declared.cells.CellMark.TheVariants.{Blank, Holds}
use Rattle.duty_proofs.specs.TargetMarks.{TargetMarks, CellsAgree, RunsAgree, TargetAgrees, target_shadow, target_tick}
use Rattle.duty_proofs.specs.Starts.{forgotten}
use Rattle.duty_proofs.specs.Runs.{Ran, FitsMarks, Weakens, no_page}
use Rattle.duty_proofs.proofs.DoneLemmas.{IsDone}
use Rattle.duty_proofs.proofs.LockstepLemmas.{call_done}
use Rattle.duty_proofs.proofs.TargetLemmas.{is_shadow, same_operation}
use Rattle.duty_proofs.proofs.TickLemmas.{target_ticks}
use Rattle.duty_proofs.proofs.StartLemmas.{start_agrees, forgotten_agrees}
use Rattle.duty_proofs.proofs.EndLemmas.{AllAre, place_empty, place_holds, quiet_kept, sector_kept, chip_kept, page_kept}

module _ (p : Pages) where
  no_runs : (k : Mark) (o o' : Option Operation) → o ≡ None → RunsAgree no_page k o o' → RunsAgree p k o o'
  no_runs k None None e runs = tt
  no_runs k None (Some o') e runs = absurd runs
  no_runs k (Some o) o' e runs = cc

-- what the marks between calls say of a page they say of every page
pub with_page : (p : Pages) (m : TargetMarks) (w x : World) → m.state.operation ≡ None → ((k : ℕ) →
    Says no_page (get_or m.ram k Any) (slice_index w.ram k) (slice_index x.ram k)
    → Says p (get_or m.ram k Any) (slice_index w.ram k) (slice_index x.ram k)) → m.cells ≡ [] → m.from ≡ 0 → FitsMarks m w x → TargetAgrees p m w x
with_page p m w x idle plain none zero' fits = record {
  base = fits.base;
  base' = fits.base';
  map = fits.map;
  map' = fits.map';
  state = fits.state;
  registers = fits.registers;
  ram = record { here = fits.ram.here; there = fits.ram.there; says = λ k. plain k (fits.ram.says k) };
  runs = no_runs p m.value m.state.operation x.state.operation idle fits.runs;
  cells = subst (λ (n : ℕ). CellsAgree p n m.cells w.cells x.cells) (sym zero') (subst (λ (ms : List CellMark). CellsAgree p 0 ms w.cells x.cells) (sym none)
      (record { here = omega arith; there = fits.cells.there; says = λ k. tt }));
}

-- the call of another run, from a target that fits the marks: the call is done, and the last marks hold
record Followed (p : Pages) (s : Setup) (place : Option (ℕ × ℕ)) (w x : World) (c : Call) (n : ℕ) (r : Marks TargetMarks) : Type 0 where
  done : IsDone s x (asked c p.there) place (whole (first_point s x (asked c p.there)) n).world
  bus : TargetAgrees p r.bus (whole (first_point s w (asked c p.here)) n).world (whole (first_point s x (asked c p.there)) n).world

followed : (p : Pages) → ArePages p → (s : Setup) (place : Option (ℕ × ℕ)) (m : TargetMarks) (w x : World) (c : Call) (from : ℕ) (cells : List CellMark) (n : ℕ)
    (r : Marks TargetMarks) → length p.there ≡ length p.here → Ran s place m w c p.here from cells n r → TargetAgrees p m w x →
    CellsAgree p from cells w.cells x.cells
    → Followed p s place w x c n r
followed p bytes s place m w x c from cells n r same ran fits marked =
    let run : RunAgrees p (TargetAgrees p) s.layout.return_at place (first_point s w (asked c p.here)) (first_point s x (asked c p.there)) n r =
    ran.alike p x bytes refl same (start_agrees p s c m w x from cells fits marked same ran.room) in
    record {
      done = call_done p bytes (TargetAgrees p) target_shadow (is_shadow p bytes) target_tick (λ m w w' agrees. target_ticks p bytes m w w' agrees)
          (same_operation p) s w x (asked c p.here) (asked c p.there) place n r ran.within ran.back.counter ran.back.value ran.back.here
          (ran.back.success ∙ ap (success_of c) (sym same)) ran.back.idle run;
      bus = run.now.bus;
    }

-- the target after a call fits the marks without the page
left_fits : (p : Pages) (s : Setup) (place : Option (ℕ × ℕ)) (w x : World) (c : Call) (n : ℕ) (r : Marks TargetMarks) → r.bus.state.operation ≡ None →
    Followed p s place w x c n r → FitsMarks (forgotten r.bus) (whole (first_point s w (asked c p.here)) n).world (after s x (asked c p.there))
left_fits p s place w x c n r idle followed =
    subst (λ (y : World). FitsMarks (forgotten r.bus) (whole (first_point s w (asked c p.here)) n).world y) (sym followed.done.leaves)
    (forgotten_agrees p no_page r.bus _ _ idle followed.bus)

-- the empty page has bytes
none_bytes : ArePages no_page
none_bytes = record { here = λ i. omega arith; there = λ i. omega arith }

-- a call of Init or UnInit keeps its duty and leads on
pub quiet_leads : (s : Setup) (site : Site) (m : TargetMarks) (w x : World) (c : Call) (n : ℕ) (r : Marks TargetMarks) → Ran s None m w c [] 0 [] n r →
    FitsMarks m w x
    → Leads s site x (Quiet (asked c [])) (λ y. FitsMarks (forgotten r.bus) (whole (first_point s w (asked c [])) n).world y)
quiet_leads s site m w x c n r ran fits =
    let there : Followed no_page s None w x c n r =
    followed no_page none_bytes s None m w x c 0 [] n r refl ran fits (record { here = omega arith; there = fits.cells.there; says = λ k. tt }) in
    record { keeps = quiet_kept s site x _ (asked c []) there.done; then' = left_fits no_page s None w x c n r ran.back.none there }

-- a call of Verify keeps its duty and leads on
pub check_leads : (p : Pages) → ArePages p → (s : Setup) (site : Site) (m : TargetMarks) (w x : World) (c : Call) (from n : ℕ) (cells : List CellMark)
    (r : Marks TargetMarks) →
    length p.there ≡ length p.here → Ran s None m w c p.here from cells n r → CellsAgree p from cells w.cells x.cells → TargetAgrees p m w x
    → Leads s site x (Quiet (asked c p.there)) (λ y. FitsMarks (forgotten r.bus) (whole (first_point s w (asked c p.here)) n).world y)
check_leads p bytes s site m w x c from n cells r same ran marked fits =
    let there : Followed p s None w x c n r = followed p bytes s None m w x c from cells n r same ran fits marked in
    record { keeps = quiet_kept s site x _ (asked c p.there) there.done; then' = left_fits p s None w x c n r ran.back.none there }

-- a call of EraseSector keeps its duty and leads on
pub sector_leads : (s : Setup) (site : Site) (m : TargetMarks) (w x : World) (k n : ℕ) (r : Marks TargetMarks) (c : Call) (cells : List CellMark) →
    IsGeometry site.layout →
    site.start + site.layout.size ≤ length x.cells → k < length site.layout.sectors → s.algorithm.device.empty ≡ 0xFF
    → c ≡ call.EraseSector (s.algorithm.device.base + (range_at site.layout.sectors k).start)
    → Ran s (place_of site (Acting (EraseSector k))) m w c [] (site.start + (range_at site.layout.sectors k).start) cells n r
    → CellsAgree no_page (site.start + (range_at site.layout.sectors k).start) cells w.cells x.cells
    → r.bus.from ≡ site.start + (range_at site.layout.sectors k).start
    → AllAre (λ i. Blank) ((range_at site.layout.sectors k).stop - (range_at site.layout.sectors k).start) r.bus.cells → FitsMarks m w x
    → Leads s site x (Acting (EraseSector k)) (λ y. FitsMarks (forgotten r.bus) (whole (first_point s w (asked c [])) n).world y)
sector_leads s site m w x k n r c cells good room below empty is ran marked from all fits =
    let place : Option (ℕ × ℕ) = place_of site (Acting (EraseSector k)) in
    let range' : Range = range_at site.layout.sectors k in
    let there : Followed no_page s place w x c n r = followed no_page none_bytes s place m w x c (site.start + range'.start) cells n r refl ran fits marked in
    let call' : asked c [] ≡ request_of s site.layout (Acting (EraseSector k)) = ap (λ (y : Call). asked y []) is in
    let w' : World = (whole (first_point s x (asked c [])) n).world in
    let erased : IsEmpty s.algorithm.device.empty range' (part site w'.cells) =
    place_empty no_page site range' r.bus.cells _ w'.cells
    (subst (λ (q : ℕ). CellsAgree no_page q r.bus.cells (whole (first_point s w (asked c [])) n).world.cells w'.cells) from there.bus.cells)
    (good.sectors_part.below k below) s.algorithm.device.empty empty all in
    record {
      keeps = sector_kept s site x w' good room k below (subst (λ (q : Request). IsDone s x q place w') call' there.done) erased;
      then' = subst (λ (q : Request). FitsMarks (forgotten r.bus) (whole (first_point s w (asked c [])) n).world (after s x q)) call'
          (left_fits no_page s place w x c n r ran.back.none there);
    }

-- a call of EraseChip keeps its duty and leads on
pub chip_leads : (s : Setup) (site : Site) (m : TargetMarks) (w x : World) (n : ℕ) (r : Marks TargetMarks) (cells : List CellMark) → IsGeometry site.layout →
    site.start + site.layout.size ≤ length x.cells → 0 < site.layout.size → s.algorithm.device.empty ≡ 0xFF
    → Ran s (place_of site (Acting EraseChip)) m w call.EraseChip [] (site.start + 0) cells n r
    → CellsAgree no_page (site.start + 0) cells w.cells x.cells → r.bus.from ≡ site.start + 0
    → AllAre (λ i. Blank) (site.layout.size - 0) r.bus.cells → FitsMarks m w x
    → Leads s site x (Acting EraseChip) (λ y. FitsMarks (forgotten r.bus) (whole (first_point s w (asked call.EraseChip [])) n).world y)
chip_leads s site m w x n r cells good room some empty ran marked from all fits =
    let place : Option (ℕ × ℕ) = place_of site (Acting EraseChip) in
    let range' : Range = range 0 site.layout.size in
    let there : Followed no_page s place w x call.EraseChip n r =
    followed no_page none_bytes s place m w x call.EraseChip (site.start + 0) cells n r refl ran fits marked in
    let w' : World = (whole (first_point s x (asked call.EraseChip [])) n).world in
    let erased : IsEmpty s.algorithm.device.empty range' (part site w'.cells) =
    place_empty no_page site range' r.bus.cells _ w'.cells
    (subst (λ (q : ℕ). CellsAgree no_page q r.bus.cells (whole (first_point s w (asked call.EraseChip [])) n).world.cells w'.cells) from there.bus.cells)
    (omega arith) s.algorithm.device.empty empty all in
    record {
      keeps = chip_kept s site x w' good room some there.done erased;
      then' = left_fits no_page s place w x call.EraseChip n r ran.back.none there;
    }

-- a call of ProgramPage keeps its duty and leads on
pub page_leads : (p : Pages) → ArePages p → (s : Setup) (site : Site) (m : TargetMarks) (w x : World) (k n : ℕ) (r : Marks TargetMarks) (c : Call)
    (cells : List CellMark) →
    IsGeometry site.layout → site.start + site.layout.size ≤ length x.cells → k < length site.layout.pages
    → length p.there ≡ length p.here → length p.there ≡ (range_at site.layout.pages k).stop - (range_at site.layout.pages k).start
    → IsEmpty s.algorithm.device.empty (range_at site.layout.pages k) (part site x.cells)
    → c ≡ call.ProgramPage (s.algorithm.device.base + (range_at site.layout.pages k).start)
    → Ran s (place_of site (Acting (ProgramPage k p.there))) m w c p.here (site.start + (range_at site.layout.pages k).start) cells n r
    → CellsAgree p (site.start + (range_at site.layout.pages k).start) cells w.cells x.cells
    → r.bus.from ≡ site.start + (range_at site.layout.pages k).start
    → AllAre (λ i. Holds (Page 1 i)) ((range_at site.layout.pages k).stop - (range_at site.layout.pages k).start) r.bus.cells → TargetAgrees p m w x
    → Leads s site x (Acting (ProgramPage k p.there)) (λ y. FitsMarks (forgotten r.bus) (whole (first_point s w (asked c p.here)) n).world y)
page_leads p bytes s site m w x k n r c cells good room below same long blank is ran marked from all fits =
    let d : Duty = Acting (ProgramPage k p.there) in
    let place : Option (ℕ × ℕ) = place_of site d in
    let range' : Range = range_at site.layout.pages k in
    let there : Followed p s place w x c n r = followed p bytes s place m w x c (site.start + range'.start) cells n r same ran fits marked in
    let call' : asked c p.there ≡ request_of s site.layout d = ap (λ (y : Call). asked y p.there) is in
    let w' : World = (whole (first_point s x (asked c p.there)) n).world in
    record {
      keeps = page_kept s site x w' good room k p.there below long blank (subst (λ (q : Request). IsDone s x q place w') call' there.done)
          (place_holds p site range' r.bus.cells _ w'.cells
          (subst (λ (q : ℕ). CellsAgree p q r.bus.cells (whole (first_point s w (asked c p.here)) n).world.cells w'.cells) from there.bus.cells)
          (good.pages_part.below k below) all);
      then' = subst (λ (q : Request). FitsMarks (forgotten r.bus) (whole (first_point s w (asked c p.here)) n).world (after s x q)) call'
          (left_fits p s place w x c n r ran.back.none there);
    }

-- a mark that says less still holds
weak_says : (a b : Mark) (v v' u : ℕ) (known : Bool) → is_known b ≡ known → (b ≡ Known → (a ≡ Known) × (v ≡ v')) → (is_known b ≡ false → b ≡ Any) →
    Says no_page a v u → Says no_page b v' u
weak_says a Known v v' u known e strong plain says =
    let both : (a ≡ Known) × (v ≡ v') = strong refl in
    let same : u ≡ v = subst (λ (m : Mark). Says no_page m v u) both.0 says in same ∙ both.1
weak_says a Any v v' u known e strong plain says = tt
weak_says a (Page w i) v v' u known e strong plain says = let no : Page w i ≡ Any = plain refl in cc

idle_runs : (k j : Mark) (o o' x : Option Operation) → o ≡ None → o' ≡ None → RunsAgree no_page k o x → RunsAgree no_page j o' x
idle_runs k j None None None e f runs = tt
idle_runs k j None None (Some x) e f runs = absurd runs
idle_runs k j None (Some o') x e f runs = cc
idle_runs k j (Some o) o' x e f runs = cc

pub weaken : (m m' : TargetMarks) (w w' x : World) → Weakens m w m' w' → FitsMarks m w x → FitsMarks m' w' x
weaken m m' w w' x less fits = record {
  base = less.base' ∙ fits.base ∙ sym less.base;
  base' = fits.base' ∙ sym less.base;
  map = less.map' ∙ fits.map ∙ sym less.map;
  map' = fits.map' ∙ sym less.map;
  ram = record {
    here = less.long ∙ fits.ram.here ∙ sym less.many;
    there = fits.ram.there ∙ sym less.many;
    says = λ k. weak_says (get_or m.ram k Any) (get_or m'.ram k Any) (slice_index w.ram k) (slice_index w'.ram k)
        (slice_index x.ram k) _ refl (less.ram k) (less.plain k)
        (fits.ram.says k);
  };
  state = less.state;
  registers = less.registers x.state.registers fits.registers;
  runs = idle_runs m.value m'.value m.state.operation m'.state.operation x.state.operation less.idle less.idle' fits.runs;
  cells = subst (λ (n : ℕ). CellsAgree no_page n m'.cells w'.cells x.cells) (sym less.none.0)
      (subst (λ (ms : List CellMark). CellsAgree no_page 0 ms w'.cells x.cells) (sym less.none.1)
      (record { here = omega arith; there = fits.cells.there ∙ sym less.cells; says = λ k. tt }));
}
