-- An algorithm with a filled table keeps its duties.
use Rattle.std.proofs.Common.{◌≡◌, ◌<◌, ◌≤◌, ◌+◌, ◌-◌, ◌^◌, ◌⊎◌, ℕ, Bool, true, false, List, [], length, replicate, slice_index, get_or, All, Option, Some}
use Rattle.std.proofs.Common.{None, refl, sym}
use Rattle.std.proofs.Common.{ap, subst, ◌∙◌, ⊎_elim, inl, inr, arith}
use Rattle.std.proofs.lemmas.Bool.{cases_lt}
use Rattle.std.proofs.lemmas.List.{get_or-replicate, get_or_past, length-replicate}
use Rattle.std.proofs.lemmas.List.FromFn.{get_or-map-range_with_len, length-map-range_with_len}
use Rattle.flash_layout.specs.declared.work.Operation.{Operation}
use Rattle.flash_layout.specs.Areas.{cells_in}
use Rattle.flash_layout.specs.Maps.{board_map}
use Rattle.flm_descriptor.specs.Shape.{Range, range_at}
use Rattle.flm_descriptor.specs.Shown.{Shown as AlgorithmShown}
use Rattle.board_file.specs.Shown.{Shown as BoardShown}
use Rattle.page_geometry.specs.Cells.{IsEmpty}
use Rattle.page_geometry.specs.Ideal.{EraseSector, EraseChip, ProgramPage, bytes_in}
use Rattle.target_core.specs.World.{World}
use Rattle.algo_calls.specs.declared.call.Call.TheVariants as call
use Rattle.algo_calls.specs.Setups.{Setup, setup_of}
use Rattle.algo_calls.specs.Frames.{asked, loaded}
use Rattle.algo_calls.specs.Duties.{Acting, Duty, Quiet, Serves, Site, device_of, part, ready, site_of}
use Rattle.shadow_step.specs.declared.marks.Mark.{Mark}
use Rattle.shadow_step.specs.declared.marks.Mark.TheVariants.{Known, Page, Any}
use Rattle.shadow_step.specs.Marks.{Pages, Says, is_known}
use Rattle.duty_proofs.specs.Kept.{ArePageBytes, EachLeads, Leads, Sized, page_of}
use Rattle.duty_proofs.specs.declared.cells.CellMark.{CellMark}
use Rattle.duty_proofs.specs.declared.cells.CellMark.TheVariants.{Blank}
use Rattle.duty_proofs.specs.TargetMarks.{CellSays, CellsAgree, RunsAgree, TargetAgrees, TargetMarks}
use Rattle.duty_proofs.specs.Runs.{FitsMarks, no_page}
use Rattle.duty_proofs.specs.Decided.{Decided, Enters, IsBetween, State, any_cell, load_marks, over}
use Rattle.duty_proofs.proofs.EndLemmas.{part_at}
use Rattle.duty_proofs.proofs.ListLemmas.{serves}
use Rattle.duty_proofs.proofs.LeadLemmas.{chip_leads, page_leads, quiet_leads, sector_leads, weaken, with_page}
use Rattle.std.proofs.Common.{drop, length-take, length-drop, get_or-take, get_or-drop}
use Rattle.std.proofs.lemmas.List.{get_or-map, length-map}
use Rattle.duty_proofs.specs.Decided.{named_cells}
use Rattle.duty_proofs.specs.declared.cells.CellMark.TheVariants.{Holds}
use Rattle.duty_proofs.specs.Starts.{names}
use Rattle.duty_proofs.proofs.NameLemmas.{names_long}
use Rattle.duty_proofs.proofs.StartLemmas.{name_at}
use Rattle.duty_proofs.proofs.LeadLemmas.{check_leads}

-- the marks between calls don't depend on the cells at hand
over_fits : (st : State) (cells : List ℕ) (x : World) → IsBetween st → length cells ≡ length st.world.cells → FitsMarks st.marks st.world x →
    FitsMarks st.marks (over st.world cells) x
over_fits st cells x is many fits = record {
  base = fits.base;
  base' = fits.base';
  map = fits.map;
  map' = fits.map';
  state = fits.state;
  registers = fits.registers;
  ram = fits.ram;
  runs = fits.runs;
  cells = subst (λ (n : ℕ). CellsAgree no_page n st.marks.cells cells x.cells) (sym is.zero')
      (subst (λ (ms : List CellMark). CellsAgree no_page 0 ms cells x.cells) (sym is.none)
      (record { here = omega arith; there = fits.cells.there ∙ sym many; says = λ k. tt }));
}

any_says : (p : Pages) (len k v v' : ℕ) → CellSays p (get_or (replicate len any_cell) k any_cell) v v'
any_says p len k v v' = ⊎_elim
    (λ (below : k < len). let e : get_or (replicate len any_cell) k any_cell ≡ any_cell = get_or-replicate len k any_cell any_cell below in rw e tt)
    (λ (past : len ≤ k). let e : get_or (replicate len any_cell) k any_cell ≡ any_cell =
    get_or_past (replicate len any_cell) k any_cell (omega (arith, past, length-replicate len any_cell)) in rw e tt)
    (cases_lt k len)

any_cells : (from len : ℕ) (cells cells' : List ℕ) → from + len ≤ length cells → length cells' ≡ length cells →
    CellsAgree no_page from (replicate len any_cell) cells cells'
any_cells from len cells cells' room same = record {
  here = omega (arith, room, length-replicate len any_cell);
  there = same;
  says = λ k. any_says no_page len k (slice_index cells (from + k)) (slice_index cells' (from + k));
}

blank_cells : (p : Pages) (from len : ℕ) (cells cells' : List ℕ) → from + len ≤ length cells → length cells' ≡ length cells
    → ((k : ℕ) → k < len → (slice_index cells (from + k) ≡ 0xFF) × (slice_index cells' (from + k) ≡ 0xFF)) →
    CellsAgree p from (replicate len Blank) cells cells'
blank_cells p from len cells cells' room same all = record {
  here = omega (arith, room, length-replicate len Blank);
  there = same;
  says = λ k. ⊎_elim
      (λ (below : k < len). let e : get_or (replicate len Blank) k any_cell ≡ Blank = get_or-replicate len k Blank any_cell below in rw e (all k below))
      (λ (past : len ≤ k). let e : get_or (replicate len Blank) k any_cell ≡ any_cell =
      get_or_past (replicate len Blank) k any_cell (omega (arith, past, length-replicate len Blank)) in rw e tt)
      (cases_lt k len);
}

plain_says : (p : Pages) (a : Mark) (v u : ℕ) (known : Bool) → is_known a ≡ known → (is_known a ≡ false → a ≡ Any) → Says no_page a v u → Says p a v u
plain_says p Known v u known e plain says = says
plain_says p Any v u known e plain says = tt
plain_says p (Page w i) v u known e plain says = let no' : Page w i ≡ Any = plain refl in cc

for_page : (p : Pages) (st : State) (w x : World) → IsBetween st → FitsMarks st.marks w x → TargetAgrees p st.marks w x
for_page p st w x is fits = with_page p st.marks w x is.idle
    (λ k says. plain_says p (get_or st.marks.ram k Any) (slice_index w.ram k) (slice_index x.ram k)
    (is_known (get_or st.marks.ram k Any)) refl (is.plain k) says)
    is.none is.zero' fits

known_or_any : (n k : ℕ) → (get_or (replicate n Known) k Any ≡ Known) ⊎ (get_or (replicate n Known) k Any ≡ Any)
known_or_any n k = ⊎_elim
    (λ (below : k < n). inl (get_or-replicate n k Known Any below))
    (λ (past : n ≤ k). inr (get_or_past (replicate n Known) k Any (omega (arith, past, length-replicate n Known))))
    (cases_lt k n)

all_known : (n k : ℕ) → is_known (get_or (replicate n Known) k Any) ≡ false → get_or (replicate n Known) k Any ≡ Any
all_known n k e = ⊎_elim
    (λ (known : get_or (replicate n Known) k Any ≡ Known). let yes : is_known (get_or (replicate n Known) k Any) ≡ true =
    ap (λ (m : Mark). is_known m) known in cc)
    (λ (any : get_or (replicate n Known) k Any ≡ Any). any)
    (known_or_any n k)

same_says : (n k v : ℕ) → Says no_page (get_or (replicate n Known) k Any) v v
same_says n k v = ⊎_elim
    (λ (known : get_or (replicate n Known) k Any ≡ Known). rw known refl)
    (λ (any : get_or (replicate n Known) k Any ≡ Any). rw any tt)
    (known_or_any n k)

none_runs' : (o : Option Operation) → o ≡ None → RunsAgree no_page Known o o
none_runs' None e = tt
none_runs' (Some o) e = cc

-- the bytes of a range

bytes_len : (x : Range) (all : List ℕ) → length (bytes_in x all) ≡ x.stop - x.start
unfolding bytes_in
bytes_len x all = length-map-range_with_len (λ i. slice_index all i) x.start (x.stop - x.start)

bytes_or : (x : Range) (all : List ℕ) (j d : ℕ) → j < x.stop - x.start → get_or (bytes_in x all) j d ≡ slice_index all (x.start + j)
unfolding bytes_in
bytes_or x all j d below = get_or-map-range_with_len (λ i. slice_index all i) x.start (x.stop - x.start) j (x.start + j) d below refl

bytes_fit : (x : Range) (all : List ℕ) → x.stop ≤ length all → All (λ v. v < 2 ^ 8) all → All (λ v. v < 2 ^ 8) (bytes_in x all)
bytes_fit x all inside small j d below =
    let within : j < x.stop - x.start = omega (arith, below, bytes_len x all) in
    subst (λ (v : ℕ). v < 2 ^ 8) (sym (bytes_or x all j d within)) (small (x.start + j) 0 (omega (arith, within, inside)))

-- an empty page among all cells
blank_there : (site : Site) (r : Range) (cells : List ℕ) (empty : ℕ) → empty ≡ 0xFF → IsEmpty empty r (part site cells) → r.stop ≤ site.layout.size →
    (j : ℕ) → j < r.stop - r.start
    → slice_index cells (site.start + r.start + j) ≡ 0xFF
blank_there site r cells empty is blank inside j small =
    let at : site.start + (r.start + j) ≡ site.start + r.start + j = omega arith in
    let here : slice_index (part site cells) (r.start + j) ≡ empty = blank (r.start + j) (omega arith, omega (arith, small)) in
    ap (slice_index cells) (sym at) ∙ sym (part_at site cells (r.start + j) (omega (arith, small, inside))) ∙ here ∙ is

bytes_small : (bytes : List ℕ) → All (λ v. v < 2 ^ 8) bytes → (i : ℕ) → slice_index bytes i < 2 ^ 8
bytes_small bytes all i = ⊎_elim
    (λ (below : i < length bytes). all i 0 below)
    (λ (past : length bytes ≤ i). let e : slice_index bytes i ≡ 0 = get_or_past bytes i 0 past in omega (arith, e))
    (cases_lt i (length bytes))

-- a page among all cells, and the bytes that it holds

part_room : (site : Site) (cells : List ℕ) (n : ℕ) → n ≤ site.layout.size → site.start + site.layout.size ≤ length cells → n ≤ length (part site cells)
part_room site cells n inside fits =
    omega (arith, inside, fits, length-take site.layout.size (drop site.start cells), length-drop site.start cells)

part_small : (site : Site) (cells : List ℕ) → All (λ v. v < 2 ^ 8) cells → All (λ v. v < 2 ^ 8) (part site cells)
part_small site cells small k d below =
    let short : k < site.layout.size = omega (arith, below, length-take site.layout.size (drop site.start cells)) in
    let long : site.start + k < length cells = omega (arith, below, length-take site.layout.size (drop site.start cells), length-drop site.start cells) in
    let e : get_or (part site cells) k d ≡ get_or cells (site.start + k) d =
    get_or-take site.layout.size (drop site.start cells) k d short ∙ get_or-drop site.start cells k d in
    subst (λ (v : ℕ). v < 2 ^ 8) (sym e) (small (site.start + k) d long)

page_there : (site : Site) (r : Range) (cells : List ℕ) → r.stop ≤ site.layout.size → (j : ℕ) → j < r.stop - r.start
    → slice_index cells (site.start + r.start + j) ≡ slice_index (bytes_in r (part site cells)) j
page_there site r cells inside j small =
    let at : site.start + (r.start + j) ≡ site.start + r.start + j = omega arith in
    ap (slice_index cells) (sym at) ∙ sym (part_at site cells (r.start + j) (omega (arith, small, inside))) ∙ sym (bytes_or r (part site cells) j 0 small)

named_agree : (p : Pages) (from : ℕ) (cells cells' : List ℕ) → from + length p.here ≤ length cells → length cells' ≡ length cells
    → ((j : ℕ) → j < length p.here → slice_index cells (from + j) ≡ slice_index p.here j)
    → ((j : ℕ) → j < length p.here → slice_index cells' (from + j) ≡ slice_index p.there j) → CellsAgree p from (named_cells (length p.here)) cells cells'
named_agree p from cells cells' room same here there = record {
  here = omega (arith, room, length-map (names 0 (length p.here)) Holds, names_long 0 (length p.here));
  there = same;
  says = λ k. ⊎_elim
      (λ (below : k < length p.here).
      let zero' : 0 + k ≡ k = omega arith in
      let e : get_or (named_cells (length p.here)) k any_cell ≡ Holds (Page 1 k) =
      get_or-map Holds (names 0 (length p.here)) k Any any_cell (omega (arith, below, names_long 0 (length p.here)))
      ∙ ap (λ (m : Mark). Holds m) (name_at 0 (length p.here) k Any below ∙ ap (Page 1) zero') in
      rw e (here k below, there k below))
      (λ (past : length p.here ≤ k).
      let e : get_or (named_cells (length p.here)) k any_cell ≡ any_cell =
      get_or_past (named_cells (length p.here)) k any_cell (omega (
        arith,
        past,
        length-map (names 0 (length p.here)) Holds,
        names_long 0 (length p.here),
      )) in rw e tt)
      (cases_lt k (length p.here));
}

module _ (b : BoardShown) (a : AlgorithmShown) (region : ℕ) (d : Decided b a region) where
  abbrev s : Setup
  s = setup_of a b

  abbrev site : Site
  site = site_of b a region

  -- between the calls of a list the target fits one of the states
  abbrev Between : ℕ → World → Type 0
  Between kind x = (i : ℕ) × (i < d.all.count kind) × FitsMarks (d.all.state kind i).marks (d.all.state kind i).world x

  enters : (kind : ℕ) (m : TargetMarks) (w x : World) → Enters d.all kind m w → FitsMarks m w x → Between kind x
  enters kind m w x into fits = (into.0, into.1, weaken m (d.all.state kind into.0).marks w (d.all.state kind into.0).world x into.2 fits)

  then_leads : (kind : ℕ) (w : World) (duty : Duty) (m : TargetMarks) (v : World) → Enters d.all kind m v → Leads s site w duty (λ y. FitsMarks m v y) →
      Leads s site w duty (Between kind)
  then_leads kind w duty m v into leads = record { keeps = leads.keeps; then' = enters kind m v _ into leads.then' }

  abbrev load_state : State
  load_state = record { marks = load_marks b a; world = ready b a d.some }

  load_between : IsBetween load_state
  load_between = record {
    idle = d.idle;
    plain = λ k. all_known (length (loaded s)) k;
    none = refl;
    zero' = refl;
  }

  load_fits : (cells : List ℕ) → Sized b (ready b a cells) → FitsMarks (load_marks b a) (ready b a d.some) (ready b a cells)
  load_fits cells sized = record {
    base = refl;
    base' = refl;
    map = refl;
    map' = refl;
    state = refl;
    registers = refl;
    ram = record {
      here = sym (length-replicate (length (loaded s)) Known);
      there = sym (length-replicate (length (loaded s)) Known);
      says =
          λ k. same_says (length (loaded s)) k _;
    };
    runs = none_runs' _ d.idle;
    cells = record { here = omega arith; there = sized ∙ sym d.some_long; says = λ k. tt };
  }

  each_leads : EachLeads b a region Between
  each_leads = record {
    begins = λ kind cells kind' sized.
        let g = d.begins kind kind' in
        then_leads kind (ready b a cells) (Quiet (asked (call.Init kind) [])) _ _ g.then'
        (quiet_leads s site (load_marks b a) (over (ready b a d.some) g.cells) (ready b a cells) (call.Init kind) g.steps g.end g.ran
        (over_fits load_state g.cells (ready b a cells) load_between g.many (load_fits cells sized)));
    sector = λ k w below sized between.
        let g = d.sector k between.0 below between.1 in
        let r : Range = range_at (device_of a).sectors k in
        let st : State = d.all.state 1 between.0 in
        let some : r.start < r.stop = d.good.sectors_part.some k below in
        let inside : r.stop ≤ (device_of a).size = d.good.sectors_part.below k below in
        let long : length g.cells ≡ cells_in (board_map b).areas = g.many ∙ d.sized 1 between.0 between.1 in
        then_leads 1 w (Acting (EraseSector k)) _ _ g.then'
        (sector_leads s site st.marks (over st.world g.cells) w k g.steps g.end (call.EraseSector (a.device.base + r.start))
        (replicate (r.stop - r.start) any_cell) d.good
        (omega (arith, d.room, sized)) below d.empty refl g.ran
        (any_cells (site.start + r.start) (r.stop - r.start) g.cells w.cells (omega (arith, some, inside, d.room, long)) (sized ∙ sym long)) g.from' g.all
        (over_fits st g.cells w (d.between 1 between.0 between.1) g.many between.2));
    chip = λ w has sized between.
        let g = d.chip between.0 has between.1 in
        let st : State = d.all.state 1 between.0 in
        let long : length g.cells ≡ cells_in (board_map b).areas = g.many ∙ d.sized 1 between.0 between.1 in
        then_leads 1 w (Acting EraseChip) _ _ g.then'
        (chip_leads s site st.marks (over st.world g.cells) w g.steps g.end (replicate ((device_of a).size - 0) any_cell) d.good (omega (
          arith,
          d.room,
          sized,
        )) d.some_cells d.empty
        g.ran (any_cells (site.start + 0) ((device_of a).size - 0) g.cells w.cells (omega (arith, d.room, long)) (sized ∙ sym long)) g.from' g.all
        (over_fits st g.cells w (d.between 1 between.0 between.1) g.many between.2));
    page = λ k bytes w below are sized empty between.
        let t = d.page k between.0 below between.1 in
        let g = t.3.0 in
        let r : Range = range_at (device_of a).pages k in
        let st : State = d.all.state 2 between.0 in
        let p : Pages = record { here = t.0; there = bytes } in
        let some : r.start < r.stop = d.good.pages_part.some k below in
        let inside : r.stop ≤ (device_of a).size = d.good.pages_part.below k below in
        let long : length g.cells ≡ cells_in (board_map b).areas = g.many ∙ d.sized 2 between.0 between.1 in
        then_leads 2 w (Acting (ProgramPage k bytes)) _ _ g.then'
        (page_leads p (record {
          here = t.2;
          there =
              bytes_small bytes are.1;
        }) s site st.marks (over st.world g.cells) w k g.steps g.end (call.ProgramPage (a.device.base + r.start))
        (replicate (r.stop - r.start) Blank) d.good (omega (arith, d.room, sized)) below (are.0 ∙ sym t.1) are.0 empty refl g.ran
        (blank_cells p (site.start + r.start) (r.stop - r.start) g.cells w.cells (omega (arith, some, inside, d.room, long)) (sized ∙ sym long)
        (λ j small. (t.3.1 j small, blank_there site r w.cells a.device.empty d.empty empty inside j small))) g.from' g.all
        (for_page p st (over st.world g.cells) w (d.between 2 between.0 between.1)
        (over_fits st g.cells w (d.between 2 between.0 between.1) g.many between.2)));
    check = λ k w below has sized small between.
        let t = d.check k between.0 below has between.1 in
        let g = t.3.0 in
        let r : Range = range_at (device_of a).pages k in
        let st : State = d.all.state 3 between.0 in
        let bytes : List ℕ = bytes_in r (part site w.cells) in
        let p : Pages = record { here = t.0; there = bytes } in
        let some : r.start < r.stop = d.good.pages_part.some k below in
        let inside : r.stop ≤ (device_of a).size = d.good.pages_part.below k below in
        let long : length g.cells ≡ cells_in (board_map b).areas = g.many ∙ d.sized 3 between.0 between.1 in
        let many : length bytes ≡ r.stop - r.start = bytes_len r (part site w.cells) in
        let room : r.stop ≤ length (part site w.cells) = part_room site w.cells r.stop inside (omega (arith, d.room, sized)) in
        then_leads 3 w (Quiet (asked (call.Verify (a.device.base + r.start)) bytes)) _ _ g.then'
        (check_leads p (record { here = t.2; there = bytes_small bytes (bytes_fit r (part site w.cells) room (part_small site w.cells small)) }) s site st.marks
        (over st.world g.cells) w (call.Verify (a.device.base + r.start)) (site.start + r.start) g.steps (named_cells (length t.0)) g.end (many ∙ sym t.1) g.ran
        (named_agree p (site.start + r.start) g.cells w.cells (omega (arith, t.1, some, inside, d.room, long)) (sized ∙ sym long) t.3.1
        (λ j below'. page_there site r w.cells inside j (omega (arith, below', t.1))))
        (for_page p st (over st.world g.cells) w (d.between 3 between.0 between.1)
        (over_fits st g.cells w (d.between 3 between.0 between.1) g.many between.2)));
    ends = λ kind w kind' sized between.
        let g = d.ends kind between.0 kind' between.1 in
        let st : State = d.all.state kind between.0 in
        (quiet_leads s site st.marks (over st.world g.cells) w (call.UnInit kind) g.steps g.end g.ran
        (over_fits st g.cells w (d.between kind between.0 between.1) g.many between.2)).keeps;
  }

  page_bytes : (bytes : List ℕ) → length bytes ≡ (device_of a).size → All (λ v. v < 2 ^ 8) bytes → (k : ℕ) → k < length (device_of a).pages
      → ArePageBytes a k (bytes_in (page_of a k) bytes)
  page_bytes bytes long small k below = (
    bytes_len (page_of a k) bytes,
    bytes_fit (page_of a k) bytes (omega (
      arith,
      d.good.pages_part.below k below,
      long,
    )) small,
  )

  -- an algorithm with a filled table keeps its duties
  pub decided_serves : Serves b a region
  decided_serves = serves b a region Between each_leads page_bytes
