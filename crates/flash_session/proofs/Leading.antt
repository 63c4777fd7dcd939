-- Duties as the ideal device does them, from one contents to another. `Serving` uses them for the phases of a region's plan.
use Rattle.std.proofs.Common.{◌≡◌, ◌<◌, ◌≤◌, ◌+◌, ◌-◌, ◌^◌, ◌∙◌, ⊎_elim, ℕ, Bool, true, false, cond, All, List, [], ◌∷◌, ◌++◌, map, length, take, drop, get_or}
use Rattle.std.proofs.Common.{slice_index, Some, refl, sym, ap, subst, append_assoc, length-append, length-take, length-drop, arith}
use Rattle.std.proofs.lemmas.Grind.{get_or_default_zero}
use Rattle.std.proofs.lemmas.List.{take_at, drop_at, get_or-take, get_or-drop}
use Rattle.std.proofs.lemmas.Bool.{cases_lt}
use Rattle.flm_descriptor.specs.Shape.{range_at}
use Rattle.page_geometry.specs.Geometry.{In, Geometry}
use Rattle.page_geometry.specs.Ideal.{Action, EraseSector, EraseChip, ProgramPage, Acts, erasures}
use Rattle.page_geometry.proofs.TestLemmas.{cases_in}
use Rattle.erase_planner.specs.Plans.{Leads}
use Rattle.algo_calls.specs.Setups.{Setup}
use Rattle.algo_calls.specs.Frames.{Request}
use Rattle.bench_model.specs.State.{SameOutside}
use Rattle.algo_calls.specs.Duties.{Site, part, Duty, Acting, Quiet, IsReady, Does, AreReady, checks, works_of, Verifies}
use Rattle.algo_calls.proofs.IdealLemmas.{acts_length, does_same, in_three}

-- ---- other cells in a region

-- the cells with other ones in the region
abbrev pub put : Site → List ℕ → List ℕ → List ℕ
put site x cells = take site.start cells ++ (x ++ drop (site.start + site.layout.size) cells)

-- the region lies among all cells
abbrev pub IsAmong : Site → List ℕ → Type 0
IsAmong site cells = site.start + site.layout.size ≤ length cells

-- a region's part of the cells is as long as the region
pub part_long : (site : Site) (cells : List ℕ) → IsAmong site cells → length (part site cells) ≡ site.layout.size
part_long site cells among = omega (arith, among, length-take site.layout.size (drop site.start cells), length-drop site.start cells)

-- the cells before a region are as many as the region's place says
front_long : (site : Site) (cells : List ℕ) → IsAmong site cells → length (take site.start cells) ≡ site.start
front_long site cells among = omega (arith, among, length-take site.start cells)

-- the part of a region after a put is what was put there
pub put_part : (site : Site) (x cells : List ℕ) → IsAmong site cells → length x ≡ site.layout.size → part site (put site x cells) ≡ x
put_part site x cells among long =
    let rest = drop (site.start + site.layout.size) cells in
    ap (λ (l : List ℕ). take site.layout.size l) (drop_at (take site.start cells) (x ++ rest) site.start (front_long site cells among))
    ∙ take_at x rest site.layout.size long

-- a put leaves the cells outside the region as they were
pub put_outside : (site : Site) (x cells : List ℕ) → IsAmong site cells → length x ≡ site.layout.size
    → SameOutside (Some (site.start, site.layout.size)) cells (put site x cells)
put_outside site x cells among long =
    let front = take site.start cells in
    let rest = drop (site.start + site.layout.size) cells in
    let front_is = front_long site cells among in
    let ends : length (front ++ x) ≡ site.start + site.layout.size = omega (arith, length-append front x, front_is, long) in (
      omega (arith, length-append front (x ++ rest), length-append x rest, front_is, long, length-drop (site.start + site.layout.size) cells, among),
      take_at front (x ++ rest) site.start front_is,
      ap (drop (site.start + site.layout.size)) (sym (append_assoc front x rest)) ∙ drop_at (front ++ x) rest (site.start + site.layout.size) ends,
    )

-- putting a region's cells back keeps the number of cells
pub put_long : (site : Site) (x cells : List ℕ) → IsAmong site cells → length x ≡ site.layout.size → length (put site x cells) ≡ length cells
put_long site x cells among long = (put_outside site x cells among long).0

-- of two contents put into a region, the second one stays
pub put_again : (site : Site) (x y cells : List ℕ) → IsAmong site cells → length y ≡ site.layout.size → put site x (put site y cells) ≡ put site x cells
put_again site x y cells among long =
    let same = put_outside site y cells among long in
    ap (λ (l : List ℕ). l ++ (x ++ drop (site.start + site.layout.size) (put site y cells))) same.1
    ∙ ap (λ (l : List ℕ). take site.start cells ++ (x ++ l)) same.2

-- putting a region's own part into it changes nothing
put_self : (site : Site) (x cells : List ℕ) → part site cells ≡ x → cells ≡ put site x cells
put_self site x cells is = in_three site cells ∙ ap (λ (l : List ℕ). put site l cells) is

-- ---- duties in turn, each with what it may rely on
unfoldable pub Led : Setup → Site → List ℕ → List Duty → List ℕ → Type 0
Led s site cells [] want = cells ≡ want
Led s site cells (d ∷ rest) want = (mid : List ℕ) × Does s site cells d mid × IsReady s site cells d × Led s site mid rest want

-- duties that lead in turn to the wanted cells: each is ready at its turn
pub led_ready : (s : Setup) (site : Site) (ds : List Duty) (cells want : List ℕ) → Led s site cells ds want → AreReady s site cells ds
unfolding Led AreReady
led_ready s site [] cells want led = tt
led_ready s site (d ∷ rest) cells want led =
    (led.2, λ x does. led_ready s site rest x want (subst (λ (c : List ℕ). Led s site c rest want) (does_same s site d cells led.0 x led.1 does) led.3))

-- two lists of duties, one after the other, lead where both lead
pub led_then : (s : Setup) (site : Site) (xs ys : List Duty) (cells mid want : List ℕ) → Led s site cells xs mid → Led s site mid ys want
    → Led s site cells (xs ++ ys) want
unfolding Led
led_then s site [] ys cells mid want one two = subst (λ (c : List ℕ). Led s site c ys want) (sym one) two
led_then s site (d ∷ xs) ys cells mid want one two = (one.0, one.1, one.2, led_then s site xs ys one.0 mid want one.3 two)

-- a call that changes nothing leads from cells to the same cells
pub led_quiet : (s : Setup) (site : Site) (r : Request) (cells : List ℕ) → Led s site cells (Quiet r ∷ []) cells
unfolding Led
led_quiet s site r cells = (cells, refl, tt, refl)

-- an action that the ideal device can do has what it may rely on
ready_action : (s : Setup) (site : Site) (a : Action) (before x : List ℕ) → Acts site.layout s.algorithm.device.empty (part site before) a x
    → IsReady s site before (Acting a)
unfolding Acts
ready_action s site (ProgramPage k bytes) before x acts = acts.2
ready_action s site a before x acts = tt

-- the actions of a plan lead there too, and leave the other regions' cells as they were
pub led_actions : (s : Setup) (site : Site) (actions : List Action) (cells want : List ℕ) → IsAmong site cells
    → Leads site.layout s.algorithm.device.empty (part site cells) actions want
    → Led s site cells (map Acting actions) (put site want cells)
unfolding Leads Led
led_actions s site [] cells want among leads = put_self site want cells leads
led_actions s site (a ∷ rest) cells want among leads =
    let long : length leads.0 ≡ site.layout.size = acts_length site.layout s.algorithm.device.empty a (part site cells) leads.0 leads.1
    ∙ part_long site cells among in
    let mid : List ℕ = put site leads.0 cells in
    let is : part site mid ≡ leads.0 = put_part site leads.0 cells among long in
    let does : Does s site cells (Acting a) mid = record {
      leads = subst (λ (y : List ℕ). Acts site.layout s.algorithm.device.empty (part site cells) a y) (sym is) leads.1;
      others = put_outside site leads.0 cells among long;
    } in
    let mid_among : IsAmong site mid = omega (arith, among, put_long site leads.0 cells among long) in
    let others : Led s site mid (map Acting rest) (put site want mid) =
    led_actions s site rest mid want mid_among (subst (λ (y : List ℕ). Leads site.layout s.algorithm.device.empty y rest want) (sym is) leads.2) in (
      mid,
      does,
      ready_action s site a cells leads.0 leads.1,
      subst (λ (c : List ℕ). Led s site mid (map Acting rest) c) (put_again site want leads.0 cells among long) others,
    )

-- checks change no cell
led_checks : (s : Setup) (site : Site) (held cells : List ℕ) (bs : List Bool) (k : ℕ) → Led s site cells (checks s site.layout held k bs) cells
unfolding checks Led
led_checks s site held cells [] k = refl
led_checks s site held cells (true ∷ bs) k = (cells, refl, tt, led_checks s site held cells bs (k + 1))
led_checks s site held cells (false ∷ bs) k = led_checks s site held cells bs (k + 1)

-- the verify phase changes no cell
pub led_verifies : (s : Setup) (site : Site) (held cells : List ℕ) (set : List Bool) → Led s site cells (works_of s site.layout held (Verifies set)) cells
unfolding works_of
led_verifies s site held cells set = led_checks s site held cells set 0

-- ---- the contents between two phases

-- for actions in two lists there are contents between the lists
pub leads_split : (l : Geometry) (empty : ℕ) (xs ys : List Action) (cells want : List ℕ) → Leads l empty cells (xs ++ ys) want
    → (mid : List ℕ) × Leads l empty cells xs mid × Leads l empty mid ys want
unfolding Leads
leads_split l empty [] ys cells want leads = (cells, refl, leads)
leads_split l empty (a ∷ xs) ys cells want leads =
    let more : (mid : List ℕ) × Leads l empty leads.0 xs mid × Leads l empty mid ys want = leads_split l empty xs ys leads.0 want leads.2 in
    (more.0, (leads.0, leads.1, more.1), more.2)

-- actions keep the number of cells
pub leads_length : (l : Geometry) (empty : ℕ) (actions : List Action) (cells want : List ℕ) → Leads l empty cells actions want → length want ≡ length cells
unfolding Leads
leads_length l empty [] cells want leads = ap (λ (c : List ℕ). length c) (sym leads)
leads_length l empty (a ∷ rest) cells want leads = leads_length l empty rest leads.0 want leads.2 ∙ acts_length l empty a cells leads.0 leads.1

-- each cell is a byte
abbrev pub AreBytes : List ℕ → Type 0
AreBytes cells = All (λ v. v < 2 ^ 8) cells

-- each cell of a list of bytes is below 256
byte_at : (cells : List ℕ) (i : ℕ) → AreBytes cells → i < length cells → slice_index cells i < 2 ^ 8
byte_at cells i bytes less = bytes i 0 less

-- cells that are below 256 at each place are a list of bytes
bytes_from : (cells : List ℕ) → ((i : ℕ) → i < length cells → slice_index cells i < 2 ^ 8) → AreBytes cells
bytes_from cells each = λ k d less. omega (arith, get_or_default_zero cells k d less, each k less)

-- erasing a sector leaves a list of bytes
sector_bytes : (l : Geometry) (empty k : ℕ) (before x : List ℕ) → empty < 2 ^ 8 → AreBytes before → Acts l empty before (EraseSector k) x → AreBytes x
unfolding Acts
sector_bytes l empty k before x small bytes acts = bytes_from x (λ i less. ⊎_elim
    (λ (inside : In i (range_at l.sectors k)). omega (arith, small, acts.1 i inside))
    (λ (outside : In i (range_at l.sectors k) → ⊥). omega (arith, acts.2.1 i outside, byte_at before i bytes (omega (arith, less, acts.2.0))))
    (cases_in i (range_at l.sectors k)))

-- erasing sectors leaves a list of bytes
erasures_bytes : (l : Geometry) (empty : ℕ) (bs : List Bool) (k : ℕ) (cells want : List ℕ) → empty < 2 ^ 8 → AreBytes cells
    → Leads l empty cells (erasures k bs) want → AreBytes want
unfolding Leads erasures
erasures_bytes l empty [] k cells want small bytes leads = subst (λ (c : List ℕ). AreBytes c) leads bytes
erasures_bytes l empty (true ∷ bs) k cells want small bytes leads =
    erasures_bytes l empty bs (k + 1) leads.0 want small (sector_bytes l empty k cells leads.0 small bytes leads.1) leads.2
erasures_bytes l empty (false ∷ bs) k cells want small bytes leads = erasures_bytes l empty bs (k + 1) cells want small bytes leads

-- erasing the chip leaves a list of bytes
chip_bytes : (l : Geometry) (empty : ℕ) (cells want : List ℕ) → empty < 2 ^ 8 → Leads l empty cells (EraseChip ∷ []) want → AreBytes want
unfolding Leads Acts
chip_bytes l empty cells want small leads = subst (λ (c : List ℕ). AreBytes c) leads.2 (bytes_from leads.0 (λ i less. omega (arith, small, leads.1.1 i less)))

-- erasing leaves a list of bytes
pub erased_bytes : (l : Geometry) (empty : ℕ) (chip : Bool) (set : List Bool) (cells want : List ℕ) → empty < 2 ^ 8 → AreBytes cells
    → Leads l empty cells (cond chip (EraseChip ∷ []) (erasures 0 set)) want → AreBytes want
erased_bytes l empty true set cells want small bytes leads = chip_bytes l empty cells want small leads
erased_bytes l empty false set cells want small bytes leads = erasures_bytes l empty set 0 cells want small bytes leads

-- ---- bytes of a region among all bytes

-- a place of a region is a place of all cells
part_at : (site : Site) (cells : List ℕ) (i : ℕ) → i < site.layout.size → slice_index (part site cells) i ≡ slice_index cells (site.start + i)
part_at site cells i less = get_or-take site.layout.size (drop site.start cells) i 0 less ∙ get_or-drop site.start cells i 0

-- a part of a list of bytes is a list of bytes
pub part_bytes : (site : Site) (cells : List ℕ) → IsAmong site cells → AreBytes cells → AreBytes (part site cells)
part_bytes site cells among bytes = bytes_from (part site cells) (λ i less.
    let long = part_long site cells among in
    omega (arith, part_at site cells i (omega (arith, less, long)), byte_at cells (site.start + i) bytes (omega (arith, less, long, among))))

-- bytes put into a list of bytes leave a list of bytes
pub put_bytes : (site : Site) (x cells : List ℕ) → IsAmong site cells → length x ≡ site.layout.size → AreBytes cells → AreBytes x → AreBytes (put site x cells)
put_bytes site x cells among long bytes these = bytes_from y (λ i less. ⊎_elim
    (λ (before : i < site.start).
    omega (arith, front i before, byte_at cells i bytes (omega (arith, before, among))))
    (λ (from : site.start ≤ i). ⊎_elim
    (λ (under : i < site.start + site.layout.size).
    let j : ℕ = i - site.start in
    let at : site.start + j ≡ i = omega (arith, from) in
    let is : slice_index x j ≡ slice_index y i = ap (λ (l : List ℕ). slice_index l j) (sym (put_part site x cells among long))
    ∙ part_at site y j (omega (arith, under, from)) ∙ ap (λ (k : ℕ). slice_index y k) at in
    omega (arith, is, byte_at x j these (omega (arith, under, from, long))))
    (λ (past : site.start + site.layout.size ≤ i). omega (arith, behind i past, byte_at cells i bytes (omega (arith, less, put_long site x cells among long))))
    (cases_lt i (site.start + site.layout.size)))
    (cases_lt i site.start))
  where
    y : List ℕ
    y = put site x cells

    front : (i : ℕ) → i < site.start → slice_index y i ≡ slice_index cells i
    front i before =
        sym (get_or-take site.start y i 0 before) ∙ ap (λ (l : List ℕ). get_or l i 0) (put_outside site x cells among long).1
        ∙ get_or-take site.start cells i 0 before

    behind : (i : ℕ) → site.start + site.layout.size ≤ i → slice_index y i ≡ slice_index cells i
    behind i past =
        let n = site.start + site.layout.size in
        let j : ℕ = i - n in
        let e : n + j ≡ i = omega (arith, past) in
        ap (λ (k : ℕ). slice_index y k) (sym e) ∙ sym (get_or-drop n y j 0) ∙ ap (λ (l : List ℕ). get_or l j 0) (put_outside site x cells among long).2
        ∙ get_or-drop n cells j 0 ∙ ap (λ (k : ℕ). slice_index cells k) e
