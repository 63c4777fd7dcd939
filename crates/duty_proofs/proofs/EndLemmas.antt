-- What a done call leaves of the cells: in its place by its marks, and all other cells as they were.
use Rattle.std.proofs.Common.{◌≡◌, ◌<◌, ◌≤◌, ◌+◌, ◌-◌, ◌⊎◌, ℕ, List, length, take, drop, slice_index, get_or, Option, Some, None, refl, sym, ap, subst, ◌∙◌}
use Rattle.std.proofs.Common.{⊎_elim, inl, inr, arith, length-take, length-drop, get_or-take, get_or-drop, take-take, drop-drop}
use Rattle.std.proofs.lemmas.Bool.{cases_lt}
use Rattle.std.proofs.lemmas.List.{get_or_past}
use Rattle.bench_model.specs.State.{SameOutside}
use Rattle.flm_descriptor.specs.Shape.{Range, range, range_at}
use Rattle.page_geometry.specs.Geometry.{In, IsGeometry}
use Rattle.page_geometry.specs.Cells.{IsEmpty, Holds}
use Rattle.page_geometry.specs.Ideal.{Acts, EraseChip, EraseSector, ProgramPage, Stays}
use Rattle.target_core.specs.Units.{state_op}
use Rattle.target_core.specs.World.{World}
use Rattle.target_core.specs.Path.{Point, point, IsLeftOnPath}
use Rattle.target_core.specs.Local.{LiesIn}
use Rattle.target_core.proofs.StayLemmas.{left_stays}
use Rattle.algo_calls.specs.Setups.{Setup}
use Rattle.algo_calls.specs.Frames.{Request, first_point, path_of, after}
use Rattle.algo_calls.specs.Duties.{Acting, Duty, Keeps, OpensIn, Quiet, Site, part, place_of, request_of, span}
use Rattle.shadow_step.specs.declared.marks.Mark.TheVariants.{Page, Any}
use Rattle.shadow_step.specs.Marks.{Pages}
use Rattle.duty_proofs.specs.declared.cells.CellMark.{CellMark}
use Rattle.duty_proofs.specs.declared.cells.CellMark.TheVariants.{Blank}
use Rattle.duty_proofs.specs.declared.cells.CellMark.TheVariants.{Holds as Marked}
use Rattle.duty_proofs.specs.TargetMarks.{CellsAgree, CellSays}
use Rattle.duty_proofs.proofs.DoneLemmas.{IsDone}

-- ---- outside the place of a call

opens_some : (place : ℕ × ℕ) (operation : Option (ℕ × ℕ)) → OpensIn (Some place) operation → LiesIn place operation
opens_some place None opens = tt
opens_some place (Some operation) opens = opens

opens_none : (operation : Option (ℕ × ℕ)) → OpensIn None operation → LiesIn (0, 0) operation
opens_none None opens = tt
opens_none (Some operation) opens = absurd opens

abbrev pub FitsIn : Option (ℕ × ℕ) → ℕ → Type 0
FitsIn None n = Unit {0}
FitsIn (Some place) n = place.0 + place.1 ≤ n

path_local : (place : Option (ℕ × ℕ)) (first : Point) (last : ℕ) → FitsIn place (length first.world.cells)
    → ((n : ℕ) → n ≤ last → OpensIn place (state_op (point first n).world.state)) → (c : List ℕ) → IsLeftOnPath first last c →
    SameOutside place first.world.cells c
path_local None first last fits inside c left =
    let same : SameOutside (Some (0, 0)) first.world.cells c =
    left_stays first last (0, 0) (omega arith) (λ n le. opens_none (state_op (point first n).world.state) (inside n le)) c left in
    same.2
path_local (Some place) first last fits inside c left = left_stays first last place fits
    (λ n le. opens_some place (state_op (point first n).world.state) (inside n le)) c left

left_there : (o : Option (ℕ × ℕ)) (cells : List ℕ) → o ≡ None → SameOutside o cells cells
left_there None cells e = refl
left_there (Some x) cells e = cc

first_cells : (s : Setup) (w : World) (r : Request) → (path_of s w r).first.world.cells ≡ w.cells
unfolding path_of first_point
first_cells s w r = refl

after_last : (s : Setup) (w : World) (r : Request) → after s w r ≡ (point (path_of s w r).first (path_of s w r).last).world
unfolding after
after_last s w r = refl

-- a done call leaves all cells outside its place
pub done_local : (s : Setup) (w w' : World) (q : Request) (place : Option (ℕ × ℕ)) → FitsIn place (length w.cells) → IsDone s w q place w' →
    SameOutside place w.cells (after s w q).cells
done_local s w w' q place fits call =
    let first : Point = (path_of s w q).first in
    let last : ℕ = (path_of s w q).last in
    let start : first.world.cells ≡ w.cells = first_cells s w q in
    let idle : state_op (point first last).world.state ≡ None = ap (λ (x : World). state_op x.state) (sym (after_last s w q) ∙ call.leaves) ∙ call.idle in
    let left : IsLeftOnPath first last (point first last).world.cells =
    record { number = last; within = omega arith; left = left_there (state_op (point first last).world.state) (point first last).world.cells idle } in
    subst (λ (x : List ℕ). SameOutside place x (after s w q).cells) start
    (subst (λ (x : World). SameOutside place first.world.cells x.cells) (sym (after_last s w q))
    (path_local place first last (subst (λ (x : List ℕ). FitsIn place (length x)) (sym start) fits) call.inside _ left))

-- ---- the cells of a region

module _ (site : Site) (cells : List ℕ) where
  pub part_at : (i : ℕ) → i < site.layout.size → slice_index (part site cells) i ≡ slice_index cells (site.start + i)
  part_at i below = get_or-take site.layout.size (drop site.start cells) i 0 below ∙ get_or-drop site.start cells i 0

  part_past : (i : ℕ) → site.layout.size ≤ i → slice_index (part site cells) i ≡ 0
  part_past i past = get_or_past (part site cells) i 0 (omega (arith, past, length-take site.layout.size (drop site.start cells)))

index_same : (x n : ℕ) (before after' : List ℕ) (j : ℕ) → SameOutside (Some (x, n)) before after' → (j < x) ⊎ (x + n ≤ j) →
    slice_index after' j ≡ slice_index before j
index_same x n before after' j same where' = ⊎_elim
    (λ (below : j < x). sym (get_or-take x after' j 0 below) ∙ ap (λ (l : List ℕ). slice_index l j) same.1 ∙ get_or-take x before j 0 below)
    (λ (past : x + n ≤ j).
    let e : x + n + (j - (x + n)) ≡ j = omega (arith, past) in
    ap (slice_index after') (sym e) ∙ sym (get_or-drop (x + n) after' (j - (x + n)) 0)
    ∙ ap (λ (l : List ℕ). slice_index l (j - (x + n))) same.2
    ∙ get_or-drop (x + n) before (j - (x + n)) 0 ∙ ap (slice_index before) e)
    where'

module _ (site : Site) (r : Range) (before after' : List ℕ) (ordered : r.start ≤ r.stop) (inside : r.stop ≤ site.layout.size)
    (same : SameOutside (Some (span site r)) before after') where
  others_same : SameOutside (Some (site.start, site.layout.size)) before after'
  others_same =
      let front : take site.start after' ≡ take site.start before =
      sym (take-take site.start (site.start + r.start) after' (omega arith)) ∙ ap (λ (l : List ℕ). take site.start l) same.1
      ∙ take-take site.start (site.start + r.start) before (omega arith) in
      let n : ℕ = site.start + r.start + (r.stop - r.start) in
      let more : ℕ = site.layout.size - r.stop in
      let e : n + more ≡ site.start + site.layout.size = omega (arith, ordered, inside) in
      let back : drop (site.start + site.layout.size) after' ≡ drop (site.start + site.layout.size) before =
      ap (λ (k : ℕ). drop k after') (sym e) ∙ sym (drop-drop more n after') ∙ ap (λ (l : List ℕ). drop more l) same.2
      ∙ drop-drop more n before ∙ ap (λ (k : ℕ). drop k before) e in
      (same.0, front, back)

  stays_same : Stays r (part site before) (part site after')
  stays_same = (
    length-take site.layout.size (drop site.start after') ∙ omega (
      arith,
      same.0,
      length-drop site.start after',
      length-drop site.start before,
      length-take site.layout.size (drop site.start before),
    ),
    λ i outside. ⊎_elim
        (λ (below : i < site.layout.size).
        part_at site after' i below
        ∙ index_same (site.start + r.start) (r.stop - r.start) before after' (site.start + i) same (⊎_elim
        (λ (early : i < r.start). inl (omega (arith, early)))
        (λ (late : r.start ≤ i). ⊎_elim
        (λ (hit : i < r.stop). absurd (outside (late, hit)))
        (λ (past : r.stop ≤ i). inr (omega (arith, past, ordered)))
        (cases_lt i r.stop))
        (cases_lt i r.start))
        ∙ sym (part_at site before i below))
        (λ (past : site.layout.size ≤ i). part_past site after' i past ∙ sym (part_past site before i past))
        (cases_lt i site.layout.size),
  )

-- ---- by the marks of the place

-- each cell of a place has a mark
abbrev pub AllAre : (ℕ → CellMark) → ℕ → List CellMark → Type 0
AllAre mark n ms = (k : ℕ) → k < n → get_or ms k (Marked Any) ≡ mark k

module _ (p : Pages) (site : Site) (r : Range) (ms : List CellMark) (cells cells' : List ℕ) (agree : CellsAgree p (site.start + r.start) ms cells cells')
    (inside : r.stop ≤ site.layout.size) where
  cell_says : (i : ℕ) → In i r → (c : CellMark) → get_or ms (i - r.start) (Marked Any) ≡ c →
      CellSays p c (slice_index cells (site.start + i)) (slice_index cells' (site.start + i))
  cell_says i in' c e =
      let at : site.start + r.start + (i - r.start) ≡ site.start + i = omega (arith, in'.0) in
      let here : CellSays p (get_or ms (i - r.start) (Marked Any)) (slice_index cells (site.start + r.start + (i - r.start)))
      (slice_index cells' (site.start + r.start + (i - r.start))) = agree.says (i - r.start) in
      rw (sym e) (rw (sym at) here)

  pub place_empty : (empty : ℕ) → empty ≡ 0xFF → AllAre (λ k. Blank) (r.stop - r.start) ms → IsEmpty empty r (part site cells')
  place_empty empty is all i in' =
      let blank : (slice_index cells (site.start + i) ≡ 0xFF) × (slice_index cells' (site.start + i) ≡ 0xFF) =
      cell_says i in' Blank (all (i - r.start) (omega (arith, in'.0, in'.1))) in
      part_at site cells' i (omega (arith, in'.1, inside)) ∙ blank.1 ∙ sym is

  pub place_holds : AllAre (λ k. Marked (Page 1 k)) (r.stop - r.start) ms → Holds r p.there (part site cells')
  place_holds all i in' =
      let named : (slice_index cells (site.start + i) ≡ slice_index p.here (i - r.start))
      × (slice_index cells' (site.start + i) ≡ slice_index p.there (i - r.start)) =
      cell_says i in' (Marked (Page 1 (i - r.start))) (all (i - r.start) (omega (arith, in'.0, in'.1))) in
      part_at site cells' i (omega (arith, in'.1, inside)) ∙ named.1

-- ---- duties

pub quiet_kept : (s : Setup) (site : Site) (w w' : World) (q : Request) → IsDone s w q None w' → Keeps s site w (Quiet q)
quiet_kept s site w w' q call = record {
  done = call.ends;
  leaves = done_local s w w' q None tt call;
  idle = ap (λ (x : World). state_op x.state) call.leaves ∙ call.idle;
  inside = call.inside;
}

module _ (s : Setup) (site : Site) (w w' : World) (good : IsGeometry site.layout) (fits : site.start + site.layout.size ≤ length w.cells) where
  pub sector_kept : (k : ℕ) → k < length site.layout.sectors → IsDone s w (request_of s site.layout (Acting (EraseSector k)))
      (place_of site (Acting (EraseSector k))) w'
      → IsEmpty s.algorithm.device.empty (range_at site.layout.sectors k) (part site w'.cells) → Keeps s site w (Acting (EraseSector k))
  unfolding Acts
  sector_kept k below call empty =
      let d : Duty = Acting (EraseSector k) in
      let r : Range = range_at site.layout.sectors k in
      let some : r.start < r.stop = good.sectors_part.some k below in
      let inside : r.stop ≤ site.layout.size = good.sectors_part.below k below in
      let same : SameOutside (Some (span site r)) w.cells (after s w (request_of s site.layout d)).cells =
      done_local s w w' (request_of s site.layout d) (place_of site d) (omega (arith, some, inside, fits)) call in
      record {
        done = call.ends;
        leaves = record {
          leads = (
            below,
            subst (λ (x : World). IsEmpty s.algorithm.device.empty r (part site x.cells)) (sym call.leaves) empty,
            stays_same site r w.cells _ (omega (arith, some)) inside same,
          );
          others = others_same site r w.cells _ (omega (arith, some)) inside same;
        };
        idle = ap (λ (x : World). state_op x.state) call.leaves ∙ call.idle;
        inside = call.inside;
      }

  pub page_kept : (k : ℕ) (bytes : List ℕ) → k < length site.layout.pages →
      length bytes ≡ (range_at site.layout.pages k).stop - (range_at site.layout.pages k).start
      → IsEmpty s.algorithm.device.empty (range_at site.layout.pages k) (part site w.cells)
      → IsDone s w (request_of s site.layout (Acting (ProgramPage k bytes))) (place_of site (Acting (ProgramPage k bytes))) w'
      → Holds (range_at site.layout.pages k) bytes (part site w'.cells) → Keeps s site w (Acting (ProgramPage k bytes))
  unfolding Acts
  page_kept k bytes below long blank call holds =
      let d : Duty = Acting (ProgramPage k bytes) in
      let r : Range = range_at site.layout.pages k in
      let some : r.start < r.stop = good.pages_part.some k below in
      let inside : r.stop ≤ site.layout.size = good.pages_part.below k below in
      let same : SameOutside (Some (span site r)) w.cells (after s w (request_of s site.layout d)).cells =
      done_local s w w' (request_of s site.layout d) (place_of site d) (omega (arith, some, inside, fits)) call in
      record {
        done = call.ends;
        leaves = record {
          leads = (
            below,
            long,
            blank,
            subst (λ (x : World). Holds r bytes (part site x.cells)) (sym call.leaves) holds,
            stays_same site r w.cells _ (omega (arith, some)) inside same,
          );
          others = others_same site r w.cells _ (omega (arith, some)) inside same;
        };
        idle = ap (λ (x : World). state_op x.state) call.leaves ∙ call.idle;
        inside = call.inside;
      }

  pub chip_kept : 0 < site.layout.size → IsDone s w (request_of s site.layout (Acting EraseChip)) (place_of site (Acting EraseChip)) w'
      → IsEmpty s.algorithm.device.empty (range 0 site.layout.size) (part site w'.cells) → Keeps s site w (Acting EraseChip)
  unfolding Acts
  chip_kept some call empty =
      let d : Duty = Acting EraseChip in
      let r : Range = range 0 site.layout.size in
      let same : SameOutside (Some (span site r)) w.cells (after s w (request_of s site.layout d)).cells =
      done_local s w w' (request_of s site.layout d) (place_of site d) (omega (arith, fits)) call in
      let all : IsEmpty s.algorithm.device.empty r (part site (after s w (request_of s site.layout d)).cells) =
      subst (λ (x : World). IsEmpty s.algorithm.device.empty r (part site x.cells)) (sym call.leaves) empty in
      record {
        done = call.ends;
        leaves = record {
          leads = (
            (stays_same site r w.cells _ (omega arith) (omega arith) same).0,
            λ i below. all i (omega arith, omega (arith, below, length-take site.layout.size (drop site.start (after s w (request_of s site.layout d)).cells))),
          );
          others = others_same site r w.cells _ (omega arith) (omega arith) same;
        };
        idle = ap (λ (x : World). state_op x.state) call.leaves ∙ call.idle;
        inside = call.inside;
      }
