-- The trial of one call of a list.
use Rattle.std.proofs.Common.{◌≡◌, ◌<◌, ◌≤◌, ◌+◌, ◌-◌, ◌^◌, ◌∙◌, ⊎_elim, inl, inr, ℕ, All, List, [], length, take, drop, slice_index, Option, None, refl, sym}
use Rattle.std.proofs.Common.{ap, IsSome, subst}
use Rattle.std.proofs.Common.{arith}
use Rattle.std.proofs.lemmas.Bool.{cases_lt}
use Rattle.flm_descriptor.specs.Shape.{Range, range, range_at}
use Rattle.page_geometry.specs.Geometry.{IsGeometry}
use Rattle.page_geometry.specs.Cells.{IsEmpty}
use Rattle.page_geometry.specs.Ideal.{bytes_in}
use Rattle.page_geometry.specs.Ideal as act
use Rattle.target_core.specs.World.{World}
use Rattle.algo_calls.specs.declared.call.Call.TheVariants as call
use Rattle.algo_calls.specs.Setups.{Setup}
use Rattle.algo_calls.specs.Frames.{Request, asked, after}
use Rattle.algo_calls.specs.Shows.{MayAsk}
use Rattle.algo_calls.specs.Duties.{Site, Duty, Acting, part, place_of, request_of, Does, Keeps}
use Rattle.duty_trials.specs.declared.stand.Tried.{Tried}
use Rattle.duty_trials.specs.declared.subject.Subject.{Subject}
use Rattle.duty_trials.specs.declared.subject.Span.{Span}
use Rattle.duty_trials.specs.Tried.{IsBroken, IsKept}
use Rattle.duty_trials.specs.Watched.{PlaceIn}
use Rattle.duty_trials.specs.Subjects.{setup_for, site_in, IsSpan}
use Rattle.duty_trials.specs.declared.list.Work.{Work}
use Rattle.duty_trials.specs.declared.list.Work.TheVariants as work
use Rattle.duty_trials.specs.Lists.{work_on}
use Rattle.duty_trials.specs.Ended.{OnlyBetween, TriesCall}
use Rattle.duty_trials.proofs.IdealLemmas.{bytes_taken, part_at, filled, sector_does, chip_does, page_does}
use Rattle.duty_trials.proofs.SubjectLemmas.{layout_good, among}

-- ---- what may be asked

pub may_chip : (s t : Setup) → s ≡ t → IsSome t.algorithm.entries.erase_chip → MayAsk s call.EraseChip []
may_chip s t same has = subst (λ (z : Setup). MayAsk z call.EraseChip []) (sym same) (refl, has)

pub may_page : (s t : Setup) (at : ℕ) (bytes : List ℕ) → s ≡ t → length bytes ≤ t.algorithm.device.page → MayAsk s (call.ProgramPage at) bytes
may_page s t at bytes same short = subst (λ (z : Setup). MayAsk z (call.ProgramPage at) bytes) (sym same) short

pub may_check : (s t : Setup) (at : ℕ) (bytes : List ℕ) → s ≡ t → IsSome t.algorithm.entries.verify → length bytes ≤ t.algorithm.device.page
    → MayAsk s (call.Verify at) bytes
may_check s t at bytes same has short = subst (λ (z : Setup). MayAsk z (call.Verify at) bytes) (sym same) (has, short)

-- ---- what the trial of a call says of a duty

abbrev pub Refutes : Setup → World → Request → ℕ → ℕ → List ℕ → Tried → Type 0
Refutes s w r from to wanted result = IsBroken result → (site : Site) (d : Duty) → request_of s site.layout d ≡ r → Does s site w.cells d wanted
    → IsGeometry site.layout
    → site.start + site.layout.size ≤ length w.cells → PlaceIn from to (place_of site d) → Keeps s site w d → ⊥

pub tries : (s : Setup) (site : Site) (d : Duty) (r : Request) (from to : ℕ) (x y : List ℕ) (w w' : World) (operation : Option (ℕ × ℕ)) (result : Tried)
    → Does s site x d y → w.cells ≡ x → request_of s site.layout d ≡ r → IsGeometry site.layout → site.start + site.layout.size ≤ length x
    → PlaceIn from to (place_of site d)
    → Refutes s w r from to y result → (IsKept result → w' ≡ after s w r) → (IsKept result → w'.cells ≡ y) → (IsKept result → operation ≡ None)
    → All (λ v. v < 2 ^ 8) y
    → TriesCall s site d x y w w' operation result
tries s site d r from to x y w w' operation result does cells is good among place broken world cells' idle are = record {
  does = does;
  broken = λ b. broken b site d is (subst (λ (c : List ℕ). Does s site c d y) (sym cells) does) good
      (subst (λ (c : List ℕ). site.start + site.layout.size ≤ length c) (sym cells) among) place;
  world = λ k. world k ∙ ap (λ (q : Request). after s w q) (sym is);
  cells = cells';
  idle = idle;
  bytes = are;
}

-- a call by the address of a range of the device
pub at_range : (t : Subject) (s : Setup) (r : Range) (span : Span) → s ≡ setup_for t → IsSpan t r span → s.algorithm.device.base + r.start ≡ span.address
at_range t s r span setup is = ap (λ (z : Setup). z.algorithm.device.base + r.start) setup ∙ sym is.address

-- the places of a range of the device among all cells
pub span_in : (t : Subject) (r : Range) (span : Span) → r.start ≤ r.stop → IsSpan t r span
    → (span.from ≤ (site_in t).start + r.start) × ((site_in t).start + r.start + (r.stop - r.start) ≤ span.to)
span_in t r span ordered is = (omega (arith, is.from), omega (arith, ordered, is.to))

only_as : (t : Subject) (r : Range) (span : Span) (x y : List ℕ) → IsSpan t r span → OnlyBetween span.from span.to x y
    → OnlyBetween ((site_in t).start + r.start) ((site_in t).start + r.stop) x y
only_as t r span x y is only = record {
  long = only.long;
  same = λ i out. only.same i (⊎_elim
      (λ (before : i < (site_in t).start + r.start). inl (omega (arith, before, is.from)))
      (λ (past : (site_in t).start + r.stop ≤ i). inr (omega (arith, past, is.to)))
      out);
}

-- the bytes of a range of the device, taken out of all cells
taken_as : (t : Subject) (r : Range) (span : Span) (y bytes : List ℕ) → length y ≡ t.cells → r.stop ≤ (site_in t).layout.size → IsSpan t r span
    → bytes ≡ take (span.to - span.from) (drop span.from y) → bytes_in r (part (site_in t) y) ≡ bytes
taken_as t r span y bytes long below is taken =
    sym (taken
    ∙ ap (λ (n : ℕ). take (span.to - n) (drop n y)) is.from
    ∙ ap (λ (n : ℕ). take (n - ((site_in t).start + r.start)) (drop ((site_in t).start + r.start) y)) is.to
    ∙ bytes_taken (site_in t) r y (among t y long) below)

pub sector_tries : (t : Subject) (k : ℕ) (span : Span) (s : Setup) (x y : List ℕ) (w w' : World) (operation : Option (ℕ × ℕ)) (result : Tried)
    → s ≡ setup_for t → w.cells ≡ x → length x ≡ t.cells → k < length (site_in t).layout.sectors → IsSpan t (range_at (site_in t).layout.sectors k) span
    → OnlyBetween span.from span.to x y
    → ((i : ℕ) → span.from ≤ i → i < span.to → slice_index y i ≡ t.algorithm.now.device.empty)
    → Refutes s w (asked (call.EraseSector span.address) []) span.from span.to y result
    → (IsKept result → w' ≡ after s w (asked (call.EraseSector span.address) [])) → (IsKept result → w'.cells ≡ y) → (IsKept result → operation ≡ None)
    → All (λ v. v < 2 ^ 8) y
    → TriesCall s (site_in t) (Acting (act.EraseSector k)) x y w w' operation result
sector_tries t k span s x y w w' operation result setup cells long less is only put broken world cells' idle are =
    let r : Range = range_at (site_in t).layout.sectors k in
    let some : r.start < r.stop = (layout_good t).sectors_part.some k less in
    let does : Does s (site_in t) x (Acting (act.EraseSector k)) y =
    subst (λ (z : Setup). Does z (site_in t) x (Acting (act.EraseSector k)) y) (sym setup)
    (sector_does (setup_for t) (site_in t) k x y (layout_good t) (among t x long) less (only_as t r span x y is only)
    (λ i above below. put i (omega (arith, above, is.from)) (omega (arith, below, is.to)))) in
    tries s (site_in t) (Acting (act.EraseSector k)) (asked (call.EraseSector span.address) []) span.from span.to x y w w' operation result does cells
    (ap (λ (n : ℕ). asked (call.EraseSector n) []) (at_range t s r span setup is)) (layout_good t) (among t x long) (span_in t r span (omega (arith, some)) is)
    broken world cells' idle are

pub chip_tries : (t : Subject) (span : Span) (s : Setup) (x y : List ℕ) (w w' : World) (operation : Option (ℕ × ℕ)) (result : Tried)
    → s ≡ setup_for t → w.cells ≡ x → length x ≡ t.cells → IsSpan t (range 0 (site_in t).layout.size) span → OnlyBetween span.from span.to x y
    → ((i : ℕ) → span.from ≤ i → i < span.to → slice_index y i ≡ t.algorithm.now.device.empty)
    → Refutes s w (asked call.EraseChip []) span.from span.to y result
    → (IsKept result → w' ≡ after s w (asked call.EraseChip [])) → (IsKept result → w'.cells ≡ y) → (IsKept result → operation ≡ None)
    → All (λ v. v < 2 ^ 8) y
    → TriesCall s (site_in t) (Acting act.EraseChip) x y w w' operation result
chip_tries t span s x y w w' operation result setup cells long is only put broken world cells' idle are =
    let r : Range = range 0 (site_in t).layout.size in
    let does : Does s (site_in t) x (Acting act.EraseChip) y =
    subst (λ (z : Setup). Does z (site_in t) x (Acting act.EraseChip) y) (sym setup)
    (chip_does (setup_for t) (site_in t) x y (among t x long) (only_as t r span x y is only)
    (λ i above below. put i (omega (arith, above, is.from)) (omega (arith, below, is.to)))) in
    tries s (site_in t) (Acting act.EraseChip) (asked call.EraseChip []) span.from span.to x y w w' operation result does cells
    refl (layout_good t) (among t x long) (span_in t r span (omega arith) is) broken world cells' idle are

pub page_tries : (t : Subject) (k : ℕ) (span : Span) (s : Setup) (x y bytes : List ℕ) (w w' : World) (operation : Option (ℕ × ℕ)) (result : Tried)
    → s ≡ setup_for t → w.cells ≡ x → length x ≡ t.cells → k < length (site_in t).layout.pages → IsSpan t (range_at (site_in t).layout.pages k) span
    → IsEmpty t.algorithm.now.device.empty (range_at (site_in t).layout.pages k) (part (site_in t) x) → OnlyBetween span.from span.to x y
    → bytes ≡ take (span.to - span.from) (drop span.from y)
    → Refutes s w (asked (call.ProgramPage span.address) bytes) span.from span.to y result
    → (IsKept result → w' ≡ after s w (asked (call.ProgramPage span.address) bytes))
    → (IsKept result → w'.cells ≡ y) → (IsKept result → operation ≡ None)
    → All (λ v. v < 2 ^ 8) y
    → TriesCall s (site_in t) (Acting (act.ProgramPage k (bytes_in (range_at (site_in t).layout.pages k) (part (site_in t) y)))) x y w w' operation result
page_tries t k span s x y bytes w w' operation result setup cells long less is empty only taken broken world cells' idle are =
    let r : Range = range_at (site_in t).layout.pages k in
    let some : r.start < r.stop = (layout_good t).pages_part.some k less in
    let d : Duty = Acting (act.ProgramPage k (bytes_in r (part (site_in t) y))) in
    let does : Does s (site_in t) x d y =
    subst (λ (z : Setup). Does z (site_in t) x d y) (sym setup)
    (page_does (setup_for t) (site_in t) k x y (layout_good t) (among t x long) less empty (only_as t r span x y is only)) in
    tries s (site_in t) d (asked (call.ProgramPage span.address) bytes) span.from span.to x y w w' operation result does cells
    (ap (λ (n : ℕ). asked (call.ProgramPage n) (bytes_in r (part (site_in t) y))) (at_range t s r span setup is)
    ∙ ap (λ (b : List ℕ). asked (call.ProgramPage span.address) b)
    (taken_as t r span y bytes (only.long ∙ long) ((layout_good t).pages_part.below k less) is taken))
    (layout_good t) (among t x long) (span_in t r span (omega (arith, some)) is) broken world cells' idle are

pub check_tries : (t : Subject) (k : ℕ) (span : Span) (s : Setup) (x bytes : List ℕ) (w w' : World) (operation : Option (ℕ × ℕ)) (result : Tried)
    → w.cells ≡ x → length x ≡ t.cells → k < length (site_in t).layout.pages → IsSpan t (range_at (site_in t).layout.pages k) span
    → bytes ≡ take (span.to - span.from) (drop span.from x)
    → Refutes s w (asked (call.Verify span.address) bytes) 0 0 x result → (IsKept result → w' ≡ after s w (asked (call.Verify span.address) bytes))
    → (IsKept result → w'.cells ≡ x) → (IsKept result → operation ≡ None)
    → All (λ v. v < 2 ^ 8) x
    → TriesCall s (site_in t) (work_on (setup_for t) (site_in t).layout work.Checks (part (site_in t) x) k) x x w w' operation result
check_tries t k span s x bytes w w' operation result cells long less is taken broken world cells' idle are =
    let r : Range = range_at (site_in t).layout.pages k in
    let some : r.start < r.stop = (layout_good t).pages_part.some k less in
    let d : Duty = work_on (setup_for t) (site_in t).layout work.Checks (part (site_in t) x) k in
    tries s (site_in t) d (asked (call.Verify span.address) bytes) 0 0 x x w w' operation result refl cells
    (ap (λ (n : ℕ). asked (call.Verify n) (bytes_in r (part (site_in t) x))) (at_range t (setup_for t) r span refl is)
    ∙ ap (λ (b : List ℕ). asked (call.Verify span.address) b) (taken_as t r span x bytes long ((layout_good t).pages_part.below k less) is taken))
    (layout_good t) (among t x long) tt broken world cells' idle are

-- the trial of a work, by the name that the code has for it
pub for_work : (s t : Setup) (site : Site) (v w : Work) (held : List ℕ) (k : ℕ) (x y : List ℕ) (u u' : World) (operation : Option (ℕ × ℕ)) (result : Tried)
    → w ≡ v
    → TriesCall s site (work_on t site.layout v held k) x y u u' operation result → TriesCall s site (work_on t site.layout w held k) x y u u' operation result
for_work s t site v w held k x y u u' operation result is one = subst
    (λ (z : Work). TriesCall s site (work_on t site.layout z held k) x y u u' operation result) (sym is) one

-- ---- pages that are emptied one after the other

-- a range that was filled with the empty value is empty
pub emptied : (t : Subject) (r : Range) (span : Span) (x y : List ℕ) → IsSpan t r span → length x ≡ t.cells → r.stop ≤ (site_in t).layout.size
    → OnlyBetween span.from span.to x y
    → ((i : ℕ) → span.from ≤ i → i < span.to → slice_index y i ≡ t.algorithm.now.device.empty) → IsEmpty t.algorithm.now.device.empty r (part (site_in t) y)
emptied t r span x y is long below only put =
    filled (site_in t) r x y (among t x long) below (only_as t r span x y is only) t.algorithm.now.device.empty
    (λ i above under. put i (omega (arith, above, is.from)) (omega (arith, under, is.to)))

-- a range that was empty stays empty when some cells get the empty value
pub stays_empty : (t : Subject) (r : Range) (from to : ℕ) (x y : List ℕ) → r.stop ≤ (site_in t).layout.size → OnlyBetween from to x y
    → ((i : ℕ) → from ≤ i → i < to → slice_index y i ≡ t.algorithm.now.device.empty) → IsEmpty t.algorithm.now.device.empty r (part (site_in t) x)
    → IsEmpty t.algorithm.now.device.empty r (part (site_in t) y)
stays_empty t r from to x y below only put empty i inside =
    let n : ℕ = (site_in t).start + i in
    let less : i < (site_in t).layout.size = omega (arith, inside.1, below) in
    part_at (site_in t) y i less ∙ ⊎_elim
    (λ (before : n < from). only.same n (inl before) ∙ sym (part_at (site_in t) x i less) ∙ empty i inside)
    (λ (above : from ≤ n). ⊎_elim
    (λ (under : n < to). put n above under)
    (λ (past : to ≤ n). only.same n (inr past) ∙ sym (part_at (site_in t) x i less) ∙ empty i inside)
    (cases_lt n to))
    (cases_lt n from)
