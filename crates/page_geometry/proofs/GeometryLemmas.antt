-- The sectors and pages of a lawful shape are partitions of the device, and no page is longer than the shape says.
use Rattle.std.proofs.Common.{◌≡◌, ℕ, suc, ◌+◌, ◌-◌, ◌<◌, ◌≤◌, min, sym, subst, arith, ◌∙◌, List, [], ◌∷◌, length, append-nil, inl, inr}
use Rattle.std.proofs.lemmas.Bool.{cases_lt}
use Rattle.std.proofs.lemmas.List.{get_or_append_left, get_or-append_right, length-append}
use Rattle.flm_descriptor.specs.declared.items.SectorItem.{SectorItem}
use Rattle.flm_descriptor.specs.Shape.{Range, range, range_at, Shape, IsLawful, item_end, runs_of, sectors_of, pages_of, sectors, pages, pieces, cut, offset_at}
use Rattle.flm_descriptor.specs.Shape.{size_at}
use Rattle.flm_descriptor.proofs.CutLemmas.{length-cut, cut_at}
use Rattle.page_geometry.specs.Geometry.{In, Within, Geometry, IsGeometry, PagesFit, shape_geometry}
use Rattle.page_geometry.proofs.ChainLemmas.{Chains, chains_append, cut_chains, pages_chain, pages_nested, partition}

-- the items rise, and none has size 0
unfoldable Rising : List SectorItem → Type 0
Rising [] = Unit {0}
Rising (item ∷ []) = 1 ≤ item.size
Rising (item ∷ next ∷ rest) = (1 ≤ item.size) × (item.offset < next.offset) × Rising (next ∷ rest)

rising : (items : List SectorItem) → ((k : ℕ) → k + 1 < length items → offset_at items k < offset_at items (k + 1)) →
    ((k : ℕ) → k < length items → 1 ≤ size_at items k) → Rising items
unfolding Rising
rising [] up some = tt
rising (item ∷ []) up some = some 0 (omega arith)
rising (item ∷ next ∷ rest) up some = (
  some 0 (omega arith),
  up 0 (omega arith),
  rising (next ∷ rest)
      (λ k l. let e : suc k + 1 ≡ suc (k + 1) = omega arith in
      subst (λ (m : ℕ). offset_at (next ∷ rest) k < offset_at (item ∷ next ∷ rest) m) e (up (suc k) (omega (arith, l))))
      (λ k l. some (suc k) (omega (arith, l))),
)

sectors_chain : (size : ℕ) (item : SectorItem) (rest : List SectorItem) → Rising (item ∷ rest) →
    Chains (min item.offset size) (sectors_of (runs_of size (item ∷ rest))) size
unfolding Rising runs_of sectors_of item_end
sectors_chain size item [] up = subst (λ (rs : List Range). Chains (min item.offset size) rs size) (sym (append-nil _))
    (cut_chains item.size item.offset size up)
sectors_chain size item (next ∷ rest) up =
    let stop : ℕ = min next.offset size in
    let e : min item.offset stop ≡ min item.offset size = omega (arith, up.1) in
    chains_append (min item.offset size) stop size (cut item.size item.offset stop) (sectors_of (runs_of size (next ∷ rest)))
    (subst (λ (n : ℕ). Chains n (cut item.size item.offset stop) stop) e (cut_chains item.size item.offset stop up.0))
    (sectors_chain size next rest up.2)

whole_chain : (size : ℕ) (items : List SectorItem) → 1 ≤ length items → offset_at items 0 ≡ 0 → Rising items → Chains 0 (sectors_of (runs_of size items)) size
whole_chain size [] some begins up = absurd (omega (arith, some))
whole_chain size (item ∷ rest) some begins up =
    let e : min item.offset size ≡ 0 = omega (arith, begins) in
    subst (λ (n : ℕ). Chains n (sectors_of (runs_of size (item ∷ rest))) size) e (sectors_chain size item rest up)

-- a lawful shape's sectors and pages partition the device
pub geometry_lawful : (s : Shape) → IsLawful s → IsGeometry (shape_geometry s)
geometry_lawful s lawful =
    let chain = whole_chain s.size s.items lawful.items_some lawful.begins (rising s.items lawful.rise lawful.sizes) in
    record {
      sectors_part = partition s.size (sectors s) chain;
      pages_part = partition s.size (pages s) (pages_chain s.page 0 s.size (sectors s) lawful.page_some chain);
      nested = pages_nested s.page (sectors s) lawful.page_some;
    }

pub pages_fit : (page : ℕ) (ss : List Range) (p : ℕ) → p < length (pages_of page ss) →
    (range_at (pages_of page ss) p).stop ≤ (range_at (pages_of page ss) p).start + page
unfolding pages_of
pages_fit page [] p h = absurd (omega (arith, h))
pages_fit page (r ∷ ss) p h =
    let n : ℕ = pieces page r.start r.stop in
    let long : length (cut page r.start r.stop) ≡ n = length-cut page r.start r.stop in
    let all = length-append (cut page r.start r.stop) (pages_of page ss) in
    let goal = λ (x : Range). x.stop ≤ x.start + page in
    elim (cases_lt p n) [
      | inl here ↦
          (let e = get_or_append_left (cut page r.start r.stop) (pages_of page ss) (range 0 0) p (omega (arith, here, long)) ∙
          cut_at page r.start r.stop p here in
          subst (λ (x : Range). goal x) (sym e) (omega arith))
      | inr there ↦
          (let e = get_or-append_right (cut page r.start r.stop) (pages_of page ss) n p (range 0 0) long there in
          subst (λ (x : Range). goal x) (sym e) (pages_fit page ss (p - n) (omega (arith, h, all, long, there))))
    ]

-- no page of a shape's geometry is longer than the shape's page size
pub geometry_fits : (s : Shape) → PagesFit s.page (shape_geometry s)
geometry_fits s = pages_fit s.page (sectors s)

-- a page with one place in a sector lies in that sector as a whole
pub page_within : (l : Geometry) → IsGeometry l → (s p i : ℕ) → p < length l.pages → In i (range_at l.pages p) → In i (range_at l.sectors s) →
    Within (range_at l.pages p) (range_at l.sectors s)
page_within l good s p i inside in_page in_sector =
    let x = good.nested p inside in
    let same : x.0 ≡ s = good.sectors_part.apart x.0 s i (omega (arith, x.2.0, in_page.0), omega (arith, x.2.1, in_page.1)) in_sector in
    subst (λ (t : ℕ). Within (range_at l.pages p) (range_at l.sectors t)) same x.2
