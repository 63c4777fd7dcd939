-- The tables of a geometry, built run by run.
use Rattle.std.proofs.Common.{◌≡◌, ℕ, zero, suc, ◌+◌, ◌-◌, ◌<◌, ◌≤◌, min, refl, sym, ap, subst, arith, ◌∙◌, List, [], ◌∷◌, ◌++◌, take, drop, length, get_or}
use Rattle.std.proofs.Common.{slice_index, inl, inr}
use Rattle.std.proofs.lemmas.Bool.{cases_lt}
use Rattle.std.proofs.lemmas.List.{take_more, take_all, length-append, get_or_append_left, get_or-append_right}
use Rattle.flm_descriptor.specs.declared.items.SectorItem.{SectorItem}
use Rattle.flm_descriptor.specs.declared.geometry.Run.{Run}
use Rattle.flm_descriptor.specs.Shape.{pieces, cut, shape, pages_of, runs_of, item_end, IsLawful, run_at, sectors_before, pages_before}
use Rattle.page_geometry.specs.Geometry.{shape_geometry}
use Rattle.page_geometry.specs.Table.{IsTable, runs_geometry}
use Rattle.flm_descriptor.proofs.RunLemmas.{sectors_next, pages_next, sectors_all, pages_all, sectors_rise, pages_rise, sectors_none, pages_none}
use Rattle.flm_descriptor.proofs.ItemLemmas.{no_item, end_next, end_last, length-runs, runs_at, offset_is, size_is}
use Rattle.page_geometry.proofs.GeometryLemmas.{geometry_lawful}

-- the tables of the first `n` runs
pub record Built (size page : ℕ) (items : List SectorItem) (n : ℕ) (runs : List Run) (starts firsts page_firsts : List ℕ) (sectors pages : ℕ) : Type 0 where
  pub runs_are : runs ≡ take n (runs_of size items)
  pub starts_long : length starts ≡ n
  pub starts_each : (k : ℕ) → k < n → slice_index starts k ≡ (run_at (runs_of size items) k).start
  pub firsts_long : length firsts ≡ n
  pub firsts_each : (k : ℕ) → k < n → slice_index firsts k ≡ sectors_before (runs_of size items) k
  pub pages_long : length page_firsts ≡ n
  pub pages_each : (k : ℕ) → k < n → slice_index page_firsts k ≡ pages_before page (runs_of size items) k
  pub sectors_are : sectors ≡ sectors_before (runs_of size items) n
  pub pages_are : pages ≡ pages_before page (runs_of size items) n

pub built_none : (size page : ℕ) (items : List SectorItem) → Built size page items 0 [] [] [] [] 0 0
built_none size page items = record {
  runs_are = refl;
  starts_long = refl;
  starts_each = λ k h. absurd (omega (arith, h));
  firsts_long = refl;
  firsts_each = λ k h. absurd (omega (arith, h));
  pages_long = refl;
  pages_each = λ k h. absurd (omega (arith, h));
  sectors_are = sym (sectors_none (runs_of size items));
  pages_are = sym (pages_none page (runs_of size items));
}

-- a list of numbers with one more at the end
pushed : (xs : List ℕ) (n x : ℕ) (f : ℕ → ℕ) → length xs ≡ n → ((k : ℕ) → k < n → slice_index xs k ≡ f k) → x ≡ f n →
    (k : ℕ) → k < n + 1 → slice_index (xs ++ x ∷ []) k ≡ f k
pushed xs n x f long each last k h =
    elim (cases_lt k n) [
      | inl before ↦ get_or_append_left xs (x ∷ []) 0 k (omega (arith, before, long)) ∙ each k before
      | inr after ↦
          (let same : k ≡ n = omega (arith, after, h) in
          get_or-append_right xs (x ∷ []) n k 0 long after
          ∙ (let z : k - n ≡ 0 = omega (arith, same) in ap (λ (i : ℕ). get_or (x ∷ []) i 0) z) ∙ last ∙ ap f (sym same))
    ]

-- a list that is longer by one
pub pushed_long : (xs : List ℕ) (n x : ℕ) → length xs ≡ n → length (xs ++ x ∷ []) ≡ n + 1
pushed_long xs n x long = length-append xs (x ∷ []) ∙ omega (arith, long)

module _ (size page : ℕ) (items : List SectorItem) (lawful : IsLawful (shape size page items)) where
  -- the run of an item, as the code builds it
  pub run_made : (n stop : ℕ) → n < length items → stop ≡ item_end size (drop (n + 1) items)
      → (let r : Run = record { start = (get_or items n no_item).offset; stop = stop; step = (get_or items n no_item).size } in r) ≡ run_at
      (runs_of size items) n
  run_made n stop h e =
      ap (λ (s : ℕ). let r : Run = record { start = (get_or items n no_item).offset; stop = s; step = (get_or items n no_item).size } in r) e ∙
      sym (runs_at size items n h)

  pub step_some : (n : ℕ) → n < length items → 1 ≤ (get_or items n no_item).size
  step_some n h = let e = size_is items n in omega (arith, e, lawful.sizes n h)

  pub built_more : (n stop : ℕ) (runs : List Run) (starts firsts page_firsts : List ℕ) (sectors pages : ℕ) → n < length items →
      stop ≡ item_end size (drop (n + 1) items) → Built size page items n runs starts firsts page_firsts sectors pages
      → let r : Run = record { start = (get_or items n no_item).offset; stop = stop; step = (get_or items n no_item).size } in
      Built size page items (n + 1) (runs ++ r ∷ []) (starts ++ r.start ∷ []) (firsts ++ sectors ∷ []) (page_firsts ++ pages ∷ [])
      (sectors + pieces r.step r.start r.stop) (pages + length (pages_of page (cut r.step r.start r.stop)))
  built_more n stop runs starts firsts page_firsts sectors pages h e b =
      let all : List Run = runs_of size items in
      let here : n < length all = omega (arith, h, length-runs size items) in
      let goal = λ (r : Run). Built size page items (n + 1) (runs ++ r ∷ []) (starts ++ r.start ∷ []) (firsts ++ sectors ∷ []) (page_firsts ++ pages ∷ [])
      (sectors + pieces r.step r.start r.stop) (pages + length (pages_of page (cut r.step r.start r.stop))) in
      subst (λ (r : Run). goal r) (sym (run_made n stop h e)) (record {
        runs_are = ap (λ (rs : List Run). rs ++ run_at all n ∷ []) b.runs_are ∙ sym (take_more all n (record { start = 0; stop = 0; step = 0 }) here);
        starts_long = pushed_long starts n (run_at all n).start b.starts_long;
        starts_each = pushed starts n (run_at all n).start (λ k. (run_at all k).start) b.starts_long b.starts_each refl;
        firsts_long = pushed_long firsts n sectors b.firsts_long;
        firsts_each = pushed firsts n sectors (sectors_before all) b.firsts_long b.firsts_each b.sectors_are;
        pages_long = pushed_long page_firsts n pages b.pages_long;
        pages_each = pushed page_firsts n pages (pages_before page all) b.pages_long b.pages_each b.pages_are;
        sectors_are = ap (λ (m : ℕ). m + pieces (run_at all n).step (run_at all n).start (run_at all n).stop) b.sectors_are ∙
            sym (sectors_next page all n here);
        pages_are = ap (λ (m : ℕ). m + length (pages_of page (cut (run_at all n).step (run_at all n).start (run_at all n).stop))) b.pages_are ∙
            sym (pages_next page all n here);
      })

  sectors_bound : (n : ℕ) → n ≤ length items → sectors_before (runs_of size items) n ≤ 65536
  sectors_bound n h =
      let long = length-runs size items in
      omega (
        arith,
        sectors_rise (runs_of size items) n (length items) h,
        sectors_all (runs_of size items) (length items) (omega (arith, long)),
        lawful.sectors_limit,
      )

  pages_bound : (n : ℕ) → n ≤ length items → pages_before page (runs_of size items) n ≤ 1048576
  pages_bound n h =
      let long = length-runs size items in
      omega (
        arith,
        pages_rise page (runs_of size items) n (length items) h,
        pages_all page (runs_of size items) (length items) (omega (arith, long)),
        lawful.pages_limit,
      )

  pub built_small : (n : ℕ) (runs : List Run) (starts firsts page_firsts : List ℕ) (sectors pages : ℕ) → n ≤ length items →
      Built size page items n runs starts firsts page_firsts sectors pages
      → (sectors ≤ 65536) × (pages ≤ 1048576)
  built_small n runs starts firsts page_firsts sectors pages h b =
      (omega (arith, b.sectors_are, sectors_bound n h), omega (arith, b.pages_are, pages_bound n h))

  starts_up : (starts : List ℕ) → length starts ≡ length items → ((k : ℕ) → k < length items → slice_index starts k ≡ (run_at (runs_of size items) k).start) →
      (d i : ℕ) → i + d < length starts → slice_index starts i ≤ slice_index starts (i + d)
  starts_up starts long each zero i h = let e : i ≡ i + 0 = omega arith in omega (arith, ap (λ (k : ℕ). slice_index starts k) e)
  starts_up starts long each (suc d) i h =
      let before = starts_up starts long each d i (omega (arith, h)) in
      let up = lawful.rise (i + d) (omega (arith, h, long)) in
      let e : i + d + 1 ≡ i + suc d = omega arith in
      let a = each (i + d) (omega (arith, h, long)) ∙ ap (λ (r : Run). r.start) (runs_at size items (i + d) (omega (arith, h, long))) ∙
      sym (offset_is items (i + d)) in
      let b = each (i + d + 1) (omega (arith, h, long)) ∙ ap (λ (r : Run). r.start) (runs_at size items (i + d + 1) (omega (arith, h, long))) ∙
      sym (offset_is items (i + d + 1)) in
      let c = ap (λ (k : ℕ). slice_index starts k) e in
      omega (arith, before, up, a, b, c)

  pub built_table : (n : ℕ) (runs : List Run) (starts firsts page_firsts : List ℕ) (sectors pages : ℕ) → n ≡ length items →
      Built size page items n runs starts firsts page_firsts sectors pages
      → IsTable size page runs starts firsts page_firsts sectors pages
  built_table n runs starts firsts page_firsts sectors pages whole b =
      let all : List Run = runs_of size items in
      let long : length all ≡ length items = length-runs size items in
      let same : runs ≡ all = b.runs_are ∙ take_all n all (omega (arith, long, whole)) in
      let some : 1 ≤ length all = omega (arith, long, lawful.items_some) in
      let steps : (k : ℕ) → k < length all → 1 ≤ (run_at all k).step =
      λ k h. omega (arith, step_some k (omega (arith, h, long)), ap (λ (r : Run). r.step) (runs_at size items k (omega (arith, h, long)))) in
      let each : (k : ℕ) → k < length items → slice_index starts k ≡ (run_at all k).start = λ k h. b.starts_each k (omega (arith, h, whole)) in
      let starts_long : length starts ≡ length items = b.starts_long ∙ whole in
      let offset : (k : ℕ) → k < length items → slice_index starts k ≡ (get_or items k no_item).offset = λ k h. each k h ∙
      ap (λ (r : Run). r.start) (runs_at size items k h) in
      let stop : (k : ℕ) → k < length items → (run_at all k).stop ≡ item_end size (drop (k + 1) items) =
      λ k h. ap (λ (r : Run). r.stop) (runs_at size items k h) in
      subst (λ (rs : List Run). IsTable size page rs starts firsts page_firsts sectors pages) (sym same) (record {
        page_some = lawful.page_some;
        page_limit = lawful.page_limit;
        size_limit = lawful.size_limit;
        are_runs = record {
          some = some;
          steps = steps;
          long = starts_long ∙ sym long;
          each = λ k h. each k (omega (arith, h, long));
          rise = λ i j h l. (let d : ℕ = j - i in let e : i + d ≡ j = omega (arith, h) in
              subst (λ (m : ℕ). slice_index starts i ≤ slice_index starts m) e (starts_up starts starts_long each d i (omega (arith, e, l))));
          zero = offset 0 lawful.items_some ∙ sym (offset_is items 0) ∙ lawful.begins;
          stops_next = λ k h. stop k (omega (arith, h, long)) ∙ end_next size items (k + 1) (record { size = 0; offset = 0 }) (omega (arith, h, long))
              ∙ ap (λ (m : ℕ). min m size) (sym (offset (k + 1) (omega (arith, h, long))));
          stops_last = λ k h. stop k (omega (arith, h, long)) ∙ end_last size items (k + 1) (omega (arith, h, long));
        };
        are_sectors = record {
          some = some;
          steps = steps;
          long = b.firsts_long ∙ whole ∙ sym long;
          each =
              λ k h. b.firsts_each k (omega (arith, h, long, whole));
        };
        are_pages = record {
          page_some = lawful.page_some;
          some = some;
          steps = steps;
          long = b.pages_long ∙ whole ∙ sym long;
          each =
              λ k h. b.pages_each k (omega (arith, h, long, whole));
        };
        sectors_are = b.sectors_are ∙ sectors_all all n (omega (arith, long, whole));
        pages_are = b.pages_are ∙ pages_all page all n (omega (arith, long, whole));
        sectors_limit = omega (arith, b.sectors_are, sectors_bound n (omega (arith, whole)));
        pages_limit = omega (arith, b.pages_are, pages_bound n (omega (arith, whole)));
        good = geometry_lawful (shape size page items) lawful;
      })

  pub built_layout : (n : ℕ) (runs : List Run) (starts firsts page_firsts : List ℕ) (sectors pages : ℕ) → n ≡ length items →
      Built size page items n runs starts firsts page_firsts sectors pages
      → runs_geometry size page runs ≡ shape_geometry (shape size page items)
  built_layout n runs starts firsts page_firsts sectors pages whole b =
      ap (runs_geometry size page) (b.runs_are ∙ take_all n (runs_of size items) (omega (arith, length-runs size items, whole)))
