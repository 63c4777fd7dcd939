-- Laws of runs and items.
use Rattle.std.proofs.Common.{◌≡◌, ℕ, zero, suc, ◌+◌, ◌<◌, ◌≤◌, min, refl, sym, ap, arith, ◌∙◌, List, [], ◌∷◌, drop, length, get_or}
use Rattle.std.proofs.lemmas.List.{drop_more, drop_all}
use Rattle.flm_descriptor.specs.declared.items.SectorItem.{SectorItem}
use Rattle.flm_descriptor.specs.declared.geometry.Run.{Run}
use Rattle.flm_descriptor.specs.Shape.{item_end, runs_of, offset_at, size_at}
use Rattle.flm_descriptor.specs.Shape.{run_at}

pub end_next : (size : ℕ) (items : List SectorItem) (k : ℕ) (d : SectorItem) → k < length items →
    item_end size (drop k items) ≡ min (get_or items k d).offset size
unfolding item_end
end_next size items k d h = ap (item_end size) (drop_more items k d h)

pub end_last : (size : ℕ) (items : List SectorItem) (k : ℕ) → length items ≤ k → item_end size (drop k items) ≡ size
unfolding item_end
end_last size items k h = ap (item_end size) (drop_all k items h)

pub length-runs : (size : ℕ) (items : List SectorItem) → length (runs_of size items) ≡ length items
unfolding runs_of
length-runs size [] = refl
length-runs size (item ∷ rest) = ap (λ (n : ℕ). suc n) (length-runs size rest)

abbrev pub no_item : SectorItem
no_item = record { size = 0; offset = 0 }

pub runs_at : (size : ℕ) (items : List SectorItem) (k : ℕ) → k < length items
    → run_at (runs_of size items) k ≡ record {
      start = (get_or items k no_item).offset;
      stop = item_end size (drop (k + 1) items);
      step =
          (get_or items k no_item).size;
    }
unfolding runs_of
runs_at size [] k h = absurd (omega (arith, h))
runs_at size (item ∷ rest) zero h = refl
runs_at size (item ∷ rest) (suc k) h =
    let e : suc k + 1 ≡ suc (k + 1) = omega arith in
    runs_at size rest k (omega (arith, h))
    ∙ ap (λ (n : ℕ). let r : Run = record {
      start = (get_or rest k no_item).offset;
      stop = item_end size (drop n (item ∷ rest));
      step =
          (get_or rest k no_item).size;
    } in r) (sym e)

-- the offset and the size of item `k`
pub offset_is : (items : List SectorItem) (k : ℕ) → offset_at items k ≡ (get_or items k no_item).offset
offset_is [] k = refl
offset_is (item ∷ rest) zero = refl
offset_is (item ∷ rest) (suc k) = offset_is rest k

pub size_is : (items : List SectorItem) (k : ℕ) → size_at items k ≡ (get_or items k no_item).size
size_is [] k = refl
size_is (item ∷ rest) zero = refl
size_is (item ∷ rest) (suc k) = size_is rest k
