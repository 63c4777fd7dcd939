-- The devices of a job, and how many bytes the runs of its image have.
use Rattle.std.proofs.Common.{◌≡◌, ◌≤◌, ◌<◌, ◌+◌, ◌-◌, ◌∙◌, ap, sym, arith, ℕ, List, [], ◌∷◌, map, length, take, get_or, slice_get, Some}
use Rattle.std.proofs.lemmas.List.Sums.{sum_by-cons, sum_by_more, sum_by-take-le}
use Rattle.std.proofs.lemmas.Option.{get_or_from_slice_get}
use Rattle.std.specs.List.{flat_map}
use Rattle.std.proofs.lemmas.List.Folds.{flat_map-map}
use Rattle.byte_map.specs.Image.{Run, end_of, AreMaximal}
use Rattle.flm_descriptor.specs.declared.algorithm.Algorithm.{Algorithm}
use Rattle.report_text.specs.Job.{bytes_in, device_line}

abbrev size_of : Run → ℕ
size_of r = length r.bytes

-- the runs of an image have no more bytes than there are addresses
few_bytes : (low end : ℕ) (rs : List Run) → AreMaximal low end rs → bytes_in rs ≤ end - low
few_bytes low end [] m = omega arith
few_bytes low end (r ∷ rs) m = omega (arith, sum_by-cons size_of r rs, m.0, m.1, m.2, few_bytes (end_of r + 1) end rs m.3)

-- the bytes of the first runs of an image and the next one
module _ (image : List Run) (i : ℕ) (r : Run) (less : i < length image) (is : slice_get image i ≡ Some r) where
  pub bytes_more : bytes_in (take i image) + length r.bytes ≡ bytes_in (take (i + 1) image)
  bytes_more =
      let size : size_of (get_or image i r) ≡ length r.bytes = ap size_of (get_or_from_slice_get image i r r is) in
      omega (arith, sum_by_more size_of image i r less, size)

  pub few_more : (end : ℕ) → AreMaximal 0 end image → bytes_in (take i image) + length r.bytes ≤ end
  few_more end m = omega (arith, bytes_more, sum_by-take-le size_of image (i + 1), few_bytes 0 end image m)

-- the lines of the devices, given by the algorithms
pub devices_text : (those algorithms : List Algorithm) → those ≡ algorithms
    → flat_map (λ (a : Algorithm). device_line a.device) those ≡ flat_map device_line (map (λ (a : Algorithm). a.device) algorithms)
devices_text those algorithms same =
    ap (flat_map (λ (a : Algorithm). device_line a.device)) same ∙ sym (flat_map-map device_line (λ (a : Algorithm). a.device) algorithms)
