-- A range of a file is hashed window by window, and an image run by run.
use Rattle.std.proofs.Common.{◌≡◌, ◌≤◌, ◌<◌, ◌+◌, ◌++◌, ◌∙◌, ℕ, List, Bool, IsTrue, length, take, drop, get_or, slice_get, Some, sym, ap, subst}
use Rattle.std.proofs.Common.{add-one, append-nil}
use Rattle.std.proofs.Math.Seq.{take-add, take-suc}
use Rattle.std.proofs.lemmas.List.{drop-drop}
use Rattle.std.proofs.lemmas.Option.{get_or_from_slice_get}
use Rattle.std.proofs.lemmas.Grind.{flat_map-append}
use Rattle.bench_model.specs.State.{BenchState}
use Rattle.bench_model.specs.Calls.{OnlyReads}
use Rattle.sha2.specs.Hashers.{Holds256}
use Rattle.sha2.specs.declared.Sha256.{Sha256}
use Rattle.byte_map.specs.Image.{Run}
use Rattle.job_parts.specs.Listing.{bytes_of}

-- the first `at` bytes from a place on were hashed
pub record HashedSoFar (told : Bool) (start now : BenchState) (from len at : ℕ) (window : List ℕ) (hasher : Sha256) : Type 0 where
  pub within : at ≤ len
  pub room : length window ≡ 4096
  pub hash : IsTrue told → Holds256 hasher (take at (drop from start.file))
  pub reads : OnlyReads told start now
  pub faults : now.store_faults ≡ start.store_faults

-- the hash after one more window
pub window_hashed : (file now : List ℕ) (old new : Sha256) (from at size : ℕ) → now ≡ file → Holds256 old (take at (drop from file))
    → ((m : List ℕ) → Holds256 old m → Holds256 new (m ++ take size (drop (from + at) now))) → Holds256 new (take (at + size) (drop from file))
window_hashed file now old new from at size same holds more =
    let rest = drop from file in
    let is : take at rest ++ take size (drop (from + at) now) ≡ take (at + size) rest =
    ap (λ (l : List ℕ). take at rest ++ take size (drop (from + at) l)) same
    ∙ ap (λ (l : List ℕ). take at rest ++ take size l) (sym (drop-drop at from file))
    ∙ sym (take-add at size rest) in
    subst (λ (l : List ℕ). Holds256 new l) is (more (take at rest) holds)

-- the hash after one more run
pub run_hashed : (image : List Run) (i : ℕ) (r : Run) (old new : Sha256) → i < length image → slice_get image i ≡ Some r
    → Holds256 old (bytes_of (take i image)) → ((m : List ℕ) → Holds256 old m → Holds256 new (m ++ r.bytes))
    → Holds256 new (bytes_of (take (i + 1) image))
run_hashed image i r old new less is holds more =
    let same : get_or image i r ≡ r = get_or_from_slice_get image i r r is in
    let next : bytes_of (take (i + 1) image) ≡ bytes_of (take i image) ++ r.bytes =
    rw (add-one, take-suc image i r less, flat_map-append, same) (ap (λ (l : List ℕ). bytes_of (take i image) ++ l) (append-nil r.bytes)) in
    subst (λ (l : List ℕ). Holds256 new l) (sym next) (more (bytes_of (take i image)) holds)
