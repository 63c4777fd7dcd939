-- Where the texts of a job are in its file, and that the fields of its head give their lengths.
use Rattle.std.proofs.Common.{◌≡◌, ◌≤◌, ◌<◌, ◌+◌, ◌^◌, ◌∙◌, ◌∷◌, ◌++◌, [], ℕ, List, length}
use Rattle.std.proofs.Common.{take, drop, refl, sym, ap, subst, arith, append_assoc, slice_get, get_or, zero, suc}
use Rattle.std.proofs.Common.{Some, None, ⊎_elim}
use Rattle.std.proofs.lemmas.Bool.{cases_lt}
use Rattle.std.specs.List.{concat, flat_map}
use Rattle.std.proofs.lemmas.List.{length-map, take_at, take_all, drop_at, drop-drop, length-drop, length-append}
use Rattle.std.proofs.lemmas.Nat.{from_le_bytes-to_le_bytes_4}
use Rattle.sha2.specs.Sha256.{sha256}
use Rattle.sha2.proofs.Facts256.{length-sha256}
use Rattle.octets.specs.Field.{field32}
use Rattle.job_text.specs.declared.format.Format.{Format}
use Rattle.job_text.specs.declared.format.Format.TheVariants.{First, Second}
use Rattle.job_text.specs.Body.{Job, flm_len, run_text, tail_of, hashed_of, body_in, body_of}
use Rattle.job_text.specs.Files.{IsWhole, open_gate}
use Rattle.job_text.specs.Reading.{format_in, places_of}
use Rattle.board_file.specs.Limits.{size_of}
use Rattle.board_file.specs.Shown as board
use Rattle.flm_descriptor.specs.declared.algorithm.Algorithm.{Algorithm}
use Rattle.flm_descriptor.specs.Shown.{shown}
use Rattle.job_text.specs.Jobs.{IsJob}
use Rattle.job_text.specs.Said.{algorithms_shown}
use Rattle.job_text.specs.Stands.{StandsFor}
use Rattle.job_text.specs.declared.job.Job as code
use Rattle.job_text.proofs.BodyLemmas.{long_body}
use Rattle.job_text.proofs.RegionLemmas.{same_files}
use Rattle.job_parts.specs.declared.part.Place.{Place}
use Rattle.job_parts.specs.declared.part.Place.TheVariants as place
use Rattle.job_parts.specs.declared.lengths.Lengths.{Lengths}
use Rattle.job_parts.specs.Lengths.{AreLengths, flm_at, flm_size}
use Rattle.job_parts.specs.Parts.{index_of}

-- ---- the fields

-- the format that a file's mark gives
pub mark_in : (format : Format) (j : Job) → format_in (take 7 (drop 1 (open_gate ∷ body_in format j))) ≡ format
mark_in First j = refl
mark_in Second j = refl

-- the format of a file's job
pub format_is : (j : Job) (file : List ℕ) → IsWhole (body_of j) file → j.format ≡ format_in (take 7 (drop 1 file))
format_is j file whole = sym (ap (λ (l : List ℕ). format_in (take 7 (drop 1 l))) whole ∙ mark_in j.format j)

-- the number in the field at a place
abbrev pub number_in : ℕ → List ℕ → ℕ
number_in at file = field32 (take 4 (drop at file)) 0

pub first_board : (j : Job) → length j.board < 2 ^ 32 → number_in 8 (open_gate ∷ body_in First j) ≡ length j.board
first_board j small = from_le_bytes-to_le_bytes_4 (length j.board) small

pub first_flm : (j : Job) → flm_len j.flms 0 < 2 ^ 32 → number_in 12 (open_gate ∷ body_in First j) ≡ flm_len j.flms 0
first_flm j small = from_le_bytes-to_le_bytes_4 (flm_len j.flms 0) small

-- the bytes after the hash
after_hash : (n : ℕ) (j : Job) → drop (32 + n) (sha256 (hashed_of j) ++ hashed_of j) ≡ drop n (hashed_of j)
after_hash n j = sym (drop-drop n 32 (sha256 (hashed_of j) ++ hashed_of j))
    ∙ ap (drop n) (drop_at (sha256 (hashed_of j)) (hashed_of j) 32 (length-sha256 (hashed_of j)))

pub second_board : (j : Job) → length j.board < 2 ^ 32 → number_in 40 (open_gate ∷ body_in Second j) ≡ length j.board
second_board j small = ap (λ (l : List ℕ). field32 (take 4 l) 0) (after_hash 0 j) ∙ from_le_bytes-to_le_bytes_4 (length j.board) small

pub second_first : (j : Job) → flm_len j.flms 0 < 2 ^ 32 → number_in 48 (open_gate ∷ body_in Second j) ≡ flm_len j.flms 0
second_first j small = ap (λ (l : List ℕ). field32 (take 4 l) 0) (after_hash 8 j) ∙ from_le_bytes-to_le_bytes_4 (flm_len j.flms 0) small

pub second_second : (j : Job) → flm_len j.flms 1 < 2 ^ 32 → number_in 52 (open_gate ∷ body_in Second j) ≡ flm_len j.flms 1
second_second j small = ap (λ (l : List ℕ). field32 (take 4 l) 0) (after_hash 12 j) ∙ from_le_bytes-to_le_bytes_4 (flm_len j.flms 1) small

-- the number of a job's file
pub number_of : (format : Format) (j : Job) (file : List ℕ) (at n : ℕ) → IsWhole (body_of j) file → j.format ≡ format
    → number_in at (open_gate ∷ body_in format j) ≡ n → number_in at file ≡ n
number_of format j file at n whole is same =
    ap (number_in at) (whole ∙ ap (λ (f : Format). open_gate ∷ body_in f j) is) ∙ same

-- ---- the texts

-- a text stands at a place of a file
pub record StandsAt (file : List ℕ) (at : ℕ) (text : List ℕ) : Type 0 where
  pub within : at + length text ≤ length file
  pub is : take (length text) (drop at file) ≡ text

stands : (file text rest : List ℕ) (at : ℕ) → at ≤ length file → drop at file ≡ text ++ rest → StandsAt file at text
stands file text rest at inside is = record {
  within = omega (arith, inside, length-drop at file, ap (λ (l : List ℕ). length l) is, length-append text rest);
  is = ap (take (length text)) is ∙ take_at text rest (length text) refl;
}

-- the rest of a file after a text
next : (file text rest : List ℕ) (at : ℕ) → drop at file ≡ text ++ rest → drop (at + length text) file ≡ rest
next file text rest at is = sym (drop-drop (length text) at file) ∙ ap (drop (length text)) is ∙ drop_at text rest (length text) refl

tail_in : (format : Format) (j : Job) → drop (places_of format).front (open_gate ∷ body_in format j) ≡ tail_of j
tail_in First j = refl
tail_in Second j = after_hash 24 j

-- the texts in the file of a job
module _ (j : Job) (file : List ℕ) (whole : IsWhole (body_of j) file) where
  abbrev front : ℕ
  front = (places_of j.format).front

  abbrev behind : List ℕ
  behind = flat_map run_text j.image ++ j.snapshot

  pub long_file : front ≤ length file
  long_file = omega (arith, long_body j, ap (λ (l : List ℕ). length l) whole)

  tail_is : drop front file ≡ tail_of j
  tail_is = ap (drop front) whole ∙ tail_in j.format j

  pub board_stands : StandsAt file front j.board
  board_stands = stands file j.board (concat j.flms ++ behind) front long_file tail_is

  flms_are : drop (front + length j.board) file ≡ concat j.flms ++ behind
  flms_are = next file j.board (concat j.flms ++ behind) front tail_is

  first_by : (flms : List (List ℕ)) (f : List ℕ) → slice_get flms 0 ≡ Some f → drop (front + length j.board) file ≡ concat flms ++ behind
      → StandsAt file (front + length j.board) f
  first_by [] f is bytes = absurd (cc)
  first_by (g ∷ rest) f is bytes =
      let same : g ≡ f = cc in
      subst (λ (l : List ℕ). StandsAt file (front + length j.board) l) same
      (stands file g (concat rest ++ behind) (front + length j.board) board_stands.within (bytes ∙ append_assoc g (concat rest) behind))

  pub first_stands : (f : List ℕ) → slice_get j.flms 0 ≡ Some f → StandsAt file (front + length j.board) f
  first_stands f is = first_by j.flms f is flms_are

  second_by : (flms : List (List ℕ)) (f : List ℕ) → slice_get flms 1 ≡ Some f → drop (front + length j.board) file ≡ concat flms ++ behind
      → StandsAt file (front + length j.board + flm_len flms 0) f
  second_by [] f is bytes = absurd (cc)
  second_by (g ∷ []) f is bytes = absurd (cc)
  second_by (g ∷ h ∷ rest) f is bytes =
      let same : h ≡ f = cc in
      let at = front + length j.board in
      let one : drop at file ≡ g ++ (concat (h ∷ rest) ++ behind) = bytes ∙ append_assoc g (concat (h ∷ rest)) behind in
      subst (λ (l : List ℕ). StandsAt file (at + length g) l) same
      (stands file h (concat rest ++ behind) (at + length g) (stands file g (concat (h ∷ rest) ++ behind) at board_stands.within one).within
      (next file g (concat (h ∷ rest) ++ behind) at one ∙ append_assoc h (concat rest) behind))

  pub second_stands : (f : List ℕ) → slice_get j.flms 1 ≡ Some f → StandsAt file (front + length j.board + flm_len j.flms 0) f
  second_stands f is = second_by j.flms f is flms_are

-- a text at a place, read from an unchanged file by an equal place and length
pub text_there : (file mid text : List ℕ) (at place len : ℕ) → mid ≡ file → at ≡ place → len ≡ length text → StandsAt file place text
    → take len (drop at mid) ≡ text
text_there file mid text at place len same here long stands = rw (same, here, long) stands.is

-- ---- the FLM file of a region

there : (xs : List (List ℕ)) (i : ℕ) → i < length xs → slice_get xs i ≡ Some (get_or xs i [])
there [] i less = absurd (omega (arith, less))
there (x ∷ xs) zero less = refl
there (x ∷ xs) (suc i) less = there xs i (omega (arith, less))

past : (xs : List (List ℕ)) (i : ℕ) → length xs ≤ i → slice_get xs i ≡ None
past [] i le = refl
past (x ∷ xs) zero le = absurd (omega (arith, le))
past (x ∷ xs) (suc i) le = past xs i (omega (arith, le))

module _ (j : Job) (b : board.Shown) (algorithms : List Algorithm) (is : IsJob j b (algorithms_shown algorithms)) where
  count_is : length j.flms ≡ length algorithms
  count_is = same_files j.flms (algorithms_shown algorithms) is.algorithms ∙ length-map algorithms shown

  pub has_flm : (i : ℕ) → i < length algorithms → slice_get j.flms i ≡ Some (get_or j.flms i [])
  has_flm i less = there j.flms i (omega (arith, less, count_is))

  pub has_none : (i : ℕ) → (i < length algorithms → ⊥) → slice_get j.flms i ≡ None
  has_none i other = past j.flms i (omega (arith, count_is, not_less i (length algorithms) other))
    where
      not_less : (i n : ℕ) → (i < n → ⊥) → n ≤ i
      not_less i n other = ⊎_elim (λ less. absurd (other less)) (λ le. le) (cases_lt i n)

-- where the FLM file of a region is
pub record FlmThere (j : Job) (p : Place) (lengths : Lengths) (file : List ℕ) : Type 0 where
  pub stands : StandsAt file (flm_at lengths p) (get_or j.flms (index_of p) [])
  pub long : flm_size lengths p ≡ length (get_or j.flms (index_of p) [])

pub flm_there : (j : Job) (p : Place) (lengths : Lengths) (file : List ℕ) → AreLengths j lengths → IsWhole (body_of j) file
    → slice_get j.flms (index_of p) ≡ Some (get_or j.flms (index_of p) []) → FlmThere j p lengths file
flm_there j place.First lengths file are whole has = record {
  stands = subst (λ (at : ℕ). StandsAt file at (get_or j.flms 0 []))
      (omega (arith, ap (λ (f : Format). (places_of f).front) are.format, are.board)) (first_stands j file whole _ has);
  long = are.first;
}
flm_there j place.Second lengths file are whole has = record {
  stands = subst (λ (at : ℕ). StandsAt file at (get_or j.flms 1 []))
      (omega (arith, ap (λ (f : Format). (places_of f).front) are.format, are.board, are.first)) (second_stands j file whole _ has);
  long = are.second;
}

-- ---- the snapshot

-- the snapshot, as many bytes as the board has cells, read from a file that is unchanged
pub snapshot_there : (job : code.Job) (file mid : List ℕ) (stands : StandsFor job file) (len : ℕ) → mid ≡ file → len ≡ size_of job.board.regions
    → take len (drop job.snapshot_at mid) ≡ stands.text.snapshot
snapshot_there job file mid stands len same long =
    let rest = drop job.snapshot_at file in
    let count : length rest ≡ len = ap (λ (l : List ℕ). length l) (sym stands.snapshot) ∙ stands.is.cells ∙ sym long in
    ap (λ (l : List ℕ). take len (drop job.snapshot_at l)) same ∙ take_all len rest (omega (arith, count)) ∙ sym stands.snapshot
