-- The parts of a job, as writers append them one after the other.
use Rattle.std.proofs.Common.{◌≡◌, ◌⊎◌, inl, inr, ◌<◌, ◌+◌, ◌^◌, ℕ, take, drop, List, [], ◌∷◌, ◌++◌, length, replicate, Option, Some, None, refl, sym, ap}
use Rattle.std.proofs.Common.{subst, ◌∙◌, append_assoc, arith}
use Rattle.std.specs.List.{concat, flat_map}
use Rattle.std.specs.Prelude.{slice_get, option_copied}
use Rattle.std.proofs.lemmas.List.{append-nil, length-replicate, take_more, drop_at}
use Rattle.std.proofs.lemmas.List.Concat.{flat_map-cons}
use Rattle.std.proofs.lemmas.Grind.{flat_map-append}
use Rattle.std.proofs.lemmas.Option.{get_or_from_slice_get}
use Rattle.sha2.specs.Sha256.{sha256}
use Rattle.byte_map.specs.Image.{Run}
use Rattle.job_text.specs.Runs.{AreShort}
use Rattle.job_text.specs.Body.{second_mark, field, flm_len, run_text, hashed_of, body_of}
use Rattle.job_text.specs.Jobs.{IsJob}
use Rattle.job_text.specs.declared.parts.JobParts.{JobParts}
use Rattle.job_text.specs.Parts.{files_with, flms_of, job_of, AreParts, lengths_of, front_of, with_hash}
use Rattle.job_text.proofs.RegionLemmas.{small_regions}
use Rattle.job_text.proofs.RunLemmas.{short_runs}
use Rattle.job_text.proofs.BodyLemmas.{IsSmall, small_job, few_regions}

one_or_two : (first : List ℕ) (second : Option (List ℕ)) → (length (files_with first second) ≡ 1) ⊎ (length (files_with first second) ≡ 2)
one_or_two first None = inl refl
one_or_two first (Some second) = inr refl

first_len : (first : List ℕ) (second : Option (List ℕ)) → flm_len (files_with first second) 0 ≡ length first
first_len first None = refl
first_len first (Some second) = refl

-- the parts with any snapshot of their size are a job
pub job_of_parts : (p : JobParts) (are : AreParts p) (snapshot : List ℕ) → length snapshot ≡ p.size → IsJob (job_of p snapshot) are.board are.algorithms
job_of_parts p are snapshot long = record {
  board = are.is_board;
  files = one_or_two p.flm.now (option_copied p.second);
  algorithms = are.are_algorithms;
  suits = are.suits;
  cells = long ∙ sym are.size;
  short_board = are.short_board;
  short_first = omega (arith, first_len p.flm.now (option_copied p.second), are.short_first);
  short_second = are.short_second;
}

blank_job : (p : JobParts) (are : AreParts p) → IsJob (job_of p (replicate p.size 0)) are.board are.algorithms
blank_job p are = job_of_parts p are (replicate p.size 0) (length-replicate p.size 0)

pub blank_small : (p : JobParts) (are : AreParts p) → IsSmall (job_of p (replicate p.size 0))
blank_small p are = small_job (job_of p (replicate p.size 0)) are.board are.algorithms (blank_job p are)

pub short_parts : (p : JobParts) (are : AreParts p) → AreShort p.image.now
short_parts p are =
    let small = small_regions are.board are.board.regions are.algorithms (flms_of p) are.suits.fit are.are_algorithms in
    let few = few_regions (job_of p (replicate p.size 0)) are.board are.algorithms (blank_job p are) in
    short_runs are.board.regions p.image.now small few are.suits.inside.0 are.suits.inside.1

-- the hashed bytes are the lengths, the rest of the front, and a snapshot of the size
front_is : (p : JobParts) (snapshot : List ℕ) → length snapshot ≡ p.size →
    (lengths_of p ++ p.board.now ++ concat (flms_of p) ++ flat_map run_text p.image.now) ++ snapshot ≡ hashed_of (job_of p snapshot)
front_is p snapshot len =
    let runs = flat_map run_text p.image.now in
    let flms = concat (flms_of p) in
    ap (λ (n : ℕ). (field (length p.board.now) ++ field (length (flms_of p)) ++ field (flm_len (flms_of p) 0) ++ field (flm_len (flms_of p) 1) ++ field
    (length p.image.now) ++ field n ++ p.board.now ++ flms ++ runs) ++ snapshot) (sym len)
    ∙ ap (λ (l : List ℕ). field (length p.board.now) ++ (field (length (flms_of p)) ++
    (field (flm_len (flms_of p) 0) ++ (field (flm_len (flms_of p) 1) ++ (field (length p.image.now) ++ (field (length snapshot) ++ l))))))
    (append_assoc (p.board.now ++ flms) runs snapshot ∙ append_assoc p.board.now flms (runs ++ snapshot))

-- a front with a snapshot of the size, and with its hash in place, is the body
pub hashed_is : (p : JobParts) (snapshot : List ℕ) → length snapshot ≡ p.size → with_hash (front_of p ++ snapshot) ≡ body_of (job_of p snapshot)
hashed_is p snapshot len =
    let zeros : List ℕ = replicate 32 0 in
    let behind : List ℕ = p.board.now ++ concat (flms_of p) ++ flat_map run_text p.image.now in
    let start : List ℕ = second_mark ++ zeros in
    let parts : front_of p ++ snapshot ≡ start ++ ((lengths_of p ++ behind) ++ snapshot) =
    ap (λ (l : List ℕ). l ++ snapshot) (sym (append_assoc (second_mark ++ zeros) (lengths_of p) behind)) ∙
    append_assoc start (lengths_of p ++ behind) snapshot in
    let rest : drop 39 (front_of p ++ snapshot) ≡ hashed_of (job_of p snapshot) =
    ap (λ (l : List ℕ). drop 39 l) parts ∙ drop_at start ((lengths_of p ++ behind) ++ snapshot) 39 refl ∙ front_is p snapshot len in
    λ i. second_mark ++ (sha256 (rest i) ++ rest i)

-- one more run is written
pub more_runs : (image : List Run) (i : ℕ) (r : Run) (out old new : List ℕ) → i < length image → slice_get image i ≡ Some r →
    old ≡ out ++ flat_map run_text (take i image)
    → new ≡ old ++ run_text r → new ≡ out ++ flat_map run_text (take (i + 1) image)
more_runs image i r out old new lt is old-is new-is =
    let nothing : Run = record { at = 0; bytes = [] } in
    let more : take (i + 1) image ≡ take i image ++ r ∷ [] = take_more image i nothing lt ∙
    ap (λ (x : Run). take i image ++ x ∷ []) (get_or_from_slice_get image i r nothing is) in
    let one : flat_map run_text (r ∷ []) ≡ run_text r = flat_map-cons run_text r [] ∙ append-nil (run_text r) in
    let text : flat_map run_text (take (i + 1) image) ≡ flat_map run_text (take i image) ++ run_text r =
    ap (flat_map run_text) more ∙ flat_map-append run_text (take i image) (r ∷ []) ∙ ap (λ (l : List ℕ). flat_map run_text (take i image) ++ l) one in
    new-is ∙ ap (λ (l : List ℕ). l ++ run_text r) old-is ∙ append_assoc out (flat_map run_text (take i image)) (run_text r) ∙
    ap (λ (l : List ℕ). out ++ l) (sym text)

-- the run that is written fits its field
pub short_run : (image : List Run) (i : ℕ) (r : Run) → AreShort image → i < length image → slice_get image i ≡ Some r → length r.bytes < 2 ^ 32
short_run image i r short lt is =
    subst (λ (x : Run). length x.bytes < 2 ^ 32) (get_or_from_slice_get image i r (record { at = 0; bytes = [] }) is) (short i lt)
