-- The pieces of a listing make its text, and which address of an image is the last.
use Rattle.std.proofs.Common.{◌≡◌, ◌≤◌, ◌+◌, ◌-◌, ◌∙◌, ◌++◌, ◌∷◌, [], ℕ, zero, suc, List, length, map, slice_get, Some, refl, sym, ap, subst}
use Rattle.std.specs.Prelude.{codes}
use Rattle.std.specs.List.{concat, flat_map}
use Rattle.octets.specs.Digit.{hex_text}
use Rattle.std.proofs.lemmas.List.Folds.{flat_map-map}
use Rattle.std.proofs.lemmas.Option.{get_or_from_slice_get}
use Rattle.byte_map.specs.Image.{Run, run_at, end_of, AreMaximal}
use Rattle.board_file.specs.Shown as board
use Rattle.flm_descriptor.specs.declared.device.Device.{Device}
use Rattle.flm_descriptor.specs.declared.algorithm.Algorithm.{Algorithm}
use Rattle.flm_descriptor.specs.Shown as flm
use Rattle.flm_descriptor.specs.Shown.{shown}
use Rattle.job_text.specs.declared.format.Format.{Format}
use Rattle.job_text.specs.Body.{Job}
use Rattle.job_text.specs.Said.{algorithms_shown}
use Rattle.report_text.specs.Job.{job_text}
use Rattle.report_text.specs.Inspection.{inspection_text}
use Rattle.job_parts.specs.Board.{board_text}
use Rattle.job_parts.specs.Listing.{format_text, span_line, hash_line, devices_of, listing_of, listing_text, IsSurvey}
use Rattle.job_parts.specs.declared.listing.Survey.{Survey}

-- the devices of the algorithms, as the code has them
shown_devices : (algorithms : List Algorithm) → map (λ (a : Algorithm). a.device) algorithms ≡ devices_of (algorithms_shown algorithms)
shown_devices [] = refl
shown_devices (a ∷ rest) = ap (λ (l : List Device). a.device ∷ l) (shown_devices rest)

-- the seven pieces of a listing make its text
pub listing_is : (format : Format) (b : board.Shown) (those algorithms : List Algorithm) (image : List Run) (of_image of_snapshot : List ℕ)
    → those ≡ algorithms
    → job_text (map (λ (a : Algorithm). a.device) algorithms) image ++ format_text format ++ board_text b
    ++ flat_map (λ (a : Algorithm). inspection_text (shown a)) those ++ span_line image ++ hash_line (codes "image ") of_image
    ++ hash_line (codes "snapshot ") of_snapshot
    ≡ listing_of format image of_image of_snapshot b (algorithms_shown algorithms)
unfolding listing_of
listing_is format b those algorithms image of_image of_snapshot here =
    rw (shown_devices algorithms, here, flat_map-map inspection_text shown algorithms) refl

-- the listing by what was read of a job is the listing of the job
pub survey_is : (j : Job) (b : board.Shown) (algorithms : List flm.Shown) (image : List Run) (survey : Survey) → IsSurvey j survey → j.image ≡ image
    → listing_of survey.format image survey.image survey.snapshot b algorithms ≡ listing_text j b algorithms
survey_is j b algorithms image survey is same = rw (is.format, sym same, is.image, is.snapshot) refl

-- a run of an image isn't empty, and ends at `end` or below
pub run_inside : (low end : ℕ) (rs : List Run) (i : ℕ) (r : Run) → AreMaximal low end rs → slice_get rs i ≡ Some r
    → (1 ≤ length r.bytes) × (end_of r ≤ end)
run_inside low end [] i r m is = absurd (cc)
run_inside low end (s ∷ rs) zero r m is =
    let same : s ≡ r = cc in
    subst (λ (x : Run). (1 ≤ length x.bytes) × (end_of x ≤ end)) same (m.1, m.2)
run_inside low end (s ∷ rs) (suc i) r m is = run_inside (end_of s + 1) end rs i r m.3 is

-- the run at a place
pub run_is : (image : List Run) (i : ℕ) (r : Run) → slice_get image i ≡ Some r → run_at image i ≡ r
run_is image i r is = get_or_from_slice_get image i r (record { at = 0; bytes = [] }) is

-- the line of the first address and of the last one
pub span_is : (image : List Run) (i : ℕ) (one other : Run) (first last : List ℕ) → slice_get image 0 ≡ Some one → slice_get image i ≡ Some other
    → i ≡ length image - 1 → first ≡ hex_text 8 one.at → last ≡ hex_text 8 (end_of other - 1)
    → concat (codes "first " ∷ first ∷ codes " last " ∷ last ∷ codes "\n" ∷ []) ≡ span_line image
unfolding span_line
span_is image i one other first last is_one is_other at_end of_first of_last =
    let begins : first ≡ hex_text 8 (run_at image 0).at = of_first ∙ ap (λ (r : Run). hex_text 8 r.at) (sym (run_is image 0 one is_one)) in
    let there : slice_get image (length image - 1) ≡ Some other = subst (λ (k : ℕ). slice_get image k ≡ Some other) at_end is_other in
    let ends : last ≡ hex_text 8 (end_of (run_at image (length image - 1)) - 1) =
    of_last ∙ ap (λ (r : Run). hex_text 8 (end_of r - 1)) (sym (run_is image (length image - 1) other there)) in
    rw (begins, ends) refl
