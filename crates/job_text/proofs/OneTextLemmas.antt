-- A body belongs to one job only, where the numbers of the job fit their fields, as they do where its texts suit one another.
use Rattle.std.proofs.Common.{◌≡◌, ◌⊎◌, ⊎_elim, inl, ℕ, ◌≤◌, ◌<◌, ◌+◌, ◌^◌, List, [], ◌∷◌, ◌++◌, All, length, drop, refl, sym, ap, subst, ◌∙◌, append_assoc}
use Rattle.std.proofs.Common.{arith}
use Rattle.std.specs.List.{concat, flat_map}
use Rattle.std.proofs.lemmas.List.{append-nil}
use Rattle.std.proofs.lemmas.List.Concat.{flat_map-cons}
use Rattle.std.proofs.lemmas.List.Elements.{All-nil, All-cons, All-head, All-tail}
use Rattle.sha2.specs.Sha256.{sha256}
use Rattle.sha2.proofs.Facts256.{length-sha256}
use Rattle.byte_map.specs.Image.{Run, addresses, end_of, AreMaximal}
use Rattle.board_file.specs.declared.region.Region.{Region}
use Rattle.board_file.specs.Shown as board
use Rattle.flm_descriptor.specs.Shown as flm
use Rattle.job_text.specs.declared.format.Format.{Format}
use Rattle.job_text.specs.declared.format.Format.TheVariants.{First, Second}
use Rattle.job_text.specs.Fits.{AreCovered}
use Rattle.job_text.specs.Body.{Job, field, flm_len, run_text, tail_of, hashed_of, body_in, body_of, MayHave, HasFields}
use Rattle.job_text.specs.Jobs.{IsJob}
use Rattle.job_text.specs.Reading.{number_at, format_in}
use Rattle.job_text.proofs.Steps.{ok_is}
use Rattle.job_text.proofs.TakeLemmas.{number_again}
use Rattle.job_text.proofs.CoverLemmas.{AreSmall, each_covered, covers_small}
use Rattle.job_text.proofs.RegionLemmas.{small_regions}
use Rattle.job_text.proofs.BodyLemmas.{few_regions, small_job, one_file, format_of}

abbrev HasRoom : Run → Type 0
HasRoom run = (run.at < 2 ^ 32) × (length run.bytes < 2 ^ 32)

-- ---- one part after another

one_front : (a b r s : List ℕ) → length a ≡ length b → a ++ r ≡ b ++ s → (a ≡ b) × (r ≡ s)
one_front [] [] r s long e = (refl, e)
one_front [] (y ∷ b) r s long e = absurd (omega (arith, long))
one_front (x ∷ a) [] r s long e = absurd (omega (arith, long))
one_front (x ∷ a) (y ∷ b) r s long e =
    let first : x ≡ y = cc in
    let behind : a ++ r ≡ b ++ s = cc in
    let rest = one_front a b r s (omega (arith, long)) behind in
    (λ i. first i ∷ rest.0 i, rest.1)

one_field : (n m : ℕ) (r s : List ℕ) → n < 2 ^ 32 → m < 2 ^ 32 → field n ++ r ≡ field m ++ s → (n ≡ m) × (r ≡ s)
one_field n m r s small few e =
    let both : (n, r) ≡ (m, s) = ok_is {E = ℕ} (n, r) (m, s) (sym (number_again 0 n r small) ∙ ap (number_at 0) e ∙ number_again 0 m s few) in
    (ap (λ (x : ℕ × List ℕ). x.0) both, ap (λ (x : ℕ × List ℕ). x.1) both)

-- the first run, followed by the others
apart : (x : Run) (rs : List Run) (r : List ℕ) → flat_map run_text (x ∷ rs) ++ r ≡ field x.at ++
    (field (length x.bytes) ++ (x.bytes ++ (flat_map run_text rs ++ r)))
apart x rs r =
    ap (λ (l : List ℕ). l ++ r) (flat_map-cons run_text x rs)
    ∙ append_assoc (run_text x) (flat_map run_text rs) r
    ∙ append_assoc (field x.at) (field (length x.bytes) ++ x.bytes) (flat_map run_text rs ++ r)
    ∙ ap (λ (l : List ℕ). field x.at ++ l) (append_assoc (field (length x.bytes)) x.bytes (flat_map run_text rs ++ r))

one_image : (rs ss : List Run) (r s : List ℕ) → length rs ≡ length ss → All HasRoom rs → All HasRoom ss
    → flat_map run_text rs ++ r ≡ flat_map run_text ss ++ s → (rs ≡ ss) × (r ≡ s)
one_image [] [] r s long small few e = (refl, e)
one_image [] (y ∷ ss) r s long small few e = absurd (omega (arith, long))
one_image (x ∷ rs) [] r s long small few e = absurd (omega (arith, long))
one_image (x ∷ rs) (y ∷ ss) r s long small few e =
    let a = All-head HasRoom x rs small in
    let b = All-head HasRoom y ss few in
    let at = one_field x.at y.at _ _ a.0 b.0 (sym (apart x rs r) ∙ e ∙ apart y ss s) in
    let count = one_field (length x.bytes) (length y.bytes) _ _ a.1 b.1 at.1 in
    let bytes = one_front x.bytes y.bytes _ _ count.0 count.1 in
    let rest = one_image rs ss r s (omega (arith, long)) (All-tail HasRoom x rs small) (All-tail HasRoom y ss few) bytes.1 in
    (λ i. record { at = at.0 i; bytes = bytes.0 i } ∷ rest.0 i, rest.1)

-- equal texts of one FLM file or two are equal files
one_or_two : (xs ys : List (List ℕ)) (r s : List ℕ) → (length xs ≡ 1) ⊎ (length xs ≡ 2) → length xs ≡ length ys → flm_len xs 0 ≡ flm_len ys 0 →
    flm_len xs 1 ≡ flm_len ys 1
    → concat xs ++ r ≡ concat ys ++ s → (xs ≡ ys) × (r ≡ s)
one_or_two (x ∷ []) (y ∷ []) r s few long first second e =
    let parts = one_front x y r s first (sym (ap (λ (l : List ℕ). l ++ r) (append-nil x)) ∙ e ∙ ap (λ (l : List ℕ). l ++ s) (append-nil y)) in
    (λ i. parts.0 i ∷ [], parts.1)
one_or_two (x ∷ x' ∷ []) (y ∷ y' ∷ []) r s few long first second e =
    let apart : (u v t : List ℕ) → concat (u ∷ v ∷ []) ++ t ≡ u ++ (v ++ t) =
    λ u v t. append_assoc u (v ++ []) t ∙ ap (λ (l : List ℕ). u ++ (l ++ t)) (append-nil v) in
    let parts = one_front x y (x' ++ r) (y' ++ s) first (sym (apart x x' r) ∙ e ∙ apart y y' s) in
    let others = one_front x' y' r s second parts.1 in
    (λ i. parts.0 i ∷ others.0 i ∷ [], others.1)
one_or_two [] ys r s few long first second e = absurd (⊎_elim (λ one. omega (arith, one)) (λ two. omega (arith, two)) few)
one_or_two (x ∷ x' ∷ x'' ∷ xs) ys r s few long first second e = absurd (⊎_elim (λ one. omega (arith, one)) (λ two. omega (arith, two)) few)
one_or_two (x ∷ []) [] r s few long first second e = absurd (omega (arith, long))
one_or_two (x ∷ []) (y ∷ y' ∷ ys) r s few long first second e = absurd (omega (arith, long))
one_or_two (x ∷ x' ∷ []) [] r s few long first second e = absurd (omega (arith, long))
one_or_two (x ∷ x' ∷ []) (y ∷ []) r s few long first second e = absurd (omega (arith, long))
one_or_two (x ∷ x' ∷ []) (y ∷ y' ∷ y'' ∷ ys) r s few long first second e = absurd (omega (arith, long))

-- ---- the whole

record SameParts (j k : Job) : Type 0 where
  board : j.board ≡ k.board
  flms : j.flms ≡ k.flms
  image : j.image ≡ k.image
  snapshot : j.snapshot ≡ k.snapshot

record SameLengths (j k : Job) : Type 0 where
  board : length j.board ≡ length k.board
  files : length j.flms ≡ length k.flms
  first : flm_len j.flms 0 ≡ flm_len k.flms 0
  second : flm_len j.flms 1 ≡ flm_len k.flms 1
  image : length j.image ≡ length k.image

one_tail : (j k : Job) → (length j.flms ≡ 1) ⊎ (length j.flms ≡ 2) → HasFields j → HasFields k → SameLengths j k → tail_of j ≡ tail_of k → SameParts j k
one_tail j k few a b same e =
    let board = one_front j.board k.board _ _ same.board e in
    let flms = one_or_two j.flms k.flms _ _ few same.files same.first same.second board.1 in
    let image = one_image j.image k.image _ _ same.image a.runs b.runs flms.1 in
    record { board = board.0; flms = flms.0; image = image.0; snapshot = image.1 }

few_of : (n : ℕ) → (n ≡ 1) ⊎ (n ≡ 2) → n < 2 ^ 32
few_of n few = ⊎_elim (λ one. omega (arith, one)) (λ two. omega (arith, two)) few

one_in : (format : Format) (j k : Job) → MayHave format (length j.flms) → MayHave format (length k.flms) → HasFields j → HasFields k
    → body_in format j ≡ body_in format k → SameParts j k
one_in First j k one two a b e =
    let board = one_field (length j.board) (length k.board) _ _ a.board b.board (ap (drop 7) e) in
    let first = one_field (flm_len j.flms 0) (flm_len k.flms 0) _ _ a.first b.first board.1 in
    let image = one_field (length j.image) (length k.image) _ _ a.count b.count first.1 in
    let cells = one_field (length j.snapshot) (length k.snapshot) _ _ a.cells b.cells image.1 in
    one_tail j k (inl one) a b
    (record { board = board.0; files = one ∙ sym two; first = first.0; second = one_file j.flms one ∙ sym (one_file k.flms two); image = image.0 }) cells.1
one_in Second j k few some a b e =
    let hashed = one_front (sha256 (hashed_of j)) (sha256 (hashed_of k)) (hashed_of j) (hashed_of k)
    (length-sha256 (hashed_of j) ∙ sym (length-sha256 (hashed_of k))) (ap (drop 7) e) in
    let board = one_field (length j.board) (length k.board) _ _ a.board b.board hashed.1 in
    let files = one_field (length j.flms) (length k.flms) _ _ (few_of (length j.flms) few) (few_of (length k.flms) some) board.1 in
    let first = one_field (flm_len j.flms 0) (flm_len k.flms 0) _ _ a.first b.first files.1 in
    let second = one_field (flm_len j.flms 1) (flm_len k.flms 1) _ _ a.second b.second first.1 in
    let image = one_field (length j.image) (length k.image) _ _ a.count b.count second.1 in
    let cells = one_field (length j.snapshot) (length k.snapshot) _ _ a.cells b.cells image.1 in
    one_tail j k few a b (record { board = board.0; files = files.0; first = first.0; second = second.0; image = image.0 }) cells.1

pub one_text : (j k : Job) → HasFields j → HasFields k → body_of j ≡ body_of k → j ≡ k
one_text j k a b e =
    let format : j.format ≡ k.format = sym (format_of j.format j) ∙ ap format_in e ∙ format_of k.format k in
    let same = one_in j.format j k a.files (subst (λ (f : Format). MayHave f (length k.flms)) (sym format) b.files) a b
    (e ∙ ap (λ (f : Format). body_in f k) (sym format)) in
    λ i. record { format = format i; board = same.board i; flms = same.flms i; image = same.image i; snapshot = same.snapshot i }

-- ---- the numbers of a job fit their fields

rooms : (regions : List Region) (low : ℕ) (rs : List Run) → length regions ≤ 2 → AreSmall regions → AreMaximal low addresses rs → AreCovered regions rs →
    All HasRoom rs
rooms regions low [] few small fits covered = All-nil HasRoom
rooms regions low (r ∷ rs) few small fits covered = All-cons HasRoom r rs (
  omega (arith, fits.1, fits.2),
  omega (
    arith,
    covers_small regions r.at (end_of r) small
        (each_covered regions r.at (end_of r) few (omega (arith, fits.1)) covered.0),
  ),
)
    (rooms regions (end_of r + 1) rs few small fits.3 covered.1)

pub has_fields : (j : Job) (b : board.Shown) (algorithms : List flm.Shown) → IsJob j b algorithms → HasFields j
has_fields j b algorithms is =
    let small = small_job j b algorithms is in
    record {
      files = is.files;
      board = is.short_board;
      first = is.short_first;
      second = is.short_second;
      count = small.runs;
      runs = rooms b.regions 0 j.image (few_regions j b algorithms is) (small_regions b b.regions algorithms j.flms is.suits.fit is.algorithms)
          is.suits.inside.0 is.suits.inside.1;
      cells = small.cells;
    }
