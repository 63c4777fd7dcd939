-- The snapshot in the file of a job. `snapshot_into` reads bytes of it.
use Rattle.std.proofs.Common.{◌≡◌, ◌≤◌, ◌+◌, ℕ, Bool, true, false, leb, ltb, List, [], ◌∷◌, length, refl, sym, ap, ◌∙◌, arith}
use Rattle.std.specs.List.{list_any}
use Rattle.std.proofs.lemmas.Bool.{leb-true, ltb-true, and_parts}
use Rattle.std.proofs.lemmas.List.Sums.{sum_by-cons}
use Rattle.std.proofs.lemmas.List.{length-drop}
use Rattle.byte_map.specs.Image.{Run}
use Rattle.board_file.specs.declared.region.Region.{Region}
use Rattle.job_text.specs.Fits.{holds, LiesIn}
use Rattle.board_file.specs.Limits.{size_of}
use Rattle.job_text.specs.declared.job.Job as code
use Rattle.job_text.specs.Stands.{StandsFor, snapshot_in}

-- regions that hold an address have at least one cell
held_cell : (rs : List Region) (at : ℕ) → list_any (λ (r : Region). holds r at) rs ≡ true → 1 ≤ size_of rs
held_cell [] at is = absurd cc
held_cell (r ∷ rs) at is = by_test (holds r at) refl (held_cell rs at)
  where
    by_test : (b : Bool) → holds r at ≡ b → (list_any (λ (q : Region). holds q at) rs ≡ true → 1 ≤ size_of rs) → 1 ≤ size_of (r ∷ rs)
    by_test true here later =
        let p = and_parts (leb r.base at) (ltb at (r.base + r.size)) here in
        omega (arith, sum_by-cons (λ (q : Region). q.size) r rs, leb-true r.base at p.0, ltb-true at (r.base + r.size) p.1)
    by_test false here later =
        let some : list_any (λ (q : Region). holds q at) rs ≡ true = rw here at is in
        omega (arith, sum_by-cons (λ (q : Region). q.size) r rs, later some)

-- regions in which an image lies have at least one cell
lying_cell : (rs : List Region) (image : List Run) → 1 ≤ length image → LiesIn rs image → 1 ≤ size_of rs
lying_cell rs [] some lies = absurd (omega (arith, some))
lying_cell rs (r ∷ more) some lies = held_cell rs r.at (lies.1.0 r.at (omega arith) (omega (arith, lies.0.1)))

pub some_cells : (job : code.Job) → 1 ≤ size_of job.board.regions
some_cells job = lying_cell job.board.regions job.image job.some job.inside

-- a range of the snapshot lies in the file
pub snapshot_within : (job : code.Job) (file : List ℕ) (at len : ℕ) → StandsFor job file → 1 ≤ size_of job.board.regions → at + len ≤ size_of job.board.regions
    → job.snapshot_at + at + len ≤ length file
snapshot_within job file at len stands some range =
    let long : length (snapshot_in job file) ≡ size_of job.board.regions = ap (λ (l : List ℕ). length l) (sym stands.snapshot) ∙ stands.is.cells in
    omega (arith, long, some, range, length-drop job.snapshot_at file)
