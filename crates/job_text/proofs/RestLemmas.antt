-- What follows the texts of a body, one step after the other.
use Rattle.std.proofs.Common.{◌≡◌, ◌≢◌, ◌≤◌, ◌∙◌, ℕ, Bool, ltb, eqb, List, length, map, Result, Ok, Err, refl, ap}
use Rattle.std.proofs.lemmas.Bool.{lt-ltb, eq-eqb, ne_eqb}
use Rattle.faults.specs.Results.{◌>>=◌}
use Rattle.byte_map.specs.Image.{Run}
use Rattle.board_file.specs.Limits.{size_of}
use Rattle.job_text.specs.declared.fault.JobFault.{JobFault}
use Rattle.job_text.specs.declared.fault.JobFault.TheVariants.{OutOfMemory, NotAJob}
use Rattle.job_text.specs.declared.format.Format.{Format}
use Rattle.job_text.specs.declared.head.Head.{Head}
use Rattle.job_text.specs.Reading.{holds_or, Texts, File, files_in, texts_at, runs_at, Found, places_of, rest_at, seen_of}
use Rattle.job_text.specs.Shown.{Fails}
use Rattle.job_text.proofs.Steps.{bind_is, holds}

abbrev pub found_of : Format → Texts → List Run → List ℕ → Found
found_of format t image snapshot = record {
  job = record { format = format; board = t.board_text; flms = map (λ (f : File). f.text) (files_in t); image = image; snapshot = snapshot };
  board = t.board;
  algorithms = map (λ (f : File). f.algorithm) (files_in t);
}

abbrev pub ends_behind : ℕ → Format → Head → Texts → List Run × List ℕ → Result Found ℕ
ends_behind d format h t runs = holds_or d (eqb (length runs.1) h.cells) >>= λ ends. Ok (found_of format t runs.0 runs.1)

abbrev pub runs_behind : ℕ → Format → Head → Texts × List ℕ → Result Found ℕ
runs_behind d format h t = runs_at d t.0.board.regions h.runs 0 t.1 >>= λ runs. ends_behind d format h t.0 runs

abbrev pub counts_behind : ℕ → Format → Head → Texts × List ℕ → Result Found ℕ
counts_behind d format h t =
    holds_or (places_of format).cells (eqb h.cells (size_of t.0.board.regions)) >>= λ sized. holds_or (places_of format).runs
    (ltb 0 h.runs) >>= λ some. runs_behind d format h t

pub rest_from : (d : ℕ) (format : Format) (h : Head) (bytes : List ℕ)
    → rest_at d format h bytes ≡ (texts_at d (places_of format) h bytes >>= counts_behind d format h)
unfolding rest_at
rest_from d format h bytes = refl

-- the texts were read
abbrev pub AreRead : ℕ → Format → Head → List ℕ → Texts → List ℕ → Type 0
AreRead d format h bytes t rest = texts_at d (places_of format) h bytes ≡ Ok (t, rest)

pub rest_said : (d : ℕ) (format : Format) (h : Head) (bytes : List ℕ) (t : Texts) (rest : List ℕ) → AreRead d format h bytes t rest
    → rest_at d format h bytes ≡ counts_behind d format h (t, rest)
rest_said d format h bytes t rest read =
    rest_from d format h bytes ∙ bind_is (texts_at d (places_of format) h bytes) (counts_behind d format h) (t, rest) read

-- another number of cells fails
pub rest_unsized : (d : ℕ) (format : Format) (h : Head) (bytes : List ℕ) (t : Texts) (rest : List ℕ) → AreRead d format h bytes t rest
    → h.cells ≢ size_of t.board.regions → rest_at d format h bytes ≡ Err (places_of format).cells
rest_unsized d format h bytes t rest read differ =
    rest_said d format h bytes t rest read
    ∙ ap (λ (b : Bool). holds_or (places_of format).cells b >>= λ sized. holds_or (places_of format).runs (ltb 0 h.runs)
    >>= λ some. runs_behind d format h (t, rest)) (ne_eqb _ _ differ)

-- with the right number of cells, the reading continues with the number of runs
pub rest_sized : (d : ℕ) (format : Format) (h : Head) (bytes : List ℕ) (t : Texts) (rest : List ℕ) → AreRead d format h bytes t rest
    → h.cells ≡ size_of t.board.regions
    → rest_at d format h bytes ≡ (holds_or (places_of format).runs (ltb 0 h.runs) >>= λ some. runs_behind d format h (t, rest))
rest_sized d format h bytes t rest read sized =
    rest_said d format h bytes t rest read
    ∙ bind_is (holds_or (places_of format).cells (eqb h.cells (size_of t.board.regions)))
    (λ sized. holds_or (places_of format).runs (ltb 0 h.runs) >>= λ some. runs_behind d format h (t, rest)) tt
    (holds (places_of format).cells (eqb h.cells (size_of t.board.regions)) (eq-eqb _ _ sized))

pub rest_runless : (d : ℕ) (format : Format) (h : Head) (bytes : List ℕ) (t : Texts) (rest : List ℕ) → AreRead d format h bytes t rest
    → h.cells ≡ size_of t.board.regions → h.runs ≡ 0 → rest_at d format h bytes ≡ Err (places_of format).runs
rest_runless d format h bytes t rest read sized none =
    rest_sized d format h bytes t rest read sized
    ∙ ap (λ (n : ℕ). holds_or (places_of format).runs (ltb 0 n) >>= λ some. runs_behind d format h (t, rest)) none

-- the reading fails where the runs fail
pub rest_runs_fail : (d : ℕ) (format : Format) (h : Head) (bytes : List ℕ) (t : Texts) (rest : List ℕ) (e : JobFault) → AreRead d format h bytes t rest
    → h.cells ≡ size_of t.board.regions → 1 ≤ h.runs → Fails e (runs_at d t.board.regions h.runs 0 rest) → Fails e (seen_of d (rest_at d format h bytes))
rest_runs_fail d format h bytes t rest OutOfMemory read sized some fails = tt
rest_runs_fail d format h bytes t rest (NotAJob at) read sized some fails = ap (seen_of d) (
    rest_sized d format h bytes t rest read sized
    ∙ bind_is (holds_or (places_of format).runs (ltb 0 h.runs)) (λ some. runs_behind d format h (t, rest)) tt
    (holds (places_of format).runs (ltb 0 h.runs) (lt-ltb _ _ some))
    ∙ ap (λ (r : Result (List Run × List ℕ) ℕ). r >>= ends_behind d format h t) fails)

-- the texts, the counts and the runs were read
pub record RunsAre (d : ℕ) (format : Format) (h : Head) (bytes : List ℕ) (t : Texts) (rest : List ℕ) (image : List Run) (end : List ℕ) : Type 0 where
  pub read : AreRead d format h bytes t rest
  pub sized : h.cells ≡ size_of t.board.regions
  pub some : 1 ≤ h.runs
  pub runs : runs_at d t.board.regions h.runs 0 rest ≡ Ok (image, end)

rest_runs : (d : ℕ) (format : Format) (h : Head) (bytes : List ℕ) (t : Texts) (rest : List ℕ) (image : List Run) (end : List ℕ)
    → RunsAre d format h bytes t rest image end → rest_at d format h bytes ≡ ends_behind d format h t (image, end)
rest_runs d format h bytes t rest image end r =
    rest_sized d format h bytes t rest r.read r.sized
    ∙ bind_is (holds_or (places_of format).runs (ltb 0 h.runs)) (λ some. runs_behind d format h (t, rest)) tt
    (holds (places_of format).runs (ltb 0 h.runs) (lt-ltb _ _ r.some))
    ∙ bind_is (runs_at d t.board.regions h.runs 0 rest) (λ runs. ends_behind d format h t runs) (image, end) r.runs

pub rest_ends : (d : ℕ) (format : Format) (h : Head) (bytes : List ℕ) (t : Texts) (rest : List ℕ) (image : List Run) (end : List ℕ)
    → RunsAre d format h bytes t rest image end → length end ≢ h.cells → rest_at d format h bytes ≡ Err d
rest_ends d format h bytes t rest image end r differ =
    rest_runs d format h bytes t rest image end r ∙ ap (λ (b : Bool). holds_or d b >>= λ ends. Ok (found_of format t image end)) (ne_eqb _ _ differ)

pub rest_found : (d : ℕ) (format : Format) (h : Head) (bytes : List ℕ) (t : Texts) (rest : List ℕ) (image : List Run) (end : List ℕ)
    → RunsAre d format h bytes t rest image end → length end ≡ h.cells → rest_at d format h bytes ≡ Ok (found_of format t image end)
rest_found d format h bytes t rest image end r same =
    rest_runs d format h bytes t rest image end r
    ∙ bind_is (holds_or d (eqb (length end) h.cells)) (λ ends. Ok (found_of format t image end)) tt
    (holds d (eqb (length end) h.cells) (eq-eqb _ _ same))
