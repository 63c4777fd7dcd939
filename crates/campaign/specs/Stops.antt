-- What a stop may leave in a campaign, in terms of the bench alone. A pair is a file, and the cells.
use Rattle.std.specs.Prelude.{◌≡◌, ◌⊎◌, ◌≤◌, ℕ, List, ◌∷◌, Option, Some, None, nat_le, if◌then◌else◌}
use Rattle.bench_model.specs.History.{left}
use Rattle.bench_model.specs.State.{BenchState, file_half, cells_half, SameOutside}
use Rattle.job_text.specs.Files.{IsFree, IsWhole, IsClosed}

-- A job as a campaign sees it: its body, and the cells that it is to reach. `laid` is the image over the snapshot, and the snapshot is what
-- `revert` brings back.
pub record CampaignJob : Type 0 where
  pub body : List ℕ
  pub laid : List ℕ
  pub snapshot : List ℕ

-- The pair is as `program` or `begin` found it. The file is free, or one that a stop at entry may leave. The cells are those of the entry,
-- outside the operation that was open then.
pub record IsUntouched (start : BenchState) (file cells : List ℕ) : Type 0 where
  pub free : IsFree file ⊎ left (file_half start) file
  pub outside : SameOutside start.operation start.cells cells

-- The pair of a call during its close: the file is whole or closed, and the cells are the goal already.
pub record IsAtClose (body goal file cells : List ℕ) : Type 0 where
  pub whole_or_closed : IsWhole body file ⊎ IsClosed body file
  pub done : cells ≡ goal

-- the statuses of a call that has no close: out of memory, a device fault, a call that failed, or a mismatch
abbrev pub HasNoClose : ℕ → Type 0
HasNoClose status = (status ≡ 1) ⊎ ((status ≡ 9) ⊎ ((status ≡ 11) ⊎ (status ≡ 12)))

-- what a call of `program`, `resume` or `revert` with status 0 leaves
pub record IsDone (body goal : List ℕ) (new : BenchState) : Type 0 where
  pub file : new.file ≡ 0 ∷ body
  pub idle : new.operation ≡ None
  pub cells : new.cells ≡ goal

-- the file and the cells as they are now are among what a stop may leave, as on every bench that tells its contents
pub record IsTold (b : BenchState) : Type 0 where
  pub as_read : left (file_half b) b.file
  pub as_told : left (cells_half b) b.cells

-- The next call is entered with what the last one left when it ended or was stopped. If every file that a stop may leave is then the job's
-- file, the cells may be any others: the target may have run meanwhile.
pub record IsEntered (aim : CampaignJob) (new : BenchState) (end : ℕ) (next : BenchState) : Type 0 where
  pub told : IsTold next
  pub files : (f : List ℕ) → left (file_half next) f → new.files_at end f
  pub cells : ((c : List ℕ) → left (cells_half next) c → new.cells_at end c)
      ⊎ ((f : List ℕ) → left (file_half next) f → IsWhole aim.body f)

-- the goal of the last call that began its close, when this call has come to moment `k`
abbrev pub last_at : Option (List ℕ) → ℕ → List ℕ → ℕ → Option (List ℕ)
last_at last closing goal k = if nat_le closing k then Some goal else last

-- the job is finished: its file is closed, and the cells are the goal of the last call that began its close
pub record IsFinished (body : List ℕ) (last : Option (List ℕ)) (file cells : List ℕ) : Type 0 where
  pub closed : IsClosed body file
  pub done : last ≡ Some cells

-- a safe pair is untouched, whole or finished
abbrev pub IsSafePair : BenchState → CampaignJob → Option (List ℕ) → List ℕ → List ℕ → Type 0
IsSafePair start aim last f c = IsUntouched start f c ⊎ (IsWhole aim.body f ⊎ IsFinished aim.body last f c)

-- each pair that a call leaves, at any moment, is safe
abbrev pub IsSafe : BenchState → CampaignJob → Option (List ℕ) → BenchState → BenchState → ℕ → List ℕ → Type 0
IsSafe start aim last old new closing goal =
    (k : ℕ) (f c : List ℕ) → old.moment ≤ k → k ≤ new.moment → new.files_at k f → new.cells_at k c
    → IsSafePair start aim (last_at last closing goal k) f c
