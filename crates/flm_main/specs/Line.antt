-- The meaning of each argument of the program. Argument 0 is the program's own name.
use Rattle.std.specs.Prelude.{◌≡◌, ℕ, List, [], ◌∷◌, codes, drop, get_or}

-- for one device: the job file's name, the cells file's name, and then the command with its words; a missing name is empty
abbrev pub job_name : List (List ℕ) → List ℕ
job_name line = get_or line 1 []

abbrev pub cells_name : List (List ℕ) → List ℕ
cells_name line = get_or line 2 []

abbrev pub words_for_one : List (List ℕ) → List (List ℕ)
words_for_one line = drop 3 line

-- for several devices: argument 1 is `--gang`, followed by pairs of a job file's name and a cells file's name
abbrev pub IsForGang : List (List ℕ) → Type 0
IsForGang line = job_name line ≡ codes "--gang"

abbrev pub words_for_gang : List (List ℕ) → List (List ℕ)
words_for_gang line = drop 2 line

-- the names of the job files in the complete pairs among these words
abbrev pub job_names : List (List ℕ) → List (List ℕ)
job_names [] = []
job_names (job ∷ []) = []
job_names (job ∷ cells ∷ rest) = job ∷ job_names rest

-- the names of the cells files in the complete pairs among these words
abbrev pub cells_names : List (List ℕ) → List (List ℕ)
cells_names [] = []
cells_names (job ∷ []) = []
cells_names (job ∷ cells ∷ rest) = cells ∷ cells_names rest
