-- A job has as many algorithms as its board has regions, as the lines of its plans need it.
use Rattle.std.proofs.Common.{◌≡◌, ◌≤◌, ◌<◌, ◌∙◌, ap, suc, arith, refl, List, [], ◌∷◌, length}
use Rattle.board_file.specs.Shown as board
use Rattle.flm_descriptor.specs.declared.algorithm.Algorithm.{Algorithm}
use Rattle.job_text.specs.declared.job.Job.{Job}
use Rattle.job_text.specs.Said.{algorithms_shown}
use Rattle.job_text.proofs.RegionLemmas.{same_count}

pub shown_length : (algorithms : List Algorithm) → length (algorithms_shown algorithms) ≡ length algorithms
shown_length [] = refl
shown_length (a ∷ rest) = ap suc (shown_length rest)

-- there is one algorithm for each region
pub as_many_regions : (j : Job) → length j.board.regions ≡ length j.algorithms
as_many_regions j = same_count (board.shown j.board) j.board.regions (algorithms_shown j.algorithms) j.fit ∙ shown_length j.algorithms

pub some_algorithm : (j : Job) → 0 < length j.algorithms
some_algorithm j = omega (arith, as_many_regions j, j.board.some_region)

pub few_algorithms : (j : Job) → length j.algorithms ≤ 2
few_algorithms j = omega (arith, as_many_regions j, j.board.few_regions)
