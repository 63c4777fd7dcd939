-- What the trial of a list of calls shows of an algorithm.
use Rattle.std.specs.Prelude.{◌≡◌, ◌<◌, ◌≤◌, ◌^◌, ℕ, List, [], ◌∷◌, ◌++◌, length, All, Option}
use Rattle.bench_model.specs.State.{BenchState, SameOutside}
use Rattle.board_file.specs.Shown.{Shown as BoardShown}
use Rattle.flash_layout.specs.Areas.{cells_in}
use Rattle.flash_layout.specs.Maps.{board_map}
use Rattle.flm_descriptor.specs.Shown.{Shown as AlgorithmShown}
use Rattle.target_core.specs.World.{World}
use Rattle.algo_calls.specs.Setups.{Setup, setup_of}
use Rattle.algo_calls.specs.Frames.{after}
use Rattle.algo_calls.specs.Duties.{Site, Duty, Phase, Keeps, AreReady, MayAsk, part, request_of, works_of, duties_of, device_of, site_of, ready}

-- the target after the calls of these duties
abbrev pub world_after : Setup → Site → World → List Duty → World
world_after s site w [] = w
world_after s site w (d ∷ rest) = world_after s site (after s w (request_of s site.layout d)) rest

-- a list that `Serves` covers, by the cells before it and its phase
pub record IsAsked (b : BoardShown) (a : AlgorithmShown) (region : ℕ) (cells : List ℕ) (phase : Phase) : Type 0 where
  pub long : length cells ≡ cells_in (board_map b).areas
  pub bytes : All (λ v. v < 2 ^ 8) cells
  pub may : MayAsk (setup_of a b) (device_of a) phase
  pub some : works_of (setup_of a b) (device_of a) (part (site_of b a region) cells) phase ≡ [] → ⊥
  pub ready : AreReady (setup_of a b) (site_of b a region) cells (works_of (setup_of a b) (device_of a) (part (site_of b a region) cells) phase)

-- A call of such a list that isn't kept: the duties before it, its duty, and the duties after it. The target has then made the calls before
-- it, whatever those did.
pub record BreaksIn (b : BoardShown) (a : AlgorithmShown) (region : ℕ) (cells : List ℕ) (phase : Phase) (before : List Duty) (d : Duty) : Type 0 where
  pub asked : IsAsked b a region cells phase
  pub behind : List Duty
  pub list : duties_of (setup_of a b) (device_of a) (part (site_of b a region) cells) phase ≡ before ++ d ∷ behind
  pub breaks : Keeps (setup_of a b) (site_of b a region) (world_after (setup_of a b) (site_of b a region) (ready b a cells) before) d → ⊥

-- At some moment from one state of a bench to a later one, a loss of power might have left other contents outside a place. Either an
-- operation was open there, or a cell there had changed.
pub record SeenOutside (place : Option (ℕ × ℕ)) (cells : List ℕ) (start end : BenchState) : Type 0 where
  pub moment : ℕ
  pub since : start.moment ≤ moment
  pub past : moment ≤ end.moment
  pub left : List ℕ
  pub may : end.cells_at moment left
  pub differs : SameOutside place cells left → ⊥
