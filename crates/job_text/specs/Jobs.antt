-- Which texts make a job: each one describes a board or an algorithm, and all of them suit one another.
use Rattle.std.specs.Prelude.{◌≡◌, ◌<◌, ◌^◌, List, ℕ, [], ◌∷◌, length}
use Rattle.board_file.specs.Shown as board
use Rattle.board_file.specs.Limits.{size_of}
use Rattle.board_file.specs.Text.{IsBoard}
use Rattle.flm_descriptor.specs.Shown as flm
use Rattle.flm_descriptor.specs.Flm.{IsFlm}
use Rattle.job_text.specs.Fits.{Suits}
use Rattle.job_text.specs.Body.{Job, MayHave, flm_len}

-- each FLM file describes the algorithm in its place
abbrev pub AreFlms : List (List ℕ) → List flm.Shown → Type 0
AreFlms [] [] = Unit {0}
AreFlms (file ∷ files) (a ∷ rest) = IsFlm file a × AreFlms files rest
AreFlms _ _ = ⊥

-- the texts are those of a job, and describe this board and these algorithms
pub record IsJob (j : Job) (b : board.Shown) (said : List flm.Shown) : Type 0 where
  pub board : IsBoard j.board b
  pub files : MayHave j.format (length j.flms)
  pub algorithms : AreFlms j.flms said
  pub suits : Suits b said j.image
  -- the snapshot has a byte for each cell
  pub cells : length j.snapshot ≡ size_of b.regions
  -- the length of each text fits its field
  pub short_board : length j.board < 2 ^ 32
  pub short_first : flm_len j.flms 0 < 2 ^ 32
  pub short_second : flm_len j.flms 1 < 2 ^ 32
