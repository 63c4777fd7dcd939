-- How a target's machine passes from one region to the other.
use Rattle.std.specs.Prelude.{◌≡◌, ℕ, List, [], Option, Some, None}
use Rattle.target_core.specs.World.{World}
use Rattle.target_core.specs.Windows.{OnlyIn}
use Rattle.algo_calls.specs.Calls.{after_reset}
use Rattle.algo_calls.specs.Shows.{setup_at, world_at, Fits}
use Rattle.algo_calls.specs.declared.calls_in.CallsIn.{CallsIn}
use Rattle.flash_session.specs.declared.cursor.Cursor.TheVariants as at
use Rattle.flash_session.specs.declared.cursor.Place.TheVariants as place
use Rattle.flash_session.specs.declared.phase.Phase.TheVariants as stage
use Rattle.flash_session.specs.declared.player.Player.{Player}
use Rattle.flash_session.specs.Regions.{RegionIndex, First, other_than}
use Rattle.flash_session.specs.Targets.{setup_now, map_of}
use Rattle.flash_session.specs.Turns.{SameTarget}
use Rattle.flash_session.specs.Fit.{AreTwins}

-- the machine with calls `c` replaces the one that moved last, and starts as after a reset
pub record IsExchanged (old : Player) (arena : List (List ℕ)) (new : Player) (arena' : List (List ℕ)) (c : CallsIn) : Type 0 where
  pub rest : new ≡ record old { calls = new.calls; other = Some old.calls; moved = other_than old.moved }
  pub setup : setup_at new.calls ≡ setup_at c
  pub map : map_of new.calls ≡ map_of c
  pub starts : (cells : List ℕ) → world_at new.calls arena' old.window cells ≡ after_reset (setup_at c) (world_at c arena old.window cells) None []
  pub only : OnlyIn old.window arena arena'
  pub fits : Fits new.calls arena' old.window

-- A target starts again before its first move, as after a reset.
pub record Restarts (old : Player) (arena : List (List ℕ)) (new : Player) (arena' : List (List ℕ)) : Type 0 where
  pub same : SameTarget old new
  pub twins : AreTwins new
  pub moved : new.moved ≡ First
  pub made : new.made ≡ 0
  pub place : new.place ≡ place.At (at.Begin First stage.Erase)
  pub page : new.page ≡ old.page
  pub starts : (cells : List ℕ) → world_at new.calls arena' new.window cells
      ≡ after_reset (setup_now old) (world_at old.calls arena old.window cells) None []
  pub fits : Fits new.calls arena' new.window

-- The machine of region `r` moves next. It has the world that a reset left on the machine that moved last.
pub record TurnsTo (r : RegionIndex) (old : Player) (arena : List (List ℕ)) (new : Player) (arena' : List (List ℕ)) : Type 0 where
  pub same : SameTarget old new
  pub twins : AreTwins new
  pub moved : new.moved ≡ r
  pub rest : new ≡ record old { calls = new.calls; other = new.other; moved = new.moved }
  pub stands : (w : World) (operation : Option (ℕ × ℕ)) (torn cells : List ℕ) → world_at old.calls arena old.window cells
      ≡ after_reset (setup_now old) w operation torn
      → world_at new.calls arena' old.window cells ≡ after_reset (setup_now old) w operation torn
  pub map : map_of new.calls ≡ map_of old.calls
  pub only : OnlyIn old.window arena arena'
  pub fits : Fits new.calls arena' old.window
