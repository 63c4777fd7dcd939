-- How the moves before a call and the call itself end, once the call has ended.
use Rattle.std.proofs.Common.{◌≡◌, ◌+◌, ◌∙◌, ℕ, false, List, [], ◌∷◌, ◌++◌, Ok, Err, refl, sym, ap, arith}
use Rattle.bench_model.specs.History.{Leaves}
use Rattle.bench_model.specs.State.{BenchState, cells_half}
use Rattle.bench_model.proofs.Moments.{leaves_as}
use Rattle.target_core.specs.World.{World}
use Rattle.target_core.specs.Path.{point}
use Rattle.target_core.specs.Runs.{IsLeftOn}
use Rattle.algo_calls.specs.declared.call.Call.{Call}
use Rattle.algo_calls.specs.declared.call.CallEnd.{CallEnd}
use Rattle.algo_calls.specs.declared.call.CallEnd.TheVariants as call_end
use Rattle.algo_calls.specs.Ends.{is_done}
use Rattle.algo_calls.specs.Setups.{Setup}
use Rattle.algo_calls.specs.Frames.{Request, asked, path_of, end_of, after}
use Rattle.algo_calls.specs.Calls.{CallGives}
use Rattle.flash_session.specs.Moves.{Move, Make, Stand, stand_at, failure, run, IsLeftOnWay}
use Rattle.flash_session.specs.Plays.{BreaksOff}
use Rattle.flash_session.proofs.Playing.{done_run, failed_run}
use Rattle.flash_session.proofs.Runs.{run_one, run_then, on_then, of_one}

-- the moves were all made, or ended with the call that was not done, or were broken off in that call
abbrev pub Came : Stand → List Move → ℕ → Call → CallEnd → World → BenchState → Type 0
Came a way made call call_end.Done w' end = run a way ≡ Ok (stand_at (made + 1) w')
Came a way made call (call_end.Refused r0) w' end = run a way ≡ Err (failure (made + 1) call (call_end.Refused r0) w')
Came a way made call (call_end.Ended e) w' end = run a way ≡ Err (failure (made + 1) call (call_end.Ended e) w')
Came a way made call call_end.DeviceFault w' end = BreaksOff a way end

module _ (s : Setup) (a : Stand) (done : List Move) (call : Call) (bytes : List ℕ) (made : ℕ) (before : World)
    (ran : run a done ≡ Ok (stand_at made before)) where
  abbrev made_call : List Move
  made_call = Make s call bytes ∷ []

  abbrev stood : Stand
  stood = stand_at made before

  abbrev r : Request
  r = asked call bytes

  pub call_moments : (start end : BenchState) → Leaves (cells_half start) (cells_half end) (IsLeftOn (path_of s before r))
      → Leaves (cells_half start) (cells_half end) (IsLeftOnWay a (done ++ made_call))
  call_moments start end moments =
      leaves_as (IsLeftOn (path_of s before r)) (IsLeftOnWay a (done ++ made_call))
      (λ c was. let w : World = (point (path_of s before r).first was.number).world in
      record {
        at = w;
        on = on_then a stood done made_call w ran
            (of_one stood (Make s call bytes) w (record { number = was.number; within = was.within; is = refl }));
        left = was.left;
      }) moments

  came_failed : (e : CallEnd) (w' : World) → is_done e ≡ false → (e ≡ end_of s before r) × (w' ≡ after s before r)
      → run a (done ++ made_call) ≡ Err (failure (made + 1) call e w')
  came_failed e w' failed ends =
      run_then a stood done made_call _ ran
      (run_one stood (Make s call bytes)
      ∙ failed_run (is_done (end_of s before r)) _ (failure (made + 1) call (end_of s before r) (after s before r)) (failure (made + 1) call e w')
      (ap is_done (sym ends.0) ∙ failed)
      (ap (λ (y : CallEnd). failure (made + 1) call y (after s before r)) (sym ends.0) ∙ ap (failure (made + 1) call e) (sym ends.1)))

  pub came : (e : CallEnd) (w' : World) (start end : BenchState) → CallGives s before r start e w' end → Came a (done ++ made_call) made call e w' end
  came call_end.Done w' start end gives =
      run_then a stood done made_call _ ran
      (run_one stood (Make s call bytes)
      ∙ done_run (is_done (end_of s before r)) (stand_at (made + 1) (after s before r)) (stand_at (made + 1) w') _ (ap is_done (sym gives.ends.0))
      (ap (stand_at (made + 1)) (sym gives.ends.1)))
  came (call_end.Refused r0) w' start end gives = came_failed (call_end.Refused r0) w' refl gives.ends
  came (call_end.Ended e) w' start end gives = came_failed (call_end.Ended e) w' refl gives.ends
  came call_end.DeviceFault w' start end gives =
      let w : World = (point (path_of s before r).first gives.ends.number).world in
      record {
        at = w;
        on = on_then a stood done made_call w ran (of_one stood (Make s call bytes) w
            (record { number = gives.ends.number; within = omega (arith, gives.ends.before); is = refl }));
        shows = record { cells = gives.ends.stands.cells; operation = gives.ends.stands.operation };
      }
