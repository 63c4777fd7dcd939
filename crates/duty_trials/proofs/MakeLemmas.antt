-- A prepared call that is made in one slice is the whole call.
use Rattle.std.proofs.Common.{◌≡◌, ℕ, [], ◌∷◌, length, inl, sym, subst}
use Rattle.bench_model.specs.Shown.{bench_of}
use Rattle.bench_model.specs.declared.memory.MemoryBench.{MemoryBench}
use Rattle.target_core.specs.declared.run.RunEnd.{RunEnd}
use Rattle.target_core.specs.declared.run.SliceEnd.TheVariants as slice
use Rattle.target_core.specs.World.{World}
use Rattle.target_core.specs.Path.{Point}
use Rattle.target_core.specs.Targets.{SliceFrom}
use Rattle.algo_calls.specs.declared.call.CallEnd.{CallEnd}
use Rattle.algo_calls.specs.Ends.{success_of, call_end_of}
use Rattle.algo_calls.specs.Setups.{Setup}
use Rattle.algo_calls.specs.Frames.{Request, fuel_of, first_point}
use Rattle.algo_calls.specs.Calls.{CallGives}
use Rattle.algo_calls.proofs.CallLemmas.{sliced_call}

pub made : (s : Setup) (w : World) (r : Request) (from last : Point) (return_at fuel left : ℕ) (start end : MemoryBench) (e : RunEnd) (e' : CallEnd)
    → from ≡ first_point s w r → return_at ≡ s.layout.return_at → fuel ≡ fuel_of s r.call → e' ≡ call_end_of (success_of r.call (length r.bytes)) e
    → SliceFrom return_at from (bench_of start) fuel left fuel (slice.Ended e) last (bench_of end)
    → CallGives s w r (bench_of start) e' last.world (bench_of end)
made s w r from last return_at fuel left start end e e' first back enough ends sliced =
    let one : SliceFrom s.layout.return_at from (bench_of start) fuel left fuel (slice.Ended e) last (bench_of end) =
    subst (λ (n : ℕ). SliceFrom n from (bench_of start) fuel left fuel (slice.Ended e) last (bench_of end)) back sliced in
    let two : SliceFrom s.layout.return_at (first_point s w r) (bench_of start) fuel left fuel (slice.Ended e) last (bench_of end) =
    subst (λ (p : Point). SliceFrom s.layout.return_at p (bench_of start) fuel left fuel (slice.Ended e) last (bench_of end)) first one in
    let three : SliceFrom s.layout.return_at (first_point s w r) (bench_of start) (fuel_of s r.call) left (fuel_of s r.call) (slice.Ended e) last
    (bench_of end) =
    subst (λ (n : ℕ). SliceFrom s.layout.return_at (first_point s w r) (bench_of start) n left n (slice.Ended e) last (bench_of end)) enough two in
    subst (λ (x : CallEnd). CallGives s w r (bench_of start) x last.world (bench_of end)) (sym ends)
    (sliced_call bench_of s w r (fuel_of s r.call ∷ []) start end e last (inl (left, three)))
