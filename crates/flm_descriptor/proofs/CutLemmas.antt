-- Laws of the pieces into which a range is cut.
use Rattle.std.proofs.Common.{◌≡◌, ℕ, suc, ◌+◌, ◌-◌, ◌*◌, ◌<◌, ◌≤◌, arith, length, get_or, zero-add}
use Rattle.std.proofs.Math.Nat.{le-div_iff_mul-le}
use Rattle.std.proofs.lemmas.List.FromFn.{get_or-map-range_with_len, length-map-range_with_len}
use Rattle.flm_descriptor.specs.Shape.{range, pieces, piece, cut}

-- a piece exists exactly where it begins before the end
pub pieces_below : (step start stop k : ℕ) → 1 ≤ step → k < pieces step start stop → start + k * step < stop
unfolding pieces
pieces_below step start stop k some h =
    let e : suc k * step ≤ stop - start + (step - 1) = (le-div_iff_mul-le {k = step} {x = suc k} {y = stop - start + (step - 1)} some).0 h in
    omega (arith, e)

pub pieces_above : (step start stop k : ℕ) → 1 ≤ step → start + k * step < stop → k < pieces step start stop
unfolding pieces
pieces_above step start stop k some h =
    (le-div_iff_mul-le {k = step} {x = suc k} {y = stop - start + (step - 1)} some).1 (omega (arith, h))

pub length-cut : (step start stop : ℕ) → length (cut step start stop) ≡ pieces step start stop
unfolding cut
length-cut step start stop = length-map-range_with_len (piece step start stop) 0 (pieces step start stop)

pub cut_at : (step start stop k : ℕ) → k < pieces step start stop → get_or (cut step start stop) k (range 0 0) ≡ piece step start stop k
unfolding cut
cut_at step start stop k h = get_or-map-range_with_len (piece step start stop) 0 (pieces step start stop) k k (range 0 0) h (zero-add k)
