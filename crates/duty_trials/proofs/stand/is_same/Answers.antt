-- `is_same`: that it keeps its contract.
use Rattle.std.proofs.Common.{◌≡◌, sym, subst, Decides}
use lib.Pointwise.{bytes_decides}
use Rattle.duty_trials.proofs.stand.is_same.Goals as goal

pub returns : goal.returns
returns c =
    let equal : Decides c.eq.result (c.args.cells.now ≡ c.args.wanted.now) =
    subst (λ b. Decides b (c.args.cells.now ≡ c.args.wanted.now)) (sym c.eq.ensures) (bytes_decides c.args.cells.now c.args.wanted.now) in
    (λ yes'. equal.0 yes', λ same. equal.1 same)
