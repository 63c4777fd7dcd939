-- `Gathered::add_all`: that it keeps its contract.
use Rattle.std.proofs.lemmas.Grind.{common_steps}
use Rattle.std.proofs.Common.{Bor, ℕ, List, arith}
use Rattle.outside_io.proofs.GatherLemmas.{gathers_more, gathers_breaks, gathers_failed}
use Rattle.outside_io.proofs.gathered.Gathered.add_all.Goals as goal

pub returns-in_err-add : goal.returns-in_err-add
returns-in_err-add g c = gathers_failed _ c.from_residual.ensures.0
    (gathers_breaks (λ (piece : Bor (List ℕ)). piece.now) _ _ _ c.loop-piece-test.true c.loop-piece.invariant c.in_err-add.ensures)

pub loop-piece-preserved : goal.loop-piece-preserved
loop-piece-preserved g c =
    gathers_more (λ (piece : Bor (List ℕ)). piece.now) _ _ _ c.loop-piece-test.true c.loop-piece.invariant c.in_ok-add.ensures

pub returns : goal.returns
returns g c = grind (arith, common_steps)

pub loop-piece-init : goal.loop-piece-init
loop-piece-init g c = grind (arith, common_steps)
