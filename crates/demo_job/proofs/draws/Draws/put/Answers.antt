-- `Draws::put`: that it keeps its contract, and that its loop keeps its invariant.
use Rattle.std.proofs.Common.{◌≡◌, ◌++◌, ℕ, sym, subst, arith}
use Rattle.demo_job.specs.Generator.{draws, after}
use Rattle.demo_job.proofs.GeneratorLemmas.{begin_bytes, more_bytes, more_state, not_after}
use Rattle.demo_job.proofs.draws.Draws.put.Goals as goal

pub loop-draw-init : goal.loop-draw-init
loop-draw-init c = record { bytes = begin_bytes c.args.out.now.items c.args.self.now.state; state = sym (not_after c.args.self.now.state) }

pub loop-draw-preserved : goal.loop-draw-preserved
loop-draw-preserved c = record {
  bytes = more_bytes c.loop-draw._draw c.args.self.now.state c.loop-draw.self.state c.args.out.now.items c.loop-draw.out.items c.push.new.self.items
      c.draw.result
      c.loop-draw.invariant.state c.loop-draw.invariant.bytes c.draw.ensures.byte c.in_ok-push.ensures.items;
  state = more_state c.loop-draw._draw c.args.self.now.state c.loop-draw.self.state c.draw.new.self.state c.loop-draw.invariant.state c.draw.ensures.state;
}

pub returns-clause-bytes : goal.returns-clause-bytes
returns-clause-bytes c =
    subst (λ (n : ℕ). c.loop-draw.out.items ≡ c.args.out.now.items ++ draws n c.args.self.now.state) (omega arith) c.loop-draw.invariant.bytes

pub returns-clause-state : goal.returns-clause-state
returns-clause-state c = subst (λ (n : ℕ). c.loop-draw.self.state ≡ after n c.args.self.now.state) (omega arith) c.loop-draw.invariant.state
