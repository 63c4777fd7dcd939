-- `Trial::new`: that its result meets the clauses of its type.
use Rattle.std.proofs.Common.{ℕ, List, length, ap, sym, ◌∙◌, arith}
use Rattle.std.proofs.lemmas.List.{length-replicate}
use Rattle.bench_model.specs.Shown.{Memory}
use Rattle.bench_model.specs.declared.memory.MemoryBench.{MemoryBench}
use Rattle.target_core.specs.Windows.{window_of}
use Rattle.target_core.proofs.UnitLemmas.{fresh_agrees}
use Rattle.target_vectors.proofs.calls.trial.Trial.new.Goals as goal

pub invariant_of-result : goal.invariant_of-result
invariant_of-result c = record {
  fits = (
    omega (arith, ap (λ (ws : List (List ℕ)). length ws) c.in_ok-arena.ensures),
    ap (λ (ws : List (List ℕ)). length (window_of ws 1)) c.in_ok-arena.ensures ∙ length-replicate _ _ ∙ sym c.in_ok-calls.ensures.size,
  );
  agrees = fresh_agrees _ c.in_ok-calls.calls.machine.unit _ _ c.in_ok-calls.ensures.fresh
      (ap (λ (b : MemoryBench). length b.cells.items) c.new-3.ensures ∙ ap (λ (m : Memory). length m.cells) c.in_ok-bench.ensures.made
      ∙ sym c.in_ok-calls.ensures.cells)
      (ap (λ (b : MemoryBench). b.operation) c.new-3.ensures ∙ c.in_ok-bench.ensures.rest.idle);
}
