-- `Stand::new`: its clauses `world` and `setup`, what its calls ask for, and that its result meets the clauses of its type.
use Rattle.std.proofs.Common.{ℕ, List, length, refl, sym, ap, ◌∙◌, arith}
use Rattle.std.proofs.lemmas.List.{length-replicate}
use Rattle.flash_layout.specs.Areas.{cells_in}
use Rattle.flash_layout.specs.Maps.{FlashMap}
use Rattle.target_core.specs.Windows.{window_of}
use Rattle.target_core.specs.Units.{unit_state, unit_map}
use Rattle.target_core.proofs.UnitLemmas.{fresh_agrees}
use Rattle.algo_calls.specs.declared.calls_in.CallsIn.{CallsIn}
use Rattle.algo_calls.specs.Shows.{setup_at, world_at}
use Rattle.duty_trials.specs.Subjects.{board_in, algorithm_in}
use Rattle.duty_trials.proofs.BeginLemmas.{begun}
use Rattle.duty_trials.proofs.SubjectLemmas.{board_few}
use Rattle.duty_trials.proofs.stand.Stand.new.Goals as goal

pub load-requires : goal.load-requires
load-requires c = (
  omega (arith, ap (λ (ws : List (List ℕ)). length ws) c.in_ok-arena.ensures),
  ap (λ (ws : List (List ℕ)). length (window_of ws 0)) c.in_ok-arena.ensures ∙ length-replicate _ _ ∙ sym c.in_ok-calls.ensures.size,
)

pub bench_with-requires : goal.bench_with-requires
bench_with-requires c =
    let t = c.args.subject.now in
    omega (arith, c.requires, t.many, board_few t.board.now t.board.now.regions refl)

pub invariant_of-result-clause-fits : goal.invariant_of-result-clause-fits
invariant_of-result-clause-fits c = c.load.ensures.ram

pub invariant_of-result-clause-agrees : goal.invariant_of-result-clause-agrees
invariant_of-result-clause-agrees c = fresh_agrees _ c.load.new.self.machine.unit _ _
    (ap (λ (x : CallsIn). unit_state x.machine.unit) c.load.ensures.same ∙ c.in_ok-calls.ensures.fresh)
    (ap length c.in_ok-bench.ensures.cells ∙ c.requires ∙ c.args.subject.now.many
    ∙ sym (ap (λ (m : FlashMap). cells_in m.areas) (ap (λ (x : CallsIn). unit_map x.machine.unit) c.load.ensures.same ∙ c.in_ok-calls.ensures.map)))
    c.in_ok-bench.ensures.idle

pub returns-clause-world : goal.returns-clause-world
returns-clause-world c =
    let x = c.in_ok-bench.bench.inner.cells.items in
    begun (board_in c.args.subject.now) (algorithm_in c.args.subject.now) (setup_at c.in_ok-calls.calls) (world_at c.in_ok-calls.calls c.in_ok-arena.arena 0 x)
    (world_at c.load.new.self c.load.new.arena 0 x) c.args.cells.now x c.in_ok-calls.ensures.setup c.in_ok-calls.ensures.base c.in_ok-calls.ensures.map
    c.in_ok-calls.ensures.fresh refl c.in_ok-bench.ensures.cells (c.load.ensures.leaves x)

pub returns-clause-setup : goal.returns-clause-setup
returns-clause-setup c = ap setup_at c.load.ensures.same ∙ c.in_ok-calls.ensures.setup
