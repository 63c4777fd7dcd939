-- `Table::run`: its clause `runs`, and what `bench_over` and `go` require.
use Rattle.std.proofs.Common.{ℕ, List, length, refl, sym, ap, ◌∙◌, arith}
use Rattle.bench_model.specs.Shown.{bench_of}
use Rattle.flash_layout.specs.Areas.{cells_in}
use Rattle.flash_layout.specs.Maps.{FlashMap}
use Rattle.algo_calls.specs.Setups.{Setup}
use Rattle.duty_trials.proofs.SubjectLemmas.{board_few}
use Rattle.duty_runs.specs.Hands.{hand_setup, hand_base, hand_map}
use Rattle.duty_table.proofs.RunLemmas.{back_map, runs_to}
use Rattle.duty_table.proofs.table.Table.run.Goals as goal

pub bench_over-requires : goal.bench_over-requires
bench_over-requires c =
    let t = c.args.self.now.subject.now in
    omega (arith, c.requires.cells, t.many, board_few t.board.now t.board.now.regions refl)

pub go-requires-clause-may : goal.go-requires-clause-may
go-requires-clause-may c = rw c.args.self.now.setup c.requires.may

pub go-requires-clause-cells : goal.go-requires-clause-cells
go-requires-clause-cells c =
    ap (λ (l : List ℕ). length l) c.in_ok-bench.ensures.cells ∙ c.requires.cells ∙ c.args.self.now.subject.now.many
    ∙ sym (ap (λ (m : FlashMap). cells_in m.areas) c.args.self.now.map)

pub go-requires-clause-ram : goal.go-requires-clause-ram
go-requires-clause-ram c =
    let size = ap (λ (s : Setup). s.ram_size) c.args.self.now.setup in omega (arith, size)

pub returns-clause-runs : goal.returns-clause-runs
returns-clause-runs c =
    let self = c.args.self.now in
    back_map c.in_ok-went.went _ _ (λ left steps so.
    runs_to self.subject.now c.args.ask.now c.args.state.now left (hand_setup self.hand) (hand_base self.hand) (hand_map self.hand)
    (bench_of c.in_ok-bench.bench).cells steps self.setup self.base self.map
    (ap (λ (l : List ℕ). length l) c.in_ok-bench.ensures.cells ∙ c.requires.cells ∙ self.subject.now.many) so) c.in_ok-went.ensures.decides
