-- `why_undecided`: that it keeps its contract, and what `loaded` and `fills` require.
use Rattle.std.proofs.Common.{Bool, true, List, length, replicate, sym, ap, ◌∙◌}
use Rattle.std.proofs.lemmas.List.{length-replicate}
use Rattle.target_core.specs.Units.{UnitState}
use Rattle.algo_calls.specs.Setups.{Setup}
use Rattle.algo_calls.specs.Frames.{loaded}
use Rattle.duty_trials.specs.Subjects.{board_in, algorithm_in}
use Rattle.duty_table.proofs.LastLemmas.{ok_none}
use Rattle.duty_table.proofs.StateLemmas.{load_is}
use Rattle.duty_table.proofs.decide.why_undecided.Goals as goal

pub loaded-requires : goal.loaded-requires
loaded-requires c = ap (λ (s : UnitState). s.operation) c.in_ok-hand.ensures.state

pub fills-requires : goal.fills-requires
fills-requires c =
    let t = c.args.subject.now in
    let known = c.in_ok-loaded.ensures.known ∙ ap (λ (s : Setup). replicate s.ram_size true) c.in_ok-hand.ensures.setup in
    load_is (board_in t) (algorithm_in t) c.in_ok-loaded.loaded (c.in_ok-loaded.ensures.ram ∙ c.in_ok-hand.ensures.ram) known
    (sym c.in_ok-loaded.loaded.long ∙ ap (λ (l : List Bool). length l) known ∙ length-replicate _ _)
    (c.in_ok-loaded.ensures.state ∙ c.in_ok-hand.ensures.state) c.in_ok-loaded.ensures.address

pub returns : goal.returns
returns c =
    let t = c.args.subject.now in
    ok_none c.fills.result _ _ (λ decided. c.a_filled_table_serves.ensures (board_in t) (algorithm_in t) t.region decided) c.fills.ensures
