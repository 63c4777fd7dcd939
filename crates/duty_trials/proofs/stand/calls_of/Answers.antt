-- `calls_of`: that it keeps its contract, and what `CallsIn::new` requires.
use Rattle.std.proofs.Common.{ap, ◌∙◌}
use Rattle.flm_descriptor.specs.Shown.{Shown}
use Rattle.target_core.specs.declared.machine.Machine.{Machine}
use Rattle.target_core.specs.Units.{unit_map, unit_state}
use Rattle.algo_loader.specs.Places.{placed}
use Rattle.algo_calls.specs.Setups.{setup_of}
use Rattle.duty_trials.specs.Subjects.{board_in}
use Rattle.duty_trials.proofs.stand.calls_of.Goals as goal

pub new-requires-2-clause-layout : goal.new-requires-2-clause-layout
new-requires-2-clause-layout c = ap (λ (a : Shown). placed a (board_in c.args.subject.now)) c.in_ok-algorithm.ensures ∙ c.args.subject.now.laid_out

pub returns-clause-setup : goal.returns-clause-setup
returns-clause-setup c = c.new-2.ensures.setup ∙ ap (λ (a : Shown). setup_of a (board_in c.args.subject.now)) c.in_ok-algorithm.ensures

pub returns-clause-base : goal.returns-clause-base
returns-clause-base c = ap (λ (m : Machine). m.ram_base) c.new-2.ensures.machine ∙ c.in_ok-machine.ensures.base

pub returns-clause-size : goal.returns-clause-size
returns-clause-size c = ap (λ (m : Machine). m.ram_size) c.new-2.ensures.machine ∙ c.in_ok-machine.ensures.size

pub returns-clause-map : goal.returns-clause-map
returns-clause-map c = ap (λ (m : Machine). unit_map m.unit) c.new-2.ensures.machine ∙ c.in_ok-machine.ensures.map

pub returns-clause-fresh : goal.returns-clause-fresh
returns-clause-fresh c = ap (λ (m : Machine). unit_state m.unit) c.new-2.ensures.machine ∙ c.in_ok-machine.ensures.state
