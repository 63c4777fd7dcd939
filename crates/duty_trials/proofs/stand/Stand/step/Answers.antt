-- `Stand::step`: its clause `broken`, for an operation outside and for a cell that differs, and its clauses `cells`, `bytes` and `calls`.
use Rattle.std.proofs.lemmas.Grind.{common_steps}
use Rattle.std.proofs.Common.{◌≡◌, ◌≤◌, ◌+◌, true, false, ℕ, List, refl, sym, ◌∙◌, ap, subst, arith}
use Rattle.bench_model.specs.State.{BenchState}
use Rattle.algo_calls.specs.Calls.{CallGives}
use Rattle.algo_calls.specs.Ends.{is_device_call}
use Rattle.algo_calls.specs.Frames.{asked}
use Rattle.algo_calls.specs.Duties.{place_of}
use Rattle.bench_model.specs.Shown.{bench_of}
use Rattle.duty_trials.specs.Stands.{setup_in, state_in, world_in}
use Rattle.duty_trials.specs.Tallies.{noted}
use Rattle.duty_trials.specs.declared.tally.Tally.{Tally}
use Rattle.duty_trials.proofs.TallyLemmas.{one_more}
use Rattle.duty_trials.proofs.TrialLemmas.{cell_differs, outside}
use Rattle.duty_trials.proofs.WatchLemmas.{seen_outside}
use Rattle.duty_trials.proofs.stand.Stand.step.Goals as goal

pub returns-in-Done-Some-default-clause-broken : goal.returns-in-Done-Some-default-clause-broken
returns-in-Done-Some-default-clause-broken c = λ broken site d is does good within fits keeps.
    let s = setup_in c.args.self.now in
    let w = world_in c.args.self.now in
    let start : BenchState = bench_of c.renew.new.self.inner in
    let out : (c.args.from ≤ c.in-Done-Some-default.at) × (c.in-Done-Some-default.at + c.in-Done-Some-default.len ≤ c.args.to) → ⊥ =
    λ inside. let no : false ≡ true = sym c.if-not-lies_in.true ∙ c.lies_in.ensures.1 inside in absurd cc in
    let gives : CallGives s w (asked c.args.call.now c.args.bytes.now) start c.make-end.result.end (world_in c.make-end.new.self)
    (state_in c.make-end.new.self) =
    subst (λ (x : List ℕ). CallGives s (record w { cells = x }) (asked c.args.call.now c.args.bytes.now) start c.make-end.result.end
    (world_in c.make-end.new.self) (state_in c.make-end.new.self))
    c.renew.ensures.cells c.make-end.ensures.gives in
    c.make-end.new.self.bench.seen refl (λ was.
    outside s site w d (asked c.args.call.now c.args.bytes.now) start c.make-end.result.end (world_in c.make-end.new.self)
    (state_in c.make-end.new.self) is gives
    (ap is_device_call c.in-Done-Some-default.is-0) good within
    (seen_outside (place_of site d) c.args.from c.args.to (c.in-Done-Some-default.at, c.in-Done-Some-default.len) w.cells start (state_in c.make-end.new.self)
    c.renew.ensures.moment fits out (was.was (c.in-Done-Some-default.at, c.in-Done-Some-default.len) c.in-Done-Some-default.is-1)) keeps)

pub returns-else-same-clause-broken : goal.returns-else-same-clause-broken
returns-else-same-clause-broken c = λ broken site d is does good within fits.
    let s = setup_in c.args.self.now in
    let w = world_in c.args.self.now in
    let start : BenchState = bench_of c.renew.new.self.inner in
    let gives : CallGives s w (asked c.args.call.now c.args.bytes.now) start c.make-end.result.end (world_in c.make-end.new.self)
    (state_in c.make-end.new.self) =
    subst (λ (x : List ℕ). CallGives s (record w { cells = x }) (asked c.args.call.now c.args.bytes.now) start c.make-end.result.end
    (world_in c.make-end.new.self) (state_in c.make-end.new.self))
    c.renew.ensures.cells c.make-end.ensures.gives in
    let differ : (world_in c.make-end.new.self).cells ≡ c.args.wanted.now → ⊥ =
    λ same. let none : false ≡ true = sym c.if-same.false ∙ c.holds-same.ensures.same.1 same in absurd cc in
    cell_differs s site w d (asked c.args.call.now c.args.bytes.now) start
    c.make-end.result.end (world_in c.make-end.new.self) (state_in c.make-end.new.self) c.args.wanted.now is gives
    (ap is_device_call c.in-Done-default-None.is-0) does differ

pub returns-then-same-clause-cells : goal.returns-then-same-clause-cells
returns-then-same-clause-cells c = λ kept. c.holds-same.ensures.same.0 c.if-same.true

pub returns-in-DeviceFault-default-default-clause-bytes : goal.returns-in-DeviceFault-default-default-clause-bytes
returns-in-DeviceFault-default-default-clause-bytes c = c.holds-same.ensures.bytes

pub returns-in-Refused-default-default-clause-bytes : goal.returns-in-Refused-default-default-clause-bytes
returns-in-Refused-default-default-clause-bytes c = c.holds-same.ensures.bytes

pub returns-in-Done-Some-default-clause-bytes : goal.returns-in-Done-Some-default-clause-bytes
returns-in-Done-Some-default-clause-bytes c = c.holds-same.ensures.bytes

pub returns-in-Done-default-Some-clause-bytes : goal.returns-in-Done-default-Some-clause-bytes
returns-in-Done-default-Some-clause-bytes c = c.holds-same.ensures.bytes

pub returns-in-Done-default-Some-2-clause-bytes : goal.returns-in-Done-default-Some-2-clause-bytes
returns-in-Done-default-Some-2-clause-bytes c = c.holds-same.ensures.bytes

pub returns-then-same-clause-bytes : goal.returns-then-same-clause-bytes
returns-then-same-clause-bytes c = c.holds-same.ensures.bytes

pub returns-else-same-clause-bytes : goal.returns-else-same-clause-bytes
returns-else-same-clause-bytes c = c.holds-same.ensures.bytes

pub returns-in-DeviceFault-default-default-clause-calls : goal.returns-in-DeviceFault-default-default-clause-calls
returns-in-DeviceFault-default-default-clause-calls c = one_more _ _ _ _ _ (c.note.ensures
    ∙ ap (λ (t : Tally). noted t c.args.call.now c.make-end.result.steps c.make-end.result.allowed) c.make-end.ensures.tally)

pub returns-in-Refused-default-default-clause-calls : goal.returns-in-Refused-default-default-clause-calls
returns-in-Refused-default-default-clause-calls c = one_more _ _ _ _ _ (c.note.ensures
    ∙ ap (λ (t : Tally). noted t c.args.call.now c.make-end.result.steps c.make-end.result.allowed) c.make-end.ensures.tally)

pub returns-in-Done-Some-default-clause-calls : goal.returns-in-Done-Some-default-clause-calls
returns-in-Done-Some-default-clause-calls c = one_more _ _ _ _ _ (c.note.ensures
    ∙ ap (λ (t : Tally). noted t c.args.call.now c.make-end.result.steps c.make-end.result.allowed) c.make-end.ensures.tally)

pub returns-in-Done-default-Some-clause-calls : goal.returns-in-Done-default-Some-clause-calls
returns-in-Done-default-Some-clause-calls c = one_more _ _ _ _ _ (c.note.ensures
    ∙ ap (λ (t : Tally). noted t c.args.call.now c.make-end.result.steps c.make-end.result.allowed) c.make-end.ensures.tally)

pub returns-in-Done-default-Some-2-clause-calls : goal.returns-in-Done-default-Some-2-clause-calls
returns-in-Done-default-Some-2-clause-calls c = one_more _ _ _ _ _ (c.note.ensures
    ∙ ap (λ (t : Tally). noted t c.args.call.now c.make-end.result.steps c.make-end.result.allowed) c.make-end.ensures.tally)

pub returns-then-same-clause-calls : goal.returns-then-same-clause-calls
returns-then-same-clause-calls c = one_more _ _ _ _ _ (c.note.ensures
    ∙ ap (λ (t : Tally). noted t c.args.call.now c.make-end.result.steps c.make-end.result.allowed) c.make-end.ensures.tally)

pub returns-else-same-clause-calls : goal.returns-else-same-clause-calls
returns-else-same-clause-calls c = one_more _ _ _ _ _ (c.note.ensures
    ∙ ap (λ (t : Tally). noted t c.args.call.now c.make-end.result.steps c.make-end.result.allowed) c.make-end.ensures.tally)

pub returns-in-Done-default-Some-clause-broken : goal.returns-in-Done-default-Some-clause-broken
returns-in-Done-default-Some-clause-broken c = grind (arith, common_steps)

pub returns-in-Done-default-Some-2-clause-broken : goal.returns-in-Done-default-Some-2-clause-broken
returns-in-Done-default-Some-2-clause-broken c = grind (arith, common_steps)
