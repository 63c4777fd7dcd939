-- `run`: its contract, `EndsOf`, and what `program`, `begin`, `plan`, `verify`, `compare`, `inspect` and `dump` require.
use Rattle.std.proofs.Common.{refl, Some, None, []}
use Rattle.std.proofs.lemmas.List.Elements.{All-head}
use Rattle.command_words.specs.Words.{program, begin, resume, revert, plan, verify, compare, status, inspect, dump, demo, Asked}
use Rattle.command_words.specs.Requested.{files_of}
use Rattle.command_files.specs.Inputs.{inputs_call}
use Rattle.command_files.specs.Call.{bench_call, sink_call}
use Rattle.command_files.specs.Shown.{answer_of}
use Rattle.command_files.proofs.AnswerLemmas.{untouched_here}
use Rattle.demo_job.proofs.EndLemmas.{demo_ends}
use Rattle.flm_cli.proofs.TopLemmas.{ends_as, unfit}
use Rattle.flm_cli.proofs.top.run.Goals as goal

pub returns-in-None : goal.returns-in-None
returns-in-None g c = λ asked given. ends_as c.args.words.now None asked _ _ _ _ (c.in-None.ensures c.args.words.now c.requires.read) given (unfit _ _ _ _ _ _)

pub program-requires : goal.program-requires
program-requires g c =
    let read : Asked c.args.words.now (Some (program (files_of c.in-Some-Program.names))) =
    rw c.in-Some-Program.field-0-is at (c.in-Some-Program.ensures c.args.words.now c.requires.read) in
    record { has_flm = read.names.has_flm; may_take = c.requires.may_take (program (files_of c.in-Some-Program.names)) read }

pub returns-in-Some-Program : goal.returns-in-Some-Program
returns-in-Some-Program g c = λ asked given.
    ends_as c.args.words.now (Some (program (files_of c.in-Some-Program.names))) asked _ _ _ _
    (rw c.in-Some-Program.field-0-is at (c.in-Some-Program.ensures c.args.words.now c.requires.read)) given c.program.ensures

pub begin-requires : goal.begin-requires
begin-requires g c =
    let read : Asked c.args.words.now (Some (begin (files_of c.in-Some-Begin.names))) =
    rw c.in-Some-Begin.field-0-is at (c.in-Some-Begin.ensures c.args.words.now c.requires.read) in
    record { has_flm = read.names.has_flm; may_take = c.requires.may_take (begin (files_of c.in-Some-Begin.names)) read }

pub returns-in-Some-Begin : goal.returns-in-Some-Begin
returns-in-Some-Begin g c = λ asked given.
    ends_as c.args.words.now (Some (begin (files_of c.in-Some-Begin.names))) asked _ _ _ _
    (rw c.in-Some-Begin.field-0-is at (c.in-Some-Begin.ensures c.args.words.now c.requires.read)) given c.begin.ensures

pub returns-in-Some-Resume : goal.returns-in-Some-Resume
returns-in-Some-Resume g c = λ asked given.
    let i = g.I.Inputs.state c.args.inputs.now in
    ends_as c.args.words.now (Some resume) asked _ _ _ _ (rw c.in-Some-Resume.field-0-is at (c.in-Some-Resume.ensures c.args.words.now c.requires.read)) given
    (c.go_on.ensures.ends (inputs_call g.I.Inputs.tells i i) (record { stands = λ name. refl; faults = refl; failed = refl }))

pub returns-in-Some-Revert : goal.returns-in-Some-Revert
returns-in-Some-Revert g c = λ asked given.
    let i = g.I.Inputs.state c.args.inputs.now in
    ends_as c.args.words.now (Some revert) asked _ _ _ _ (rw c.in-Some-Revert.field-0-is at (c.in-Some-Revert.ensures c.args.words.now c.requires.read)) given
    (c.go_on-in-Some-Revert.ensures.ends (inputs_call g.I.Inputs.tells i i) (record { stands = λ name. refl; faults = refl; failed = refl }))

pub returns-in-Some-Status : goal.returns-in-Some-Status
returns-in-Some-Status g c = λ asked given.
    let i = g.I.Inputs.state c.args.inputs.now in
    ends_as c.args.words.now (Some status) asked _ _ _ _ (rw c.in-Some-Status.field-0-is at (c.in-Some-Status.ensures c.args.words.now c.requires.read)) given
    (c.status.ensures (inputs_call g.I.Inputs.tells i i) (record { stands = λ name. refl; faults = refl; failed = refl }))

pub returns-in-Some-Demo : goal.returns-in-Some-Demo
returns-in-Some-Demo g c = λ asked given.
    ends_as c.args.words.now (Some (demo c.in-Some-Demo.seed)) asked _ _ _ _
    (rw c.in-Some-Demo.field-0-is at (c.in-Some-Demo.ensures c.args.words.now c.requires.read)) given
    (demo_ends (bench_call g.B.Bench.tells (g.B.Bench.state c.args.bench.now) (g.B.Bench.state c.args.bench.now))
    (inputs_call g.I.Inputs.tells (g.I.Inputs.state c.args.inputs.now) (g.I.Inputs.state c.args.inputs.now))
    (sink_call g.O.Sink.tells (g.O.Sink.state c.args.out.now) (g.O.Sink.state c.demo.new.out))
    (untouched_here g.B.Bench.tells (g.B.Bench.state c.args.bench.now)) (record { stands = λ name. refl; faults = refl; failed = refl }) c.in-Some-Demo.seed
    (answer_of c.demo.result) c.demo.ensures)

pub plan-requires : goal.plan-requires
plan-requires g c =
    let read : Asked c.args.words.now (Some (plan (files_of c.in-Some-Plan.names))) =
    rw c.in-Some-Plan.field-0-is at (c.in-Some-Plan.ensures c.args.words.now c.requires.read) in
    record { has_flm = read.names.has_flm; may_take = c.requires.may_take (plan (files_of c.in-Some-Plan.names)) read }

pub returns-in-Some-Plan : goal.returns-in-Some-Plan
returns-in-Some-Plan g c = λ asked given.
    ends_as c.args.words.now (Some (plan (files_of c.in-Some-Plan.names))) asked _ _ _ _
    (rw c.in-Some-Plan.field-0-is at (c.in-Some-Plan.ensures c.args.words.now c.requires.read)) given c.plan.ensures

pub verify-requires : goal.verify-requires
verify-requires g c =
    let read : Asked c.args.words.now (Some (verify (files_of c.in-Some-Verify.names))) =
    rw c.in-Some-Verify.field-0-is at (c.in-Some-Verify.ensures c.args.words.now c.requires.read) in
    record { no_flm = read.names.no_flm; may_take = c.requires.may_take (verify (files_of c.in-Some-Verify.names)) read }

pub returns-in-Some-Verify : goal.returns-in-Some-Verify
returns-in-Some-Verify g c = λ asked given.
    ends_as c.args.words.now (Some (verify (files_of c.in-Some-Verify.names))) asked _ _ _ _
    (rw c.in-Some-Verify.field-0-is at (c.in-Some-Verify.ensures c.args.words.now c.requires.read)) given c.verify.ensures

pub compare-requires : goal.compare-requires
compare-requires g c =
    let read : Asked c.args.words.now (Some (compare c.in-Some-Compare.image.now)) =
    rw c.in-Some-Compare.field-0-is at (c.in-Some-Compare.ensures c.args.words.now c.requires.read) in
    All-head (g.I.Inputs.may_take c.args.inputs.now) c.in-Some-Compare.image.now [] (c.requires.may_take (compare c.in-Some-Compare.image.now) read)

pub returns-in-Some-Compare : goal.returns-in-Some-Compare
returns-in-Some-Compare g c = λ asked given.
    ends_as c.args.words.now (Some (compare c.in-Some-Compare.image.now)) asked _ _ _ _
    (rw c.in-Some-Compare.field-0-is at (c.in-Some-Compare.ensures c.args.words.now c.requires.read)) given c.compare.ensures

pub inspect-requires : goal.inspect-requires
inspect-requires g c =
    let read : Asked c.args.words.now (Some (inspect c.in-Some-Inspect.flm.now)) =
    rw c.in-Some-Inspect.field-0-is at (c.in-Some-Inspect.ensures c.args.words.now c.requires.read) in
    All-head (g.I.Inputs.may_take c.args.inputs.now) c.in-Some-Inspect.flm.now [] (c.requires.may_take (inspect c.in-Some-Inspect.flm.now) read)

pub returns-in-Some-Inspect : goal.returns-in-Some-Inspect
returns-in-Some-Inspect g c = λ asked given.
    ends_as c.args.words.now (Some (inspect c.in-Some-Inspect.flm.now)) asked _ _ _ _
    (rw c.in-Some-Inspect.field-0-is at (c.in-Some-Inspect.ensures c.args.words.now c.requires.read)) given c.inspect.ensures

pub dump-requires : goal.dump-requires
dump-requires g c =
    let read : Asked c.args.words.now (Some (dump c.in-Some-Dump.form c.in-Some-Dump.board.now)) =
    rw c.in-Some-Dump.field-0-is at (c.in-Some-Dump.ensures c.args.words.now c.requires.read) in
    All-head (g.I.Inputs.may_take c.args.inputs.now) c.in-Some-Dump.board.now [] (c.requires.may_take (dump c.in-Some-Dump.form c.in-Some-Dump.board.now) read)

pub returns-in-Some-Dump : goal.returns-in-Some-Dump
returns-in-Some-Dump g c = λ asked given.
    ends_as c.args.words.now (Some (dump c.in-Some-Dump.form c.in-Some-Dump.board.now)) asked _ _ _ _
    (rw c.in-Some-Dump.field-0-is at (c.in-Some-Dump.ensures c.args.words.now c.requires.read)) given c.dump.ensures
