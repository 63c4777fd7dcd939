-- `read_text`: its clause `gives`, and what `read_bytes` requires.
use Rattle.std.proofs.Common.{◌∙◌, ℕ, List, Ok, drop, sym, ap, arith, refl}
use Rattle.std.proofs.lemmas.List.{length-drop, drop-drop}
use Rattle.job_text.specs.Reading.{text_at}
use Rattle.bench_model.proofs.Moments.{only_reads_here}
use Rattle.bench_model.proofs.CountLemmas.{none_counted}
use Rattle.job_file.proofs.StepLemmas.{text_here, text_cut}
use Rattle.job_file.proofs.ImageLemmas.{no_verdict}
use Rattle.job_file.proofs.pieces.read_text.Goals as goal

pub read_bytes-requires-clause-told : goal.read_bytes-requires-clause-told
read_bytes-requires-clause-told g c = λ told. omega (arith, c.requires.told told)

pub returns-then-left-size-clause-gives : goal.returns-then-left-size-clause-gives
returns-then-left-size-clause-gives g c = λ told.
    let rest = drop c.args.at (g.B.Bench.state c.args.bench.now).file in
    text_cut c.args.whole c.args.len rest (omega (arith, c.requires.told told, length-drop c.args.at (g.B.Bench.state c.args.bench.now).file))

pub returns-in-Ok-clause-gives : goal.returns-in-Ok-clause-gives
returns-in-Ok-clause-gives g c = λ told.
    let file = (g.B.Bench.state c.args.bench.now).file in
    let rest = drop c.args.at file in
    text_here c.args.whole c.args.len rest (omega (arith, c.requires.told told, length-drop c.args.at file))
    ∙ ap (λ (l : List ℕ). Ok (l, drop c.args.len rest)) (sym (c.in-Ok.ensures.ok told))
    ∙ ap (λ (l : List ℕ). Ok (c.in-Ok.text.items, l)) (drop-drop c.args.len c.args.at file)

pub returns-in-Err-clause-gives : goal.returns-in-Err-clause-gives
returns-in-Err-clause-gives g c = λ told. no_verdict c.in-Err.fault (text_at c.args.whole c.args.len (drop c.args.at (g.B.Bench.state c.args.bench.now).file))
    c.in-Err.ensures.fault

pub returns-then-left-size-clause-reads : goal.returns-then-left-size-clause-reads
returns-then-left-size-clause-reads g c = only_reads_here _ _

pub returns-then-left-size-clause-counted : goal.returns-then-left-size-clause-counted
returns-then-left-size-clause-counted g c = none_counted _ _ refl
