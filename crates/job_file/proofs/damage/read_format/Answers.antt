-- `read_format`: its clause `ok`.
use Rattle.std.proofs.Common.{◌∙◌, ℕ, List, drop, sym, ap, arith}
use Rattle.std.proofs.lemmas.List.{length-drop}
use Rattle.job_text.specs.Reading.{format_in}
use Rattle.bench_model.proofs.Moments.{only_reads_here}
use Rattle.job_file.proofs.HashLemmas.{short_format, front_format}
use Rattle.job_file.proofs.damage.read_format.Goals as goal

pub returns-then-whole-lt-MARK_END-clause-ok : goal.returns-then-whole-lt-MARK_END-clause-ok
returns-then-whole-lt-MARK_END-clause-ok g c = λ told.
    let file = (g.B.Bench.state c.args.bench.now).file in
    short_format (drop 1 file) (omega (arith, c.requires.told told, length-drop 1 file))

pub returns-in-Ok-clause-ok : goal.returns-in-Ok-clause-ok
returns-in-Ok-clause-ok g c = λ told.
    sym (c.format_of.ensures ∙ ap (λ (l : List ℕ). format_in l) (c.in-Ok.ensures.does.ok told) ∙ front_format (drop 1 (g.B.Bench.state c.args.bench.now).file))

pub returns-then-whole-lt-MARK_END-clause-reads : goal.returns-then-whole-lt-MARK_END-clause-reads
returns-then-whole-lt-MARK_END-clause-reads g c = only_reads_here _ _
