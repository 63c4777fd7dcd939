-- `put_snapshot`: its contract, `PutsPart`, and what `copy` requires.
use Rattle.std.proofs.Common.{◌∙◌, ℕ, take, drop, ap, refl, arith}
use Rattle.job_file.proofs.TextLemmas.{some_cells, snapshot_within}
use Rattle.job_parts.proofs.LengthLemmas.{snapshot_there}
use Rattle.job_parts.proofs.GiveLemmas.{part_given}
use Rattle.job_parts.proofs.giving.put_snapshot.Goals as goal

pub copy-requires-clause-told : goal.copy-requires-clause-told
copy-requires-clause-told g c = λ told.
    let job = c.args.job.now in
    let within = snapshot_within job (g.B.Bench.state c.args.bench.now).file 0 c.cells.result (c.requires told)
    (some_cells job) (omega (arith, c.cells.ensures)) in
    omega (arith, within, c.from.ensures, c.snapshot_at.ensures)

pub returns : goal.returns
returns g c = part_given _
    (λ told stands. ap (λ (at : ℕ). take c.from.result (drop at (g.B.Bench.state c.args.bench.now).file)) c.snapshot_at.ensures
    ∙ snapshot_there c.args.job.now _ _ stands c.from.result refl (c.from.ensures ∙ c.cells.ensures))
    c.copy.ensures
