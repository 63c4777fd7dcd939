-- `want_into`: its clause `ok`.
use Rattle.std.proofs.Common.{◌∙◌, ℕ, take, drop, sym, ap}
use Rattle.job_text.specs.Stands.{snapshot_in}
use Rattle.flash_session.specs.Goals.{goal_in}
use Rattle.flash_session.proofs.JobLemmas.{snapshot_length}
use Rattle.flash_session.proofs.goal.want_into.Goals as goal

pub returns-clause-ok : goal.returns-clause-ok
returns-clause-ok g c = λ told.
    let j = c.args.job.now in
    let file = (g.B.Bench.state c.args.bench.now).file in
    let same = c.snapshot_into.auto.out in
    c.lay.ensures (snapshot_in j file) (snapshot_length j file (c.requires.stands told))
    (c.in_ok-snapshot_into.ensures.ok told ∙ ap (λ (n : ℕ). take n (drop c.args.at (snapshot_in j file))) (sym same))
    ∙ ap (λ (n : ℕ). take n (drop c.args.at (goal_in j c.args.goal file))) same
