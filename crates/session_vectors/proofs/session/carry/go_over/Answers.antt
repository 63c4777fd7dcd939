-- `go_over`: what `finish` requires.
use Rattle.std.proofs.lemmas.Grind.{common_steps}
use Rattle.std.proofs.Common.{sym, subst, arith}
use Rattle.job_text.specs.Stands.{StandsFor}
use Rattle.job_text.specs.declared.job.Job.{Job}
use Rattle.session_vectors.proofs.session.carry.go_over.Goals as goal

pub finish-requires-clause-stands : goal.finish-requires-clause-stands
finish-requires-clause-stands g c = λ told.
    subst (λ (j : Job). StandsFor j (g.B.Bench.state c.args.third.now).file) (sym c.survey.ensures.job) (c.requires.third_stands told)

pub finish-requires-clause-count : goal.finish-requires-clause-count
finish-requires-clause-count g c = grind (arith, common_steps)
