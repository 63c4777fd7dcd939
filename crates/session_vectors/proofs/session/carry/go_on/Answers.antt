-- `go_on`: what `finish` requires.
use Rattle.std.proofs.lemmas.Grind.{common_steps}
use Rattle.std.proofs.Common.{ℕ, List, sym, subst, arith}
use Rattle.bench_model.specs.History.{LeftOnly}
use Rattle.bench_model.specs.State.{file_half}
use Rattle.bench_model.proofs.Moments.{still_only}
use Rattle.job_text.specs.Stands.{StandsFor}
use Rattle.job_text.specs.declared.job.Job.{Job}
use Rattle.flash_session.specs.Sessions.{job_in}
use Rattle.session_vectors.proofs.session.carry.go_on.Goals as goal

pub finish-requires-clause-stands : goal.finish-requires-clause-stands
finish-requires-clause-stands g c = λ told.
    subst (λ (j : Job). StandsFor j (g.B.Bench.state c.survey.new.bench).file) (sym c.survey.ensures.job)
    (subst (λ (f : List ℕ). StandsFor (job_in c.args.session.now) f) (sym (c.survey.ensures.reads.file.file told)) (c.requires.stands told))

pub finish-requires-clause-only : goal.finish-requires-clause-only
finish-requires-clause-only g c = λ told.
    subst (λ (l : List ℕ). LeftOnly l (file_half (g.B.Bench.state c.survey.new.bench))) (sym (c.survey.ensures.reads.file.file told))
    (still_only (g.B.Bench.state c.args.bench.now).file c.survey.ensures.reads.file.moments (c.requires.only told))

pub finish-requires-clause-count : goal.finish-requires-clause-count
finish-requires-clause-count g c = grind (arith, common_steps)
