-- `carry`: what `go_on` requires.
use Rattle.std.proofs.Common.{ℕ, List, sym, subst}
use Rattle.bench_model.specs.History.{LeftOnly}
use Rattle.bench_model.specs.State.{file_half}
use Rattle.job_text.specs.Stands.{StandsFor}
use Rattle.flash_session.specs.Sessions.{job_in}
use Rattle.session_vectors.proofs.session.carry.carry.Goals as goal

pub go_on-carried-requires-clause-stands : goal.go_on-carried-requires-clause-stands
go_on-carried-requires-clause-stands g c = λ told. subst (λ (f : List ℕ). StandsFor (job_in c.in-Ok.session) f) (sym (c.open.ensures.file told))
    (c.in-Ok.ensures.ok told)

pub go_on-carried-requires-clause-only : goal.go_on-carried-requires-clause-only
go_on-carried-requires-clause-only g c = λ told.
    subst (λ (l : List ℕ). LeftOnly l (file_half (g.B.Bench.state c.open.new.bench))) (sym (c.open.ensures.file told)) (c.in-Ok.ensures.only told)
