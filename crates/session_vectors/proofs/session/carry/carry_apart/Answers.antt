-- `carry_apart`: what `go_over` requires.
use Rattle.std.proofs.Common.{ℕ, List, sym, subst}
use Rattle.job_text.specs.Stands.{StandsFor}
use Rattle.flash_session.specs.Sessions.{job_in}
use Rattle.session_vectors.proofs.session.carry.carry_apart.Goals as goal

pub go_over-carried-requires-clause-second_stands : goal.go_over-carried-requires-clause-second_stands
go_over-carried-requires-clause-second_stands g c = λ told. subst (λ (f : List ℕ). StandsFor (job_in c.in-Ok.session) f) (sym (c.requires.second_file told))
    (c.in-Ok.ensures.ok told)

pub go_over-carried-requires-clause-third_stands : goal.go_over-carried-requires-clause-third_stands
go_over-carried-requires-clause-third_stands g c = λ told. subst (λ (f : List ℕ). StandsFor (job_in c.in-Ok.session) f) (sym (c.requires.third_file told))
    (c.in-Ok.ensures.ok told)
