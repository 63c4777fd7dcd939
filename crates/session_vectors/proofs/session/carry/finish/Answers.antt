-- `finish`: what `close` requires.
use Rattle.std.proofs.lemmas.Grind.{common_steps}
use Rattle.std.proofs.Common.{◌≡◌, ◌∷◌, ℕ, List, drop, Option, IsSome, refl, sym, subst, arith}
use Rattle.bench_model.specs.History.{LeftOnly}
use Rattle.bench_model.specs.State.{file_half}
use Rattle.bench_model.proofs.Moments.{still_only}
use Rattle.job_text.specs.Files.{IsWhole}
use Rattle.flash_session.specs.Surveys.{Surveyed}
use Rattle.session_vectors.proofs.session.carry.finish.Goals as goal

pub close-requires-clause-surveyed : goal.close-requires-clause-surveyed
close-requires-clause-surveyed g c = subst (λ (o : Option Surveyed). IsSome o) (sym c.go.ensures.work) c.requires.surveyed

pub close-requires-clause-whole : goal.close-requires-clause-whole
close-requires-clause-whole g c = λ told.
    subst (λ (l : List ℕ). IsWhole (drop 1 l) l) (sym (c.go.ensures.file.file told))
    (subst (λ (f : List ℕ). f ≡ 165 ∷ drop 1 f) (sym (c.requires.stands told).whole) refl)

pub close-requires-clause-only : goal.close-requires-clause-only
close-requires-clause-only g c = λ told.
    subst (λ (l : List ℕ). LeftOnly l (file_half (g.B.Bench.state c.go.new.bench))) (sym (c.go.ensures.file.file told))
    (still_only (g.B.Bench.state c.args.bench.now).file c.go.ensures.file.moments (c.requires.only told))

pub close-requires-clause-count : goal.close-requires-clause-count
close-requires-clause-count g c = grind (arith, common_steps)
