-- `read_board`: its clauses `gives` and `fits`.
use Rattle.std.proofs.Common.{ℕ, List, Result, drop, sym, subst}
use Rattle.faults.specs.Results.{◌>>=◌}
use Rattle.board_file.specs.Shown as board
use Rattle.board_file.specs.Text.{reading}
use Rattle.job_text.specs.Reading.{text_at, read_or}
use Rattle.job_file.specs.Readers.{Gives}
use Rattle.job_file.proofs.StepLemmas.{bind_err}
use Rattle.job_file.proofs.TextsLemmas.{fails_within}
use Rattle.job_file.proofs.CountLemmas.{none_more}
use Rattle.job_file.proofs.texts.read_board.Goals as goal

pub returns-in-Ok-clause-gives : goal.returns-in-Ok-clause-gives
returns-in-Ok-clause-gives g c = λ told.
    subst (λ (r : Result (List ℕ × List ℕ) ℕ). Gives board.shown c.board_of.result (r >>= λ b. read_or c.args.at (reading b.0)))
    (sym (c.in-Ok.ensures.gives told)) c.board_of.ensures.gives

pub returns-in-Ok-clause-fits : goal.returns-in-Ok-clause-fits
returns-in-Ok-clause-fits g c = λ ok. c.in-Ok.ensures.fits Rattle.std.proofs.Common.refl

pub returns-in-Err-clause-gives : goal.returns-in-Err-clause-gives
returns-in-Err-clause-gives g c = λ told.
    let text = text_at c.args.whole c.args.len (drop c.args.at (g.B.Bench.state c.args.bench.now).file) in
    fails_within c.in-Err.fault text (text >>= λ b. read_or c.args.at (reading b.0)) (λ at is. bind_err text (λ b. read_or c.args.at (reading b.0)) at is)
    (c.in-Err.ensures.gives told)

pub returns-in-Ok-clause-counted : goal.returns-in-Ok-clause-counted
returns-in-Ok-clause-counted g c = none_more _ _ _ c.board_of.ensures.no_store c.in-Ok.ensures.counted
