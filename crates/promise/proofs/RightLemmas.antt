-- A job has one text and one board, so it is right by each of them if it is right by one.
use Rattle.std.proofs.Common.{◌≡◌, sym, ap, subst, ◌∙◌, Ok}
use Rattle.board_file.specs.Shown as board
use Rattle.board_file.specs.Text.{reading}
use Rattle.job_text.specs.Body as written
use Rattle.job_text.specs.Jobs.{IsJob}
use Rattle.job_text.proofs.OneTextLemmas.{one_text}
use Rattle.promise.specs.Job.{Job}
use Rattle.promise.specs.Texts.{SaysJob}
use Rattle.promise.specs.Complete.{IsRight}

pub right_as : (job : Job) (says said : SaysJob job) → IsRight job says → IsRight job said
right_as job says said right = record {
  algorithms = right.algorithms;
  is_job = subst (λ (t : written.Job). IsJob t said.board right.algorithms) texts
      (subst (λ (b : board.Shown). IsJob says.text b right.algorithms) boards right.is_job);
}
  where
    texts : says.text ≡ said.text
    texts = one_text says.text said.text says.has_fields said.has_fields (sym says.body_is ∙ said.body_is)

    boards : says.board ≡ said.board
    boards = let e : Ok says.board ≡ Ok said.board = sym says.is_board ∙ ap (λ (j : written.Job). reading j.board) texts ∙ said.is_board in cc
