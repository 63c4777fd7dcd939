-- `read_first`: its clause `ok`.
use Rattle.std.proofs.Common.{◌∙◌, ap, sym, subst, length}
use Rattle.job_text.specs.declared.format.Format.{Format}
use Rattle.job_text.specs.declared.format.Format.TheVariants.{First}
use Rattle.job_text.specs.Body.{MayHave}
use Rattle.job_text.proofs.BodyLemmas.{one_file}
use Rattle.job_parts.proofs.LengthLemmas.{number_in, number_of, first_board, first_flm}
use Rattle.job_parts.proofs.lengths.read_first.Goals as goal

pub returns-clause-ok : goal.returns-clause-ok
returns-clause-ok g c = λ told j fields whole is.
    let file = (g.B.Bench.state c.args.bench.now).file in record {
      format = sym is;
      board = c.in_ok-board.ensures.ok told ∙ number_of First j file 8 _ whole is (first_board j fields.board);
      first = c.in_ok-first.ensures.ok told ∙ ap (number_in 12) (c.in_ok-board.ensures.reads.file told)
          ∙ number_of First j file 12 _ whole is (first_flm j fields.first);
      second = sym (one_file j.flms (subst (λ (f : Format). MayHave f (length j.flms)) is fields.files));
    }
