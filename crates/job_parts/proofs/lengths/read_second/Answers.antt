-- `read_second`: its clause `ok`.
use Rattle.std.proofs.Common.{◌∙◌, ap, sym}
use Rattle.job_text.specs.declared.format.Format.TheVariants.{Second}
use Rattle.job_parts.proofs.LengthLemmas.{number_in, number_of, second_board, second_first, second_second}
use Rattle.job_parts.proofs.lengths.read_second.Goals as goal

pub returns-clause-ok : goal.returns-clause-ok
returns-clause-ok g c = λ told j fields whole is.
    let file = (g.B.Bench.state c.args.bench.now).file in
    let one = c.in_ok-board.ensures.reads.file told in record {
      format = sym is;
      board = c.in_ok-board.ensures.ok told ∙ number_of Second j file 40 _ whole is (second_board j fields.board);
      first = c.in_ok-first.ensures.ok told ∙ ap (number_in 48) one ∙ number_of Second j file 48 _ whole is (second_first j fields.first);
      second = c.in_ok-second.ensures.ok told ∙ ap (number_in 52) (c.in_ok-first.ensures.reads.file told ∙ one)
          ∙ number_of Second j file 52 _ whole is (second_second j fields.second);
    }
