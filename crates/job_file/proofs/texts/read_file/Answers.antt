-- `read_file`: its clause `gives`.
use Rattle.std.proofs.Common.{◌∙◌, drop, refl, sym}
use Rattle.std.proofs.lemmas.Bool.{false≢true}
use Rattle.board_file.specs.Shown as board
use Rattle.flm_descriptor.specs.Shown as flm
use Rattle.job_file.proofs.TextsLemmas.{IsAlgorithmRead, file_unread, file_unfit, file_read}
use Rattle.job_file.proofs.texts.read_file.Goals as goal

pub returns-in-Err-clause-gives : goal.returns-in-Err-clause-gives
returns-in-Err-clause-gives g c = λ told.
    file_unread c.args.whole c.args.at (board.shown c.args.board.now) c.args.region c.args.len (drop c.args.at (g.B.Bench.state c.args.bench.now).file)
    c.in-Err.fault (c.in-Err.ensures.gives told)

pub returns-then-not-fits_in-clause-gives : goal.returns-then-not-fits_in-clause-gives
returns-then-not-fits_in-clause-gives g c = λ told.
    let file = (g.B.Bench.state c.args.bench.now).file in
    let a = flm.shown c.in-Ok.algorithm in
    let r : IsAlgorithmRead c.args.whole c.args.at c.args.len file a =
    record { long = c.requires.told told; inside = c.in-Ok.ensures.fits refl; read = c.in-Ok.ensures.gives told } in
    file_unfit c.args.whole c.args.at (board.shown c.args.board.now) c.args.region c.args.len file a r (sym c.fits_in.ensures ∙ c.if-not-fits_in.true)

pub returns-clause-gives : goal.returns-clause-gives
returns-clause-gives g c = λ told.
    let file = (g.B.Bench.state c.args.bench.now).file in
    let a = flm.shown c.in-Ok.algorithm in
    let r : IsAlgorithmRead c.args.whole c.args.at c.args.len file a =
    record { long = c.requires.told told; inside = c.in-Ok.ensures.fits refl; read = c.in-Ok.ensures.gives told } in
    file_read c.args.whole c.args.at (board.shown c.args.board.now) c.args.region c.args.len file a r (sym c.fits_in.ensures ∙ c.if-not-fits_in.false)

pub returns-clause-fits : goal.returns-clause-fits
returns-clause-fits g c = c.in-Ok.ensures.fits

pub returns-then-not-fits_in-clause-fits : goal.returns-then-not-fits_in-clause-fits
returns-then-not-fits_in-clause-fits g c = λ is. absurd (false≢true is)

pub returns-in-Err-clause-fits : goal.returns-in-Err-clause-fits
returns-in-Err-clause-fits g c = λ is. absurd (false≢true is)
