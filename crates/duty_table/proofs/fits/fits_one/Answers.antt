-- `fits_one`: the value that it answers.
use Rattle.std.proofs.Common.{length, refl, arith}
use Rattle.std.proofs.lemmas.Option.{slice_get_read}
use Rattle.duty_table.proofs.fits.fits_one.Goals as goal

pub returns-then-fits : goal.returns-then-fits
returns-then-fits c = λ told. record {
  at = c.loop-state.state-index;
  state = c.state-item.result;
  is = slice_get_read c.args.states.now (length c.args.states.now) c.loop-state.state-index c.state-item.result refl (omega arith) c.state-item.is;
  fits = c.fits.ensures c.if-fits.true;
}
