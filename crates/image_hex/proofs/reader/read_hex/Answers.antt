-- `read_hex`: its clause `err`.
use Rattle.octets.specs.Lines.{lines_of}
use Rattle.image_hex.proofs.reader.read_hex.Goals as goal

pub returns-in-Err-clause-err : goal.returns-in-Err-clause-err
returns-in-Err-clause-err c = c.fault_of.ensures (lines_of c.args.text.now) c.in-Err.ensures.err
