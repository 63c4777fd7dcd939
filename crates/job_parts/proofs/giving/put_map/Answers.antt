-- `put_map`: its contract, `Puts`.
use Rattle.std.proofs.Common.{ap, sym}
use Rattle.command_words.specs.declared.command.TextForm.{TextForm}
use Rattle.outside_io.proofs.PutTexts.{puts_as}
use Rattle.device_dump.specs.Dump.{text_in}
use Rattle.job_parts.proofs.giving.put_map.Goals as goal

pub returns-in-Hex : goal.returns-in-Hex
returns-in-Hex g c = puts_as (ap (λ (f : TextForm). text_in f c.args.map.now) (sym c.in-Hex.is)) c.write_hex.ensures

pub returns-in-Srec : goal.returns-in-Srec
returns-in-Srec g c = puts_as (ap (λ (f : TextForm). text_in f c.args.map.now) (sym c.in-Srec.is)) c.write_srec.ensures
