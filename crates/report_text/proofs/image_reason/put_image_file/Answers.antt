-- `put_image_file`: its contract, `Puts`.
use Rattle.std.proofs.Common.{ap, arith}
use Rattle.std.proofs.lemmas.Grind.{common_steps}
use Rattle.report_text.specs.Faults.{place_text}
use Rattle.outside_io.proofs.PutTexts.{puts_as, puts_then}
use Rattle.report_text.proofs.image_reason.put_image_file.Goals as goal

pub returns : goal.returns
returns g c = puts_then _ (puts_as (ap (place_text c.args.name.now) c.faulty_line.ensures) c.in_ok-put_place.ensures) c.put_any_fault.ensures

pub returns-in_err-put_place : goal.returns-in_err-put_place
returns-in_err-put_place g c = grind (arith, common_steps)
