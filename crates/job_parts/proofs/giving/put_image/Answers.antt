-- `put_image`: its contract, `PutsPart`.
use Rattle.std.proofs.Common.{ap, sym, List}
use Rattle.byte_map.specs.Image.{Run}
use Rattle.device_dump.specs.Dump.{text_in}
use Rattle.job_parts.proofs.GiveLemmas.{part_given, puts_gives, puts_gave}
use Rattle.job_parts.proofs.giving.put_image.Goals as goal

pub returns-in-Ok : goal.returns-in-Ok
returns-in-Ok g c = part_given _ (λ told stands. ap (λ (image : List Run). text_in c.args.form image) (sym stands.image)) (puts_gives c.in-Ok.ensures)

pub returns-in-Err : goal.returns-in-Err
returns-in-Err g c = part_given _ (λ told stands. ap (λ (image : List Run). text_in c.args.form image) (sym stands.image)) (puts_gave c.in-Err.ensures)
