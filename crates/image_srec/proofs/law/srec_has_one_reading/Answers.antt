-- `srec_has_one_reading`: the law.
use Rattle.record_lines.proofs.OneReading.{one_text_image}
use Rattle.image_srec.specs.Srec.{srec}
use Rattle.image_srec.proofs.OneSrec.{srec_memory_alone, one_srec_fault}
use Rattle.image_srec.proofs.law.srec_has_one_reading.Goals as goal

pub returns : goal.returns
returns c = record { image = one_text_image srec; apart = srec_memory_alone; fault = one_srec_fault }
