-- `hex_has_one_reading`: the law.
use Rattle.record_lines.proofs.OneReading.{one_text_image}
use Rattle.image_hex.specs.Hex.{hex}
use Rattle.image_hex.proofs.OneHex.{hex_memory_alone, one_hex_fault}
use Rattle.image_hex.proofs.law.hex_has_one_reading.Goals as goal

pub returns : goal.returns
returns c = record { image = one_text_image hex; apart = hex_memory_alone; fault = one_hex_fault }
