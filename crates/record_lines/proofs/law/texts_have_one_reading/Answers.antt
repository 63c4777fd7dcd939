-- `texts_have_one_reading`: the law.
use Rattle.record_lines.proofs.OneReading.{one_text_image, image_or_text_fault, one_text_fault}
use Rattle.record_lines.proofs.law.texts_have_one_reading.Goals as goal

pub returns : goal.returns
returns g c = record {
  image = one_text_image g.S.RecordFormat.format;
  apart = image_or_text_fault g.S.RecordFormat.format;
  fault = one_text_fault g.S.RecordFormat.format;
}
