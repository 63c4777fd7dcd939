-- `fields_are_their_bytes`: the law.
use Rattle.std.proofs.Common.{refl}
use Rattle.octets.proofs.FieldLemmas.{small_bytes, to_le_bytes-field16, to_le_bytes-field32, field16-to_le_bytes, field32-to_le_bytes}
use Rattle.octets.proofs.law.fields_are_their_bytes.Goals as goal

pub returns : goal.returns
returns c = record {
  bytes_of_16 = λ bytes at small inside. to_le_bytes-field16 bytes at inside (small_bytes bytes small);
  bytes_of_32 = λ bytes at small inside. to_le_bytes-field32 bytes at inside (small_bytes bytes small);
  field_of_16 = λ front rest n fits. field16-to_le_bytes front rest n _ fits refl;
  field_of_32 = λ front rest n fits. field32-to_le_bytes front rest n _ fits refl;
}
