-- `bytes_of`: its clause `long`.
use Rattle.flm_descriptor.proofs.PartLemmas.{section_part-long}
use Rattle.flm_descriptor.proofs.parts.bytes_of.Goals as goal

pub returns-clause-long : goal.returns-clause-long
returns-clause-long c =
    section_part-long c.args.elf.now c.args.section c.in_ok-section_bytes.field-0.now c.requires c.in_ok-section_bytes.ensures
