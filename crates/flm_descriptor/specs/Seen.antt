-- The bytes of the sections, as lists.
use Rattle.flm_descriptor.specs.declared.parts.LentContents.{LentContents}
use Rattle.flm_descriptor.specs.Parts.{Contents}
use Rattle.flm_descriptor.specs.declared.read.Description.{Description}
use Rattle.flm_descriptor.specs.Flm.{Described}

abbrev pub seen : LentContents → Contents
seen c = record { code = c.code.now; init_data = c.init_data.now; descriptor = c.descriptor.now }

abbrev pub seen_description : Description → Described
seen_description d = record { device = d.device; items = d.items }
