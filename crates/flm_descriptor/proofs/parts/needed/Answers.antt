-- `needed`: its clause `typed`.
use Rattle.std.proofs.Common.{◌≡◌, ◌∙◌, sym}
use Rattle.elf32.specs.Tables.{section_of}
use Rattle.flm_descriptor.specs.Parts.{text_of}
use Rattle.flm_descriptor.proofs.PartLemmas.{section_of-kind}
use Rattle.flm_descriptor.proofs.parts.needed.Goals as goal

pub returns-in-Some-clause-typed : goal.returns-in-Some-clause-typed
returns-in-Some-clause-typed c =
    let found : c.section.result ≡ section_of c.args.elf.now (text_of c.args.name) 1 = rw c.text.ensures at c.section.ensures in
    section_of-kind c.args.elf.now (text_of c.args.name) 1 c.in-Some.section (sym found ∙ c.in-Some.is)
