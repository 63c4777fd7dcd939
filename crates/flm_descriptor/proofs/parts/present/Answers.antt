-- `present`: its clause `typed`.
use Rattle.std.proofs.Common.{◌∙◌, sym}
use Rattle.std.specs.Prelude.{codes}
use Rattle.flm_descriptor.proofs.PartLemmas.{section_of-kind}
use Rattle.flm_descriptor.proofs.parts.present.Goals as goal

pub returns-in-Some-clause-typed : goal.returns-in-Some-clause-typed
returns-in-Some-clause-typed c =
    section_of-kind c.args.elf.now (codes "PrgData") c.args.kind c.in-Some.section (sym c.section.ensures ∙ c.in-Some.is)
