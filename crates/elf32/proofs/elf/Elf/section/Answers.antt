-- `Elf::section`: what `section_at` requires.
use Rattle.std.proofs.Common.{sym}
use Rattle.elf32.specs.Format.{e_shnum}
use Rattle.elf32.specs.Tables.{is_section}
use Rattle.elf32.proofs.SearchLemmas.{first_below-inside}
use Rattle.elf32.proofs.elf.Elf.section.Goals as goal

pub section_at-requires-clause-inside : goal.section_at-requires-clause-inside
section_at-requires-clause-inside c =
    first_below-inside (is_section c.self.inside.bytes.now c.args.name.now c.args.kind) (e_shnum c.self.inside.bytes.now) c.in_ok-index.index
    (sym c.in_ok-index.ensures)
