-- `find_section`: the value that it answers, and what `find_from` requires.
use Rattle.std.proofs.Common.{◌≡◌, ◌≤◌, ◌∙◌, sym, arith, Some}
use Rattle.elf32.specs.Search.{first_below}
use Rattle.elf32.specs.Format.{e_shnum}
use Rattle.elf32.specs.Places.{kept_of}
use Rattle.elf32.specs.Tables.{is_section}
use Rattle.elf32.proofs.SearchLemmas.{first_below-zero, first_below-among}
use Rattle.elf32.proofs.names.find_section.Goals as goal

pub find_from-requires-clause-before : goal.find_from-requires-clause-before
find_from-requires-clause-before c = first_below-zero (is_section c.args.bytes.now c.args.name.now c.args.kind)

pub returns-in-Some : goal.returns-in-Some
returns-in-Some c =
    let bytes = c.args.bytes.now in
    let p = is_section bytes c.args.name.now c.args.kind in
    let few : kept_of bytes ≤ e_shnum bytes = omega arith in
    let kept : first_below p (kept_of bytes) ≡ Some c.in-Some.index =
    sym (c.requires.kept c.args.name.now c.args.kind c.if-name-gt-LONGEST_KEPT.false) ∙ sym c.place.ensures ∙ c.in-Some.is in
    sym (first_below-among p (kept_of bytes) (e_shnum bytes) c.in-Some.index few kept)
