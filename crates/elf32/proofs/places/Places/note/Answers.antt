-- `Places::note`: its clause `ok`.
use Rattle.std.proofs.Common.{◌≡◌, ◌∙◌, is_some, true, false, sym, ap, refl}
use Rattle.std.specs.Map.{lookup}
use Rattle.elf32.specs.Places.{first_place, placed_of}
use Rattle.elf32.proofs.PlaceLemmas.{Key, lookup-first_place, insert_entry-last, placed_of-last, same}
use Rattle.elf32.proofs.places.Places.note.Goals as goal

pub returns-in_ok-insert-clause-ok : goal.returns-in_ok-insert-clause-ok
returns-in_ok-insert-clause-ok c =
    let k : Key = (c.args.name, c.args.kind) in
    let es = c.self.inside.places.entries in
    let absent : is_some (lookup (same k) es) ≡ false = sym c.contains_key.ensures ∙ c.if-not-contains_key.true in
    let none : is_some (first_place c.args.name.now c.args.kind (placed_of es)) ≡ false =
    ap is_some (sym (lookup-first_place k es)) ∙ absent in
    ap placed_of (c.in_ok-insert.ensures.entries ∙ insert_entry-last k c.args.place es absent)
    ∙ placed_of-last k c.args.place es ∙ rw (← c.self.view_is, none) refl

pub returns-else-not-contains_key-clause-ok : goal.returns-else-not-contains_key-clause-ok
returns-else-not-contains_key-clause-ok c =
    let es = c.self.inside.places.entries in
    let k : Key = (c.args.name, c.args.kind) in
    let there : is_some (first_place c.args.name.now c.args.kind (placed_of es)) ≡ true =
    ap is_some (sym (lookup-first_place k es)) ∙ sym c.contains_key.ensures ∙ c.if-not-contains_key.false in
    rw (← c.self.view_is, there) refl
