-- `Places::place`: the value that it answers.
use Rattle.std.proofs.Common.{◌∙◌}
use Rattle.elf32.proofs.PlaceLemmas.{lookup-first_place}
use Rattle.elf32.proofs.places.Places.place.Goals as goal

pub returns : goal.returns
returns c =
    c.copied.ensures ∙ c.get.ensures.value ∙ lookup-first_place (c.args.name, c.args.kind) c.self.inside.places.entries ∙ rw c.self.view_is
