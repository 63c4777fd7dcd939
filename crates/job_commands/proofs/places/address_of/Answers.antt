-- `address_of`: that an arm is never reached.
use Rattle.std.proofs.Common.{◌∙◌, ℕ, Option, IsSome, sym, subst}
use Rattle.std.proofs.lemmas.Bool.{false≢true}
use Rattle.command_files.proofs.PlaceLemmas.{has_address}
use Rattle.job_commands.proofs.places.address_of.Goals as goal

pub unreachable-requires : goal.unreachable-requires
unreachable-requires c =
    false≢true (subst (λ (o : Option ℕ). IsSome o) (sym c.find_address.ensures ∙ c.in-None.is) (has_address c.args.regions.now c.args.place c.requires.inside))
