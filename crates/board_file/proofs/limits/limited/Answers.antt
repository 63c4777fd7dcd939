-- `limited`: that it keeps its contract, and what `quiet_ranges` requires.
use Rattle.board_file.specs.Text.{limited}
use Rattle.std.proofs.lemmas.Grind.{common_steps}
use Rattle.std.proofs.Common.{◌≡◌, ◌≤◌, ◌+◌, false, None, rules, arith}
use Rattle.std.specs.List.{list_any}
use Rattle.board_file.specs.Table.{addresses}
use Rattle.board_file.specs.Limits.{ends_late, overlap, parts_of}
use Rattle.board_file.specs.Written.{quiets_shown}
use Rattle.board_file.proofs.QuietLemmas.{quiet_short}
use Rattle.board_file.proofs.limits.limited.Goals as goal

pub quiet_ranges-requires : goal.quiet_ranges-requires
quiet_ranges-requires c =
    let parts = c.args.parts_written.now in
    let regions = c.in_ok-regions.regions.items in
    let quiet = quiets_shown c.args.quiet.now in
    let ends : parts.ram_base + parts.ram_size ≤ addresses = search rules in
    let early : list_any ends_late quiet ≡ false = search rules in
    let apart : overlap (parts_of parts.ram_base parts.ram_size regions parts.kind parts.controller_base quiet) ≡ None = search rules in
    quiet_short parts.ram_base parts.ram_size regions parts.kind parts.controller_base quiet c.requires.ram ends early apart

pub returns-in_err-regions-clause-said : goal.returns-in_err-regions-clause-said
unfolding limited
returns-in_err-regions-clause-said c = grind (arith, common_steps)

pub returns-clause-some_region : goal.returns-clause-some_region
unfolding limited
returns-clause-some_region c = grind (arith, common_steps)

pub returns-clause-said : goal.returns-clause-said
unfolding limited
returns-clause-said c = grind (arith, common_steps)

pub returns-clause-few_regions : goal.returns-clause-few_regions
unfolding limited
returns-clause-few_regions c = grind (arith, common_steps)

pub returns-in-Some-clause-said : goal.returns-in-Some-clause-said
unfolding limited
returns-in-Some-clause-said c = grind (arith, common_steps)

pub returns-clause-few_sectors : goal.returns-clause-few_sectors
returns-clause-few_sectors c = grind (arith, common_steps)

pub returns-clause-few_cells : goal.returns-clause-few_cells
returns-clause-few_cells c = grind (arith, common_steps)

pub returns-then-are_quiet_too_big-clause-said : goal.returns-then-are_quiet_too_big-clause-said
unfolding limited
returns-then-are_quiet_too_big-clause-said c = grind (arith, common_steps)

pub returns-then-parts_written-gt-MOST_RAM-clause-said : goal.returns-then-parts_written-gt-MOST_RAM-clause-said
unfolding limited
returns-then-parts_written-gt-MOST_RAM-clause-said c = grind (arith, common_steps)
