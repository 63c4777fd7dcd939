-- `with_command`: that it keeps its contract.
use Rattle.std.proofs.Common.{◌∙◌, ap}
use Rattle.clap.specs.Simple.{App, app_of, with_subcommand}
use Rattle.command_line.proofs.HandedOn.{if_ok}
use Rattle.command_line.proofs.parse.with_command.Goals as goal

pub returns : goal.returns
returns c = if_ok c.subcommand.result _ _
    (λ x added. added.shape c.in_ok-leaf_of.ensures.local
    ∙ ap (λ (a : App). with_subcommand (app_of c.args.tool) a.top) c.in_ok-leaf_of.ensures.app)
    c.subcommand.ensures
