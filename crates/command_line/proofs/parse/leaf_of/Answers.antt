-- `leaf_of`: that it keeps its contract.
use Rattle.std.proofs.Common.{◌∙◌, ap}
use Rattle.clap.specs.Walk.{Rule, rule_of}
use Rattle.clap.specs.Simple.{App, new_app, with_rule}
use Rattle.command_line.specs.Made.{raw_rule}
use Rattle.command_line.proofs.HandedOn.{if_ok, no_either}
use Rattle.command_line.proofs.parse.leaf_of.Goals as goal

pub returns-clause-app : goal.returns-clause-app
returns-clause-app c =
    let head = c.in_ok-command.ensures.shape c.address.ensures.local ∙ ap (λ (a : App). with_rule a (rule_of c.address.result)) c.new.ensures.app
    ∙ ap (λ (r : Rule). with_rule (new_app c.args.name.now) r) c.address.ensures.rule in
    if_ok c.arg-2.result _ _
    (λ x added. added.shape c.names.ensures.local ∙ ap (λ (a : App). with_rule a (rule_of c.names.result)) head
    ∙ ap (λ (r : Rule). with_rule (with_rule (new_app c.args.name.now) raw_rule) r) c.names.ensures.rule)
    c.arg-2.ensures

pub returns-clause-local : goal.returns-clause-local
returns-clause-local c = if_ok c.arg-2.result _ _
    (λ x added. no_either added.globals (no_either c.in_ok-command.ensures.globals c.new.ensures.local c.address.ensures.local) c.names.ensures.local)
    c.arg-2.ensures
