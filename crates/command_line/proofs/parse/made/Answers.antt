-- `made`: that it keeps its contract.
use Rattle.std.proofs.Common.{◌≡◌, ◌∙◌, ap, subst, codes, IfOk}
use Rattle.clap.specs.Simple.{App, app_of}
use Rattle.command_line.specs.Made.{with_leaf}
use Rattle.command_line.proofs.parse.made.Goals as goal

pub returns : goal.returns
returns c =
    let made_1 = c.in_ok-tool.ensures ∙ ap (λ (a : App). with_leaf a (codes "program")) c.bare_tool.ensures in
    let made_2 = c.in_ok-tool-2.ensures ∙ ap (λ (a : App). with_leaf a (codes "begin")) made_1 in
    let made_3 = c.in_ok-tool-3.ensures ∙ ap (λ (a : App). with_leaf a (codes "resume")) made_2 in
    let made_4 = c.in_ok-tool-4.ensures ∙ ap (λ (a : App). with_leaf a (codes "revert")) made_3 in
    let made_5 = c.in_ok-tool-5.ensures ∙ ap (λ (a : App). with_leaf a (codes "plan")) made_4 in
    let made_6 = c.in_ok-tool-6.ensures ∙ ap (λ (a : App). with_leaf a (codes "verify")) made_5 in
    let made_7 = c.in_ok-tool-7.ensures ∙ ap (λ (a : App). with_leaf a (codes "compare")) made_6 in
    let made_8 = c.in_ok-tool-8.ensures ∙ ap (λ (a : App). with_leaf a (codes "status")) made_7 in
    let made_9 = c.in_ok-tool-9.ensures ∙ ap (λ (a : App). with_leaf a (codes "inspect")) made_8 in
    let made_10 = c.in_ok-tool-10.ensures ∙ ap (λ (a : App). with_leaf a (codes "dump")) made_9 in
    subst (λ (a : App). IfOk c.with_command-11.result (λ made. app_of made ≡ with_leaf a (codes "demo"))) made_10 c.with_command-11.ensures
