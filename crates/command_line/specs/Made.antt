-- The program as an application of `clap`.
use Rattle.std.specs.Prelude.{List, ℕ, Some, true, codes}
use Rattle.clap.specs.Lexer.{usize_max}
use Rattle.clap.specs.Walk.{Rule}
use Rattle.clap.specs.Simple.{App, new_app, new_rule, with_rule, with_subcommand, on_top}
use Rattle.clap.specs.declared.builder.action.ArgAction.TheVariants.{Append}

-- the option `--raw-at ADDR`, which may occur any number of times
abbrev pub raw_rule : Rule
raw_rule = record (new_rule (codes "raw-at")) { long = Some (codes "raw-at"); action = Some Append }

-- the rule for the positional words
abbrev pub names_rule : Rule
names_rule = record (new_rule (codes "names")) {
  action = Some Append;
  range = Some (record { start_inclusive = 1; end_inclusive = usize_max });
}

-- a command with any number of positional words and addresses
abbrev pub leaf : List ℕ → App
leaf name = with_rule (with_rule (new_app name) raw_rule) names_rule

-- the program without commands: no words of its own, no help and no version
abbrev pub bare : App
bare = on_top (λ s. record s {
  no_binary_name = true;
  disable_help_flag = true;
  disable_help_subcommand = true;
  disable_version_flag = true;
  subcommand_required = true;
}) (new_app (codes "flm_tool"))

-- the program with one more command
abbrev pub with_leaf : App → List ℕ → App
with_leaf tool name = with_subcommand tool (leaf name).top

-- the whole program, with all its commands
abbrev pub tool : App
tool = with_leaf (with_leaf (with_leaf (with_leaf (with_leaf (with_leaf (with_leaf (with_leaf (with_leaf (with_leaf (with_leaf bare
    (codes "program")) (codes "begin")) (codes "resume")) (codes "revert")) (codes "plan")) (codes "verify")) (codes "compare")) (codes "status"))
    (codes "inspect")) (codes "dump")) (codes "demo")
