-- A command after subcommands or arguments are added.
use Rattle.std.specs.Prelude.{◌≡◌, false, List, Result, Ok, Err}
use Rattle.clap.specs.Walk.{Rule}
use Rattle.clap.specs.Words.{App, app_of, with_subcommand}
use Rattle.pef_request.specs.Arguments.{with_rules}
use Rattle.clap.specs.declared.builder.command.Command.{Command}
use Rattle.clap.specs.declared.builder.command.Command.TheViews.{out-Command}

-- the last command is the first one with the other as a subcommand
abbrev pub HasOneMore : {E : Type 0} → App → Result Command E → Command → Type 0
HasOneMore top (Ok more) after = (out-Command more).has_globals ≡ false → app_of after ≡ with_subcommand top (app_of more).top
HasOneMore top (Err fault) after = ⊥

-- the last command is the first one with some arguments more, none of which is global
abbrev pub HasRules : Command → List Rule → Command → Type 0
HasRules before rules after =
    (app_of after ≡ with_rules (app_of before) rules) × ((out-Command before).has_globals ≡ false → (out-Command after).has_globals ≡ false)
