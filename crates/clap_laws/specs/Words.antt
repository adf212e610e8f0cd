-- The words that arguments add to those that a program knows, in the terms of `clap`.

use Rattle.std.specs.Prelude.{◌≡◌, false, List}
use Rattle.clap.specs.Words.{AddsArg, AddsInTurn, App, Rule, app_of, rule_of}
use Rattle.clap.specs.declared.builder.arg.Arg.{Arg}
use Rattle.clap.specs.declared.builder.command.Command.{Command}

-- An argument that isn't global, with this rule.
pub record IsWord (argument : Arg) (word : Rule) : Type 0 where
  pub rule : rule_of argument ≡ word
  pub own : argument.global ≡ false

-- Adding these arguments one after another adds the same words as the function.
abbrev pub AddWords : List Arg → (App → App) → Type 0
AddWords arguments more =
    (old new : Command) → AddsInTurn AddsArg old arguments new → app_of new ≡ more (app_of old)
