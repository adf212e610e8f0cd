use Rattle.std.proofs.Common.{◌≡◌, List, [], ◌∷◌, ap, ap₂, refl, sym, ◌∙◌}
use Rattle.clap.specs.Words.{AddsArg, AddsInTurn, App, Rule, app_of, with_rule}
use Rattle.clap.specs.declared.builder.arg.Arg.{Arg}
use Rattle.clap.specs.declared.builder.command.Command.{Command}
use Rattle.clap_laws.specs.Words.{IsWord}

-- a word that is added
pub added : (old new : Command) (a : Arg) (app : App) (rule : Rule) → AddsArg old a new → IsWord a rule → app_of old ≡ app → app_of new ≡ with_rule app rule
added old new a app rule adds word is = adds.shape word.own ∙ ap₂ with_rule is word.rule

-- ---- words that are added in turn

-- arguments with these rules, one by one
abbrev pub AreWords : List Arg → List Rule → Type 0
AreWords [] [] = Unit {0}
AreWords [] (rule ∷ rules) = ⊥
AreWords (word ∷ words) [] = ⊥
AreWords (word ∷ words) (rule ∷ rules) = IsWord word rule × AreWords words rules

abbrev pub with_rules : App → List Rule → App
with_rules app [] = app
with_rules app (rule ∷ rules) = with_rules (with_rule app rule) rules

pub added_in_turn : (old new : Command) (words : List Arg) (rules : List Rule) → AreWords words rules → AddsInTurn AddsArg old words new → app_of new ≡ with_rules (app_of old) rules
added_in_turn old new [] [] are adds = ap app_of (sym adds)
added_in_turn old new [] (rule ∷ rules) are adds = absurd are
added_in_turn old new (word ∷ words) [] are adds = absurd are
added_in_turn old new (word ∷ words) (rule ∷ rules) are adds =
    added_in_turn adds.0 new words rules are.1 adds.2 ∙ ap (λ (app : App). with_rules app rules) (added old adds.0 word (app_of old) rule adds.1 are.0 refl)
