use Rattle.std.proofs.Common.{◌≡◌, true, ℕ, All, rules, subst}
use Rattle.std.proofs.lemmas.List.{take_all}
use Rattle.std.proofs.lemmas.List.Elements.{All-more}
use Rattle.server_settings.specs.Settings.{is_named}
use Rattle.server_settings.proofs.settings.unknown_name.Goals as goal

pub loop-name-preserved : goal.loop-name-preserved
loop-name-preserved c =
    All-more (λ (name : ℕ). is_named name c.args.known.now ≡ true) c.args.names.now c.loop-name.name-index 0 c.loop-name-test.true c.loop-name.invariant (search rules)

pub returns : goal.returns
returns c =
    subst (All (λ (name : ℕ). is_named name c.args.known.now ≡ true)) (take_all c.loop-name.name-index c.args.names.now (search rules)) c.loop-name.invariant
