use Rattle.std.proofs.Common.{◌≡◌, ℕ, List, false, rules, sym, subst}
use Rattle.server_settings.specs.Settings.{AreNames, is_named}
use Rattle.server_settings.proofs.NameLemmas.{names_append}
use Rattle.server_settings.proofs.settings.add_name.Goals as goal

pub returns-in-Ok-clause-names : goal.returns-in-Ok-clause-names
returns-in-Ok-clause-names c t =
    let old = c.args.names.now.items in
    let none : is_named c.args.name old ≡ false = subst (λ (xs : List ℕ). is_named c.args.name xs ≡ false) c.deref.ensures.value (sym c.if-contains.ensures.value) in
    subst AreNames (sym c.in-Ok.ensures.items) (names_append old c.args.name c.requires.names c.requires.positive (search rules) none)
