use Rattle.std.proofs.Common.{◌∙◌, ℕ, List, None, Some, sym, subst}
use Rattle.server_settings.specs.Settings.{IsNameText}
use Rattle.server_settings.proofs.TextLemmas.{no_octet, place_split}
use Rattle.server_settings.proofs.settings.place_of.Goals as goal

pub returns-in_err-name-clause-none : goal.returns-in_err-name-clause-none
returns-in_err-name-clause-none c = rw c.from_residual.ensures (λ place is. place_split c.args.text.now None place c.in_err-name.ensures.cases is)

pub returns-then-is_empty-clause-none : goal.returns-then-is_empty-clause-none
returns-then-is_empty-clause-none c = λ place is.
    let parts = place_split c.args.text.now (Some (c.in_ok-name.name, c.in_ok-name.address)) place c.in_ok-name.ensures.cases is in
    is.2 (sym parts.1 ∙ no_octet c.in_ok-name.address.now c.if-is_empty.ensures)

pub returns-in_err-replica-clause-none : goal.returns-in_err-replica-clause-none
returns-in_err-replica-clause-none c = rw c.from_residual-in_err-replica.ensures (λ place is.
    let parts = place_split c.args.text.now (Some (c.in_ok-name.name, c.in_ok-name.address)) place c.in_ok-name.ensures.cases is in
    c.in_err-replica.ensures.none place.replica (subst (λ (t : List ℕ). IsNameText t place.replica) (sym parts.0) is.1))
