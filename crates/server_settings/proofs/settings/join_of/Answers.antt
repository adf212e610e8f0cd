use Rattle.std.proofs.Common.{ℕ, List, None, Some, sym, subst}
use Rattle.server_settings.specs.Settings.{IsNameText, IsPlaceText}
use Rattle.server_settings.proofs.TextLemmas.{join_split}
use Rattle.server_settings.proofs.settings.join_of.Goals as goal

pub returns-in_err-place-clause-none : goal.returns-in_err-place-clause-none
returns-in_err-place-clause-none c = rw c.from_residual.ensures (λ join is. join_split c.args.text.now None join c.in_err-place.ensures.cases is)

pub returns-in_err-place-2-clause-none : goal.returns-in_err-place-2-clause-none
returns-in_err-place-2-clause-none c = rw c.from_residual-in_err-place-2.ensures (λ join is.
    let parts = join_split c.args.text.now (Some (c.in_ok-place.place, c.in_ok-place.peer)) join c.in_ok-place.ensures.cases is in
    c.in_err-place-2.ensures.none join.place (subst (λ (t : List ℕ). IsPlaceText t join.place) (sym parts.0) is.2))

pub returns-in_err-peer-clause-none : goal.returns-in_err-peer-clause-none
returns-in_err-peer-clause-none c = rw c.from_residual-in_err-peer.ensures (λ join is.
    let parts = join_split c.args.text.now (Some (c.in_ok-place.place, c.in_ok-place.peer)) join c.in_ok-place.ensures.cases is in
    c.in_err-peer.ensures.none join.peer (subst (λ (t : List ℕ). IsNameText t join.peer) (sym parts.1) is.3))
