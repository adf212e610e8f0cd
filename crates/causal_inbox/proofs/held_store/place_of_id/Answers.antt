use Rattle.std.proofs.Common.{◌≡◌, ap, sym, ◌∙◌}
use Rattle.causal_inbox.proofs.CauseIndexLemmas.{none_has}
use Rattle.causal_inbox.proofs.held_store.place_of_id.Goals as goal

pub returns-in_err-cell : goal.returns-in_err-cell
returns-in_err-cell g c =
    let v = (c.in_err-cell.ensures {u = tt}).value in
    rw c.from_residual.ensures (none_has g.O.Caused.id c.args.id c.args.list.now c.held_place-at.result c.held_place-at.ensures.member (λ o at. absurd cc))

pub returns-else-has_id : goal.returns-else-has_id
returns-else-has_id g c = none_has g.O.Caused.id c.args.id c.args.list.now c.held_place-at.result c.held_place-at.ensures.member (λ o at e.
    let v = (c.in_ok-cell.ensures {u = tt}).value in
    let k : o ≡ c.in_ok-cell.cell.now = cc (v, at) in
    let t = (c.if-has_id.ensures {u = tt}).1 (ap g.O.Caused.id (sym k) ∙ e) in
    absurd cc)
