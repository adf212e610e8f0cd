use Rattle.std.proofs.Common.{◌≡◌, ap, refl, subst, sym, ◌∙◌}
use Rattle.merge_laws.specs.Orders.{IsIn}
use Rattle.causal_inbox.proofs.CauseIndexLemmas.{in_of_get, none_has}
use Rattle.causal_inbox.proofs.held_store.find_held_op.Goals as goal

pub returns-in_err-cell : goal.returns-in_err-cell
returns-in_err-cell g c =
    let cell_is_none = (c.in_err-cell.ensures {u = tt}).value in
    rw c.from_residual.ensures (none_has g.O.Caused.id c.args.id c.args.list.now c.held_place-at.result c.held_place-at.ensures.member (λ o at. absurd cc))

pub returns-else-has_id : goal.returns-else-has_id
returns-else-has_id g c = none_has g.O.Caused.id c.args.id c.args.list.now c.held_place-at.result c.held_place-at.ensures.member (λ o at e.
    let cell_is_held = (c.in_ok-cell.ensures {u = tt}).value in
    let op_is_cell : o ≡ c.in_ok-cell.cell.now = cc (cell_is_held, at) in
    let id_is_equal = (c.if-has_id.ensures {u = tt}).1 (ap g.O.Caused.id (sym op_is_cell) ∙ e) in
    absurd cc)

pub returns-then-has_id : goal.returns-then-has_id
returns-then-has_id g c =
    let cell_is_held = (c.in_ok-cell.ensures {u = tt}).value in
    subst (λ (x : g.row.O.Denot). IsIn x c.args.list.now × (g.O.Caused.id x ≡ c.args.id)) (sym c.op.ensures) (
      in_of_get c.args.list.now c.held_place-at.result c.in_ok-cell.cell.now (sym cell_is_held),
      (c.if-has_id.ensures {u = tt}).0 refl,
    )
