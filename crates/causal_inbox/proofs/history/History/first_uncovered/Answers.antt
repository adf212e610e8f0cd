use Rattle.std.proofs.Common.{◌≡◌, ℕ, List, [], Some, option_map, slice_get, take, sym, ap, ◌∙◌, subst}
use Rattle.std.proofs.lemmas.Option.{slice_get-map}
use Rattle.merge_laws.specs.Orders.{IsIn}
use Rattle.causal_inbox.specs.InboxState.{HistoryState, id_numbers}
use Rattle.causal_inbox.specs.Inbox.{uncovered_ops}
use Rattle.causal_inbox.proofs.Gapless.{front_covered}
use Rattle.causal_inbox.proofs.history.History.first_uncovered.Goals as goal

pub returns-clause-covered : goal.returns-clause-covered
returns-clause-covered g c =
    let o = g.R.Op.Caused in
    let h = c.self.invariant in
    let first = c.place_of_uncovered.result in
    subst (λ (p : HistoryState _ _ _ _). uncovered_ops o.id c.args.clock.now (take first p.applied) ≡ []) c.self.view_is
    (front_covered o.id o.clock o.is_sound g.met.R.Op.Caused.next_number c.self.inside.list.items c.self.inside.ids.keys c.self.inside.clock c.args.clock.now first h.causal h.sound h.clock h.ids
    (λ e t. c.place_of_uncovered.ensures.lacks e (subst (IsIn e) (sym c.entries.ensures.entries) t)))

pub returns-clause-next : goal.returns-clause-next
returns-clause-next g c =
    let o = g.R.Op.Caused in
    let list = c.self.inside.list.items in
    let first = c.place_of_uncovered.result in
    λ op member.
    let present : slice_get list first ≡ Some op = subst (λ (p : HistoryState _ _ _ _). slice_get p.applied first ≡ Some op) (sym c.self.view_is) member in
    let id_present : slice_get c.self.inside.ids.keys first ≡ Some (id_numbers o.id op) =
    ap (λ (ks : List (ℕ × ℕ)). slice_get ks first) c.self.invariant.ids ∙ slice_get-map (id_numbers o.id) list first ∙ ap (option_map (id_numbers o.id)) present in
    c.place_of_uncovered.ensures.next (id_numbers o.id op) id_present
