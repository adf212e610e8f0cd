use Rattle.std.proofs.Common.{◌≡◌, ◌<◌, List, [], ◌∷◌, MatchOption, None, Some, get_or, is_some, length, slice_get, ap, subst, sym, ◌∙◌}
use Rattle.merge_laws.specs.Orders.{HasId}
use Rattle.causal_inbox.specs.declared.cause_index.CauseEntry.{CauseEntry}
use Rattle.causal_inbox.specs.Inbox.{AreAscending}
use Rattle.causal_inbox.specs.CauseIndex.{AreIndexed, IsCauseIndex, HeldState}
use Rattle.causal_inbox.proofs.CauseIndexLemmas.{next_place, none_cause, none_ripe}
use Rattle.causal_inbox.proofs.held_store.HeldStore.next_ripe.Goals as goal

pub returns-then-is_some : goal.returns-then-is_some
returns-then-is_some g c = λ applied indexed.
    let o = g.O.Caused in
    let s = c.args.self.now in
    let is_index : IsCauseIndex o.id s.list s.entries = subst (λ (h : HeldState _). IsCauseIndex o.id h.list h.entries) c.self.view_is c.self.invariant.entries in
    let v = (c.in_ok-first.ensures {u = tt}).value in
    let t = c.if-is_some.ensures {u = tt} in
    none_ripe o.id o.clock applied s.list s.entries is_index indexed (λ f at e.
    let same : slice_get c.self.inside.entries 0 ≡ slice_get s.entries 0 = ap (λ (h : HeldState _). slice_get h.entries 0) c.self.view_is in
    let k : f ≡ c.in_ok-first.first.now = cc (v, at, same) in
    let n : c.in_ok-first.first.now.cause ≡ None = ap (λ (x : CauseEntry). x.cause) (sym k) ∙ e in
    let b = t ∙ ap is_some n in
    absurd cc)

pub returns : goal.returns
returns g c = λ applied indexed.
    let o = g.O.Caused in
    let s = c.args.self.now in
    let is_index : IsCauseIndex o.id s.list s.entries = subst (λ (h : HeldState _). IsCauseIndex o.id h.list h.entries) c.self.view_is c.self.invariant.entries in
    let a : AreAscending o.id s.list = subst (λ (h : HeldState _). AreAscending o.id h.list) c.self.view_is c.self.invariant.ascending in
    let v = (c.in_ok-first.ensures {u = tt}).value in
    let f = c.in_ok-first.first.now in
    let first : slice_get s.entries 0 ≡ Some f = ap (λ (h : HeldState _). slice_get h.entries 0) (sym c.self.view_is) ∙ sym v in
    let none : f.cause ≡ None = none_cause f.cause (sym (c.if-is_some.ensures {u = tt})) in
    next_place o.id o.clock applied s.list s.entries f c.place_of_id.result a is_index indexed first none
    (subst (λ (h : HeldState _). MatchOption c.place_of_id.result (¬ HasId o.id h.list f.id) (λ at. (at < length h.list) × ((x : g.row.O.Denot) → x ≡ get_or h.list at x → o.id x ≡ f.id))) c.self.view_is c.place_of_id.ensures)
