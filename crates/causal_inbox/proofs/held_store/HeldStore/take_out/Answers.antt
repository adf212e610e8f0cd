use Rattle.std.proofs.Common.{◌≡◌, List, [], Some, get_or, remove, slice_get, ap, subst, sym, ◌∙◌}
use Rattle.std.proofs.lemmas.Option.{slice_get_within, get_or_from_slice_get}
use Rattle.causal_inbox.specs.CauseIndex.{AreApart, AreIndexed, HeldState}
use Rattle.causal_inbox.proofs.CauseIndexLemmas.{entry_place, less_indexed, one_less}
use Rattle.causal_inbox.proofs.held_store.HeldStore.take_out.Goals as goal

op_is_at : (g : _) (c : goal.After-drop-take g) → slice_get c.self.inside.list c.args.at ≡ Some c.into_op-op.result
op_is_at g c = c.take.ensures.item ∙ ap Some (sym (c.into_op-op.ensures ∙ c.into_item.ensures))

entry_is_at_place : (g : _) (c : goal.After-drop-take g) → slice_get c.self.inside.entries c.place_of-from.result ≡ Some c.entry_of.result
entry_is_at_place g c =
    let o = g.O.Caused in
    let applied = c.requires.indexed.0 in
    entry_place o.id o.clock applied c.self.inside.list c.self.inside.entries c.args.at c.place_of-from.result c.entry_of.result c.into_op-op.result (op_is_at g c) c.self.invariant.entries
    (subst (λ (h : HeldState _). AreIndexed o.id o.clock [] applied h.list h.entries) (sym c.self.view_is) c.requires.indexed.3)
    (subst (λ (h : HeldState _). AreApart o.id h.list applied) (sym c.self.view_is) c.requires.indexed.2)
    c.entry_of.ensures.id (c.entry_of.ensures.indexed applied c.requires.indexed.1) c.place_of-from.ensures.member

pub take-requires-2 : goal.take-requires-2
take-requires-2 g c =
    let o = g.O.Caused in
    let applied = c.requires.indexed.0 in
    let op_is_at : slice_get c.self.inside.list c.args.at ≡ Some c.into_op-op.result = c.take.ensures.item ∙ ap Some (sym (c.into_op-op.ensures ∙ c.into_item.ensures)) in
    slice_get_within c.self.inside.entries c.place_of-from.result c.entry_of.result
    (entry_place o.id o.clock applied c.self.inside.list c.self.inside.entries c.args.at c.place_of-from.result c.entry_of.result c.into_op-op.result op_is_at c.self.invariant.entries
    (subst (λ (h : HeldState _). AreIndexed o.id o.clock [] applied h.list h.entries) (sym c.self.view_is) c.requires.indexed.3)
    (subst (λ (h : HeldState _). AreApart o.id h.list applied) (sym c.self.view_is) c.requires.indexed.2)
    c.entry_of.ensures.id (c.entry_of.ensures.indexed applied c.requires.indexed.1) c.place_of-from.ensures.member)

pub invariant_of-self : goal.invariant_of-self
invariant_of-self g c =
    let x = one_less g.O.Caused.id c.self.inside.list c.take.new.self c.self.inside.entries c.take-2.new.self c.args.at c.place_of-from.result c.entry_of.result c.into_op-op.result c.take.ensures.others c.take-2.ensures.others (op_is_at g c) (entry_is_at_place g c) c.entry_of.ensures.id c.self.invariant.ascending c.self.invariant.entries c.self.invariant.count in
    record { ascending = x.0; count = x.1; entries = x.2 }

pub returns-clause-op : goal.returns-clause-op
returns-clause-op g c = subst (λ (h : HeldState _). c.into_op-op.result ≡ get_or h.list c.args.at c.into_op-op.result) c.self.view_is (sym (get_or_from_slice_get c.self.inside.list c.args.at c.into_op-op.result c.into_op-op.result (op_is_at g c)))

pub returns-clause-indexed : goal.returns-clause-indexed
returns-clause-indexed g c = λ woken applied indexed.
    let o = g.O.Caused in
    less_indexed o.id o.clock woken applied c.self.inside.list c.take.new.self c.self.inside.entries c.take-2.new.self c.args.at c.place_of-from.result c.entry_of.result c.into_op-op.result c.take.ensures.others c.take-2.ensures.others (op_is_at g c) (entry_is_at_place g c) c.self.invariant.ascending c.self.invariant.entries
    (subst (λ (h : HeldState _). AreIndexed o.id o.clock woken applied h.list h.entries) (sym c.self.view_is) indexed)
