use Rattle.std.proofs.Common.{◌≡◌, ◌+◌, ◌≤◌, List, [], ◌∷◌, insert, length, ap, subst, sym, ◌∙◌, refl}
use Rattle.merge_laws.specs.Orders.{HasId, HaveSameElements}
use Rattle.causal_inbox.specs.Inbox.{AreAscending}
use Rattle.causal_inbox.specs.CauseIndex.{AreIndexed, AreOrdered, IsCauseIndex, IsIndexedBefore, HeldState}
use Rattle.causal_inbox.proofs.CauseIndexLemmas.{indexed_insert, absent, one_more}
use Rattle.causal_inbox.proofs.held_store.HeldStore.hold.Goals as goal

new : (g : _) (c : goal.After-put g) → ¬ HasId g.O.Caused.id c.self.inside.list (g.O.Caused.id c.args.op)
new g c = subst (λ (h : HeldState _). ¬ HasId g.O.Caused.id h.list (g.O.Caused.id c.args.op)) (sym c.self.view_is) c.requires.new_id

made : (g : _) (c : goal.After-put g) → c.insert.new.self ≡ insert c.self.inside.list c.held_place-at.result c.args.op
made g c = (c.in_ok-insert.ensures {u = tt}).ok ∙ ap (insert c.self.inside.list c.held_place-at.result) (c.in_ok-new.ensures {u = tt})

put : (g : _) (c : goal.After-put g) → c.put.new.self ≡ insert c.self.inside.entries c.place_of-to.result c.entry_of-entry.result
put g c = c.put.ensures ∙ ap (insert c.self.inside.entries c.place_of-to.result) (c.in_ok-slot.ensures {u = tt})

ordered : (g : _) (c : goal.After-put g) → AreOrdered IsIndexedBefore (insert c.self.inside.entries c.place_of-to.result c.entry_of-entry.result)
ordered g c = c.place_of-to.ensures.place (absent g.O.Caused.id c.self.inside.list c.self.inside.entries c.entry_of-entry.result c.args.op c.self.invariant.entries (new g c) c.entry_of-entry.ensures.id)

more : (g : _) (c : goal.After-put g) → (length c.put.new.self ≡ length c.insert.new.self) × IsCauseIndex g.O.Caused.id c.insert.new.self c.put.new.self × HaveSameElements c.insert.new.self (c.args.op ∷ c.self.inside.list)
more g c = one_more g.O.Caused.id c.self.inside.list c.insert.new.self c.self.inside.entries c.put.new.self c.held_place-at.result c.place_of-to.result c.entry_of-entry.result c.args.op (made g c) (put g c) c.held_place-at.ensures.within c.place_of-to.ensures.within c.self.invariant.count c.self.invariant.entries (new g c) c.entry_of-entry.ensures.id (ordered g c)

pub invariant_of-self-2 : goal.invariant_of-self-2
invariant_of-self-2 g c =
    let o = g.O.Caused in
    let m = more g c in
    record {
      ascending = subst (AreAscending o.id) (sym (made g c)) (c.held_place-at.ensures.place c.args.op (sym c.entry_of-entry.ensures.id) (subst (λ i. ¬ HasId o.id c.self.inside.list i) (sym c.entry_of-entry.ensures.id) (new g c)));
      count = m.0;
      entries = m.1;
    }

pub returns-clause-elements : goal.returns-clause-elements
returns-clause-elements g c = subst (λ (h : HeldState _). HaveSameElements c.insert.new.self (c.args.op ∷ h.list)) c.self.view_is (more g c).2

pub returns-clause-indexed : goal.returns-clause-indexed
returns-clause-indexed g c = λ applied k n indexed.
    let o = g.O.Caused in
    subst (λ entries. AreIndexed o.id o.clock [] applied c.insert.new.self entries) (sym (put g c))
    (indexed_insert o.id o.clock [] applied c.self.inside.list c.insert.new.self c.self.inside.entries c.place_of-to.result c.entry_of-entry.result c.args.op c.self.invariant.entries (more g c).2 (new g c) c.entry_of-entry.ensures.id (c.entry_of-entry.ensures.indexed applied k n)
    (subst (λ (h : HeldState _). AreIndexed o.id o.clock [] applied h.list h.entries) (sym c.self.view_is) indexed))
