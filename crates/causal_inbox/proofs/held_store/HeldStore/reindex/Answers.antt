use Rattle.std.proofs.Common.{◌≡◌, ◌<◌, ◌≤◌, ◌+◌, List, Some, insert, length, remove, slice_get, ap, subst, sym, ◌∙◌, arith}
use Rattle.std.proofs.lemmas.List.Edits.{length-insert, length-remove}
use Rattle.std.proofs.lemmas.Option.{slice_get_within}
use Rattle.merge_laws.specs.Orders.{HasId, IsIn}
use Rattle.merge_laws.proofs.Lists.{id_of_element}
use Rattle.causal_inbox.specs.declared.cause_index.CauseEntry.{CauseEntry}
use Rattle.causal_inbox.specs.CauseIndex.{AreOrdered, IsCauseIndex, IsIndexedBefore, IsReindexed}
use Rattle.causal_inbox.proofs.Ordered.{removed_ordered}
use Rattle.causal_inbox.proofs.CauseIndexLemmas.{index_moved, in_of_get, new_entry}
use Rattle.causal_inbox.proofs.held_store.HeldStore.reindex.Goals as goal

pub unreachable-requires : goal.unreachable-requires
unreachable-requires g c =
    let o = g.O.Caused in
    let f = c.take-slot.result in
    let x = c.self.invariant.entries.of f (in_of_get c.self.inside.entries c.args.at f c.take-slot.ensures.item) in
    c.in-None.ensures {u = tt} (subst (HasId o.id c.self.inside.list) (x.2 ∙ ap (λ (y : CauseEntry). y.id) (sym c.item.ensures)) (id_of_element o.id x.0 c.self.inside.list x.1))

pub place_of-to-requires : goal.place_of-to-requires
place_of-to-requires g c =
    subst (AreOrdered IsIndexedBefore) (sym c.take-slot.ensures.others)
    (removed_ordered IsIndexedBefore c.self.inside.entries c.args.at (slice_get_within c.self.inside.entries c.args.at c.take-slot.result c.take-slot.ensures.item) c.self.invariant.entries.ordered)

pub put-requires-clause-fits : goal.put-requires-clause-fits
put-requires-clause-fits g c = c.take-slot.ensures.fits

pub returns-clause-entries : goal.returns-clause-entries
returns-clause-entries g c =
    let entries = c.self.inside.entries in
    let f = c.take-slot.result in
    let e = c.entry_of.result in
    let to = c.place_of-to.result in
    let member = c.in-Some.ensures {u = tt} in
    let same : e.id ≡ f.id = c.entry_of.ensures.id ∙ member.1 ∙ ap (λ (y : CauseEntry). y.id) c.item.ensures in
    let rest : c.take-slot.new.self ≡ remove entries c.args.at = c.take-slot.ensures.others in
    subst (λ s. IsReindexed g.O.Caused.id g.O.Caused.clock c.args.clock.now s.list c.args.at s.entries c.put.new.self) c.self.view_is (record {
      before = f;
      entry = e;
      to = to;
      taken = c.take-slot.ensures.item;
      same_id = same;
      within = subst (λ (xs : List CauseEntry). to ≤ length xs) rest c.place_of-to.ensures.within;
      moved = c.put.ensures ∙ ap (insert c.take-slot.new.self to) c.replace.ensures ∙ ap (λ (xs : List CauseEntry). insert xs to e) rest;
      op = c.in-Some.op.now;
      is_held = member.0;
      op_id = sym c.entry_of.ensures.id;
      under = c.entry_of.ensures.indexed;
    })

pub invariant_of-self : goal.invariant_of-self
invariant_of-self g c =
    let o = g.O.Caused in
    let list = c.self.inside.list in
    let entries = c.self.inside.entries in
    let f = c.take-slot.result in
    let e = c.entry_of.result in
    let to = c.place_of-to.result in
    let at_f : slice_get entries c.args.at ≡ Some f = c.take-slot.ensures.item in
    let rest : c.take-slot.new.self ≡ remove entries c.args.at = c.take-slot.ensures.others in
    let entry : c.item-2.result.now ≡ e = c.item-2.ensures ∙ c.replace.ensures in
    let same : e.id ≡ f.id = c.entry_of.ensures.id ∙ (c.in-Some.ensures {u = tt}).1 ∙ ap (λ (y : CauseEntry). y.id) c.item.ensures in
    let not_in_rest : ¬ IsIn e (remove entries c.args.at) = new_entry o.id list entries c.args.at f e c.self.invariant.entries at_f same in
    let ordered : AreOrdered IsIndexedBefore (insert (remove entries c.args.at) to e) =
    subst (λ (xs : List CauseEntry). AreOrdered IsIndexedBefore (insert xs to e)) rest
    (subst (λ (x : CauseEntry). AreOrdered IsIndexedBefore (insert c.take-slot.new.self to x)) entry
    (c.place_of-to.ensures.place (subst (λ (x : CauseEntry). ¬ IsIn x c.take-slot.new.self) (sym entry) (subst (λ (xs : List CauseEntry). ¬ IsIn e xs) (sym rest) not_in_rest)))) in
    let entries_after : c.put.new.self ≡ insert (remove entries c.args.at) to e = c.put.ensures ∙ ap (insert c.take-slot.new.self to) c.replace.ensures ∙ ap (λ (xs : List CauseEntry). insert xs to e) rest in
    let within : to ≤ length (remove entries c.args.at) = subst (λ (xs : List CauseEntry). to ≤ length xs) rest c.place_of-to.ensures.within in
    record {
      ascending = c.self.invariant.ascending;
      count = omega (arith, ap length entries_after, length-insert (remove entries c.args.at) to e within, length-remove entries c.args.at (slice_get_within entries c.args.at f at_f), c.self.invariant.count);
      entries = subst (IsCauseIndex o.id list) (sym entries_after) (index_moved o.id list entries c.args.at to f e c.self.invariant.ascending c.self.invariant.entries at_f same ordered);
    }
