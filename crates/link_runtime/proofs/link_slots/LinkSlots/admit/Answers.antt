use Rattle.std.proofs.Common.{◌≡◌, ◌≤◌, inl, inr, refl, List, Some, length, length-set, set, slice_get, sym, ap, subst, ◌∙◌, arith}
use Rattle.link_runtime.specs.declared.link_slots.RefusedPeer.{RefusedPeer}
use Rattle.link_runtime.specs.declared.link_table.Admission.TheVariants.{Added, Busy}
use Rattle.link_runtime.specs.declared.link_table.LinkEntry.{LinkEntry}
use Rattle.link_runtime.specs.LinkTables.{IsAdmission, IsUnlinked}
use Rattle.link_runtime.specs.Slots.{IsOpen, IsUnrefused, SlotsState}
use Rattle.link_runtime.proofs.SlotLemmas.{added_if, if_ok}
use Rattle.link_runtime.proofs.TableLemmas.{apart_in_place}
use Rattle.link_runtime.proofs.link_slots.LinkSlots.admit.Goals as goal

pub add-requires-clause-unlinked : goal.add-requires-clause-unlinked
add-requires-clause-unlinked c =
    subst (λ (es : List LinkEntry). IsUnlinked c.args.entry.now.peer es) (c.deref-2.ensures.value ∙ ap (λ (s : SlotsState). s.links) c.self.view_is) (c.in-Added.ensures {u = tt}).0

pub invariant_of-self : goal.invariant_of-self
invariant_of-self c =
    let entries = c.self.inside.entries.items in
    let entry = c.args.entry.now in
    let at = c.in-Replaces.at in
    let r = c.in-Replaces.ensures {u = tt} in
    let found : slice_get entries at ≡ Some r.0 = subst (λ (es : List LinkEntry). slice_get es at ≡ Some r.0) c.deref-2.ensures.value r.1.found in
    let inv = c.self.invariant in
    let few = inv.0.links in
    let long = length-set entries at entry in (
      record {
        names = apart_in_place entry r.0 entries at inv.0.names found r.1.named;
        links = omega (arith, few, long);
        unproved = inv.0.unproved;
      },
      length-set c.self.inside.connections.items at c.replace.new.dest ∙ inv.1 ∙ sym long,
    )

pub returns-in-Busy-clause-reason : goal.returns-in-Busy-clause-reason
returns-in-Busy-clause-reason c =
    inl (refl, inr (subst (λ (es : List LinkEntry). IsAdmission es c.args.entry.now Busy) (c.deref-2.ensures.value ∙ ap (λ (s : SlotsState). s.links) c.self.view_is) (c.in-Busy.ensures {u = tt})))

pub returns-in-Added-clause-links : goal.returns-in-Added-clause-links
returns-in-Added-clause-links c =
    added_if c.add.result c.args.self.now c.add.new.self c.args.entry.now c.add.ensures.ok
    (subst (λ (es : List LinkEntry). IsAdmission es c.args.entry.now Added) (c.deref-2.ensures.value ∙ ap (λ (s : SlotsState). s.links) c.self.view_is) (c.in-Added.ensures {u = tt}))

pub returns-in-Added-clause-allowed : goal.returns-in-Added-clause-allowed
returns-in-Added-clause-allowed c =
    if_ok c.add.result _ (
      subst (λ (s : SlotsState). IsOpen s) c.self.view_is c.if-self.false,
      subst (λ (refused : List RefusedPeer). IsUnrefused c.args.entry.now.peer refused) (c.deref.ensures.value ∙ ap (λ (s : SlotsState). s.refused) c.self.view_is) (c.in_default.ensures {u = tt}),
    )

pub returns-in-Replaces-clause-allowed : goal.returns-in-Replaces-clause-allowed
returns-in-Replaces-clause-allowed c = (
  subst (λ (s : SlotsState). IsOpen s) c.self.view_is c.if-self.false,
  subst (λ (refused : List RefusedPeer). IsUnrefused c.args.entry.now.peer refused) (c.deref.ensures.value ∙ ap (λ (s : SlotsState). s.refused) c.self.view_is) (c.in_default.ensures {u = tt}),
)
