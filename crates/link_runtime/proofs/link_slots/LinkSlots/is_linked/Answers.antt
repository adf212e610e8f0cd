use Rattle.std.proofs.Common.{◌≡◌, ◌↔◌, IsTrue, Bool, List, sym, ap, subst, ◌∙◌}
use Rattle.link_runtime.specs.declared.link_table.LinkEntry.{LinkEntry}
use Rattle.link_runtime.specs.LinkTables.{IsUnlinked}
use Rattle.link_runtime.specs.Slots.{SlotsState}
use Rattle.link_runtime.proofs.TableLemmas.{linked_iff}
use Rattle.link_runtime.proofs.link_slots.LinkSlots.is_linked.Goals as goal

pub returns : goal.returns
returns c =
    let links : c.deref.result.now ≡ c.args.self.now.links = c.deref.ensures.value ∙ ap (λ (s : SlotsState). s.links) c.self.view_is in
    subst (λ (es : List LinkEntry). IsTrue c.is_some.result ↔ (IsUnlinked c.args.peer es → ⊥)) links
    (subst (λ (b : Bool). IsTrue b ↔ (IsUnlinked c.args.peer c.deref.result.now → ⊥)) (sym c.is_some.ensures) (linked_iff c.entry_place.result c.args.peer c.deref.result.now c.entry_place.ensures))
