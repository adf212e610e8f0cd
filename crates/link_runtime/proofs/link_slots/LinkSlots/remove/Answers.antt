use Rattle.std.proofs.Common.{rules, ◌≡◌, ◌≢◌, ◌<◌, ◌∷◌, ◌++◌, inl, refl, suc, List, length, take, drop, Some, slice_get, sym, ap, subst, ◌∙◌, arith}
use Rattle.merge_laws.specs.Orders.{IsIn}
use Rattle.link_runtime.specs.declared.link_table.LinkEntry.{LinkEntry}
use Rattle.link_runtime.specs.LinkTables.{AreNamesApart}
use Rattle.link_runtime.specs.Slots.{IsTakenOut, SlotsState}
use Rattle.link_runtime.proofs.TableLemmas.{apart_without, within}
use Rattle.link_runtime.proofs.SlotLemmas.{parts_at, taken_out}
use Rattle.link_runtime.proofs.link_slots.LinkSlots.remove.Goals as goal

pub returns-in_err-at-clause-taken : goal.returns-in_err-at-clause-taken
returns-in_err-at-clause-taken c =
    let links : c.deref.result.now ≡ c.args.self.now.links = c.deref.ensures.value ∙ ap (λ (s : SlotsState). s.links) c.self.view_is in
    inl (refl, subst (λ (es : List LinkEntry). (e : LinkEntry) → IsIn e es → e.number ≢ c.args.number) links (c.in_err-at.ensures {u = tt}))

pub remove-requires : goal.remove-requires
remove-requires c =
    let found = c.in_ok-at.ensures {u = tt} in
    let l : c.in_ok-at.at < length c.deref.result.now = within c.deref.result.now c.in_ok-at.at found.0 found.1 in
    let same = ap length c.deref.ensures.value in
    omega (arith, l, same, c.self.inside.entries.ok)

pub invariant_of-self : goal.invariant_of-self
invariant_of-self c =
    let found = c.in_ok-at.ensures {u = tt} in
    let entries = c.self.inside.entries.items in
    let at = c.in_ok-at.at in
    let parts : entries ≡ take at entries ++ found.0 ∷ drop (suc at) entries =
    subst (λ (es : List LinkEntry). es ≡ take at es ++ found.0 ∷ drop (suc at) es) c.deref.ensures.value (parts_at c.deref.result.now at found.0 found.1) in
    let inv = c.self.invariant in (
      record {
        names = subst (λ (es : List LinkEntry). AreNamesApart es) (sym c.remove.ensures.items) (apart_without found.0 (take at entries) (drop (suc at) entries) (subst (λ (es : List LinkEntry). AreNamesApart es) parts inv.0.names));
        links = let few = inv.0.links in omega (arith, few, c.remove.ensures.len, c.remove.new.self.ok, c.self.inside.entries.ok);
        unproved = inv.0.unproved;
      },
      let same = inv.1 in omega (arith, same, c.remove.ensures.len, c.remove-2.ensures.len, c.remove.new.self.ok, c.remove-2.new.self.ok, c.self.inside.entries.ok, c.self.inside.connections.ok),
    )

pub returns-clause-taken : goal.returns-clause-taken
returns-clause-taken c =
    let found = c.in_ok-at.ensures {u = tt} in
    let entry_is : slice_get c.self.inside.entries.items c.in_ok-at.at ≡ Some found.0 = subst (λ (es : List LinkEntry). slice_get es c.in_ok-at.at ≡ Some found.0) c.deref.ensures.value found.1 in
    subst (λ (es : List LinkEntry). IsTakenOut (λ (e : LinkEntry). e.number) c.args.number es c.remove.new.self.items) (ap (λ (s : SlotsState). s.links) c.self.view_is)
    (taken_out (λ (e : LinkEntry). e.number) c.args.number c.in_ok-at.at found.0 c.self.inside.entries.items c.remove.new.self.items entry_is found.2 c.remove.ensures.items)
