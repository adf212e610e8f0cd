use Rattle.std.proofs.Common.{rules, ◌≡◌, ◌<◌, ◌+◌, ◌++◌, ◌∷◌, [], List, length, length-append, sym, ap, subst, ◌∙◌, arith}
use Rattle.link_runtime.specs.declared.link_table.LinkEntry.{LinkEntry}
use Rattle.link_runtime.specs.LinkTables.{AreNamesApart, IsUnlinked}
use Rattle.link_runtime.specs.Slots.{SlotsState}
use Rattle.link_runtime.proofs.TableLemmas.{apart_with}
use Rattle.link_runtime.proofs.link_slots.LinkSlots.add.Goals as goal

pub invariant_of-self-else-is_err-2 : goal.invariant_of-self-else-is_err-2
invariant_of-self-else-is_err-2 c =
    let entries = c.self.inside.entries.items in
    let entry = c.args.entry.now in
    let links : c.push-2.new.self.items ≡ entries ++ entry ∷ [] = search rules in
    let added : length c.push.new.self.items ≡ length c.self.inside.connections.items + 1 = search rules in
    let inv = c.self.invariant in
    let unlinked : IsUnlinked entry.peer entries = subst (λ (s : SlotsState). IsUnlinked entry.peer s.links) (sym c.self.view_is) c.requires.unlinked in
    let few : length entries < 64 = subst (λ (s : SlotsState). length s.links < 64) (sym c.self.view_is) c.requires.few in
    let long : length c.push-2.new.self.items ≡ length entries + 1 = ap length links ∙ length-append entries (entry ∷ []) in
    let same = inv.1 in (
      record {
        names = subst (λ (es : List LinkEntry). AreNamesApart es) (sym links) (apart_with entry entries inv.0.names unlinked);
        links = omega (arith, few, long);
        unproved = inv.0.unproved;
      },
      omega (arith, added, long, same),
    )
