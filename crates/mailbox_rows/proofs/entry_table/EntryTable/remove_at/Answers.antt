use Rattle.std.proofs.Common.{◌≡◌, ◌<◌, None, length, remove, if◌then◌else◌, ap, sym, subst}
use Rattle.tags_clocks.specs.declared.id.OpId.{OpId}
use Rattle.mailbox_rows.specs.declared.entry.ListingEntry.{ListingEntry}
use Rattle.mailbox_rows.specs.ChangedEntries.{AreNoted}
use Rattle.mailbox_rows.specs.ListingEntries.{AreRising, IsUidIndex, is_id, indexed_value}
use Rattle.mailbox_rows.proofs.ChangedEntryLemmas.{noted_without}
use Rattle.mailbox_rows.proofs.IndexLemmas.{rising_without, uid_index_without}
use Rattle.mailbox_rows.proofs.entry_table.EntryTable.remove_at.Goals as goal

pub invariant_of-self : goal.invariant_of-self
invariant_of-self c =
    let t = c.self.inside in
    let es = t.list.items in
    let k = c.args.place in
    let old = c.remove-old.result in
    let f = indexed_value t.uids.entries in
    let h = indexed_value c.remove_origin.new.uids.entries in
    let inside : k < length es = subst (λ es. k < length es) (sym (ap (λ x. x.entries) c.self.view_is)) c.requires in
    let at = subst (λ (e : ListingEntry). (i : OpId) → h i ≡ (if is_id e.origin i then None else f i)) c.remove-old.ensures.value c.remove_origin.ensures.lookups in (
      subst (AreRising 1) (sym c.remove-old.ensures.items) (rising_without 1 es k c.self.invariant.0),
      subst (IsUidIndex h) (sym c.remove-old.ensures.items) (uid_index_without f h es k old inside c.self.invariant.0 at c.self.invariant.1),
      subst (AreNoted t.modseqs.entries) (sym c.remove-old.ensures.items) (noted_without t.modseqs.entries es k c.self.invariant.2),
    )
