use Rattle.std.proofs.Common.{◌+◌, ◌*◌, ◌≤◌, ◌++◌, ap, sym, subst, arith}
use Rattle.mailbox_rows.specs.ChangedEntries.{AreNoted}
use Rattle.mailbox_rows.specs.ListingEntries.{AreIndexed, AreRising, indexed_over}
use Rattle.mailbox_rows.proofs.ChangedEntryLemmas.{noted_without}
use Rattle.mailbox_rows.proofs.IndexLemmas.{indexed_without, rising_without}
use Rattle.mailbox_rows.proofs.overlay.EntryOverlayEntryList.remove.Goals as goal

pub invariant_of-self : goal.invariant_of-self
invariant_of-self c =
    let o = c.self.inside in
    let f = indexed_over o.own.entries o.stored.now.entries in (
      subst (AreRising 1) (sym c.remove.ensures.items) (rising_without 1 o.list.items c.args.place c.self.invariant.0),
      subst (AreIndexed f) (sym c.remove.ensures.items) (indexed_without f o.list.items c.args.place c.self.invariant.1),
      subst (AreNoted (o.stored_modseqs.now.entries ++ o.own_modseqs.entries)) (sym c.remove.ensures.items) (noted_without (o.stored_modseqs.now.entries ++ o.own_modseqs.entries) o.list.items c.args.place c.self.invariant.2),
    )

pub returns-clause-edits : goal.returns-clause-edits
returns-clause-edits c = λ n h.
    let p = ap (λ o. o.places) c.self.view_is in
    let q = ap (λ o. o.modseq_room) c.self.view_is in
    (c.remove.ensures.room n (subst (λ m. 2 * (n + 1) ≤ m) (sym p) h.0), omega (arith, h.1, q))

pub returns-clause-room : goal.returns-clause-room
returns-clause-room c = λ n h.
    let q = ap (λ o. o.ids) c.self.view_is in
    omega (arith, h, q)
