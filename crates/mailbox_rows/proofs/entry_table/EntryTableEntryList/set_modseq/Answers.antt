use Rattle.std.proofs.Common.{◌≡◌, ◌∙◌, ◌<◌, ◌≤◌, ◌++◌, ◌∷◌, [], length, get_or, ap, sym, subst}
use Rattle.std.proofs.lemmas.Option.{get_or_from_slice_get}
use Rattle.modseq_index.specs.ModSeqIndex.{latest}
use Rattle.modseq_index.specs.declared.index.ModSeqEntry.{ModSeqEntry}
use Rattle.mailbox_rows.specs.declared.entry.ListingEntry.{ListingEntry}
use Rattle.mailbox_rows.specs.ChangedEntries.{AreNoted}
use Rattle.mailbox_rows.specs.ListingEntries.{AreRising, IsUidIndex, indexed_value}
use Rattle.mailbox_rows.proofs.ChangedEntryLemmas.{latest_put, noted_own, noted_set, noted_still}
use Rattle.mailbox_rows.proofs.IndexLemmas.{rising_set, uid_index_set}
use Rattle.mailbox_rows.proofs.entry_table.EntryTableEntryList.set_modseq.Goals as goal

pub invariant_of-self : goal.invariant_of-self
invariant_of-self c =
    let t = c.self.inside in
    let es = t.list.items in
    let k = c.args.place in
    let old = c.in-Some.old in
    let x : ListingEntry = record { origin = old.origin; uid = old.uid; modseq = c.args.modseq } in
    let noted : ModSeqEntry = record { modseq = c.args.modseq; uid = old.uid } in
    let was = t.modseqs.entries in
    let f = indexed_value t.uids.entries in
    let same = ap (λ x. x.entries) c.self.view_is in
    let inside : k < length es = subst (λ es. k < length es) (sym same) c.requires.within in
    let here : get_or es k old ≡ old = get_or_from_slice_get es k old old (sym c.get.ensures.value ∙ sym c.copied.ensures ∙ c.in-Some.is) in (
      subst (AreRising 1) (sym c.put_at.ensures.items) (rising_set 1 es k x old inside (ap (λ (e : ListingEntry). e.uid) (sym here)) c.self.invariant.0),
      subst (IsUidIndex f) (sym c.put_at.ensures.items) (uid_index_set f es k x old inside (ap (λ (e : ListingEntry). e.origin) (sym here)) (ap (λ (e : ListingEntry). e.uid) (sym here)) c.self.invariant.1),
      subst (λ now. AreNoted now c.put_at.new.list.items) (sym c.note.ensures.entries) (subst (AreNoted (was ++ noted ∷ [])) (sym c.put_at.ensures.items) (noted_set (was ++ noted ∷ []) es k x (noted_own [] was x) (noted_still [] was noted es c.self.invariant.2))),
    )

pub returns-clause-latest : goal.returns-clause-latest
returns-clause-latest c =
    let x : ModSeqEntry = record { modseq = c.args.modseq; uid = c.in-Some.old.uid } in
    let old = c.self.inside.modseqs.entries in
    let last : latest old ≤ x.modseq = subst (λ n. n ≤ x.modseq) (sym (ap (λ s. s.latest) c.self.view_is)) c.requires.order in
    ap latest c.note.ensures.entries ∙ latest_put old x last
