use Rattle.std.proofs.Common.{◌≤◌, ◌∙◌, ◌++◌, ◌∷◌, [], ap, sym, subst}
use Rattle.mailbox_rows.specs.ChangedEntries.{AreNoted}
use Rattle.modseq_index.specs.ModSeqIndex.{latest}
use Rattle.modseq_index.specs.declared.index.ModSeqEntry.{ModSeqEntry}
use Rattle.mailbox_rows.specs.ListingEntries.{AreBelow, AreRising, IsUidIndex, Lacks, indexed_value}
use Rattle.mailbox_rows.proofs.ChangedEntryLemmas.{latest_put, noted_own, noted_put, noted_still}
use Rattle.mailbox_rows.proofs.IndexLemmas.{rising_put, uid_index_put}
use Rattle.mailbox_rows.proofs.entry_table.EntryTableEntryList.push.Goals as goal

pub invariant_of-self : goal.invariant_of-self
invariant_of-self c =
    let t = c.self.inside in
    let es = t.list.items in
    let x = c.args.entry in
    let same = ap (λ x. x.entries) c.self.view_is in
    let f = indexed_value t.uids.entries in
    let h = indexed_value c.note.new.uids.entries in
    let lacks = subst (Lacks x.origin) (sym same) c.requires.fresh in
    let below = subst (AreBelow x.uid) (sym same) c.requires.beyond in
    let own : ModSeqEntry = record { modseq = x.modseq; uid = x.uid } in
    let old = t.modseqs.entries in (
      subst (AreRising 1) (sym c.push_reserved.ensures.items) (rising_put 1 es x c.requires.first below c.self.invariant.0),
      subst (IsUidIndex h) (sym c.push_reserved.ensures.items) (uid_index_put f h es x c.note.ensures.lookups lacks c.self.invariant.1),
      subst (λ now. AreNoted now c.push_reserved.new.self.items) (sym c.note-2.ensures.entries) (subst (AreNoted (old ++ own ∷ [])) (sym c.push_reserved.ensures.items) (noted_put (old ++ own ∷ []) es x (noted_own [] old x) (noted_still [] old own es c.self.invariant.2))),
    )

pub returns-clause-latest : goal.returns-clause-latest
returns-clause-latest c =
    let x : ModSeqEntry = record { modseq = c.args.entry.modseq; uid = c.args.entry.uid } in
    let old = c.self.inside.modseqs.entries in
    let last : latest old ≤ x.modseq = subst (λ n. n ≤ x.modseq) (sym (ap (λ s. s.latest) c.self.view_is)) c.requires.order in
    ap latest c.note-2.ensures.entries ∙ latest_put old x last
