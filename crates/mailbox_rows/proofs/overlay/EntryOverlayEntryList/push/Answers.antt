use Rattle.std.proofs.Common.{◌∙◌, ◌+◌, ◌*◌, ◌≤◌, ◌++◌, ◌∷◌, [], ap, sym, subst, arith}
use Rattle.modseq_index.specs.ModSeqIndex.{latest}
use Rattle.modseq_index.specs.declared.index.ModSeqEntry.{ModSeqEntry}
use Rattle.mailbox_rows.specs.ChangedEntries.{AreNoted}
use Rattle.mailbox_rows.specs.ListingEntries.{AreBelow, AreIndexed, AreRising, Lacks, first_of, is_id, indexed_value, indexed_over}
use Rattle.mailbox_rows.proofs.ChangedEntryLemmas.{latest_put, noted_own, noted_put, noted_still}
use Rattle.mailbox_rows.proofs.IndexLemmas.{indexed_others, indexed_put, is_id_same, pick_else, pick_then, rising_put}
use Rattle.mailbox_rows.proofs.overlay.EntryOverlayEntryList.push.Goals as goal

pub invariant_of-self : goal.invariant_of-self
invariant_of-self c =
    let o = c.self.inside in
    let es = o.list.items in
    let x = c.args.entry in
    let stored = o.stored.now.entries in
    let same = ap (λ o. o.entries) c.self.view_is in
    let was = o.stored_modseqs.now.entries in
    let edits = o.own_modseqs.entries in
    let noted : ModSeqEntry = record { modseq = x.modseq; uid = x.uid } in
    let f = indexed_over o.own.entries stored in
    let h = indexed_over c.note.new.uids.entries stored in
    let lacks = subst (Lacks x.origin) (sym same) c.requires.fresh in
    let below = subst (AreBelow x.uid) (sym same) c.requires.beyond in
    let indexed = indexed_others f h x.origin es lacks (λ i apart. ap (λ t. first_of t (indexed_value stored i)) (pick_else (is_id x.origin i) _ _ _ apart (c.note.ensures.lookups i))) c.self.invariant.1 in
    let own = ap (λ t. first_of t (indexed_value stored x.origin)) (pick_then (is_id x.origin x.origin) _ _ _ (is_id_same x.origin) (c.note.ensures.lookups x.origin)) in (
      subst (AreRising 1) (sym c.push.ensures.items) (rising_put 1 es x c.requires.first below c.self.invariant.0),
      subst (AreIndexed h) (sym c.push.ensures.items) (indexed_put h es x indexed own),
      subst (λ now. AreNoted (was ++ now) c.push.new.self.items) (sym c.note-2.ensures.entries) (subst (AreNoted (was ++ (edits ++ noted ∷ []))) (sym c.push.ensures.items) (noted_put (was ++ (edits ++ noted ∷ [])) es x (noted_own was edits x) (noted_still was edits noted es c.self.invariant.2))),
    )

pub returns-clause-edits : goal.returns-clause-edits
returns-clause-edits c = λ n h.
    let p = ap (λ o. o.places) c.self.view_is in
    let q = ap (λ o. o.modseq_room) c.self.view_is in
    (c.push.ensures.room n (subst (λ m. 2 * (n + 1) ≤ m) (sym p) h.0), omega (arith, h.1, q, c.note-2.ensures.room))

pub returns-clause-room : goal.returns-clause-room
returns-clause-room c = λ n h.
    let q = ap (λ o. o.ids) c.self.view_is in
    omega (arith, h, q, c.note.ensures.room)

pub returns-clause-latest : goal.returns-clause-latest
returns-clause-latest c =
    let x : ModSeqEntry = record { modseq = c.args.entry.modseq; uid = c.args.entry.uid } in
    let old = c.self.inside.own_modseqs.entries in
    let last : latest old ≤ x.modseq = subst (λ n. n ≤ x.modseq) (sym (ap (λ s. s.latest) c.self.view_is)) c.requires.order in
    ap latest c.note-2.ensures.entries ∙ latest_put old x last
