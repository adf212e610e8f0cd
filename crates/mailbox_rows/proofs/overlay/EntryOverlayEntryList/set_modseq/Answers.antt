use Rattle.std.proofs.Common.{ℕ, ◌≡◌, ◌∙◌, ◌+◌, ◌*◌, ◌<◌, ◌≤◌, Some, length, set, get_or, ◌++◌, ◌∷◌, [], ap, sym, subst, arith}
use Rattle.std.proofs.lemmas.Option.{get_or_from_slice_get}
use Rattle.mailbox_rows.specs.declared.entry.ListingEntry.{ListingEntry}
use Rattle.modseq_index.specs.ModSeqIndex.{latest}
use Rattle.modseq_index.specs.declared.index.ModSeqEntry.{ModSeqEntry}
use Rattle.mailbox_rows.specs.ChangedEntries.{AreNoted}
use Rattle.mailbox_rows.specs.ListingEntries.{AreIndexed, AreRising, indexed_over}
use Rattle.mailbox_rows.proofs.ChangedEntryLemmas.{latest_put, noted_own, noted_set, noted_still}
use Rattle.mailbox_rows.proofs.IndexLemmas.{indexed_at, indexed_set, indexed_without, none_within, rising_set}
use Rattle.mailbox_rows.proofs.overlay.EntryOverlayEntryList.set_modseq.Goals as goal

pub invariant_of-self : goal.invariant_of-self
invariant_of-self c =
    let o = c.self.inside in
    let es = o.list.items in
    let k = c.args.place in
    let old = c.in-Some.old in
    let x : ListingEntry = record { origin = old.origin; uid = old.uid; modseq = c.args.modseq } in
    let f = indexed_over o.own.entries o.stored.now.entries in
    let same = ap (λ o. o.entries) c.self.view_is in
    let was = o.stored_modseqs.now.entries in
    let edits = o.own_modseqs.entries in
    let noted : ModSeqEntry = record { modseq = c.args.modseq; uid = old.uid } in
    let inside : k < length es = subst (λ es. k < length es) (sym same) c.requires.within in
    let here : get_or es k old ≡ old = get_or_from_slice_get es k old old (sym c.get.ensures ∙ c.in-Some.is) in
    let own = subst (λ (e : ListingEntry). f e.origin ≡ Some e.uid) here (indexed_at f es k old inside c.self.invariant.1) in (
      subst (AreRising 1) (sym c.replace.ensures.items) (rising_set 1 es k x old inside (ap (λ (e : ListingEntry). e.uid) (sym here)) c.self.invariant.0),
      subst (AreIndexed f) (sym c.replace.ensures.items) (indexed_set f es k x inside (indexed_without f es k c.self.invariant.1) own),
      subst (λ now. AreNoted (was ++ now) c.replace.new.self.items) (sym c.note.ensures.entries) (subst (AreNoted (was ++ (edits ++ noted ∷ []))) (sym c.replace.ensures.items) (noted_set (was ++ (edits ++ noted ∷ [])) es k x (noted_own was edits x) (noted_still was edits noted es c.self.invariant.2))),
    )

pub unreachable-requires : goal.unreachable-requires
unreachable-requires c =
    let es = c.self.inside.list.items in
    let inside : c.args.place < length es = subst (λ es. c.args.place < length es) (sym (ap (λ o. o.entries) c.self.view_is)) c.requires.within in
    none_within es c.args.place inside (sym c.get.ensures ∙ c.in-None.is)

pub returns-clause-entries : goal.returns-clause-entries
returns-clause-entries c = λ e.
    let es = c.self.inside.list.items in
    let k = c.args.place in
    let same = ap (λ o. o.entries) c.self.view_is in
    let here : get_or es k e ≡ c.in-Some.old = get_or_from_slice_get es k c.in-Some.old e (sym c.get.ensures ∙ c.in-Some.is) in
    let make : ListingEntry → ListingEntry = λ x. record { origin = x.origin; uid = x.uid; modseq = c.args.modseq } in
    c.replace.ensures.items ∙ ap (λ (x : ListingEntry). set es k (make x)) (sym here) ∙ ap (λ es. set es k (make (get_or es k e))) same

pub returns-clause-edits : goal.returns-clause-edits
returns-clause-edits c = λ n h.
    let p = ap (λ o. o.places) c.self.view_is in
    let q = ap (λ o. o.modseq_room) c.self.view_is in
    (c.replace.ensures.room n (subst (λ m. 2 * (n + 1) ≤ m) (sym p) h.0), omega (arith, h.1, q, c.note.ensures.room))

pub returns-clause-room : goal.returns-clause-room
returns-clause-room c = λ n h.
    let q = ap (λ o. o.ids) c.self.view_is in
    omega (arith, h, q)

pub returns-clause-latest : goal.returns-clause-latest
returns-clause-latest c =
    let x : ModSeqEntry = record { modseq = c.args.modseq; uid = c.in-Some.old.uid } in
    let old = c.self.inside.own_modseqs.entries in
    let last : latest old ≤ x.modseq = subst (λ n. n ≤ x.modseq) (sym (ap (λ s. s.latest) c.self.view_is)) c.requires.order in
    ap latest c.note.ensures.entries ∙ latest_put old x last
