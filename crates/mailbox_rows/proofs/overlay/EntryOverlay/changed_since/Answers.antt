use Rattle.std.proofs.Common.{◌≡◌, ◌∙◌, ◌++◌, ◌&&◌, ℕ, List, true, nat_eq, ap, sym, subst, arith, rules}
use Rattle.std.specs.List.{list_any}
use Rattle.std.proofs.lemmas.List.Sorted.{IsNonDecreasingBy-from_sort_by_key, list_any-IsPermutation}
use Rattle.modseq_index.specs.ModSeqIndex.{uids_above}
use Rattle.mailbox_rows.specs.ChangedEntries.{AreAmong, AreAscending}
use Rattle.mailbox_rows.proofs.ChangedEntryLemmas.{uids_above_append, all_among, ascending_from}
use Rattle.mailbox_rows.proofs.overlay.EntryOverlay.changed_since.Goals as goal

pub changed_entries_among-requires-clause-ascending : goal.changed_entries_among-requires-clause-ascending
changed_entries_among-requires-clause-ascending c =
    subst (AreAscending 0) (sym c.deref.ensures.value) (ascending_from 0 c.sort_by_key.new.self.items (λ d k. omega arith)
    (IsNonDecreasingBy-from_sort_by_key (λ (uid : ℕ). uid) _ ((c.in_ok-sort_by_key.ensures {u = tt}).sorted) (λ a r q k. search rules)))

pub changed_entries_among-requires-clause-among : goal.changed_entries_among-requires-clause-among
changed_entries_among-requires-clause-among c =
    let o = c.self.inside in
    let m = c.args.modseq in
    let stored = o.stored_modseqs.now.entries in
    let own = o.own_modseqs.entries in
    let all : c.push_uids-2.new.uids.items ≡ uids_above m (stored ++ own) =
    c.in_ok-push_uids-2.ensures {u = tt} ∙ ap (λ (us : List ℕ). us ++ uids_above m own) (c.in_ok-push_uids.ensures {u = tt} ∙ ap (λ (us : List ℕ). us ++ uids_above m stored) c.new-uids.ensures.items) ∙ uids_above_append m stored own in
    let same = λ (w : ℕ). sym (list_any-IsPermutation (λ u. nat_eq u w) c.push_uids-2.new.uids.items c.sort_by_key.new.self.items c.sort_by_key.ensures.permutation) ∙ ap (list_any (λ u. nat_eq u w)) all in
    subst (λ (us : List ℕ). AreAmong m us o.list.items) (sym c.deref.ensures.value) (all_among m (stored ++ own) c.sort_by_key.new.self.items o.list.items same c.self.invariant.2)
