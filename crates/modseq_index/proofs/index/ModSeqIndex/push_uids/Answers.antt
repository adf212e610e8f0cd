use Rattle.std.proofs.Common.{◌≡◌, ◌≤◌, ◌∙◌, ◌++◌, List, length, get_or, map, drop, leb, ap, sym, subst, arith, append-nil}
use Rattle.std.proofs.lemmas.List.{drop_all, take_rest}
use Rattle.modseq_index.specs.declared.index.ModSeqEntry.{ModSeqEntry}
use Rattle.modseq_index.specs.ModSeqIndex.{IndexState, uids_above}
use Rattle.modseq_index.specs.Edges.{IsEdge}
use Rattle.modseq_index.proofs.ModSeqIndexLemmas.{above_edge}
use Rattle.modseq_index.proofs.index.ModSeqIndex.push_uids.Goals as goal

pub returns : goal.returns
returns c =
    let m = c.args.modseq in
    let cs = c.self.inside.list.items in
    let from = c.first_above-from.result in
    let old = c.args.uids.now.items in
    let uids_of = map (λ (c : ModSeqEntry). c.uid) in
    let within : from ≤ length cs = subst (λ xs. from ≤ length xs) c.deref.ensures.value c.first_above-from.ensures.within in
    let edge = subst (λ (xs : List ModSeqEntry). (d : ModSeqEntry) → IsEdge (λ i. leb (get_or xs i d).modseq m) (length xs) from) c.deref.ensures.value c.first_above-from.ensures.edge in
    let changed = above_edge m 0 cs from c.self.invariant within edge in
    sym (append-nil c.loop-entry.uids.items)
    ∙ ap (λ xs. c.loop-entry.uids.items ++ uids_of xs) (sym (drop_all c.loop-entry.entry-index _ (omega (arith, c.loop-entry-test.false))))
    ∙ c.loop-entry.invariant
    ∙ ap (λ xs. old ++ uids_of xs) (take_rest c.deref-2.result.now from)
    ∙ ap (λ xs. old ++ uids_of (drop from xs)) c.deref-2.ensures.value
    ∙ ap (λ xs. old ++ uids_of xs) changed
    ∙ ap (λ (n : IndexState). old ++ uids_above m n.entries) c.self.view_is
