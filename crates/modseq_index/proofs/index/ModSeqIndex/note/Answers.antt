use Rattle.std.proofs.Common.{◌≤◌, ap, sym, subst, arith}
use Rattle.modseq_index.specs.declared.index.ModSeqEntry.{ModSeqEntry}
use Rattle.modseq_index.specs.ModSeqIndex.{AreInOrder, latest}
use Rattle.modseq_index.proofs.ModSeqIndexLemmas.{order_put}
use Rattle.modseq_index.proofs.index.ModSeqIndex.note.Goals as goal

pub invariant_of-self : goal.invariant_of-self
invariant_of-self c =
    let cs = c.self.inside.list.items in
    let x : ModSeqEntry = record { modseq = c.args.modseq; uid = c.args.uid } in
    let last : latest cs ≤ c.args.modseq = subst (λ es. latest es ≤ c.args.modseq) (sym (ap (λ s. s.entries) c.self.view_is)) c.requires.order in
    subst (AreInOrder 0) (sym c.push_reserved.ensures.items) (order_put 0 cs x (omega arith) last c.self.invariant)
