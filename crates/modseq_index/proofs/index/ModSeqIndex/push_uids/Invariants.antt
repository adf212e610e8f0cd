use Rattle.std.proofs.Common.{◌≡◌, ◌++◌, map, drop}
use Rattle.modseq_index.specs.declared.index.ModSeqEntry.{ModSeqEntry}
use Rattle.modseq_index.proofs.index.ModSeqIndex.push_uids.Given as goal

abbrev pub invariant-loop-entry : goal.invariant-loop-entry
invariant-loop-entry l =
    l.uids.items ++ map (λ (c : ModSeqEntry). c.uid) (drop l.entry-index l.entry-items) ≡ l.initial.uids.items ++ map (λ (c : ModSeqEntry). c.uid) l.entry-items
