use Rattle.std.proofs.Common.{arith, rules}
use Rattle.std.proofs.lemmas.List.Sorted.{IsNonDecreasingBy-from_sort_by_key}
use Rattle.modseq_index.specs.declared.index.ModSeqEntry.{ModSeqEntry}
use Rattle.modseq_index.proofs.ModSeqIndexLemmas.{in_order_from}
use Rattle.modseq_index.proofs.index.ModSeqIndex.from_entries.Goals as goal

pub invariant_of-result : goal.invariant_of-result
invariant_of-result c =
    in_order_from 0 c.sort_unstable_by_key.new.self.items (λ d k. omega arith)
    (IsNonDecreasingBy-from_sort_by_key (λ (c : ModSeqEntry). c.modseq) _ c.sort_unstable_by_key.ensures.sorted (λ a r q k. search rules))

pub returns-clause-order : goal.returns-clause-order
returns-clause-order c =
    in_order_from 0 c.sort_unstable_by_key.new.self.items (λ d k. omega arith)
    (IsNonDecreasingBy-from_sort_by_key (λ (c : ModSeqEntry). c.modseq) _ c.sort_unstable_by_key.ensures.sorted (λ a r q k. search rules))
