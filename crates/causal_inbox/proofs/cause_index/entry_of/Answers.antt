use Rattle.causal_inbox.proofs.EntryOrder.{indexed_under}
use Rattle.causal_inbox.proofs.cause_index.entry_of.Goals as goal

pub returns-clause-indexed : goal.returns-clause-indexed
returns-clause-indexed g c = λ applied k n. indexed_under g.O.Caused.id g.O.Caused.clock applied c.args.op.now c.awaited_cause.result (c.awaited_cause.ensures applied k) n
