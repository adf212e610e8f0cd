use Rattle.std.proofs.Common.{rules}
use Rattle.std.proofs.lemmas.Fn.{always_returns_same}
use Rattle.tree_list.specs.Searches.{IsPoint}
use Rattle.causal_inbox.proofs.EntryOrder.{entry_at_point, index_put, entry_before_parts, is_before, is_entry_before}
use Rattle.causal_inbox.proofs.cause_index.place_of.Goals as goal

point : (c : goal.After-partition_point) → IsPoint (is_entry_before c.args.entry.now) c.args.entries.now c.partition_point.result
point c = c.partition_point.ensures.point (is_entry_before c.args.entry.now) (always_returns_same _ _ _ (λ a r f called. search (rules, is_before))) (entry_before_parts c.args.entry.now c.args.entries.now c.requires)

pub returns-clause-place : goal.returns-clause-place
returns-clause-place c = index_put c.args.entry.now c.args.entries.now c.partition_point.result c.requires c.partition_point.ensures.within (point c)

pub returns-clause-member : goal.returns-clause-member
returns-clause-member c = entry_at_point c.args.entry.now c.args.entries.now c.partition_point.result c.requires (point c)
