use Rattle.std.proofs.Common.{rules}
use Rattle.std.proofs.lemmas.Fn.{always_returns_same}
use Rattle.tree_list.specs.Searches.{IsPoint}
use Rattle.causal_inbox.proofs.EntryOrder.{is_less}
use Rattle.causal_inbox.proofs.CauseIndexLemmas.{op_at_point, held_put, is_lesser_id, lesser_parts}
use Rattle.causal_inbox.proofs.held_store.held_place.Goals as goal

point : (g : _) (c : goal.After-partition_point g) → IsPoint (is_lesser_id g.O.Caused.id c.args.id) c.args.list.now c.partition_point.result
point g c = c.partition_point.ensures.point (is_lesser_id g.O.Caused.id c.args.id) (always_returns_same _ _ _ (λ a r f called. search (rules, is_less))) (lesser_parts g.O.Caused.id c.args.id c.args.list.now c.requires)

pub returns-clause-place : goal.returns-clause-place
returns-clause-place g c = held_put g.O.Caused.id c.args.id c.args.list.now c.partition_point.result c.requires c.partition_point.ensures.within (point g c)

pub returns-clause-member : goal.returns-clause-member
returns-clause-member g c = op_at_point g.O.Caused.id c.args.id c.args.list.now c.partition_point.result c.requires (point g c)
