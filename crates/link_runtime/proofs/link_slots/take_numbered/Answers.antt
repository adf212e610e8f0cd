use Rattle.std.proofs.Common.{rules, ◌≡◌, ◌≢◌, ◌≤◌, inl, List, length, subst, take_all, ◌∙◌}
use Rattle.std.specs.Arc.{arc_value}
use Rattle.merge_laws.specs.Orders.{IsIn}
use Rattle.link_runtime.specs.Slots.{number_of}
use Rattle.link_runtime.proofs.TableLemmas.{none_more}
use Rattle.link_runtime.proofs.link_slots.take_numbered.Goals as goal

pub loop-at-preserved : goal.loop-at-preserved
loop-at-preserved c = (
  none_more (λ x. number_of (arc_value x)) c.args.number c.loop-at.connections.items c.loop-at.at c.index.result.now (search rules) c.index.ensures c.loop-at.invariant.0 (search rules),
  c.loop-at.invariant.1,
)

pub returns : goal.returns
returns c =
    let all : length c.loop-at.connections.items ≤ c.loop-at.at = search rules in
    inl (c.loop-at.invariant.1, subst (λ (xs : List _). (x : _) → IsIn x xs → number_of (arc_value x) ≢ c.args.number) (take_all c.loop-at.at c.loop-at.connections.items all ∙ c.loop-at.invariant.1) c.loop-at.invariant.0)
