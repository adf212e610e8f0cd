use Rattle.std.proofs.Common.{◌≡◌, ℕ, ◌+◌, ◌++◌, ◌∷◌, [], List, take, sym, subst, arith}
use Rattle.std.proofs.lemmas.Grind.{common_steps}
use Rattle.crdt_ops.specs.declared.op.Op.{Op}
use Rattle.tags_clocks.specs.Clock.{IsRaised}
use Rattle.link_connection.specs.Sent.{IsRaisedBy}
use Rattle.link_connection.proofs.SendLemmas.{raised_more}
use Rattle.link_connection.proofs.link_writer.raised_by.Goals as goal

pub loop-op-preserved : goal.loop-op-preserved
loop-op-preserved c =
    let at = c.loop-op in
    let ops = c.args.ops.now in
    let op = c.op-item.result in
    let front = take at.op-index ops in
    let next : take (at.op-index + 1) ops ≡ front ++ op ∷ [] = grind (arith, common_steps, c.op-item.is) in
    let raised : IsRaised at.raised c.op.result.now.id.replica c.op.result.now.id.number c.raise.new.self =
    subst (λ (number : ℕ). IsRaised at.raised c.op.result.now.id.replica number c.raise.new.self) c.get.ensures.number (c.in_ok-raise.ensures {u = tt}).raised
    in
    let by_op : IsRaised at.raised op.id.replica op.id.number c.raise.new.self = subst (λ (o : Op). IsRaised at.raised o.id.replica o.id.number c.raise.new.self) c.op.ensures.op raised in
    subst (λ (all : List Op). IsRaisedBy c.args.covered.now all c.raise.new.self) (sym next) (raised_more c.args.covered.now at.raised c.raise.new.self front op at.invariant by_op)
