use Rattle.std.proofs.Common.{List, inl, inr, subst, sym}
use Rattle.crdt_ops.specs.declared.op.Op.{Op}
use Rattle.crdt_ops.specs.Sound.{IsSound}
use Rattle.merge_laws.specs.Orders.{AreSound}
use Rattle.imap_node.specs.Operations.{AreNext}
use Rattle.imap_node.proofs.ready_ops.ready_next_ops.Goals as goal

pub make_room-requires-clause-sound : goal.make_room-requires-clause-sound
make_room-requires-clause-sound c = subst (AreSound IsSound) (sym c.deref.ensures.value) (c.in_ok-ops.ensures {u = tt}).sound

pub returns-in-Ok-clause-next : goal.returns-in-Ok-clause-next
returns-in-Ok-clause-next c = (c.in_ok-ops.ensures {u = tt}).next

pub returns-in-Err-clause-err : goal.returns-in-Err-clause-err
returns-in-Err-clause-err c =
    elim (c.in-Err.ensures {u = tt}).err [
      | inl none ↦ inl none
      | inr used ↦
          let next = subst (λ (ops : List Op). AreNext c.args.replica.now.start.replica c.args.replica.now.applied c.args.kinds.items ops) (sym c.deref.ensures.value) (c.in_ok-ops.ensures {u = tt}).next in
          inr (used.0, inr (c.deref.result.now, next, used.1))
    ]
