use Rattle.std.proofs.Common.{◌≡◌, length, refl, rules}
use Rattle.imap_connection.proofs.OtherStepsLemmas.{delivery_is_step, last_delivered, none_delivered, no_other_steps}
use Rattle.imap_connection.proofs.interleaving.DeliveriesOthers.take_turn.Goals as goal
use Rattle.imap_connection.proofs.interleaving.DeliveriesOthers.take_turn.Goals.{in-Some, in_default}

pub returns-clause-other_steps : goal.returns-clause-other_steps
returns-clause-other_steps c = elim c.match-pop.branch [
  | in-Some w ↦ rw w.node-is (delivery_is_step _ _ _ _ w.deliver_op.ensures)
  | in_default w ↦ rw w.node-is (no_other_steps _ _)
]

pub returns-clause-exact : goal.returns-clause-exact
returns-clause-exact c = (
  refl,
  refl,
  elim c.match-pop.branch [
    | in-Some w ↦ rw w.node-is (last_delivered _ _ _ _ _ _ c.pop.ensures.items w.in-Some.is w.deliver_op.ensures)
    | in_default w ↦
        let empty : length c.args.self.now.ops.items ≡ 0 = search rules in
        rw w.node-is (none_delivered _ _ _ _ c.pop.ensures.items w.in_default.is empty)
  ],
)
