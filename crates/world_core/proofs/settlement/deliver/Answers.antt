use Rattle.std.proofs.Common.{◌≡◌, subst}
use Rattle.causal_inbox.specs.declared.delivery.DeliverFault.{DeliverFault}
use Rattle.crdt_ops.specs.declared.op.Op.{Op}
use Rattle.imap_node.specs.Deliveries.{IsRefusedAt}
use Rattle.world_core.specs.Exchanges.{IsReceivedOrOneOf}
use Rattle.world_core.specs.Settlement.{IsReceivedAt}
use Rattle.world_core.proofs.TakeLemmas.{delivered_in, delivers_takes, lacks_number, never_conflicts, never_full, not_taken_weaker, short_same, takes_same}
use Rattle.world_core.proofs.settlement.deliver.Goals as goal

pub unreachable-requires : goal.unreachable-requires
unreachable-requires c = never_conflicts c.args.node.now.state c.args.op c.in-Err-Conflict.field-0-0
    (subst (λ (f : DeliverFault). IsRefusedAt c.args.node.now.state c.args.op f) c.in-Err-Conflict.field-0-is ((c.in-Err-Conflict.ensures {u = tt}).answer)) c.requires.agreed

pub unreachable-requires-in-Err-HeldFull : goal.unreachable-requires-in-Err-HeldFull
unreachable-requires-in-Err-HeldFull c = never_full c.args.node.now.state c.args.op
    (subst (λ (f : DeliverFault). IsRefusedAt c.args.node.now.state c.args.op f) c.in-Err-HeldFull.field-0-is ((c.in-Err-HeldFull.ensures {u = tt}).answer)) c.requires.causes

pub returns-then-delivered-clause-short : goal.returns-then-delivered-clause-short
returns-then-delivered-clause-short c =
    short_same (IsReceivedOrOneOf c.args.node.now.state (λ (one : Op). c.args.op ≡ one)) c.deliver.new.self.state c.stall_fault.new.node.state c.stall_fault.result
    (not_taken_weaker (IsReceivedAt c.deliver.new.self.state) (IsReceivedOrOneOf c.args.node.now.state (λ (one : Op). c.args.op ≡ one)) c.deliver.new.self.state c.stall_fault.result c.stall_fault.ensures.short
    (delivers_takes c.args.node.now.state c.deliver.new.self.state c.args.op c.in-Ok.delivered.arrival (c.in-Ok.ensures {u = tt}).answer).received)
    c.stall_fault.ensures.same

pub returns-then-delivered-clause-takes : goal.returns-then-delivered-clause-takes
returns-then-delivered-clause-takes c =
    takes_same (IsReceivedOrOneOf c.args.node.now.state (λ (one : Op). c.args.op ≡ one)) c.args.node.now.state c.deliver.new.self.state c.stall_fault.new.node.state
    (delivers_takes c.args.node.now.state c.deliver.new.self.state c.args.op c.in-Ok.delivered.arrival (c.in-Ok.ensures {u = tt}).answer) c.stall_fault.ensures.same

pub returns-else-delivered-clause-ok : goal.returns-else-delivered-clause-ok
returns-else-delivered-clause-ok c = (
  λ r. absurd (let t = (c.in-Ok.ensures {u = tt}).stalled.1 r in let f = c.if-delivered.false in cc (t, f)),
  delivered_in c.args.node.now.state c.deliver.new.self.state c.args.op c.in-Ok.delivered.arrival (c.in-Ok.ensures {u = tt}).answer c.requires.causes c.op_list-applied.ensures.orderly c.requires.quiet,
)

pub returns-else-delivered-clause-takes : goal.returns-else-delivered-clause-takes
returns-else-delivered-clause-takes c = delivers_takes c.args.node.now.state c.deliver.new.self.state c.args.op c.in-Ok.delivered.arrival (c.in-Ok.ensures {u = tt}).answer

pub returns-in-Err-Exhausted-clause-short : goal.returns-in-Err-Exhausted-clause-short
returns-in-Err-Exhausted-clause-short c = lacks_number c.args.node.now.state c.deliver.new.self.state c.args.op
    (subst (λ (f : DeliverFault). IsRefusedAt c.args.node.now.state c.args.op f) c.in-Err-Exhausted.field-0-is ((c.in-Err-Exhausted.ensures {u = tt}).answer)) (c.in-Err-Exhausted.ensures {u = tt}).err
