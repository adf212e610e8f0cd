use Rattle.std.proofs.Common.{ℕ, List, ◌++◌, ap, subst, ◌∙◌}
use Rattle.crdt_ops.specs.declared.op.Op.{Op}
use Rattle.imap_connection.specs.Dumps.{IsDump}
use Rattle.imap_connection.proofs.DumpLemmas.{lists_applied}
use Rattle.imap_connection.proofs.dump.write_dump.Goals as goal

pub returns-clause-ok : goal.returns-clause-ok
returns-clause-ok c =
    let node = c.args.node.now.state in
    let replica = c.replica-replica.result.now in
    let clock = c.clock.result.now in
    let text = c.in_ok-text.text.items in
    let written = c.in_ok-text.ensures {u = tt} in
    let dump : IsDump replica.start.replica replica.applied text =
    lists_applied replica.start.replica replica.applied c.op_list-ops.result.now clock c.entries-entries.result.now text
    c.op_list-ops.ensures.lawful.causal c.op_list-ops.ensures.sound
    c.entries-entries.ensures.is_clock c.clock.ensures c.op_list-ops.ensures.applied c.entries-entries.ensures.entries written in (
      text,
      subst (λ (r : ℕ). IsDump r node.applied text) (ap (λ start. start.replica) c.replica-replica.ensures.start)
          (subst (λ (os : List Op). IsDump replica.start.replica os text) c.replica-replica.ensures.applied dump),
      (c.in_ok-extend_from_slice.ensures {u = tt}).items ∙ ap (λ t. c.args.out.now.items ++ t) c.deref.ensures.value,
    )
