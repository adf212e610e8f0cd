use Rattle.std.proofs.Common.{List, subst}
use Rattle.op_log.specs.declared.entry.Entry.{Entry}
use Rattle.log_dump.specs.Restoration.{IsEntriesFault, IsRestoredNode}
use Rattle.log_dump.proofs.LogDumpLemmas.{dump_result}
use Rattle.log_dump.proofs.dump.dump_or_fault.Goals as goal

pub returns-in-Ok : goal.returns-in-Ok
returns-in-Ok c =
    dump_result c.args.log.now c.in_ok-entries.entries.items c.in-Ok.node.state (λ text. text.items) c.node_dump.result c.in_ok-entries.ensures
    (subst (λ (entries : List Entry). IsRestoredNode entries c.in-Ok.node.state) c.deref.ensures.value c.in-Ok.ensures) c.node_dump.ensures

pub returns-in-Err : goal.returns-in-Err
returns-in-Err c =
    c.dump_fault_at.ensures c.in_ok-entries.entries.items c.in_ok-entries.ensures
    (subst (λ (entries : List Entry). IsEntriesFault entries c.in-Err.fault) c.deref.ensures.value c.in-Err.ensures)
