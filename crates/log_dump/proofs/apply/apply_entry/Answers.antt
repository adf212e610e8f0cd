use Rattle.std.proofs.Common.{Ok, subst, sym}
use Rattle.op_log.specs.declared.entry.Entry.{Entry}
use Rattle.log_dump.proofs.RestorationLemmas.{AppliesEntry, applies_apply, applies_begin, applies_commit}
use Rattle.log_dump.proofs.apply.apply_entry.Goals as goal

pub returns-in-Begin : goal.returns-in-Begin
returns-in-Begin c = λ front is.
    subst (λ (entry : Entry). AppliesEntry c.args.replica front entry c.accept_name.result c.args.node.now.state) (sym c.in-Begin.is)
    (applies_begin c.args.replica front c.args.node.now.state is c.in-Begin.name c.accept_name.result c.accept_name.ensures)

pub returns-in-Apply : goal.returns-in-Apply
returns-in-Apply c = λ front is.
    subst (λ (entry : Entry). AppliesEntry c.args.replica front entry c.apply_op.result c.apply_op.new.node.state) (sym c.in-Apply.is)
    (applies_apply c.args.replica front c.args.node.now.state is c.in-Apply.op c.apply_op.new.node.state c.apply_op.result c.apply_op.ensures)

pub returns-in-Commit : goal.returns-in-Commit
returns-in-Commit c = λ front is.
    subst (λ (entry : Entry). AppliesEntry c.args.replica front entry (Ok tt) c.args.node.now.state) (sym c.in-Commit.is)
    (applies_commit c.args.replica front c.args.node.now.state is c.in-Commit.synced)
