use Rattle.std.proofs.Common.{ℕ, List, ap, ◌∙◌, subst}
use Rattle.crdt_ops.specs.declared.op.Op.{Op}
use Rattle.crdt_ops.specs.Form.{IsInForm, IsReplica}
use Rattle.merge_laws.specs.Orders.{AreSound}
use Rattle.imap_connection.specs.Dumps.{IsDump}
use Rattle.mail_audit.specs.Dumps.{IsRightDump}
use Rattle.mail_replay.proofs.RightDumpLemmas.{right_with_dump, right_dump}
use Rattle.mail_replay.proofs.dump_laws.dumps_are_right.Goals as goal

pub returns : goal.returns
returns c =
    let node = c.args.node.now.state in
    let listed = c.op_list.ensures in
    let named : IsReplica node.start.replica = subst (λ (r : ℕ). IsReplica r) (c.id.ensures ∙ ap (λ start. start.replica) c.replica.ensures.start) c.replica_fits.ensures in
    let form : AreSound IsInForm node.applied = subst (λ (ops : List Op). AreSound IsInForm ops) listed.applied c.ops_have_texts.ensures in
    let right : (text : List ℕ) → IsDump node.start.replica node.applied text → IsRightDump text =
    λ text dump. right_dump node.start.replica node.applied text named form listed.sound listed.orderly.causal dump in
    record { dumps = right; lines = λ text dump front before. right_with_dump front text (right text dump) before }
