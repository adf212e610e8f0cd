use Rattle.std.proofs.Common.{◌≡◌, inl, List, [], ◌∷◌, ◌++◌, sym, subst, rules}
use Rattle.crdt_ops.specs.declared.op.Op.{Op}
use Rattle.mail_audit.proofs.AppliedLemmas.{ordered_append}
use Rattle.mail_audit.specs.DumpLines.{IsAboveLast}
use Rattle.mail_audit.specs.Dumps.{AreOrdered}
use Rattle.mail_audit.proofs.op_lines.OpLines.push.Goals as goal

pub returns-in_ok-push-in-Some : goal.returns-in_ok-push-in-Some
returns-in_ok-push-in-Some c =
    let old = c.args.self.now.ops.items in
    let items : c.push.new.self.items ≡ old ++ c.args.op ∷ [] = search rules in
    let above : IsAboveLast c.deref.result.now c.args.op.id = c.is_above.ensures.0 (search rules) in
    let after : IsAboveLast old c.args.op.id = subst (λ (os : List Op). IsAboveLast os c.args.op.id) c.deref.ensures.value above in
    inl (c.if-self.false, c.if-self.false, items, λ a. subst AreOrdered (sym items) (ordered_append old c.args.op after a))
