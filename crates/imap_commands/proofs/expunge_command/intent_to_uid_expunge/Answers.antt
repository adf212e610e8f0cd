use Rattle.std.proofs.Common.{◌≡◌, IfOk, true, subst, sym}
use Rattle.imap_commands.specs.Arguments.{OpenMailbox}
use Rattle.imap_commands.specs.MemoryFaults.{EqualsOrLacksMemory}
use Rattle.imap_commands.specs.NamedMessages.{messages_named_by, messages_named_in}
use Rattle.imap_commands.specs.ExpungeCommand.{uid_expunge_intent, intent_to_uid_expunge}
use Rattle.imap_commands.specs.declared.intent.Intent.{Intent}
use Rattle.imap_commands.specs.declared.session.State.{State}
use Rattle.imap_commands.proofs.expunge_command.intent_to_uid_expunge.Goals as goal

pub returns-clause-gives : goal.returns-clause-gives
returns-clause-gives g c =
    let before = g.R.ReplicaMail.before c.args.replica.now in
    subst (λ (s : State). EqualsOrLacksMemory (λ (intent : Intent). intent.kinds.items) c.uid_expunge_intent-intent.result (intent_to_uid_expunge before s c.args.uids.now)) (sym c.in-Selected.is)
    (subst (λ (m : OpenMailbox). EqualsOrLacksMemory (λ (intent : Intent). intent.kinds.items) c.uid_expunge_intent-intent.result (uid_expunge_intent m c.args.uids.now)) (c.in_ok-mailbox.ensures {u = tt}) c.uid_expunge_intent-intent.ensures.gives)

pub returns-clause-named : goal.returns-clause-named
returns-clause-named g c =
    let before = g.R.ReplicaMail.before c.args.replica.now in
    subst (λ (s : State). IfOk c.uid_expunge_intent-intent.result (λ intent. intent.named ≡ messages_named_in s true c.args.uids.now)) (sym c.in-Selected.is)
    (subst (λ (m : OpenMailbox). IfOk c.uid_expunge_intent-intent.result (λ intent. intent.named ≡ messages_named_by true c.args.uids.now m.view)) (c.in_ok-mailbox.ensures {u = tt}) c.uid_expunge_intent-intent.ensures.named)
