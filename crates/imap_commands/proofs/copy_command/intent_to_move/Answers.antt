use Rattle.std.proofs.Common.{◌≡◌, Bool, IfOk, subst, sym}
use Rattle.imap_commands.specs.Arguments.{OpenMailbox}
use Rattle.imap_commands.specs.MailStates.{open_mailbox}
use Rattle.imap_commands.specs.MemoryFaults.{EqualsOrLacksMemory}
use Rattle.imap_commands.specs.NamedMessages.{messages_named_by, messages_named_in}
use Rattle.imap_commands.specs.CopyCommand.{move_intent, intent_to_move}
use Rattle.imap_commands.specs.declared.intent.Intent.{Intent}
use Rattle.imap_commands.specs.declared.session.State.{State}
use Rattle.imap_commands.proofs.copy_command.intent_to_move.Goals as goal

pub returns-clause-gives : goal.returns-clause-gives
returns-clause-gives g c =
    let before = g.R.ReplicaMail.before c.args.replica.now in
    subst (λ (s : State). EqualsOrLacksMemory (λ (intent : Intent). intent.kinds.items) c.move_intent-intent.result (intent_to_move before s c.args.request.now)) (sym c.in-Selected.is)
    (subst (λ (exists : Bool). EqualsOrLacksMemory (λ (intent : Intent). intent.kinds.items) c.move_intent-intent.result (move_intent (open_mailbox before c.in-Selected.view c.in-Selected.read_only) c.args.request.now exists)) c.exists.ensures
    (subst (λ (m : OpenMailbox). EqualsOrLacksMemory (λ (intent : Intent). intent.kinds.items) c.move_intent-intent.result (move_intent m c.args.request.now c.exists.result)) (c.in_ok-mailbox.ensures {u = tt}) c.move_intent-intent.ensures.gives))

pub returns-clause-named : goal.returns-clause-named
returns-clause-named g c =
    subst (λ (s : State). IfOk c.move_intent-intent.result (λ intent. intent.named ≡ messages_named_in s c.args.request.now.by_uid c.args.request.now.messages)) (sym c.in-Selected.is)
    (subst (λ (m : OpenMailbox). IfOk c.move_intent-intent.result (λ intent. intent.named ≡ messages_named_by c.args.request.now.by_uid c.args.request.now.messages m.view)) (c.in_ok-mailbox.ensures {u = tt}) c.move_intent-intent.ensures.named)
