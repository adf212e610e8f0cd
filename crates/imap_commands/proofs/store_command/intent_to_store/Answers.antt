use Rattle.std.proofs.Common.{◌≡◌, IfOk, true, subst, sym}
use Rattle.imap_commands.specs.Arguments.{OpenMailbox}
use Rattle.imap_commands.specs.MemoryFaults.{EqualsOrLacksMemory}
use Rattle.imap_commands.specs.NamedMessages.{messages_stored_by, messages_stored_in}
use Rattle.imap_commands.specs.StoreCommand.{store_intent, intent_to_store}
use Rattle.imap_commands.specs.declared.intent.Intent.{Intent}
use Rattle.imap_commands.specs.declared.session.State.{State}
use Rattle.imap_commands.proofs.store_command.intent_to_store.Goals as goal

pub returns-clause-gives : goal.returns-clause-gives
returns-clause-gives g c =
    let before = g.R.ReplicaMail.before c.args.replica.now in
    subst (λ (s : State). EqualsOrLacksMemory (λ (intent : Intent). intent.kinds.items) c.store_intent-intent.result (intent_to_store before s c.args.request.now)) (sym c.in-Selected.is)
    (subst (λ (m : OpenMailbox). EqualsOrLacksMemory (λ (intent : Intent). intent.kinds.items) c.store_intent-intent.result (store_intent m c.args.request.now)) (c.in_ok-mailbox.ensures {u = tt}) c.store_intent-intent.ensures.gives)

pub returns-clause-named : goal.returns-clause-named
returns-clause-named g c =
    let before = g.R.ReplicaMail.before c.args.replica.now in
    subst (λ (s : State). IfOk c.store_intent-intent.result (λ intent. intent.named ≡ messages_stored_in before s c.args.request.now)) (sym c.in-Selected.is)
    (subst (λ (m : OpenMailbox). IfOk c.store_intent-intent.result (λ intent. intent.named ≡ messages_stored_by m c.args.request.now)) (c.in_ok-mailbox.ensures {u = tt}) c.store_intent-intent.ensures.named)
