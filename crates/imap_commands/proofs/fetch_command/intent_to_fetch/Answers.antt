use Rattle.std.proofs.Common.{◌≡◌, IfOk, true, subst, sym}
use Rattle.imap_commands.specs.Arguments.{OpenMailbox}
use Rattle.imap_commands.specs.MemoryFaults.{EqualsOrLacksMemory}
use Rattle.imap_commands.specs.NamedMessages.{messages_named_by, messages_named_in}
use Rattle.imap_commands.specs.FetchCommand.{fetch_intent, intent_to_fetch}
use Rattle.imap_commands.specs.declared.intent.Intent.{Intent}
use Rattle.imap_commands.specs.declared.session.State.{State}
use Rattle.imap_commands.proofs.fetch_command.intent_to_fetch.Goals as goal

pub returns-clause-gives : goal.returns-clause-gives
returns-clause-gives g c =
    let before = g.R.ReplicaMail.before c.args.replica.now in
    subst (λ (s : State). EqualsOrLacksMemory (λ (intent : Intent). intent.kinds.items) c.fetch_intent-intent.result (intent_to_fetch before s c.args.request.now)) (sym c.in-Selected.is)
    (subst (λ (m : OpenMailbox). EqualsOrLacksMemory (λ (intent : Intent). intent.kinds.items) c.fetch_intent-intent.result (fetch_intent m c.args.request.now)) (c.in_ok-mailbox.ensures {u = tt}) c.fetch_intent-intent.ensures.gives)

pub returns-clause-named : goal.returns-clause-named
returns-clause-named g c =
    let before = g.R.ReplicaMail.before c.args.replica.now in
    subst (λ (s : State). IfOk c.fetch_intent-intent.result (λ intent. intent.named ≡ messages_named_in s c.args.request.now.by_uid c.args.request.now.messages)) (sym c.in-Selected.is)
    (subst (λ (m : OpenMailbox). IfOk c.fetch_intent-intent.result (λ intent. intent.named ≡ messages_named_by c.args.request.now.by_uid c.args.request.now.messages m.view)) (c.in_ok-mailbox.ensures {u = tt}) c.fetch_intent-intent.ensures.named)
