use Rattle.std.proofs.Common.{◌≡◌, IfOk, subst, sym}
use Rattle.imap_commands.specs.MemoryFaults.{EqualsOrLacksMemory}
use Rattle.imap_commands.specs.Commands.{command_intent, messages_named_by_command}
use Rattle.imap_commands.specs.SearchCommand.{intent_to_search}
use Rattle.imap_commands.specs.declared.intent.Intent.{Intent}
use Rattle.imap_syntax.specs.declared.command.Command.{Command}
use Rattle.imap_commands.proofs.commands.command_intent.Goals as goal

pub returns-in-Login-clause-gives : goal.returns-in-Login-clause-gives
returns-in-Login-clause-gives g c =
    subst (λ (command : Command). EqualsOrLacksMemory (λ (intent : Intent). intent.kinds.items) c.intent_to_login.result (command_intent (g.R.ReplicaMail.before c.args.replica.now) c.args.stamp.now c.args.state.now command)) (sym c.in-Login.is)
    c.intent_to_login.ensures.gives

pub returns-in-Create-clause-gives : goal.returns-in-Create-clause-gives
returns-in-Create-clause-gives g c =
    subst (λ (command : Command). EqualsOrLacksMemory (λ (intent : Intent). intent.kinds.items) c.intent_to_create.result (command_intent (g.R.ReplicaMail.before c.args.replica.now) c.args.stamp.now c.args.state.now command)) (sym c.in-Create.is)
    c.intent_to_create.ensures.gives

pub returns-in-Delete-clause-gives : goal.returns-in-Delete-clause-gives
returns-in-Delete-clause-gives g c =
    subst (λ (command : Command). EqualsOrLacksMemory (λ (intent : Intent). intent.kinds.items) c.intent_to_delete.result (command_intent (g.R.ReplicaMail.before c.args.replica.now) c.args.stamp.now c.args.state.now command)) (sym c.in-Delete.is)
    c.intent_to_delete.ensures.gives

pub returns-in-Subscribe-clause-gives : goal.returns-in-Subscribe-clause-gives
returns-in-Subscribe-clause-gives g c =
    subst (λ (command : Command). EqualsOrLacksMemory (λ (intent : Intent). intent.kinds.items) c.intent_to_subscribe.result (command_intent (g.R.ReplicaMail.before c.args.replica.now) c.args.stamp.now c.args.state.now command)) (sym c.in-Subscribe.is)
    c.intent_to_subscribe.ensures.gives

pub returns-in-Unsubscribe-clause-gives : goal.returns-in-Unsubscribe-clause-gives
returns-in-Unsubscribe-clause-gives g c =
    subst (λ (command : Command). EqualsOrLacksMemory (λ (intent : Intent). intent.kinds.items) c.intent_to_unsubscribe.result (command_intent (g.R.ReplicaMail.before c.args.replica.now) c.args.stamp.now c.args.state.now command)) (sym c.in-Unsubscribe.is)
    c.intent_to_unsubscribe.ensures.gives

pub returns-in-Append-clause-gives : goal.returns-in-Append-clause-gives
returns-in-Append-clause-gives g c =
    subst (λ (command : Command). EqualsOrLacksMemory (λ (intent : Intent). intent.kinds.items) c.intent_to_append.result (command_intent (g.R.ReplicaMail.before c.args.replica.now) c.args.stamp.now c.args.state.now command)) (sym c.in-Append.is)
    c.intent_to_append.ensures.gives

pub returns-in-UidExpunge-clause-gives : goal.returns-in-UidExpunge-clause-gives
returns-in-UidExpunge-clause-gives g c =
    subst (λ (command : Command). EqualsOrLacksMemory (λ (intent : Intent). intent.kinds.items) c.intent_to_uid_expunge.result (command_intent (g.R.ReplicaMail.before c.args.replica.now) c.args.stamp.now c.args.state.now command)) (sym c.in-UidExpunge.is)
    c.intent_to_uid_expunge.ensures.gives

pub returns-in-Fetch-clause-gives : goal.returns-in-Fetch-clause-gives
returns-in-Fetch-clause-gives g c =
    subst (λ (command : Command). EqualsOrLacksMemory (λ (intent : Intent). intent.kinds.items) c.intent_to_fetch.result (command_intent (g.R.ReplicaMail.before c.args.replica.now) c.args.stamp.now c.args.state.now command)) (sym c.in-Fetch.is)
    c.intent_to_fetch.ensures.gives

pub returns-in-Store-clause-gives : goal.returns-in-Store-clause-gives
returns-in-Store-clause-gives g c =
    subst (λ (command : Command). EqualsOrLacksMemory (λ (intent : Intent). intent.kinds.items) c.intent_to_store.result (command_intent (g.R.ReplicaMail.before c.args.replica.now) c.args.stamp.now c.args.state.now command)) (sym c.in-Store.is)
    c.intent_to_store.ensures.gives

pub returns-in-Copy-clause-gives : goal.returns-in-Copy-clause-gives
returns-in-Copy-clause-gives g c =
    subst (λ (command : Command). EqualsOrLacksMemory (λ (intent : Intent). intent.kinds.items) c.intent_to_copy.result (command_intent (g.R.ReplicaMail.before c.args.replica.now) c.args.stamp.now c.args.state.now command)) (sym c.in-Copy.is)
    c.intent_to_copy.ensures.gives

pub returns-in-Move-clause-gives : goal.returns-in-Move-clause-gives
returns-in-Move-clause-gives g c =
    subst (λ (command : Command). EqualsOrLacksMemory (λ (intent : Intent). intent.kinds.items) c.intent_to_move.result (command_intent (g.R.ReplicaMail.before c.args.replica.now) c.args.stamp.now c.args.state.now command)) (sym c.in-Move.is)
    c.intent_to_move.ensures.gives

pub returns-in-Search-clause-gives : goal.returns-in-Search-clause-gives
returns-in-Search-clause-gives g c =
    subst (λ (command : Command). EqualsOrLacksMemory (λ (intent : Intent). intent.kinds.items) c.intent_to_search.result (command_intent (g.R.ReplicaMail.before c.args.replica.now) c.args.stamp.now c.args.state.now command)) (sym c.in-Search.is)
    (subst (λ steps. EqualsOrLacksMemory (λ (intent : Intent). intent.kinds.items) c.intent_to_search.result (intent_to_search c.args.state.now steps)) c.as_slice.ensures.steps c.intent_to_search.ensures.gives)

pub returns-in-UidExpunge-clause-named : goal.returns-in-UidExpunge-clause-named
returns-in-UidExpunge-clause-named g c =
    subst (λ (command : Command). IfOk c.intent_to_uid_expunge.result (λ intent. intent.named ≡ messages_named_by_command (g.R.ReplicaMail.before c.args.replica.now) c.args.state.now command)) (sym c.in-UidExpunge.is)
    c.intent_to_uid_expunge.ensures.named

pub returns-in-Fetch-clause-named : goal.returns-in-Fetch-clause-named
returns-in-Fetch-clause-named g c =
    subst (λ (command : Command). IfOk c.intent_to_fetch.result (λ intent. intent.named ≡ messages_named_by_command (g.R.ReplicaMail.before c.args.replica.now) c.args.state.now command)) (sym c.in-Fetch.is)
    c.intent_to_fetch.ensures.named

pub returns-in-Store-clause-named : goal.returns-in-Store-clause-named
returns-in-Store-clause-named g c =
    subst (λ (command : Command). IfOk c.intent_to_store.result (λ intent. intent.named ≡ messages_named_by_command (g.R.ReplicaMail.before c.args.replica.now) c.args.state.now command)) (sym c.in-Store.is)
    c.intent_to_store.ensures.named

pub returns-in-Copy-clause-named : goal.returns-in-Copy-clause-named
returns-in-Copy-clause-named g c =
    subst (λ (command : Command). IfOk c.intent_to_copy.result (λ intent. intent.named ≡ messages_named_by_command (g.R.ReplicaMail.before c.args.replica.now) c.args.state.now command)) (sym c.in-Copy.is)
    c.intent_to_copy.ensures.named

pub returns-in-Move-clause-named : goal.returns-in-Move-clause-named
returns-in-Move-clause-named g c =
    subst (λ (command : Command). IfOk c.intent_to_move.result (λ intent. intent.named ≡ messages_named_by_command (g.R.ReplicaMail.before c.args.replica.now) c.args.state.now command)) (sym c.in-Move.is)
    c.intent_to_move.ensures.named
