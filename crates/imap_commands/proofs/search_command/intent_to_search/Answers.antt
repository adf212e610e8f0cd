use Rattle.std.proofs.Common.{◌≡◌, rules, subst, sym}
use Rattle.std.specs.Prelude.{Ok}
use Rattle.imap_commands.specs.MemoryFaults.{EqualsOrLacksMemory}
use Rattle.imap_commands.specs.SearchCommand.{intent_to_search}
use Rattle.imap_commands.specs.declared.intent.Intent.{Intent}
use Rattle.imap_commands.specs.declared.session.State.{State}
use Rattle.imap_commands.proofs.search_command.intent_to_search.Goals as goal

pub returns-in_err-kinds-clause-gives : goal.returns-in_err-kinds-clause-gives
returns-in_err-kinds-clause-gives c =
    subst (λ (s : State). EqualsOrLacksMemory (λ (intent : Intent). intent.kinds.items) c.from_residual.result (intent_to_search s c.args.steps.now)) (sym c.in-Selected.is) (search rules)

pub returns-clause-gives : goal.returns-clause-gives
returns-clause-gives c = subst (λ (s : State). intent_to_search s c.args.steps.now ≡ Ok c.of_kinds.result.kinds.items) (sym c.in-Selected.is) (search rules)
