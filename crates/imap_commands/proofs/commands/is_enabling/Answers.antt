use Rattle.std.proofs.Common.{ap}
use Rattle.imap_commands.specs.declared.command_rule.CommandRule.{CommandRule}
use Rattle.imap_commands.proofs.commands.is_enabling.Goals as goal

pub returns : goal.returns
returns c = ap (λ (rule : CommandRule). rule.enables_condstore) c.rule_of.ensures
