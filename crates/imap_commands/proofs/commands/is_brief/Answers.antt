use Rattle.std.proofs.Common.{ap}
use Rattle.imap_commands.specs.declared.command_rule.CommandRule.{CommandRule}
use Rattle.imap_commands.proofs.commands.is_brief.Goals as goal

pub returns : goal.returns
returns c = ap (λ (rule : CommandRule). rule.is_brief) c.rule_of.ensures
