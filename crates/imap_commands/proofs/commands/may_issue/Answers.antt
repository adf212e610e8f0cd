use Rattle.std.proofs.Common.{ap}
use Rattle.imap_commands.specs.declared.command_rule.CommandRule.{CommandRule}
use Rattle.imap_commands.proofs.commands.may_issue.Goals as goal

pub returns : goal.returns
returns c = ap (λ (rule : CommandRule). rule.may_issue) c.rule_of.ensures
