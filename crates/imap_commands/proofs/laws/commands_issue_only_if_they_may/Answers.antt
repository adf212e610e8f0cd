use Rattle.imap_commands.proofs.RuleLemmas.{issues_none}
use Rattle.imap_commands.proofs.laws.commands_issue_only_if_they_may.Goals as goal

pub returns : goal.returns
returns c = issues_none
