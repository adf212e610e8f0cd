use Rattle.imap_commands.proofs.RuleLemmas.{brief_intent, brief_issues_none, brief_report, brief_stays, brief_wakes}
use Rattle.imap_commands.proofs.laws.brief_commands_depend_on_no_mailbox.Goals as goal

pub returns : goal.returns
returns c = record { issues = brief_issues_none; idles = brief_wakes; state = brief_stays; intent = brief_intent; report = brief_report }
