-- The rules of commands as far as they are the same in each state of a session: what most commands
-- have in common.

use Rattle.std.specs.Prelude.{Bool, true, false, Some, if◌then◌else◌}
use Rattle.imap_answers.specs.declared.fixed_words.CompletedWord.{CompletedWord}
use Rattle.session_view.specs.declared.view_entry.SyncKind.{SyncKind}
use Rattle.session_view.specs.declared.view_entry.SyncKind.TheVariants.{Full, Partial}
use Rattle.imap_commands.specs.declared.command_rule.CommandRule.{CommandRule}

-- The rule of a command that issues nothing and is followed by a full sync.
abbrev pub plain_rule : CompletedWord → CommandRule
plain_rule word =
    record {
      word = word;
      sync = Some Full;
      enables_condstore = false;
      selects = false;
      idles = false;
      may_issue = false;
      is_brief = false;
    }

-- The rule of a brief command: it issues nothing, and what it answers depends on no mailbox.
abbrev pub brief_rule : CompletedWord → CommandRule
brief_rule word = record (plain_rule word) { is_brief = true }

-- The rule of a command that may issue operations and is followed by a full sync.
abbrev pub issuing_rule : CompletedWord → CommandRule
issuing_rule word = record (plain_rule word) { may_issue = true }

-- The kind of sync: no EXPUNGE if messages are named by their numbers, which it would shift (RFC
-- 9051, section 7.5.1).
abbrev pub sync_kind_by : Bool → SyncKind
sync_kind_by by_uid = if by_uid then Full else Partial
