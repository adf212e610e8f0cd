-- The rules of all commands: a line each, which names the definition of the command's family
-- (RFC 9051, section 6; RFC 7162; RFC 2177). The last line of some tables covers all others.

use Rattle.std.specs.Prelude.{◌≡◌, ℕ, Bool, true, false, List, [], Option, Some, None, Result}
use Rattle.std.specs.Prelude.{Ok}
use Rattle.crdt_ops.specs.declared.kind.Kind.{Kind}
use Rattle.imap_answers.specs.declared.fixed_words.CompletedWord.{CompletedWord}
use Rattle.imap_answers.specs.declared.fixed_words.Refusal.{Refusal}
use Rattle.imap_commands.specs.AppendCommand.{append_rule, intent_to_append, report_of_append}
use Rattle.imap_commands.specs.CopyCommand.{copy_rule, intent_to_copy, intent_to_move, move_rule}
use Rattle.imap_commands.specs.CopyCommand.{report_of_copy, report_of_move}
use Rattle.imap_commands.specs.EnableCommand.{enable_report, enable_rule}
use Rattle.imap_commands.specs.ExpungeCommand.{close_rule, expunge_rule, intent_to_close}
use Rattle.imap_commands.specs.ExpungeCommand.{intent_to_expunge, intent_to_uid_expunge}
use Rattle.imap_commands.specs.ExpungeCommand.{report_of_uid_expunge, uid_expunge_rule}
use Rattle.imap_commands.specs.FetchCommand.{fetch_rule, intent_to_fetch, report_of_fetch}
use Rattle.imap_commands.specs.Login.{intent_to_login, login_rule}
use Rattle.imap_commands.specs.MailStates.{MailState}
use Rattle.imap_commands.specs.Mailboxes.{create_rule, delete_rule, intent_to_create}
use Rattle.imap_commands.specs.Mailboxes.{intent_to_delete, intent_to_subscribe}
use Rattle.imap_commands.specs.Mailboxes.{intent_to_unsubscribe, subscribe_rule}
use Rattle.imap_commands.specs.Mailboxes.{unsubscribe_rule}
use Rattle.imap_commands.specs.NamedMessages.{NamedMessages, messages_named_in}
use Rattle.imap_commands.specs.NamedMessages.{messages_stored_in, no_messages_named}
use Rattle.imap_commands.specs.Report.{CommandReport, empty_report}
use Rattle.imap_commands.specs.SearchCommand.{IsReportOfSearch, intent_to_search, search_rule}
use Rattle.imap_commands.specs.SelectCommand.{IsReportOfSelect, examine_rule, intent_to_select}
use Rattle.imap_commands.specs.SelectCommand.{new_view, select_rule, selected_state}
use Rattle.imap_commands.specs.SelectCommand.{unselect_rule}
use Rattle.imap_commands.specs.SessionStates.{if_logged_in, if_selected}
use Rattle.imap_commands.specs.SimpleCommands.{IsReportOfList, capability_report}
use Rattle.imap_commands.specs.SimpleCommands.{capability_rule, idle_report, idle_rule}
use Rattle.imap_commands.specs.SimpleCommands.{intent_to_status, list_rule, logout_report}
use Rattle.imap_commands.specs.SimpleCommands.{logout_rule, namespace_report, namespace_rule}
use Rattle.imap_commands.specs.SimpleCommands.{noop_rule, report_of_status, status_rule}
use Rattle.imap_commands.specs.StoreCommand.{intent_to_store, report_of_store, store_rule}
use Rattle.imap_commands.specs.declared.command_rule.CommandRule.{CommandRule}
use Rattle.imap_commands.specs.declared.session.State.{State}
use Rattle.imap_commands.specs.declared.session.State.TheVariants.{Authenticated, LoggedOut}
use Rattle.imap_syntax.specs.declared.command.Command.{Command}
use Rattle.imap_syntax.specs.declared.command.Command.TheVariants as commands
use Rattle.mail_text.specs.Civil.{IsCivil}
use Rattle.session_view.specs.ViewState.{ViewState}
use Rattle.session_view.specs.declared.view_entry.SyncKind.{SyncKind}

-- ---- what is the same in each state of a session

-- A command's rule, apart from its intent and its report.
abbrev pub rule_of : Command → CommandRule
rule_of commands.Capability = capability_rule
rule_of commands.Noop = noop_rule
rule_of commands.Logout = logout_rule
rule_of (commands.Login user password) = login_rule
rule_of (commands.Enable names) = enable_rule names
rule_of (commands.Select name condstore) = select_rule condstore
rule_of (commands.Examine name condstore) = examine_rule condstore
rule_of (commands.Create name) = create_rule
rule_of (commands.Delete name) = delete_rule
rule_of (commands.Subscribe name) = subscribe_rule
rule_of (commands.Unsubscribe name) = unsubscribe_rule
rule_of (commands.ListNames request) = list_rule
rule_of commands.Namespace = namespace_rule
rule_of (commands.Status name items) = status_rule items
rule_of (commands.Append request) = append_rule
rule_of commands.Idle = idle_rule
rule_of commands.Close = close_rule
rule_of commands.Unselect = unselect_rule
rule_of commands.Expunge = expunge_rule
rule_of (commands.UidExpunge uids) = uid_expunge_rule
rule_of (commands.Search request) = search_rule request
rule_of (commands.Fetch request) = fetch_rule request
rule_of (commands.Store request) = store_rule request
rule_of (commands.Copy request) = copy_rule request
rule_of (commands.Move request) = move_rule request

-- The command's word in the tagged line.
abbrev pub word_of : Command → CompletedWord
word_of command = (rule_of command).word

-- The kind of sync after a command; `None` if there is no sync.
abbrev pub sync_of : Command → Option SyncKind
sync_of command = (rule_of command).sync

-- The command turns mod-sequences on (RFC 7162, section 3.1).
abbrev pub is_enabling : Command → Bool
is_enabling command = (rule_of command).enables_condstore

-- The command leaves the selected mailbox even if it is refused (RFC 9051, section 6.3.2).
abbrev pub is_selecting : Command → Bool
is_selecting command = (rule_of command).selects

-- The command begins an IDLE, whose tagged line is sent when it ends (RFC 2177, section 3).
abbrev pub is_idle : Command → Bool
is_idle command = (rule_of command).idles

-- The command may issue operations.
abbrev pub may_issue : Command → Bool
may_issue command = (rule_of command).may_issue

-- The command is brief: it issues nothing, and what it answers depends on no mailbox.
abbrev pub is_brief : Command → Bool
is_brief command = (rule_of command).is_brief

-- ---- what a command issues, names and reports

-- The date-time that a command records: APPEND records that of its moment, no other command records
-- any.
abbrev pub IsStampFor : Command → ℕ → List ℕ → Type 0
IsStampFor (commands.Append request) moment stamp = IsCivil moment stamp
IsStampFor command moment stamp = Unit {0}

-- What a command issues, given the replica before it, or the first reason to refuse it. The stamp
-- is the date-time of the command's moment.
abbrev pub command_intent : MailState → List ℕ → State → Command → Result (List Kind) Refusal
command_intent mail stamp state commands.Capability = Ok []
command_intent mail stamp state commands.Noop = Ok []
command_intent mail stamp state commands.Logout = Ok []
command_intent mail stamp state (commands.Login user password) = intent_to_login state user password
command_intent mail stamp state (commands.Enable names) = if_logged_in state (Ok [])
command_intent mail stamp state (commands.Select name condstore) = intent_to_select mail state name
command_intent mail stamp state (commands.Examine name condstore) = intent_to_select mail state name
command_intent mail stamp state (commands.Create name) = intent_to_create mail state name
command_intent mail stamp state (commands.Delete name) = intent_to_delete mail state name
command_intent mail stamp state (commands.Subscribe name) = intent_to_subscribe mail state name
command_intent mail stamp state (commands.Unsubscribe name) = intent_to_unsubscribe mail state name
command_intent mail stamp state (commands.ListNames request) = if_logged_in state (Ok [])
command_intent mail stamp state commands.Namespace = if_logged_in state (Ok [])
command_intent mail stamp state (commands.Status name items) = intent_to_status mail state name
command_intent mail stamp state (commands.Append request) =
    intent_to_append mail stamp state request
command_intent mail stamp state commands.Idle = if_logged_in state (Ok [])
command_intent mail stamp state commands.Close = intent_to_close mail state
command_intent mail stamp state commands.Unselect = if_selected state (λ view read_only. Ok [])
command_intent mail stamp state commands.Expunge = intent_to_expunge mail state
command_intent mail stamp state (commands.UidExpunge uids) = intent_to_uid_expunge mail state uids
command_intent mail stamp state (commands.Search request) = intent_to_search state request.steps
command_intent mail stamp state (commands.Fetch request) = intent_to_fetch mail state request
command_intent mail stamp state (commands.Store request) = intent_to_store mail state request
command_intent mail stamp state (commands.Copy request) = intent_to_copy mail state request
command_intent mail stamp state (commands.Move request) = intent_to_move mail state request

-- The messages of the selected mailbox that a command names, given the replica before it.
abbrev pub messages_named_by_command : MailState → State → Command → NamedMessages
messages_named_by_command mail state (commands.UidExpunge uids) = messages_named_in state true uids
messages_named_by_command mail state (commands.Fetch request) =
    messages_named_in state request.by_uid request.messages
messages_named_by_command mail state (commands.Store request) =
    messages_stored_in mail state request
messages_named_by_command mail state (commands.Copy request) =
    messages_named_in state request.by_uid request.messages
messages_named_by_command mail state (commands.Move request) =
    messages_named_in state request.by_uid request.messages
messages_named_by_command mail state _ = no_messages_named

-- A command's own report, given the replica before it and after it; empty for SELECT, EXAMINE, LIST
-- and SEARCH, which `IsCommandReport` defines.
abbrev pub command_report : MailState → MailState → State → Bool → Command → CommandReport
command_report before after state modseq commands.Capability = capability_report
command_report before after state modseq commands.Namespace = namespace_report
command_report before after state modseq commands.Logout = logout_report
command_report before after state modseq commands.Idle = idle_report
command_report before after state modseq (commands.Enable names) = enable_report names
command_report before after state modseq (commands.Status name items) =
    report_of_status after name items
command_report before after state modseq (commands.Append request) =
    report_of_append before after request.name
command_report before after state modseq (commands.UidExpunge uids) =
    report_of_uid_expunge before state uids
command_report before after state modseq (commands.Fetch request) =
    report_of_fetch before after state modseq request
command_report before after state modseq (commands.Store request) =
    report_of_store before after state modseq request
command_report before after state modseq (commands.Copy request) =
    report_of_copy before after state request
command_report before after state modseq (commands.Move request) =
    report_of_move before after state request
command_report before after state modseq _ = empty_report

-- `report` is a command's own report; for SELECT, EXAMINE, LIST and SEARCH, the only report that
-- their rules allow.
abbrev pub IsCommandReport : MailState → MailState → State → Bool → List ℕ → Command
    → CommandReport → Type 0
IsCommandReport before after state modseq tag (commands.Select name condstore) report =
    IsReportOfSelect after state false name report
IsCommandReport before after state modseq tag (commands.Examine name condstore) report =
    IsReportOfSelect after state true name report
IsCommandReport before after state modseq tag (commands.ListNames request) report =
    IsReportOfList before request report
IsCommandReport before after state modseq tag (commands.Search request) report =
    IsReportOfSearch after state tag request report
IsCommandReport before after state modseq tag command report =
    report ≡ command_report before after state modseq command

-- ---- the session after a command

-- The state after a command, given the replica after it and before its answers are replayed.
abbrev pub state_after_command : MailState → State → Command → State
state_after_command mail state (commands.Login user password) = Authenticated
state_after_command mail state (commands.Select name condstore) = selected_state mail name false
state_after_command mail state (commands.Examine name condstore) = selected_state mail name true
state_after_command mail state commands.Logout = LoggedOut
state_after_command mail state commands.Unselect = Authenticated
state_after_command mail state commands.Close = Authenticated
state_after_command mail state _ = state

-- The view on which the answers to a command are replayed if it is carried out, given the replica
-- after it: an empty one of a newly selected mailbox; none after CLOSE, UNSELECT and LOGOUT (RFC
-- 9051, sections 6.1.3, 6.3.2, 6.4.1 and 6.4.2); else the view before.
abbrev pub replay_base_of_command : MailState → Option ViewState → Command → Option ViewState
replay_base_of_command mail view (commands.Select name condstore) = Some (new_view mail name)
replay_base_of_command mail view (commands.Examine name condstore) = Some (new_view mail name)
replay_base_of_command mail view commands.Logout = None
replay_base_of_command mail view commands.Unselect = None
replay_base_of_command mail view commands.Close = None
replay_base_of_command mail view _ = view
