use Rattle.std.proofs.Common.{◌≡◌, ℕ, Bool, true, false, List, [], refl, sym}
use Rattle.std.specs.Prelude.{Result, Ok, Err, if◌then◌else◌}
use Rattle.std.specs.List.{list_all}
use Rattle.std.proofs.lemmas.Bool.{false≢true}
use Rattle.crdt_ops.specs.declared.kind.Kind.{Kind}
use Rattle.imap_answers.specs.declared.fixed_words.Refusal.{Refusal}
use Rattle.imap_answers.specs.declared.fixed_words.Refusal.TheVariants.{LoginFailed, NoSuchMailbox, NoSuchMessage, NotNow}
use Rattle.imap_commands.specs.Commands.{IsCommandReport, command_intent, is_brief, is_idle, may_issue, state_after_command}
use Rattle.imap_commands.specs.Login.{are_credentials, login_intent}
use Rattle.imap_commands.specs.MailStates.{MailState}
use Rattle.imap_commands.specs.Report.{CommandReport}
use Rattle.imap_commands.specs.SearchCommand.{search_intent, step_is_in_range}
use Rattle.imap_commands.specs.SessionStates.{before_login, if_logged_in, if_selected}
use Rattle.imap_commands.specs.declared.session.State.{State}
use Rattle.imap_commands.specs.declared.session.State.TheVariants.{Authenticated, LoggedOut, NotAuthenticated, Selected}
use Rattle.imap_syntax.specs.declared.command.Command.{Command}
use Rattle.imap_syntax.specs.declared.command.Command.TheVariants as commands
use Rattle.session_view.specs.ViewState.{ViewState}

-- ---- commands that may not issue operations

-- an intent that issues nothing, or refuses the command
abbrev IssuesNone : Result (List Kind) Refusal → Type 0
IssuesNone intent = (kinds : List Kind) → intent ≡ Ok kinds → kinds ≡ []

no_kinds : IssuesNone (Ok [])
no_kinds kinds e = cc

refused : (why : Refusal) → IssuesNone (Err why)
refused why kinds e = cc

no_kinds_if : (test : Bool) (why : Refusal) → IssuesNone (if test then Ok [] else Err why)
no_kinds_if true why = no_kinds
no_kinds_if false why = refused why

no_kinds_logged_in : (state : State) (intent : Result (List Kind) Refusal) → IssuesNone intent → IssuesNone (if_logged_in state intent)
no_kinds_logged_in (NotAuthenticated credentials) intent h = refused NotNow
no_kinds_logged_in Authenticated intent h = h
no_kinds_logged_in (Selected view read_only) intent h = h
no_kinds_logged_in LoggedOut intent h = refused NotNow

no_kinds_selected : (state : State) (intent : ViewState → Bool → Result (List Kind) Refusal) → ((view : ViewState) (read_only : Bool) → IssuesNone (intent view read_only)) → IssuesNone (if_selected state intent)
no_kinds_selected (NotAuthenticated credentials) intent h = refused NotNow
no_kinds_selected Authenticated intent h = refused NotNow
no_kinds_selected (Selected view read_only) intent h = h view read_only
no_kinds_selected LoggedOut intent h = refused NotNow

no_kinds_before_login : (state : State) (user password : List ℕ) → IssuesNone (before_login state (λ credentials. login_intent credentials user password))
no_kinds_before_login (NotAuthenticated credentials) user password = no_kinds_if (are_credentials credentials user password) LoginFailed
no_kinds_before_login Authenticated user password = refused NotNow
no_kinds_before_login (Selected view read_only) user password = refused NotNow
no_kinds_before_login LoggedOut user password = refused NotNow

-- a command that may not issue operations issues none
pub issues_none : (mail : MailState) (stamp : List ℕ) (state : State) (command : Command) → may_issue command ≡ false → IssuesNone (command_intent mail stamp state command)
issues_none mail stamp state commands.Capability m = no_kinds
issues_none mail stamp state commands.Noop m = no_kinds
issues_none mail stamp state commands.Logout m = no_kinds
issues_none mail stamp state (commands.Login user password) m = no_kinds_before_login state user password
issues_none mail stamp state (commands.Enable names) m = no_kinds_logged_in state (Ok []) no_kinds
issues_none mail stamp state (commands.Select name condstore) m = no_kinds_logged_in state (if mail.exists name then Ok [] else Err NoSuchMailbox) (no_kinds_if (mail.exists name) NoSuchMailbox)
issues_none mail stamp state (commands.Examine name condstore) m = no_kinds_logged_in state (if mail.exists name then Ok [] else Err NoSuchMailbox) (no_kinds_if (mail.exists name) NoSuchMailbox)
issues_none mail stamp state (commands.ListNames request) m = no_kinds_logged_in state (Ok []) no_kinds
issues_none mail stamp state commands.Namespace m = no_kinds_logged_in state (Ok []) no_kinds
issues_none mail stamp state (commands.Status name items) m = no_kinds_logged_in state (if mail.exists name then Ok [] else Err NoSuchMailbox) (no_kinds_if (mail.exists name) NoSuchMailbox)
issues_none mail stamp state commands.Idle m = no_kinds_logged_in state (Ok []) no_kinds
issues_none mail stamp state commands.Unselect m = no_kinds_selected state (λ view read_only. Ok []) (λ view read_only. no_kinds)
issues_none mail stamp state (commands.Search request) m =
    no_kinds_selected state (λ view read_only. search_intent view.entries request.steps) (λ view read_only. no_kinds_if (list_all (step_is_in_range view.entries) request.steps) NoSuchMessage)
issues_none mail stamp state _ m = absurd (false≢true (sym m))

-- ---- brief commands

pub brief_issues_none : (command : Command) → is_brief command ≡ true → may_issue command ≡ false
brief_issues_none commands.Capability b = refl
brief_issues_none commands.Noop b = refl
brief_issues_none commands.Namespace b = refl
brief_issues_none (commands.Enable names) b = refl
brief_issues_none _ b = absurd (false≢true b)

pub brief_wakes : (command : Command) → is_brief command ≡ true → is_idle command ≡ false
brief_wakes commands.Capability b = refl
brief_wakes commands.Noop b = refl
brief_wakes commands.Namespace b = refl
brief_wakes (commands.Enable names) b = refl
brief_wakes _ b = absurd (false≢true b)

pub brief_stays : (mail : MailState) (state : State) (command : Command) → is_brief command ≡ true → state_after_command mail state command ≡ state
brief_stays mail state commands.Capability b = refl
brief_stays mail state commands.Noop b = refl
brief_stays mail state commands.Namespace b = refl
brief_stays mail state (commands.Enable names) b = refl
brief_stays mail state _ b = absurd (false≢true b)

-- the intent of a brief command is the same for all replicas
pub brief_intent : (mail other : MailState) (stamp : List ℕ) (state : State) (command : Command) → is_brief command ≡ true → command_intent mail stamp state command ≡ command_intent other stamp state command
brief_intent mail other stamp state commands.Capability b = refl
brief_intent mail other stamp state commands.Noop b = refl
brief_intent mail other stamp state commands.Namespace b = refl
brief_intent mail other stamp state (commands.Enable names) b = refl
brief_intent mail other stamp state _ b = absurd (false≢true b)

-- and so is its report
pub brief_report : (before after other later : MailState) (state : State) (modseq : Bool) (tag : List ℕ) (command : Command) (report : CommandReport) → is_brief command ≡ true
    → IsCommandReport before after state modseq tag command report → IsCommandReport other later state modseq tag command report
brief_report before after other later state modseq tag commands.Capability report b r = r
brief_report before after other later state modseq tag commands.Noop report b r = r
brief_report before after other later state modseq tag commands.Namespace report b r = r
brief_report before after other later state modseq tag (commands.Enable names) report b r = r
brief_report before after other later state modseq tag _ report b r = absurd (false≢true b)
