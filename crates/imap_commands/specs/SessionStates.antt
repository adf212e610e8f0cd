-- The states of a session in which commands are valid (RFC 9051, section 3).

use Rattle.std.specs.Prelude.{Bool, true, false, Result, Err, if◌then◌else◌}
use Rattle.imap_answers.specs.declared.fixed_words.Refusal.{Refusal}
use Rattle.imap_answers.specs.declared.fixed_words.Refusal.TheVariants.{NotNow}
use Rattle.imap_commands.specs.Report.{CommandReport, empty_report}
use Rattle.imap_commands.specs.declared.session.Credentials.{Credentials}
use Rattle.imap_commands.specs.declared.session.State.{State}
use Rattle.imap_commands.specs.declared.session.State.TheVariants.{Authenticated, LoggedOut}
use Rattle.imap_commands.specs.declared.session.State.TheVariants.{NotAuthenticated, Selected}
use Rattle.session_view.specs.ViewState.{ViewState}

-- A mailbox is selected.
abbrev pub is_selected : State → Bool
is_selected (Selected view read_only) = true
is_selected _ = false

-- The result in a session whose user must still log in; otherwise a refusal.
abbrev pub before_login : {X : Type 0} → State → (Credentials → Result X Refusal) → Result X Refusal
before_login (NotAuthenticated credentials) outcome = outcome credentials
before_login _ outcome = Err NotNow

-- The session's user is known and has not logged out.
abbrev pub is_logged_in : State → Bool
is_logged_in (NotAuthenticated credentials) = false
is_logged_in Authenticated = true
is_logged_in (Selected view read_only) = true
is_logged_in LoggedOut = false

-- The result in a session whose user is known; otherwise a refusal.
abbrev pub if_logged_in : {X : Type 0} → State → Result X Refusal → Result X Refusal
if_logged_in state outcome = if is_logged_in state then outcome else Err NotNow

-- The result in a session that has selected a mailbox; otherwise a refusal.
abbrev pub if_selected : {X : Type 0} → State → (ViewState → Bool → Result X Refusal)
    → Result X Refusal
if_selected (Selected view read_only) outcome = outcome view read_only
if_selected _ outcome = Err NotNow

-- A report on the selected mailbox; empty if no mailbox is selected.
abbrev pub report_if_selected : State → (ViewState → Bool → CommandReport) → CommandReport
report_if_selected (Selected view read_only) report_of = report_of view read_only
report_if_selected _ report_of = empty_report
