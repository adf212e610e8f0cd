-- A command's report, and the view's messages in a listing.

use Rattle.std.specs.Prelude.{ℕ, ◌-◌, ◌==◌, Bool, true, false, List, [], Option, Some, None}
use Rattle.std.specs.Prelude.{if◌then◌else◌}
use Rattle.std.specs.List.{slice_get, list_any}
use Rattle.imap_answers.specs.declared.answer.Answer.{Answer}
use Rattle.imap_answers.specs.declared.codes.Code.{Code}
use Rattle.imap_answers.specs.declared.codes.Code.TheVariants.{ExpungeIssued}
use Rattle.mailbox_rows.specs.ListedMessage.{ListedMessage}
use Rattle.mailbox_rows.specs.RowViews.{row_of}
use Rattle.session_view.specs.declared.view_entry.ViewEntry.{ViewEntry}
use Rattle.session_view.specs.declared.reply_replay.SilentFlags.{SilentFlags}

-- A command's report: its own answers, the flags that the session set silently (RFC 9051, section
-- 6.4.6), and the code of its tagged line (RFC 9051, section 7.1).
pub record CommandReport : Type 0 where
  pub own : List Answer
  pub silent : List SilentFlags
  pub code : Option Code

-- A report without answers, silent flags and code.
abbrev pub empty_report : CommandReport
empty_report = record { own = []; silent = []; code = None }

-- A report of only these answers.
abbrev pub report_of_answers : List Answer → CommandReport
report_of_answers answers = record { own = answers; silent = []; code = None }

-- The view's message with this number, from 1: none has the number 0.
abbrev pub entry_at : List ViewEntry → ℕ → Option ViewEntry
entry_at view n = if n == 0 then None else slice_get view (n - 1)

-- The listing's row for a message of the view.
abbrev pub row_for : List ListedMessage → Option ViewEntry → Option ListedMessage
row_for rows None = None
row_for rows (Some e) = row_of e.uid rows

-- The listing's row for the view's message with this number.
abbrev pub message_at : List ListedMessage → List ViewEntry → ℕ → Option ListedMessage
message_at rows view n = row_for rows (entry_at view n)

-- Whether a message is gone: the listing lacks it.
abbrev pub is_gone : Option ListedMessage → Bool
is_gone None = true
is_gone (Some row) = false

-- Whether some of the messages with these numbers are gone.
abbrev pub are_some_gone : List ListedMessage → List ViewEntry → List ℕ → Bool
are_some_gone rows view numbers = list_any (λ n. is_gone (message_at rows view n)) numbers

-- The code EXPUNGEISSUED, if some of the messages with these numbers are gone (RFC 9051,
-- section 7.1).
abbrev pub gone_code : List ListedMessage → List ViewEntry → List ℕ → Option Code
gone_code rows view numbers = if are_some_gone rows view numbers then Some ExpungeIssued else None
