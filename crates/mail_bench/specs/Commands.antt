-- The texts of the commands that the program sends (RFC 9051, sections 6 and 9).

use Rattle.std.specs.Prelude.{ℕ, List, [], ◌∷◌, ◌++◌, codes}
use Rattle.std.specs.Fmt.{decimal}
use Rattle.mail_bench.specs.declared.commands.PlainCommand.{PlainCommand}
use Rattle.mail_bench.specs.declared.commands.PlainCommand.TheVariants as plain_commands
use Rattle.mail_bench.specs.declared.commands.Command.{Command}
use Rattle.mail_bench.specs.declared.commands.Command.TheVariants.{Append, Login, Mailbox, Message}
use Rattle.mail_bench.specs.declared.commands.Command.TheVariants.{Plain}
use Rattle.mail_bench.specs.declared.commands.MailboxCommand.{MailboxCommand}
use Rattle.mail_bench.specs.declared.commands.MailboxCommand.TheVariants as mailboxes
use Rattle.mail_bench.specs.declared.commands.MessageCommand.{MessageCommand}
use Rattle.mail_bench.specs.declared.commands.MessageCommand.TheVariants as messages
-- A text as a quoted string, and an octet of it (RFC 9051, section 9, `quoted`).
pub use Rattle.imap_answers.specs.Strings.{escaped_octet as escaped, quoted_string as quoted}

-- A command with no argument of its own.
abbrev pub plain_text : PlainCommand → List ℕ
plain_text plain_commands.Noop = codes "NOOP"
plain_text plain_commands.FetchAllFlags = codes "FETCH 1:* (FLAGS)"
plain_text plain_commands.SearchUnseen = codes "SEARCH UNSEEN"
plain_text plain_commands.SearchSubject = codes "SEARCH SUBJECT \"x\""
plain_text plain_commands.Idle = codes "IDLE"
plain_text plain_commands.Logout = codes "LOGOUT"

-- A command on a message: the texts before its number and after it.
abbrev pub verb_text : MessageCommand → List ℕ
verb_text messages.FetchBody = codes "FETCH "
verb_text messages.Flag = codes "STORE "
verb_text messages.Unflag = codes "STORE "

abbrev pub asked_text : MessageCommand → List ℕ
asked_text messages.FetchBody = codes " (BODY.PEEK[])"
asked_text messages.Flag = codes " +FLAGS (\\Flagged)"
asked_text messages.Unflag = codes " -FLAGS (\\Flagged)"

abbrev pub counted_text : MessageCommand → ℕ → List ℕ
counted_text ask number = verb_text ask ++ (decimal number ++ asked_text ask)

-- A command on a mailbox: the text before its name.
abbrev pub mailbox_verb_text : MailboxCommand → List ℕ
mailbox_verb_text mailboxes.Select = codes "SELECT "
mailbox_verb_text mailboxes.Create = codes "CREATE "

abbrev pub named_text : MailboxCommand → List ℕ → List ℕ
named_text ask name = mailbox_verb_text ask ++ quoted name

abbrev pub login_text : List ℕ → List ℕ → List ℕ
login_text user pass = codes "LOGIN " ++ (quoted user ++ 32 ∷ quoted pass)

-- The announcement of a synchronizing literal (RFC 9051, section 4.3).
abbrev pub announced_text : ℕ → List ℕ
announced_text octets = codes " {" ++ (decimal octets ++ 125 ∷ [])

abbrev pub append_text : List ℕ → ℕ → List ℕ
append_text name octets = codes "APPEND " ++ (quoted name ++ announced_text octets)

abbrev pub command_text : Command → List ℕ
command_text (Plain ask) = plain_text ask
command_text (Message ask number) = counted_text ask number
command_text (Mailbox ask name) = named_text ask name.now
command_text (Login user pass) = login_text user.now pass.now
command_text (Append name octets) = append_text name.now octets

-- A command's tag, with the space after it, and its line.
abbrev pub tag_text : ℕ → List ℕ
tag_text number = 98 ∷ (decimal number ++ 32 ∷ [])

abbrev pub line_text : Command → ℕ → List ℕ
line_text command number = tag_text number ++ (command_text command ++ codes "\r\n")
