-- Tests of a message's system flags (RFC 9051, section 2.3.2).

use Rattle.std.specs.Prelude.{Bool, not, if◌then◌else◌}
use Rattle.imap_types.specs.declared.flags.Flags.{Flags}
use Rattle.imap_syntax.specs.declared.flags.SystemFlag.{SystemFlag}
use Rattle.imap_syntax.specs.declared.flags.SystemFlag.TheVariants.{Answered, Flagged, Deleted}
use Rattle.imap_syntax.specs.declared.flags.SystemFlag.TheVariants.{Seen, Draft}
use Rattle.mailbox_rows.specs.ListedMessage.{ListedMessage}

-- Whether a system flag is set (RFC 9051, section 2.3.2).
abbrev pub has_flag : SystemFlag → Flags → Bool
has_flag Answered flags = flags.answered
has_flag Flagged flags = flags.flagged
has_flag Deleted flags = flags.deleted
has_flag Seen flags = flags.seen
has_flag Draft flags = flags.draft

-- Whether a truth value is the expected one.
abbrev pub agrees_with : Bool → Bool → Bool
agrees_with expected is = if expected then is else not is

-- Whether a message has a system flag, or lacks it, as `is_set` asks.
abbrev pub is_flagged : SystemFlag → Bool → ListedMessage → Bool
is_flagged flag is_set row = agrees_with is_set (has_flag flag row.flags)
