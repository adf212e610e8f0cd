-- Single tests of SEARCH (RFC 9051, section 6.4.4; RFC 7162, section 3.1.5).

use Rattle.std.specs.Prelude.{ℕ, ◌+◌, ◌*◌, Bool, true, nat_le, nat_lt, ◌==◌, List, length, codes}
use Rattle.imap_types.specs.Keywords.{has_keyword}
pub use Rattle.imap_types.specs.Sets.{bound_of, is_between, range_names, set_names}
use Rattle.imap_types.specs.declared.day.Day.{Day}
use Rattle.imap_syntax.specs.declared.search.DateRelation.{DateRelation}
use Rattle.imap_syntax.specs.declared.search.DateRelation.TheVariants.{Before, On, Since}
use Rattle.imap_syntax.specs.declared.search.SearchTest.{SearchTest}
use Rattle.imap_syntax.specs.declared.search.SearchTest.TheVariants as tests
use Rattle.imap_syntax.specs.declared.search.TextPlace.{TextPlace}
use Rattle.imap_syntax.specs.declared.search.TextPlace.TheVariants as places
use Rattle.mailbox_rows.specs.ListedMessage.{ListedMessage}
use Rattle.mail_text.specs.Civil.{written_day}
use Rattle.mail_text.specs.HeaderAndBody.{body_of}
use Rattle.mail_text.specs.TextSearch.{any_field_holds, occurs_in}
use Rattle.imap_query.specs.Messages.{has_flag, agrees_with}
use Rattle.imap_query.specs.declared.viewed_message.ViewedMessage.{ViewedMessage}

-- Whether a text contains a word in a place: a header field, the body or the whole text (RFC 9051,
-- section 6.4.4).
abbrev pub holds_in : TextPlace → List ℕ → List ℕ → Bool
holds_in places.Bcc word text = any_field_holds (codes "Bcc") word text
holds_in places.Cc word text = any_field_holds (codes "Cc") word text
holds_in places.From word text = any_field_holds (codes "From") word text
holds_in places.Subject word text = any_field_holds (codes "Subject") word text
holds_in places.To word text = any_field_holds (codes "To") word text
holds_in places.Body word text = occurs_in word (body_of text)
holds_in places.Text word text = occurs_in word text

-- A day's number, which rises with the calendar.
abbrev pub rank : Day → ℕ
rank day = (day.year * 100 + day.month) * 100 + day.day

-- Whether a date-time's day, as written, is before, on or since a day.
abbrev pub is_date_related : DateRelation → Day → List ℕ → Bool
is_date_related Before day date = nat_lt (rank (written_day date)) (rank day)
is_date_related On day date = rank (written_day date) == rank day
is_date_related Since day date = nat_le (rank day) (rank (written_day date))

-- Whether a test holds for a message that a view shows; `last` is the last message of the view
-- (RFC 9051, section 6.4.4; RFC 7162, section 3.1.5).
abbrev pub test_holds : ViewedMessage → ViewedMessage → ListedMessage → SearchTest → Bool
test_holds last shown row tests.All = true
test_holds last shown row (tests.System flag is_set) = agrees_with is_set (has_flag flag row.flags)
test_holds last shown row (tests.Keyword keyword is_set) =
    agrees_with is_set (has_keyword keyword row.flags.keywords)
test_holds last shown row (tests.Holds place word) = holds_in place word row.text
test_holds last shown row (tests.Header name word) = any_field_holds name word row.text
test_holds last shown row (tests.Dated order day) = is_date_related order day row.date
test_holds last shown row (tests.Larger octets) = nat_lt octets (length row.text)
test_holds last shown row (tests.Smaller octets) = nat_lt (length row.text) octets
test_holds last shown row (tests.ModSeq value) = nat_le value row.modseq
test_holds last shown row (tests.Uids uids) = set_names last.uid uids row.uid
test_holds last shown row (tests.Numbers numbers) = set_names last.number numbers shown.number
