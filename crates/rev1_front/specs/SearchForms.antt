-- The messages that the keys of SEARCH about the day on which a message was sent find (RFC 3501,
-- section 6.4.4).

use Rattle.std.specs.Prelude.{ℕ, Bool, not, ◌&&◌, ◌||◌, ◌==◌, nat_lt, List, map}
use Rattle.std.specs.List.{filter}
use Rattle.imap_types.specs.declared.day.Day.{Day}
use Rattle.imap_syntax.specs.declared.search.DateRelation.{DateRelation}
use Rattle.imap_syntax.specs.declared.search.DateRelation.TheVariants as order
use Rattle.rev1_front.specs.declared.search_days.SentDay.{SentDay}

-- Whether a day is before another, in calendar order.
abbrev pub is_before : Day → Day → Bool
is_before sent day =
    nat_lt sent.year day.year
    || ((sent.year == day.year)
    && (nat_lt sent.month day.month
    || ((sent.month == day.month) && nat_lt sent.day day.day)))

-- Whether a message was sent on a day with this relation to another.
abbrev pub is_related : DateRelation → Day → Day → Bool
is_related order.Before sent day = is_before sent day
is_related order.On sent day =
    (sent.year == day.year) && ((sent.month == day.month) && (sent.day == day.day))
is_related order.Since sent day = not (is_before sent day)

-- The UIDs of the messages sent so.
abbrev pub sent_uids : DateRelation → Day → List SentDay → List ℕ
sent_uids relation day days =
    map (λ sent. sent.uid) (filter (λ sent. is_related relation sent.day day) days)
